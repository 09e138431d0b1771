-- Packets of parts that are sent on.
use Rattle.std.proofs.Common.{◌≡◌, ℕ, ◌+◌, ◌-◌, ◌<◌, ◌≤◌, refl, sym, ◌∙◌, ap, ap₂, arith}
use Rattle.std.proofs.Common.{Bool, true, false, List, [], ◌∷◌, ◌++◌, append_assoc, true≢false}
use Rattle.std.proofs.lemmas.Bool.Decides.{nat_tests}
use Rattle.std.specs.Prelude.{Option, Some, None, nat_le, nat_lt, ◌&&◌, ◌==◌, if◌then◌else◌}
use Rattle.std.specs.Prelude.{slice_index_or}
use Rattle.rtp_wire.specs.declared.values.ExtensionValues.{ExtensionValues}
use Rattle.rtp_media_schedules.specs.Hearing.{Content}
use Rattle.rtp_media_schedules.specs.Samples.{datagrams}
use Rattle.rtp_media_schedules.specs.Sending.{no_content, numbered}
use Rattle.rtp_media_forward.specs.Forwarding.{Forwarding, after_packet, end_before, is_in}
use Rattle.rtp_media_forward.specs.Forwarding.{number_in}
use Rattle.rtp_media_forward.specs.Forwarding.{newer_or, placed_by, placed_in, shifted}
use Rattle.rtp_media_forward.specs.Relayed.{AreFrom, IsOf, IsWithin, Part, content_at, count_in, count_of, piece_at}
use Rattle.rtp_media_forward.specs.Relayed.{pieces_from, relayed, relayed_content}
use Rattle.rtp_media_forward.specs.Relaying.{AreAsIn, AreBetween, AreWithin, IsAsIn, Packet, Sent, after_all}
use Rattle.rtp_media_forward.specs.Relaying.{content_with, datagrams_at}
use Rattle.rtp_media_forward.specs.Relaying.{number_of, numbers_of, place_of, sent_by, sent_on}
use Rattle.rtp_media_forward.specs.declared.forwarder.Piece.{Piece}
use Rattle.rtp_media_forward.specs.declared.forwarder.Placed.{Placed}
use Rattle.rtp_media_forward.proofs.Relayed.{place-of}

-- what a test says
pub record IsIn (p : Piece) (end source number : ℕ) : Type 0 where
  pub is_source : p.source ≡ source
  pub from : p.first ≤ number
  pub below : number_in p number < end

pub in-says : (p : Piece) (end source number : ℕ) → is_in p end source number ≡ true → IsIn p end source number
in-says p end source number e = go (p.source == source) (nat_le p.first number)
    (nat_lt (number_in p number) end) refl refl refl e where
      go : (a b c : Bool) → (p.source == source) ≡ a → nat_le p.first number ≡ b
          → nat_lt (number_in p number) end ≡ c → (a && (b && c)) ≡ true → IsIn p end source number
      go true true true x y z e = record {
        is_source = grind (arith, nat_tests);
        from = grind (arith, nat_tests);
        below = grind (arith, nat_tests);
      }
      go true true false x y z e = absurd (true≢false (sym e))
      go true false c x y z e = absurd (true≢false (sym e))
      go false b c x y z e = absurd (true≢false (sym e))

-- the part that has a packet, among parts that are numbered from here on
pub record IsFound (senders : ℕ → ℕ → Content) (out : ℕ) (parts : List Part) (source number time : ℕ) (q : Placed)
    : Type 0 where
  front : List Part
  part : Part
  rest : List Part
  split : parts ≡ front ++ part ∷ rest
  of : IsOf part number
  is_source : part.source ≡ source
  number_is : q.number ≡ out + count_of front + (number - part.first)
  time_is : q.time ≡ shifted part.shift time
  content : content_at part number ≡ senders source number

pub within-rest : (p : Part) (ps : List Part) (s x : ℕ) → IsWithin (p ∷ ps) s x → IsWithin ps s x
within-rest p [] s x is = tt
within-rest p (q ∷ ps) s x is = is

-- a packet that is in the first part's piece is one of its numbers
pub of-first : (out : ℕ) (p : Part) (ps : List Part) (s x : ℕ) → IsWithin (p ∷ ps) s x
    → IsIn (piece_at out p) (end_before (pieces_from (out + count_in p) ps)) s x → IsOf p x
of-first out p [] s x within is = (is.from, within is.is_source is.from)
of-first out p (q ∷ ps) s x within is = (is.from, omega (arith, is.from, is.below))

pub some-is : (a q : Placed) → Some a ≡ Some q → a ≡ q
some-is a q h = cc

-- a newer piece has it, or the first one
found-by : (senders : ℕ → ℕ → Content) (p : Part) (ps : List Part) (out s x time : ℕ) (q : Placed) (o : Option Placed)
    → IsAsIn senders (p ∷ ps) s x → IsWithin (p ∷ ps) s x
    → ((r : Placed) → o ≡ Some r → IsFound senders (out + count_in p) ps s x time r)
    → newer_or o (placed_by (piece_at out p) (end_before (pieces_from (out + count_in p) ps)) s x time) ≡ Some q
    → IsFound senders out (p ∷ ps) s x time q
found-by senders p ps out s x time q (Some r) from within newer h =
    let ih : IsFound senders (out + count_in p) ps s x time q = newer q h in
    record {
      front = p ∷ ih.front;
      part = ih.part;
      rest = ih.rest;
      split = ap (λ (rs : List Part). p ∷ rs) ih.split;
      of = ih.of;
      is_source = ih.is_source;
      number_is = omega (arith, ih.number_is);
      time_is = ih.time_is;
      content = ih.content;
    }
found-by senders p ps out s x time q None from within newer h =
    by (is_in (piece_at out p) (end_before (pieces_from (out + count_in p) ps)) s x) refl h where
      by : (b : Bool) → is_in (piece_at out p) (end_before (pieces_from (out + count_in p) ps)) s x ≡ b
          → (if b then Some (record { number = out + (x - p.first); time = shifted p.shift time }) else None) ≡ Some q
          → IsFound senders out (p ∷ ps) s x time q
      by true is h =
          let in' : IsIn (piece_at out p) (end_before (pieces_from (out + count_in p) ps)) s x =
          in-says (piece_at out p) (end_before (pieces_from (out + count_in p) ps)) s x is in
          let of : IsOf p x = of-first out p ps s x within in' in
          let at : Placed = record { number = out + (x - p.first); time = shifted p.shift time } in
          let same : at ≡ q = some-is at q h in
          record {
            front = [];
            part = p;
            rest = ps;
            split = refl;
            of = of;
            is_source = in'.is_source;
            number_is = omega (arith, ap (λ (a : Placed). a.number) same);
            time_is = sym (ap (λ (a : Placed). a.time) same);
            content = from.0 in'.is_source of;
          }
      by false is h = absurd cc

pub found : (senders : ℕ → ℕ → Content) (parts : List Part) (out s x time : ℕ) (q : Placed) → IsAsIn senders parts s x
    → IsWithin parts s x → placed_in (pieces_from out parts) s x time ≡ Some q
    → IsFound senders out parts s x time q
found senders [] out s x time q from within e = cc
found senders (p ∷ ps) out s x time q from within e =
    found-by senders p ps out s x time q (placed_in (pieces_from (out + count_in p) ps) s x time) from within
    (λ r h. found senders ps (out + count_in p) s x time r from.1 (within-rest p ps s x within) h) e

-- if sources bring everywhere what the parts have, they do so at each datagram
pub as-in : (senders : ℕ → ℕ → Content) (parts : List Part) → AreFrom senders parts → (s x : ℕ)
    → IsAsIn senders parts s x
as-in senders [] from s x = tt
as-in senders (p ∷ ps) from s x =
    ((λ same of. from.0 x of ∙ ap (λ (k : ℕ). senders k x) same), as-in senders ps from.1 s x)

pub all-as-in : (senders : ℕ → ℕ → Content) (parts : List Part) (came : List Packet) → AreFrom senders parts
    → AreAsIn senders parts came
all-as-in senders parts [] from = tt
all-as-in senders parts (p ∷ ps) from = (as-in senders parts from p.source p.number, all-as-in senders parts ps from)

pub count-append : (ps qs : List Part) → count_of (ps ++ qs) ≡ count_of ps + count_of qs
count-append [] qs = omega arith
count-append (p ∷ ps) qs = omega (arith, count-append ps qs)

-- its number is between the first and the end
pub found-between : (senders : ℕ → ℕ → Content) (parts : List Part) (out s x time : ℕ) (q : Placed)
    → IsFound senders out parts s x time q → (out ≤ q.number) × (q.number < out + count_of parts)
found-between senders parts out s x time q is =
    let count : count_of parts ≡ count_of is.front + (count_in is.part + count_of is.rest) =
    ap count_of is.split ∙ count-append is.front (is.part ∷ is.rest) in (
      omega (arith, is.number_is),
      omega (arith, is.number_is, count, is.of.0, is.of.1),
    )

-- and it brings there what the source's datagram brings
pub found-brings : (values : ExtensionValues → ExtensionValues) (senders : ℕ → ℕ → Content) (first : ℕ)
    (before parts later : List Part) (s x time : ℕ) (q : Placed)
    → IsFound senders (first + count_of before) parts s x time q → time ≡ (senders s x).time
    → numbered first (datagrams (relayed values (before ++ parts ++ later))) q.number
    ≡ content_with values q.time (senders s x)
found-brings values senders first before parts later s x time q is timed =
    let all : before ++ parts ++ later ≡ (before ++ is.front) ++ (is.part ∷ (is.rest ++ later)) =
    append_assoc before parts later
    ∙ ap (λ (ps : List Part). before ++ (ps ++ later)) is.split
    ∙ ap (λ (ps : List Part). before ++ ps) (append_assoc is.front (is.part ∷ is.rest) later)
    ∙ sym (append_assoc before is.front (is.part ∷ (is.rest ++ later))) in
    let i : ℕ = x - is.part.first in
    let number : q.number - first ≡ count_of (before ++ is.front) + i =
    omega (arith, is.number_is, count-append before is.front) in
    let same : relayed_content values is.part.shift (senders s x) ≡ content_with values q.time (senders s x) =
    ap (λ (t : ℕ). content_with values t (senders s x))
    (ap (λ (t : ℕ). shifted is.part.shift t) (sym timed) ∙ sym is.time_is) in
    ap₂ (λ (ps : List Part) (k : ℕ). slice_index_or (datagrams (relayed values ps)) k no_content) all number
    ∙ place-of values (before ++ is.front) (is.rest ++ later) is.part i (omega (arith, is.of.0, is.of.1))
    ∙ ap (relayed_content values is.part.shift) is.content ∙ same

-- no packet changes the pieces
pub after-pieces : (f : Forwarding) (o : Option Placed) (ends : Bool) → (after_packet f o ends).pieces ≡ f.pieces
after-pieces f None ends = refl
after-pieces f (Some at) ends = refl

pub stays : (senders : ℕ → ℕ → Content) (came : List Packet) (f : Forwarding)
    → (after_all senders f came).pieces ≡ f.pieces
stays senders [] f = refl
stays senders (p ∷ ps) f = stays senders ps (after_packet f (place_of senders f p) p.ends)
    ∙ after-pieces f (place_of senders f p) p.ends

-- what is placed is found
pub placed-found : (senders : ℕ → ℕ → Content) (out : ℕ) (parts : List Part) (f : Forwarding) (p : Packet) (q : Placed)
    → f.pieces ≡ pieces_from out parts → IsAsIn senders parts p.source p.number → IsWithin parts p.source p.number
    → place_of senders f p ≡ Some q
    → IsFound senders out parts p.source p.number (senders p.source p.number).time q
placed-found senders out parts f p q is from within e =
    found senders parts out p.source p.number (senders p.source p.number).time q from within
    (ap (λ (ps : List Piece). placed_in ps p.source p.number (senders p.source p.number).time) (sym is) ∙ e)

-- one datagram more that is sent on
pub sends-step : (values : ExtensionValues → ExtensionValues) (c : Content) (sender : ℕ → Content) (o : Option Placed)
    (rest : List Sent) (ns : List ℕ)
    → ((q : Placed) → o ≡ Some q → sender q.number ≡ content_with values q.time c)
    → rest ≡ datagrams_at sender ns → sent_by values o c ++ rest ≡ datagrams_at sender (number_of o ++ ns)
sends-step values c sender None rest ns brings ih = ih
sends-step values c sender (Some q) rest ns brings ih =
    ap₂ (λ (d : Content) (rs : List Sent). record { number = q.number; content = d } ∷ rs) (sym (brings q refl)) ih

pub sends : (values : ExtensionValues → ExtensionValues) (senders : ℕ → ℕ → Content) (first : ℕ)
    (before parts later : List Part) (came : List Packet) (f : Forwarding)
    → f.pieces ≡ pieces_from (first + count_of before) parts → AreAsIn senders parts came → AreWithin parts came
    → sent_on values senders f came
    ≡ datagrams_at (numbered first (datagrams (relayed values (before ++ parts ++ later))))
    (numbers_of senders f came)
sends values senders first before parts later [] f is from within = refl
sends values senders first before parts later (p ∷ ps) f is from within =
    sends-step values (senders p.source p.number)
    (numbered first (datagrams (relayed values (before ++ parts ++ later)))) (place_of senders f p)
    (sent_on values senders (after_packet f (place_of senders f p) p.ends) ps)
    (numbers_of senders (after_packet f (place_of senders f p) p.ends) ps)
    (λ q e. found-brings values senders first before parts later p.source p.number
    (senders p.source p.number).time q
    (placed-found senders (first + count_of before) parts f p q is from.0 within.0 e) refl)
    (sends values senders first before parts later ps (after_packet f (place_of senders f p) p.ends)
    (after-pieces f (place_of senders f p) p.ends ∙ is) from.1 within.1)

pub between-step : (from end : ℕ) (o : Option Placed) (rest : List ℕ)
    → ((q : Placed) → o ≡ Some q → (from ≤ q.number) × (q.number < end)) → AreBetween from end rest
    → AreBetween from end (number_of o ++ rest)
between-step from end None rest ends ih = ih
between-step from end (Some q) rest ends ih = ((ends q refl).0, (ends q refl).1, ih)

pub between : (senders : ℕ → ℕ → Content) (out : ℕ) (parts : List Part) (came : List Packet) (f : Forwarding)
    → f.pieces ≡ pieces_from out parts → AreAsIn senders parts came → AreWithin parts came
    → AreBetween out (out + count_of parts) (numbers_of senders f came)
between senders out parts [] f is from within = tt
between senders out parts (p ∷ ps) f is from within =
    between-step out (out + count_of parts) (place_of senders f p)
    (numbers_of senders (after_packet f (place_of senders f p) p.ends) ps)
    (λ q e. found-between senders parts out p.source p.number (senders p.source p.number).time q
    (placed-found senders out parts f p q is from.0 within.0 e))
    (between senders out parts ps (after_packet f (place_of senders f p) p.ends)
    (after-pieces f (place_of senders f p) p.ends ∙ is) from.1 within.1)
