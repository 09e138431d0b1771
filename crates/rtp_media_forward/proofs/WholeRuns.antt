-- Whole runs of a forwarder.
use Rattle.std.proofs.Common.{◌^◌, ◌≡◌, ℕ, ◌+◌, ◌<◌, ◌≤◌, refl, sym, ◌∙◌, ap, subst, arith, inl, inr, Bool}
use Rattle.std.proofs.Common.{true, false, List, [], ◌∷◌, ◌++◌, append_assoc}
use Rattle.std.specs.Prelude.{nat_le, ◌&&◌, if◌then◌else◌, Option, Some, None}
use Rattle.rtp_wire.specs.declared.values.ExtensionValues.{ExtensionValues}
use Rattle.rtp_media_schedules.specs.Hearing.{Content}
use Rattle.rtp_media_schedules.specs.Samples.{datagrams}
use Rattle.rtp_media_schedules.specs.Sending.{numbered}
use Rattle.rtp_media_forward.specs.Forwarding.{Forwarding, end_of_numbers, ended_by, is_in, is_next_in, kept, number_in}
use Rattle.rtp_media_forward.specs.Forwarding.{passed_by, pieces_with, reserved_by, shift_to, skipped_by, start_of}
use Rattle.rtp_media_forward.specs.Forwarding.{with_piece}
use Rattle.rtp_media_forward.specs.Relayed.{AreFrom, IsWithin, Part, count_in, count_of, pieces_from, relayed}
use Rattle.rtp_media_forward.specs.Relaying.{AreBetween, IsAsIn, Packet, Sent, content_with, datagrams_at, place_of}
use Rattle.rtp_media_forward.specs.Steps.{AreAsInRun, Begins, BeginsAt, Come, Empty, EndAt, GoesOnFrom, IsAsInStep}
use Rattle.rtp_media_forward.specs.Steps.{begin_of, IsKeptBy, IsRun, IsSound, Reserve}
use Rattle.rtp_media_forward.specs.Steps.{SkipTo, Step, Switch, after_step, last_piece, numbers_at, numbers_in}
use Rattle.rtp_media_forward.specs.Steps.{sent_at, sent_in}
use Rattle.rtp_media_forward.specs.declared.forwarder.Piece.{Piece}
use Rattle.rtp_media_forward.specs.declared.forwarder.Placed.{Placed}
use Rattle.rtp_media_forward.proofs.Relaying.{IsFound, after-pieces, as-in, between-step, count-append, found-between}
use Rattle.rtp_media_forward.proofs.Relaying.{found-brings, placed-found, sends-step, within-rest}
use Rattle.rtp_media_forward.proofs.MorePieces.{keeps, more-pieces}

-- the forwarder knows the pieces of the last parts that began
pub record IsAt (first : ℕ) (begun : List Part) (f : Forwarding) : Type 0 where
  before : List Part
  parts : List Part
  split : begun ≡ before ++ parts
  pieces : f.pieces ≡ pieces_from (first + count_of before) parts

still-at : (first : ℕ) (begun : List Part) (f g : Forwarding) → IsAt first begun f → g.pieces ≡ f.pieces
    → IsAt first begun g
still-at first begun f g at same = record {
  before = at.before;
  parts = at.parts;
  split = at.split;
  pieces = same ∙ at.pieces;
}

by-kept : (first : ℕ) (begun before parts : List Part) (g : Forwarding) → begun ≡ before ++ parts
    → g.pieces ≡ kept (pieces_from (first + count_of before) parts) → IsAt first begun g
by-kept first begun before [] g split is = record { before = before; parts = []; split = split; pieces = is }
by-kept first begun before (p ∷ ps) g split is = elim (keeps (first + count_of before) p ps) [
  | inl same ↦ record { before = before; parts = p ∷ ps; split = split; pieces = is ∙ same }
  | inr less ↦
      let e : first + count_of before + count_in p ≡ first + count_of (before ++ p ∷ []) =
      omega (arith, count-append before (p ∷ [])) in
      record {
        before = before ++ p ∷ [];
        parts = ps;
        split = split ∙ sym (append_assoc before (p ∷ []) ps);
        pieces = is ∙ less ∙ ap (λ (n : ℕ). pieces_from n ps) e;
      }
]

-- one part more
more-at : (first source number shift out : ℕ) (begun : List Part) (q : Part) (f : Forwarding) → IsAt first begun f
    → out ≡ first + count_of begun → Begins q source number shift → (g : Forwarding)
    → g.pieces ≡ pieces_with f source number out shift → IsAt first (begun ++ q ∷ []) g
more-at first source number shift out begun q f at next is g pieces =
    let next_out : out ≡ first + count_of at.before + count_of at.parts =
    omega (arith, next, ap count_of at.split, count-append at.before at.parts) in
    by-kept first (begun ++ q ∷ []) at.before (at.parts ++ q ∷ []) g
    (ap (λ (ps : List Part). ps ++ q ∷ []) at.split ∙ append_assoc at.before at.parts (q ∷ []))
    (pieces ∙ more-pieces (first + count_of at.before) shift number source out at.parts q f at.pieces next_out
    is.first_is is.source_is is.shift_is)

more : (first source number shift : ℕ) (begun : List Part) (q : Part) (f : Forwarding) → IsAt first begun f
    → start_of f ≡ first + count_of begun → Begins q source number shift
    → IsAt first (begun ++ q ∷ []) (with_piece f source number shift)
more first source number shift begun q f at next is =
    more-at first source number shift (start_of f) begun q f at next is (with_piece f source number shift) refl

module _ (first : ℕ) (begun : List Part) (q : Part) (f : Forwarding) (at : IsAt first begun f)
    (next : start_of f ≡ first + count_of begun) where
  skip-at : (o : Option Piece) (number : ℕ) → GoesOnFrom o q number
      → IsAt first (begun ++ q ∷ []) (skipped_by f o number)
  skip-at None number is = absurd is
  skip-at (Some p) number is = more first p.source number p.shift begun q f at next is

  reserve-at : (o : Option Piece) (count : ℕ) → IsKeptBy o q → IsAt first (begun ++ q ∷ []) (reserved_by f o count)
  reserve-at None count is =
      still-at first (begun ++ q ∷ []) (with_piece f 0 end_of_numbers 0) (reserved_by f None count)
      (more first 0 end_of_numbers 0 begun q f at next is) refl
  reserve-at (Some p) count is =
      still-at first (begun ++ q ∷ []) (with_piece f p.source end_of_numbers p.shift) (reserved_by f (Some p) count)
      (more first p.source end_of_numbers p.shift begun q f at next is) refl

-- after a packet that carries nothing
empty-at : (first : ℕ) (begun : List Part) (q : Part) (f : Forwarding) → IsAt first begun f
    → f.next ≡ first + count_of begun → (o : Option Piece) (source number : ℕ) → is_next_in f o source number ≡ true
    → GoesOnFrom o q (number + 1) → IsAt first (begun ++ q ∷ []) (passed_by f o source number)
empty-at first begun q f at next None source number e is = absurd is
empty-at first begun q f at next (Some p) source number e is =
    subst (λ (b : Bool). IsAt first (begun ++ q ∷ [])
    (if b then record f { pieces = pieces_with f p.source (number + 1) f.next p.shift } else f)) (sym e)
    (more-at first p.source (number + 1) p.shift f.next begun q f at next is
    (record f { pieces = pieces_with f p.source (number + 1) f.next p.shift }) refl)

begin-at : (first : ℕ) (begun : List Part) (q : Part) (f : Forwarding) → IsAt first begun f
    → (senders : ℕ → ℕ → Content) (x : Step) → begin_of f x ≡ first + count_of begun → BeginsAt f x q
    → IsAt first (begun ++ q ∷ []) (after_step senders f x)
begin-at first begun q f at senders (Come p) next is = absurd is
begin-at first begun q f at senders (Switch source number time to) next is =
    more first source number (shift_to time to) begun q f at next is
begin-at first begun q f at senders (SkipTo number) next is = skip-at first begun q f at next (last_piece f) number is
begin-at first begun q f at senders (Empty source number) next is =
    empty-at first begun q f at next (last_piece f) source number is.0 is.1
begin-at first begun q f at senders (EndAt number) next is = absurd is
begin-at first begun q f at senders (Reserve count) next is =
    reserve-at first begun q f at next (last_piece f) count is.0

-- a step at which no part begins
ended-pieces : (f : Forwarding) (o : Option Piece) (number : ℕ) → (ended_by f o number).pieces ≡ f.pieces
ended-pieces f None number = refl
ended-pieces f (Some p) number = by (is_in p (2 ^ 62) p.source number && nat_le f.next (number_in p number)) where
  by : (b : Bool) → (if b then record f { next = number_in p number; whole = true } else f).pieces ≡ f.pieces
  by true = refl
  by false = refl

not-passed : (f : Forwarding) (o : Option Piece) (source number : ℕ) → is_next_in f o source number ≡ false
    → passed_by f o source number ≡ f
not-passed f None source number e = refl
not-passed f (Some p) source number e =
    ap (λ (b : Bool). if b then record f { pieces = pieces_with f p.source (number + 1) f.next p.shift } else f) e

sound-at : (senders : ℕ → ℕ → Content) (first : ℕ) (begun : List Part) (f : Forwarding) (x : Step)
    → IsAt first begun f → IsSound begun f x → IsAt first begun (after_step senders f x)
sound-at senders first begun f (Come p) at sound =
    still-at first begun f (after_step senders f (Come p)) at (after-pieces f (place_of senders f p) p.ends)
sound-at senders first begun f (Switch source number time to) at sound = absurd sound
sound-at senders first begun f (SkipTo number) at sound = absurd sound
sound-at senders first begun f (Empty source number) at sound =
    still-at first begun f (after_step senders f (Empty source number)) at
    (ap (λ (g : Forwarding). g.pieces) (not-passed f (last_piece f) source number sound))
sound-at senders first begun f (EndAt number) at sound =
    still-at first begun f (after_step senders f (EndAt number)) at (ended-pieces f (last_piece f) number)
sound-at senders first begun f (Reserve count) at sound = absurd sound

within-later : (before parts : List Part) (s x : ℕ) → IsWithin (before ++ parts) s x → IsWithin parts s x
within-later [] parts s x is = is
within-later (p ∷ ps) parts s x is = within-later ps parts s x (within-rest p (ps ++ parts) s x is)

as-later : (senders : ℕ → ℕ → Content) (before parts : List Part) (s x : ℕ) → IsAsIn senders (before ++ parts) s x
    → IsAsIn senders parts s x
as-later senders [] parts s x from = from
as-later senders (p ∷ ps) parts s x from = as-later senders ps parts s x from.1

as-front : (senders : ℕ → ℕ → Content) (parts later : List Part) (s x : ℕ) → IsAsIn senders (parts ++ later) s x
    → IsAsIn senders parts s x
as-front senders [] later s x from = tt
as-front senders (p ∷ ps) later s x from = (from.0, as-front senders ps later s x from.1)

-- if sources bring everywhere what the parts have, they do so in each run
pub run-as-in : (senders : ℕ → ℕ → Content) (parts : List Part) (xs : List Step) → AreFrom senders parts
    → AreAsInRun senders parts xs
run-as-in senders parts [] from = tt
run-as-in senders parts (Come p ∷ xs) from =
    (as-in senders parts from p.source p.number, run-as-in senders parts xs from)
run-as-in senders parts (Switch source number time at ∷ xs) from = (tt, run-as-in senders parts xs from)
run-as-in senders parts (SkipTo number ∷ xs) from = (tt, run-as-in senders parts xs from)
run-as-in senders parts (Empty source number ∷ xs) from = (tt, run-as-in senders parts xs from)
run-as-in senders parts (EndAt number ∷ xs) from = (tt, run-as-in senders parts xs from)
run-as-in senders parts (Reserve count ∷ xs) from = (tt, run-as-in senders parts xs from)

module _ (values : ExtensionValues → ExtensionValues) (senders : ℕ → ℕ → Content) (first : ℕ) (all : List Part)
  where
    abbrev sender : ℕ → Content
    sender = numbered first (datagrams (relayed values all))

    module _ (begun later : List Part) (f : Forwarding) (at : IsAt first begun f) (whole : all ≡ begun ++ later) where
      in-parts : (p : Packet) (q : Placed) → IsAsIn senders all p.source p.number → IsWithin begun p.source p.number
          → place_of senders f p ≡ Some q
          → IsFound senders (first + count_of at.before) at.parts p.source p.number
          (senders p.source p.number).time q
      in-parts p q from within e =
          placed-found senders (first + count_of at.before) at.parts f p q at.pieces
          (as-later senders at.before at.parts p.source p.number
          (subst (λ (ps : List Part). IsAsIn senders ps p.source p.number) at.split
          (as-front senders begun later p.source p.number
          (subst (λ (ps : List Part). IsAsIn senders ps p.source p.number) whole from))))
          (within-later at.before at.parts p.source p.number
          (subst (λ (ps : List Part). IsWithin ps p.source p.number) at.split within)) e

      brings : (p : Packet) (q : Placed) → IsAsIn senders all p.source p.number → IsWithin begun p.source p.number
          → place_of senders f p ≡ Some q
          → sender q.number ≡ content_with values q.time (senders p.source p.number)
      brings p q from within e =
          ap (λ (ps : List Part). numbered first (datagrams (relayed values ps)) q.number)
          (whole ∙ ap (λ (ps : List Part). ps ++ later) at.split)
          ∙ found-brings values senders first at.before at.parts later p.source p.number
          (senders p.source p.number).time q (in-parts p q from within e) refl

      is-between : (p : Packet) (q : Placed) → IsAsIn senders all p.source p.number → IsWithin begun p.source p.number
          → place_of senders f p ≡ Some q
          → (first ≤ q.number) × (q.number < first + count_of all)
      is-between p q from within e =
          let ends = found-between senders at.parts (first + count_of at.before) p.source p.number
          (senders p.source p.number).time q (in-parts p q from within e) in
          let many : count_of all ≡ count_of at.before + count_of at.parts + count_of later =
          ap count_of whole ∙ count-append begun later
          ∙ ap (λ (n : ℕ). n + count_of later) (ap count_of at.split ∙ count-append at.before at.parts) in (
            omega (arith, ends.0),
            omega (arith, ends.1, many),
          )

      sound-sends : (x : Step) (rest : List Sent) (ns : List ℕ) → IsAsInStep senders all x → IsSound begun f x
          → rest ≡ datagrams_at sender ns
          → sent_at values senders f x ++ rest ≡ datagrams_at sender (numbers_at senders f x ++ ns)
      sound-sends (Come p) rest ns from sound ih =
          sends-step values (senders p.source p.number) sender (place_of senders f p) rest ns
          (λ q e. brings p q from sound e) ih
      sound-sends (Switch source number time to) rest ns from sound ih = absurd sound
      sound-sends (SkipTo number) rest ns from sound ih = absurd sound
      sound-sends (Empty source number) rest ns from sound ih = ih
      sound-sends (EndAt number) rest ns from sound ih = ih
      sound-sends (Reserve count) rest ns from sound ih = absurd sound

      sound-between : (x : Step) (ns : List ℕ) → IsAsInStep senders all x → IsSound begun f x
          → AreBetween first (first + count_of all) ns
          → AreBetween first (first + count_of all) (numbers_at senders f x ++ ns)
      sound-between (Come p) ns from sound ih =
          between-step first (first + count_of all) (place_of senders f p) ns (λ q e. is-between p q from sound e) ih
      sound-between (Switch source number time to) ns from sound ih = absurd sound
      sound-between (SkipTo number) ns from sound ih = absurd sound
      sound-between (Empty source number) ns from sound ih = ih
      sound-between (EndAt number) ns from sound ih = ih
      sound-between (Reserve count) ns from sound ih = absurd sound

    -- nothing is sent on where a part begins
    begin-sends : (f : Forwarding) (q : Part) (x : Step) (rest : List Sent) (ns : List ℕ) → BeginsAt f x q
        → rest ≡ datagrams_at sender ns
        → sent_at values senders f x ++ rest ≡ datagrams_at sender (numbers_at senders f x ++ ns)
    begin-sends f q (Come p) rest ns is ih = absurd is
    begin-sends f q (Switch source number time to) rest ns is ih = ih
    begin-sends f q (SkipTo number) rest ns is ih = ih
    begin-sends f q (Empty source number) rest ns is ih = ih
    begin-sends f q (EndAt number) rest ns is ih = absurd is
    begin-sends f q (Reserve count) rest ns is ih = ih

    begin-between : (f : Forwarding) (q : Part) (x : Step) (ns : List ℕ) → BeginsAt f x q
        → AreBetween first (first + count_of all) ns
        → AreBetween first (first + count_of all) (numbers_at senders f x ++ ns)
    begin-between f q (Come p) ns is ih = absurd is
    begin-between f q (Switch source number time to) ns is ih = ih
    begin-between f q (SkipTo number) ns is ih = ih
    begin-between f q (Empty source number) ns is ih = ih
    begin-between f q (EndAt number) ns is ih = absurd is
    begin-between f q (Reserve count) ns is ih = ih

    one-later : (begun later : List Part) (q : Part) → all ≡ begun ++ q ∷ later → all ≡ (begun ++ q ∷ []) ++ later
    one-later begun later q whole = whole ∙ sym (append_assoc begun (q ∷ []) later)

    pub run-sends : (xs : List Step) (begun later : List Part) (f : Forwarding) → IsAt first begun f
        → all ≡ begun ++ later → AreAsInRun senders all xs → IsRun senders first begun f later xs
        → sent_in values senders f xs ≡ datagrams_at sender (numbers_in senders f xs)
    run-sends [] begun later f at whole from is = refl
    run-sends (x ∷ xs) begun [] f at whole from is =
        sound-sends begun [] f at whole x _ _ from.0 is.0
        (run-sends xs begun [] (after_step senders f x) (sound-at senders first begun f x at is.0) whole from.1 is.1)
    run-sends (x ∷ xs) begun (q ∷ later) f at whole from (inl is) =
        sound-sends begun (q ∷ later) f at whole x _ _ from.0 is.0
        (run-sends xs begun (q ∷ later) (after_step senders f x) (sound-at senders first begun f x at is.0) whole from.1
        is.1)
    run-sends (x ∷ xs) begun (q ∷ later) f at whole from (inr is) =
        begin-sends f q x _ _ is.1
        (run-sends xs (begun ++ q ∷ []) later (after_step senders f x)
        (begin-at first begun q f at senders x is.0 is.1) (one-later begun later q whole) from.1 is.2)

    pub run-between : (xs : List Step) (begun later : List Part) (f : Forwarding) → IsAt first begun f
        → all ≡ begun ++ later → AreAsInRun senders all xs → IsRun senders first begun f later xs
        → AreBetween first (first + count_of all) (numbers_in senders f xs)
    run-between [] begun later f at whole from is = tt
    run-between (x ∷ xs) begun [] f at whole from is =
        sound-between begun [] f at whole x _ from.0 is.0
        (run-between xs begun [] (after_step senders f x) (sound-at senders first begun f x at is.0) whole from.1 is.1)
    run-between (x ∷ xs) begun (q ∷ later) f at whole from (inl is) =
        sound-between begun (q ∷ later) f at whole x _ from.0 is.0
        (run-between xs begun (q ∷ later) (after_step senders f x) (sound-at senders first begun f x at is.0) whole
        from.1 is.1)
    run-between (x ∷ xs) begun (q ∷ later) f at whole from (inr is) =
        begin-between f q x _ is.1
        (run-between xs (begun ++ q ∷ []) later (after_step senders f x)
        (begin-at first begun q f at senders x is.0 is.1) (one-later begun later q whole) from.1 is.2)

-- a forwarder that sent nothing on
pub at-start : (first : ℕ) (f : Forwarding) → f.pieces ≡ [] → IsAt first [] f
at-start first f none = record { before = []; parts = []; split = refl; pieces = none }
