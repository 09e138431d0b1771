-- Pieces that begin and end.
use Rattle.std.proofs.Common.{◌^◌, ◌≡◌, ℕ, suc, ◌+◌, ◌-◌, ◌<◌, ◌≤◌, refl, sym, ◌∙◌, ap, ap₂, arith}
use Rattle.std.proofs.Common.{inl, inr, Bool, true, false, List, [], ◌∷◌, ◌++◌, length, drop, append_assoc}
use Rattle.std.proofs.lemmas.Bool.Decides.{nat_tests}
use Rattle.std.specs.Prelude.{Option, Some, None, nat_le, nat_lt, ◌&&◌, ◌||◌, ◌==◌, ◌⊎◌, if◌then◌else◌, slice_get}
use Rattle.rtp_media_forward.specs.Forwarding.{Forwarding, end_before, ended_by, is_in, kept, most_pieces}
use Rattle.rtp_media_forward.specs.Forwarding.{is_next_in, number_in, passed_by, passed_empty}
use Rattle.rtp_media_forward.specs.Forwarding.{newer_or, pieces_with, placed_by, placed_in, shifted, skipped_by}
use Rattle.rtp_media_forward.specs.Forwarding.{start_of}
use Rattle.rtp_media_forward.specs.Relayed.{Part, count_in, count_of, piece_at}
use Rattle.rtp_media_forward.specs.Relayed.{pieces_from}
use Rattle.rtp_media_forward.specs.declared.forwarder.Piece.{Piece}
use Rattle.rtp_media_forward.specs.declared.forwarder.Placed.{Placed}
use Rattle.std.proofs.Common.{length-drop}
use Rattle.rtp_media_forward.proofs.Relaying.{count-append}

pieces-append : (out : ℕ) (ps qs : List Part)
    → pieces_from out (ps ++ qs) ≡ pieces_from out ps ++ pieces_from (out + count_of ps) qs
pieces-append out [] qs =
    let e : out ≡ out + 0 = omega arith in
    ap (λ (k : ℕ). pieces_from k qs) e
pieces-append out (p ∷ ps) qs =
    let e : out + count_in p + count_of ps ≡ out + (count_in p + count_of ps) = omega arith in
    ap (λ (rs : List Piece). piece_at out p ∷ rs)
    (pieces-append (out + count_in p) ps qs
    ∙ ap (λ (k : ℕ). pieces_from (out + count_in p) ps ++ pieces_from k qs) e)

pub more-pieces : (out shift number source at : ℕ) (parts : List Part) (q : Part) (f : Forwarding)
    → f.pieces ≡ pieces_from out parts → at ≡ out + count_of parts → q.first ≡ number → q.source ≡ source
    → q.shift ≡ shift → pieces_with f source number at shift ≡ kept (pieces_from out (parts ++ q ∷ []))
more-pieces out shift number source at parts q f is next from by timed =
    let piece : record { source = source; first = number; out = at; shift = shift }
    ≡ piece_at (out + count_of parts) q =
    λ i. record { source = sym by i; first = sym from i; out = next i; shift = sym timed i } in
    ap₂ (λ (ps : List Piece) (p : Piece). kept (ps ++ p ∷ [])) is piece
    ∙ ap kept (sym (pieces-append out parts (q ∷ [])))

last-at : (ps : List Piece) (p : Piece) → slice_get (ps ++ p ∷ []) (length (ps ++ p ∷ []) - 1) ≡ Some p
last-at [] p = refl
last-at (q ∷ []) p = refl
last-at (q ∷ r ∷ ps) p =
    let e : length (q ∷ r ∷ ps ++ p ∷ []) - 1 ≡ suc (length (r ∷ ps ++ p ∷ []) - 1) = omega arith in
    ap (λ (k : ℕ). slice_get (q ∷ r ∷ ps ++ p ∷ []) k) e ∙ last-at (r ∷ ps) p

pub skips : (out number : ℕ) (parts : List Part) (p q : Part) (f : Forwarding)
    → f.pieces ≡ pieces_from out (parts ++ p ∷ []) → start_of f ≡ out + count_of (parts ++ p ∷ []) → q.first ≡ number
    → q.source ≡ p.source → q.shift ≡ p.shift
    → (skipped_by f (slice_get f.pieces (length f.pieces - 1)) number).pieces
    ≡ kept (pieces_from out (parts ++ p ∷ q ∷ []))
skips out number parts p q f is next from by timed =
    let split : f.pieces ≡ pieces_from out parts ++ piece_at (out + count_of parts) p ∷ [] =
    is ∙ pieces-append out parts (p ∷ []) in
    let last : slice_get f.pieces (length f.pieces - 1) ≡ Some (piece_at (out + count_of parts) p) =
    ap (λ (ps : List Piece). slice_get ps (length ps - 1)) split
    ∙ last-at (pieces_from out parts) (piece_at (out + count_of parts) p) in
    ap (λ (o : Option Piece). (skipped_by f o number).pieces) last
    ∙ more-pieces out p.shift number p.source (start_of f) (parts ++ p ∷ []) q f is next from by timed
    ∙ ap (λ (ps : List Part). kept (pieces_from out ps)) (append_assoc parts (p ∷ []) (q ∷ []))

pub keeps : (out : ℕ) (p : Part) (parts : List Part)
    → (kept (pieces_from out (p ∷ parts)) ≡ pieces_from out (p ∷ parts))
    ⊎ (kept (pieces_from out (p ∷ parts)) ≡ pieces_from (out + count_in p) parts)
keeps out p parts = by (nat_lt most_pieces (length (pieces_from out (p ∷ parts)))) where
  by : (b : Bool) → ((if b then drop 1 (pieces_from out (p ∷ parts)) else pieces_from out (p ∷ parts))
      ≡ pieces_from out (p ∷ parts))
      ⊎ ((if b then drop 1 (pieces_from out (p ∷ parts)) else pieces_from out (p ∷ parts))
      ≡ pieces_from (out + count_in p) parts)
  by true = inr refl
  by false = inl refl

-- if a part ends
ends-by : (f : Forwarding) (p : Piece) (number end : ℕ) → p.first ≤ number → number_in p number ≡ end → end < 2 ^ 62
    → f.next ≤ end → ended_by f (Some p) number ≡ record f { next = number_in p number; whole = true }
ends-by f p number end from is small le =
    ap (λ (b : Bool). if b then record f { next = number_in p number; whole = true } else f) test where
      all : (a b c d : Bool) → a ≡ true → b ≡ true → c ≡ true → d ≡ true → ((a && (b && c)) && d) ≡ true
      all true true true true w x y z = refl
      all true true true false w x y z = z
      all true true false d w x y z = y
      all true false c d w x y z = x
      all false b c d w x y z = w

      test : (is_in p (2 ^ 62) p.source number && nat_le f.next (number_in p number)) ≡ true
      test = all (p.source == p.source) (nat_le p.first number) (nat_lt (number_in p number) (2 ^ 62))
          (nat_le f.next (number_in p number))
          (grind (arith, nat_tests)) (grind (arith, nat_tests)) (grind (arith, nat_tests)) (grind (arith, nat_tests))

pub ends : (out from : ℕ) (parts : List Part) (p : Part) (f : Forwarding)
    → f.pieces ≡ pieces_from out (parts ++ p ∷ []) → out + count_of (parts ++ p ∷ []) < 2 ^ 62
    → f.next ≤ out + count_of (parts ++ p ∷ []) → from ≡ p.first + count_in p
    → ((ended_by f (slice_get f.pieces (length f.pieces - 1)) from).next ≡ out + count_of (parts ++ p ∷ []))
    × (start_of (ended_by f (slice_get f.pieces (length f.pieces - 1)) from) ≡ out + count_of (parts ++ p ∷ []))
ends out from parts p f is small le at =
    let split : f.pieces ≡ pieces_from out parts ++ piece_at (out + count_of parts) p ∷ [] =
    is ∙ pieces-append out parts (p ∷ []) in
    let last : slice_get f.pieces (length f.pieces - 1) ≡ Some (piece_at (out + count_of parts) p) =
    ap (λ (ps : List Piece). slice_get ps (length ps - 1)) split
    ∙ last-at (pieces_from out parts) (piece_at (out + count_of parts) p) in
    let number : number_in (piece_at (out + count_of parts) p) from ≡ out + count_of (parts ++ p ∷ []) =
    omega (arith, at, count-append parts (p ∷ [])) in
    let all : ended_by f (slice_get f.pieces (length f.pieces - 1)) from
    ≡ record f { next = number_in (piece_at (out + count_of parts) p) from; whole = true } =
    ap (λ (o : Option Piece). ended_by f o from) last
    ∙ ends-by f (piece_at (out + count_of parts) p) from (out + count_of (parts ++ p ∷ [])) (omega (arith, at)) number
    small le in
    (ap (λ (g : Forwarding). g.next) all ∙ number, ap start_of all ∙ number)

-- if a part's next packet carries nothing
passes-by : (f : Forwarding) (p : Piece) (number : ℕ) → p.first ≤ number → number < 2 ^ 62
    → number_in p number ≡ f.next → f.next < 2 ^ 62
    → passed_by f (Some p) p.source number
    ≡ record f { pieces = pieces_with f p.source (number + 1) f.next p.shift }
passes-by f p number from small is fits =
    ap (λ (b : Bool). if b then record f { pieces = pieces_with f p.source (number + 1) f.next p.shift } else f) test
  where
    all : (a b c d e : Bool) → a ≡ true → b ≡ true → c ≡ true → d ≡ true → e ≡ true
        → ((a && (b && c)) && (d && e)) ≡ true
    all true true true true true v w x y z = refl
    all true true true true false v w x y z = z
    all true true true false e v w x y z = y
    all true true false d e v w x y z = x
    all true false c d e v w x y z = w
    all false b c d e v w x y z = v

    test : is_next_in f (Some p) p.source number ≡ true
    test = all (p.source == p.source) (nat_le p.first number) (nat_lt (number_in p number) (2 ^ 62))
        (nat_lt number (2 ^ 62)) (number_in p number == f.next)
        (grind (arith, nat_tests)) (grind (arith, nat_tests)) (grind (arith, nat_tests)) (grind (arith, nat_tests))
        (grind (arith, nat_tests))

module _ (out number : ℕ) (parts : List Part) (p q : Part) (f : Forwarding)
    (is : f.pieces ≡ pieces_from out (parts ++ p ∷ [])) (next : f.next ≡ out + count_of (parts ++ p ∷ []))
    (fits : out + count_of (parts ++ p ∷ []) < 2 ^ 62) (at : number ≡ p.first + count_in p) (small : number < 2 ^ 62)
  where
    passed-is : passed_empty f p.source number
        ≡ record f { pieces = pieces_with f p.source (number + 1) f.next p.shift }
    passed-is =
        let split : f.pieces ≡ pieces_from out parts ++ piece_at (out + count_of parts) p ∷ [] =
        is ∙ pieces-append out parts (p ∷ []) in
        let last : slice_get f.pieces (length f.pieces - 1) ≡ Some (piece_at (out + count_of parts) p) =
        ap (λ (ps : List Piece). slice_get ps (length ps - 1)) split
        ∙ last-at (pieces_from out parts) (piece_at (out + count_of parts) p) in
        ap (λ (o : Option Piece). passed_by f o p.source number) last
        ∙ passes-by f (piece_at (out + count_of parts) p) number (omega (arith, at)) small
        (omega (arith, at, next, count-append parts (p ∷ []))) (omega (arith, next, fits))

    pub passes : q.first ≡ number + 1 → q.source ≡ p.source → q.shift ≡ p.shift
        → ((passed_empty f p.source number).pieces ≡ kept (pieces_from out (parts ++ p ∷ q ∷ [])))
        × ((passed_empty f p.source number).next ≡ f.next)
    passes from by timed = (
      ap (λ (g : Forwarding). g.pieces) passed-is
          ∙ more-pieces out p.shift (number + 1) p.source f.next (parts ++ p ∷ []) q f is next from by timed
          ∙ ap (λ (ps : List Part). kept (pieces_from out ps)) (append_assoc parts (p ∷ []) (q ∷ [])),
      ap (λ (g : Forwarding). g.next) passed-is,
    )

-- the newest piece that has a packet counts, and at least 64 pieces are kept
pub newest : (ps : List Piece) (p : Piece) (source number time : ℕ) → is_in p (2 ^ 62) source number ≡ true
    → placed_in (ps ++ p ∷ []) source number time
    ≡ Some (record { number = number_in p number; time = shifted p.shift time })
newest [] p source number time is =
    ap (λ (b : Bool). if b then Some (record { number = number_in p number; time = shifted p.shift time }) else None) is
newest (q ∷ qs) p source number time is =
    ap (λ (o : Option Placed). newer_or o (placed_by q (end_before (qs ++ p ∷ [])) source number time))
    (newest qs p source number time is)

pub keeps-many : (ps : List Piece) → (kept ps ≡ ps) ⊎ ((kept ps ≡ drop 1 ps) × (64 ≤ length (kept ps)))
keeps-many ps = by (nat_lt most_pieces (length ps)) refl where
  by : (b : Bool) → nat_lt most_pieces (length ps) ≡ b → ((if b then drop 1 ps else ps) ≡ ps)
      ⊎ (((if b then drop 1 ps else ps) ≡ drop 1 ps) × (64 ≤ length (if b then drop 1 ps else ps)))
  by true e =
      let many : most_pieces < length ps = grind (arith, nat_tests, e) in
      inr (refl, omega (arith, many, length-drop 1 ps))
  by false e = inl refl

pub one-free : (f : Forwarding) → f.whole ≡ false → f.next < 2 ^ 62 → start_of f ≡ f.next + 1
one-free f cut small =
    let below : nat_le (2 ^ 62) f.next ≡ false = grind (arith, nat_tests, small) in
    ap₂ (λ (a b : Bool). if a || b then f.next else f.next + 1) cut below

pub none-free : (f : Forwarding) → f.whole ≡ true → start_of f ≡ f.next
none-free f whole = ap (λ (a : Bool). if a || nat_le (2 ^ 62) f.next then f.next else f.next + 1) whole
