-- The first start code of a text, by its place.
use Rattle.std.proofs.Common.{◌≡◌, ℕ, zero, suc, ◌+◌, Bool, true, false, eqb, List, [], ◌∷◌, take, drop, length}
use Rattle.std.proofs.Common.{get_or, refl, sym, ap, ◌∙◌, arith, eqb-true}
use Rattle.std.specs.Prelude.{if◌then◌else◌}
use Rattle.h26x_payload_units.specs.Cut.{Layout, Piece, units_of_layout, units_of_pieces, with_unit}
use Rattle.h26x_payload_units.specs.Places.{HasCodeAt, HasNoCodeBefore}
use Rattle.h26x_payload_units.specs.Units.{layout_of, units_behind, units_of, with_byte, with_front, without_zeros}
use Rattle.h26x_payload_units.proofs.LayoutLemmas.{no_code}
use Rattle.h26x_payload_units.proofs.CutLemmas.{added, layout, layout_of-code, piece}

code_shifted : (a : ℕ) (text : List ℕ) (k : ℕ) → HasCodeAt text k → HasCodeAt (a ∷ text) (suc k)
code_shifted a text k at =
    let one : suc k + 1 ≡ suc (k + 1) = omega arith in
    let two : suc k + 2 ≡ suc (k + 2) = omega arith in
    (at.0, (ap (λ n. get_or (a ∷ text) n 0) one ∙ at.1.0, ap (λ n. get_or (a ∷ text) n 0) two ∙ at.1.1))

code_back : (a : ℕ) (text : List ℕ) (k : ℕ) → HasCodeAt (a ∷ text) (suc k) → HasCodeAt text k
code_back a text k at =
    let one : suc (k + 1) ≡ suc k + 1 = omega arith in
    let two : suc (k + 2) ≡ suc k + 2 = omega arith in
    (at.0, (ap (λ n. get_or (a ∷ text) n 0) one ∙ at.1.0, ap (λ n. get_or (a ∷ text) n 0) two ∙ at.1.1))

-- a byte before a text without start codes
byte_alone : (a : ℕ) (text : List ℕ) → (HasCodeAt (a ∷ text) 0 → ⊥) → with_byte a text [] ≡ layout (a ∷ text) []
byte_alone a [] none = refl
byte_alone a (b ∷ []) none = refl
byte_alone a (b ∷ c ∷ more) none =
    ap (λ t. if t then layout [] (piece 2 more ∷ []) else layout (a ∷ b ∷ c ∷ more) [])
    (no_code a b c (λ e f g. none (e, (f, g))))

layout_of-alone : (text : List ℕ) → HasNoCodeBefore text (length text) → layout_of text ≡ layout text []
layout_of-alone [] none = refl
layout_of-alone (a ∷ text) none =
    ap (added a) (layout_of-alone text (λ k lt at. none (suc k) (omega arith) (code_shifted a text k at)))
    ∙ byte_alone a text (none 0 (omega arith))

-- what is at a place stays without the zeros at the end
zero_at : (t : Bool) (a k : ℕ) → eqb a 0 ≡ t → get_or (if t then [] else a ∷ []) k 0 ≡ get_or (a ∷ []) k 0
zero_at true a zero e = sym (eqb-true a 0 e)
zero_at true a (suc k) e = refl
zero_at false a k e = refl

front_at : (a : ℕ) (s : List ℕ) (k : ℕ) → get_or (with_front a s) k 0 ≡ get_or (a ∷ s) k 0
front_at a [] k = zero_at (eqb a 0) a k refl
front_at a (b ∷ s) k = refl

without_zeros-at : (s : List ℕ) (k : ℕ) → get_or (without_zeros s) k 0 ≡ get_or s k 0
without_zeros-at [] k = refl
without_zeros-at (a ∷ s) zero = front_at a (without_zeros s) zero
without_zeros-at (a ∷ s) (suc k) = front_at a (without_zeros s) (suc k) ∙ without_zeros-at s k

one_before : (j : ℕ) (text : List ℕ) → get_or (take j text) 1 0 ≡ 1 → (get_or text 0 0 ≡ get_or (take j text) 0 0)
    × (get_or text 1 0 ≡ 1)
one_before zero text e = absurd (omega arith)
one_before (suc j) [] e = absurd (omega arith)
one_before (suc zero) (x ∷ text) e = absurd (omega arith)
one_before (suc (suc j)) (x ∷ []) e = absurd (omega arith)
one_before (suc (suc j)) (x ∷ y ∷ text) e = (refl, e)

-- a byte before a first stretch and a start code
byte_by_zero : (t : Bool) (a z : ℕ) (st : List ℕ) (ps : List Piece)
    → (y : ℕ) × ((if t then layout [] (piece (suc z) st ∷ ps) else layout (a ∷ []) (piece z st ∷ ps))
    ≡ layout (if t then [] else a ∷ []) (piece y st ∷ ps))
byte_by_zero true a z st ps = (suc z, refl)
byte_by_zero false a z st ps = (z, refl)

byte_before : (a : ℕ) (s : List ℕ) (z : ℕ) (st : List ℕ) (ps : List Piece)
    → (a ≡ 0 → get_or s 0 0 ≡ 0 → get_or s 1 0 ≡ 1 → ⊥)
    → (y : ℕ) × (with_byte a s (piece z st ∷ ps) ≡ layout (with_front a s) (piece y st ∷ ps))
byte_before a [] z st ps none = byte_by_zero (eqb a 0) a z st ps
byte_before a (b ∷ []) z st ps none = (z, refl)
byte_before a (b ∷ c ∷ more) z st ps none = (
  z,
  ap (λ t. if t then layout [] (piece 2 more ∷ piece z st ∷ ps)
      else layout (a ∷ b ∷ c ∷ more) (piece z st ∷ ps)) (no_code a b c none),
)

-- what follows the first start code
abbrev behind : ℕ → List ℕ → Layout
behind i text = layout_of (drop (suc (suc (suc i))) text)

layout_of-first : (i : ℕ) (text : List ℕ) → HasCodeAt text i → HasNoCodeBefore text i
    → (z : ℕ) × (layout_of text ≡ layout (without_zeros (take i text))
    (piece z (behind i text).first ∷ (behind i text).pieces))
layout_of-first i [] at none = absurd (omega (arith, at.1.1))
layout_of-first zero (a ∷ []) at none = absurd (omega (arith, at.1.1))
layout_of-first zero (a ∷ b ∷ []) at none = absurd (omega (arith, at.1.1))
layout_of-first zero (a ∷ b ∷ c ∷ rest) at none = (
  2,
  ap (λ x. layout_of (x ∷ b ∷ c ∷ rest)) at.0 ∙ ap (λ x. layout_of (0 ∷ x ∷ c ∷ rest)) at.1.0
      ∙ ap (λ x. layout_of (0 ∷ 0 ∷ x ∷ rest)) at.1.1
      ∙ layout_of-code 2 rest (layout_of rest).first (layout_of rest).pieces (omega arith) refl,
)
layout_of-first (suc i) (a ∷ text) at none =
    let later = layout_of-first i text (code_back a text i at)
    (λ k lt code. none (suc k) (omega arith) (code_shifted a text k code)) in
    let s : List ℕ = without_zeros (take i text) in
    let other : a ≡ 0 → get_or s 0 0 ≡ 0 → get_or s 1 0 ≡ 1 → ⊥ = λ e f g.
    let p : (get_or text 0 0 ≡ get_or (take i text) 0 0) × (get_or text 1 0 ≡ 1) =
    one_before i text (sym (without_zeros-at (take i text) 1) ∙ g) in
    none 0 (omega arith) (e, (p.0 ∙ sym (without_zeros-at (take i text) 0) ∙ f, p.1)) in
    let step = byte_before a s later.0 (behind i text).first (behind i text).pieces other in
    (step.0, ap (added a) later.1 ∙ step.1)

pub units_behind-first : (i : ℕ) (text : List ℕ) → HasCodeAt text i → HasNoCodeBefore text i → units_behind text
    ≡ with_unit (without_zeros (take i text)) (units_behind (drop (i + 3) text))
unfolding units_behind
units_behind-first i text at none =
    let three : suc (suc (suc i)) ≡ i + 3 = omega arith in
    ap (λ l. with_unit l.first (units_of_pieces l.pieces)) (layout_of-first i text at none).1
    ∙ ap (λ n. with_unit (without_zeros (take i text)) (units_behind (drop n text))) three

pub units_behind-alone : (text : List ℕ) → HasNoCodeBefore text (length text) → units_behind text
    ≡ with_unit text (units_behind [])
unfolding units_behind
units_behind-alone text none = ap (λ l. with_unit l.first (units_of_pieces l.pieces)) (layout_of-alone text none)

pub units_of-first : (i : ℕ) (text : List ℕ) → HasCodeAt text i → HasNoCodeBefore text i → units_of text
    ≡ units_behind (drop (i + 3) text)
unfolding units_of units_behind
units_of-first i text at none =
    let three : suc (suc (suc i)) ≡ i + 3 = omega arith in
    ap (λ l. units_of_layout l.first l.pieces) (layout_of-first i text at none).1
    ∙ ap (λ n. units_behind (drop n text)) three

pub units_of-alone : (text : List ℕ) → HasNoCodeBefore text (length text) → units_of text ≡ units_behind text
unfolding units_of units_behind
units_of-alone text none = ap (λ l. units_of_layout l.first l.pieces) (layout_of-alone text none)
    ∙ sym (ap (λ l. with_unit l.first (units_of_pieces l.pieces)) (layout_of-alone text none))

pub units_behind-none : units_behind [] ≡ []
unfolding units_behind
units_behind-none = refl
