-- One bit of a ring: set, cleared, and read where all are alike.
use Rattle.std.proofs.Common.{◌≡◌, ℕ, zero, suc, ◌*◌, ◌/◌, ◌%◌, ◌^◌, ◌<◌, ◌≢◌, ◌⊎◌, refl, sym, ◌∙◌, ap, arith, Bool}
use Rattle.std.proofs.Common.{true, false, not, ◌&&◌, ◌||◌, List, get_or, get_or-set_same, get_or-set_other, length}
use Rattle.std.proofs.Common.{inl, inr, replicate, bit_and, bit_or, w64}
use Rattle.std.proofs.Common.{set as set_at}
use Rattle.std.specs.Prelude.{◌==◌}
use Rattle.std.specs.Int.{bit_at, bit_not}
use Rattle.std.proofs.lemmas.Bool.{cases_order}
use Rattle.std.proofs.lemmas.Nat.Bits.{bit_at-zero, bit_at_clear_other, bit_at_clear_same, bit_at_ones}
use Rattle.std.proofs.lemmas.Nat.Bits.{bit_at_set_other, bit_at_set_same}
use Rattle.rtp_wire.specs.Ring.{is_set}
use Rattle.rtp_wire.proofs.WindowLaws.{eqb-no, eqb-yes}

cases_same : (a b : ℕ) → (a ≡ b) ⊎ (a ≢ b)
cases_same a b = elim (cases_order a b) [
  | inl e ↦ inl e
  | inr other ↦ inr (elim other [ inl below ↦ λ e. omega arith | inr above ↦ λ e. omega arith ])
]

-- what is read where the word of a slot is changed
module _ (words : List ℕ) (at slot new : ℕ) (long : length words ≡ 16) (in_ring : at < 1024) where
  abbrev pub changed : List ℕ
  changed = set_at words (at / 64) new

  same-word : slot / 64 ≡ at / 64 → is_set changed slot ≡ (bit_at new (slot % 64) == 1)
  same-word e =
      let lt : at / 64 < length words = omega arith in
      ap (λ (w : ℕ). bit_at w (slot % 64) == 1)
      (ap (λ (k : ℕ). get_or changed k 0) e ∙ get_or-set_same words (at / 64) new 0 lt)

  other-word : slot / 64 ≢ at / 64 → is_set changed slot ≡ is_set words slot
  other-word ne = ap (λ (w : ℕ). bit_at w (slot % 64) == 1) (get_or-set_other words (at / 64) (slot / 64) new 0 ne)

  -- by the bit of the changed word
  pub change : (b : Bool) → (slot ≡ at → (bit_at new (at % 64) == 1) ≡ b)
      → (slot ≢ at → b ≡ is_set words slot)
      → (slot % 64 ≢ at % 64 → bit_at new (slot % 64) ≡ bit_at (get_or words (at / 64) 0) (slot % 64))
      → is_set changed slot ≡ b
  change b same other kept = elim (cases_same (slot / 64) (at / 64)) [
    | inr ne ↦ other-word ne ∙ sym (other (λ e. ne (ap (λ (k : ℕ). k / 64) e)))
    | inl e ↦ same-word e ∙ elim (cases_same (slot % 64) (at % 64)) [
      | inl f ↦ ap (λ (k : ℕ). bit_at new k == 1) f ∙ same (omega arith)
      | inr ne ↦ ap (λ (d : ℕ). d == 1) (kept ne)
          ∙ ap (λ (k : ℕ). bit_at (get_or words k 0) (slot % 64) == 1) (sym e)
          ∙ sym (other (λ same. ne (ap (λ (k : ℕ). k % 64) same)))
    ]
  ]

pub set-slot : (words : List ℕ) (at slot : ℕ) → length words ≡ 16 → at < 1024 →
    is_set (set_at words (at / 64) (bit_or (get_or words (at / 64) 0) (1 * 2 ^ (at % 64) % 2 ^ 64))) slot
    ≡ ((slot == at) || is_set words slot)
set-slot words at slot long in_ring =
    let word = get_or words (at / 64) 0 in
    let within : at % 64 < 64 = omega arith in
    change words at slot _ long in_ring _
    (λ e. rw (eqb-yes slot at e) (ap (λ (d : ℕ). d == 1) (bit_at_set_same w64 word (at % 64) within)))
    (λ ne. rw (eqb-no slot at ne) refl)
    (λ ne. bit_at_set_other w64 word (at % 64) within (slot % 64) ne)

pub clear-slot : (words : List ℕ) (at slot : ℕ) → length words ≡ 16 → at < 1024 →
    is_set (set_at words (at / 64) (bit_and (get_or words (at / 64) 0) (bit_not w64 (1 * 2 ^ (at % 64) % 2 ^ 64)))) slot
    ≡ (not (slot == at) && is_set words slot)
clear-slot words at slot long in_ring =
    let word = get_or words (at / 64) 0 in
    let within : at % 64 < 64 = omega arith in
    let below : slot % 64 < 64 = omega arith in
    change words at slot _ long in_ring _
    (λ e. rw (eqb-yes slot at e) (ap (λ (d : ℕ). d == 1) (bit_at_clear_same w64 word (at % 64) within)))
    (λ ne. rw (eqb-no slot at ne) refl)
    (λ ne. bit_at_clear_other w64 word (at % 64) within (slot % 64) below ne)

-- if all words are alike
word-at : (word k n : ℕ) → k < n → get_or (replicate n word) k 0 ≡ word
word-at word k zero h = absurd (omega arith)
word-at word zero (suc n) h = refl
word-at word (suc k) (suc n) h = word-at word k n (omega arith)

pub none-set : (slot : ℕ) → slot < 1024 → is_set (replicate 16 0) slot ≡ false
none-set slot h = rw (word-at 0 (slot / 64) 16 (omega arith), bit_at-zero (slot % 64)) refl

pub all-set : (slot : ℕ) → slot < 1024 → is_set (replicate 16 18446744073709551615) slot ≡ true
all-set slot h =
    rw (word-at 18446744073709551615 (slot / 64) 16 (omega arith), bit_at_ones 64 (slot % 64) (omega arith)) refl
