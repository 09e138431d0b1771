-- The rows of the profile table of H.264.
use Rattle.std.proofs.Common.{◌≡◌, ℕ, zero, suc, ◌<◌, ◌≤◌, Bool, true, false, cond, eqb, leb, leb-true, List, [], ◌∷◌}
use Rattle.std.proofs.Common.{Option, Some, refl, sym, ap, ◌∙◌, arith, inl, inr}
use Rattle.std.specs.Prelude.{◌&&◌, bit_and, codes, count_by, find, not, option_map}
use Rattle.std.proofs.lemmas.Bool.{false≢true}
use Rattle.std.proofs.lemmas.Bool.Decides.{eqb_tells, nat_tests}
use Rattle.media_types.specs.H264Profile.{Row, has_digits, is_of_row, profile_of, rows}
use Rattle.media_types.specs.H264ProfileLevel.{HasOneRow}
use Rattle.media_types.specs.H264Rows.{masked_profile}
use Rattle.media_types.specs.declared.h264.ProfileRow.{ProfileRow}
use Rattle.media_types.specs.declared.h264.TheConstants.{ROWS}

-- a test holds of every number below a bound
abbrev all_below : (ℕ → Bool) → ℕ → Bool
all_below test zero = true
all_below test (suc n) = test n && all_below test n

both : (x y : Bool) → (x && y) ≡ true → (x ≡ true) × (y ≡ true)
both true true e = (refl, refl)
both true false e = absurd (false≢true e)
both false y e = absurd (false≢true e)

holds_below : (test : ℕ → Bool) (n k : ℕ) → all_below test n ≡ true → k < n → test k ≡ true
holds_below test zero k e lt = absurd (omega arith)
holds_below test (suc n) k e lt =
    let p : (test n ≡ true) × (all_below test n ≡ true) = both _ _ e in
    elim (eqb k n) as (λ t. eqb k n ≡ t → test k ≡ true) [
      | true ↦ λ f. let same : k ≡ n = grind (arith, nat_tests) in ap test same ∙ p.0
      | false ↦ λ f. let less : k < n = grind (arith, nat_tests) in holds_below test n k p.1 less
    ] refl

abbrev agree : Bool → Bool → Bool
agree true y = y
agree false y = not y

agreed : (x y : Bool) → agree x y ≡ true → x ≡ y
agreed true true e = refl
agreed true false e = sym e
agreed false true e = e
agreed false false e = refl

abbrev masked : ℕ → ℕ → List ℕ → ℕ → Bool
masked mask bits digits byte = agree (eqb (bit_and byte mask) bits) (has_digits digits byte)

digits_x1xx0000 : (byte : ℕ) → byte < 256 → eqb (bit_and byte 79) 64 ≡ has_digits (codes "x1xx0000") byte
digits_x1xx0000 byte lt = agreed _ _ (holds_below (masked 79 64 (codes "x1xx0000")) 256 byte refl lt)

digits_1xxx0000 : (byte : ℕ) → byte < 256 → eqb (bit_and byte 143) 128 ≡ has_digits (codes "1xxx0000") byte
digits_1xxx0000 byte lt = agreed _ _ (holds_below (masked 143 128 (codes "1xxx0000")) 256 byte refl lt)

digits_11xx0000 : (byte : ℕ) → byte < 256 → eqb (bit_and byte 207) 192 ≡ has_digits (codes "11xx0000") byte
digits_11xx0000 byte lt = agreed _ _ (holds_below (masked 207 192 (codes "11xx0000")) 256 byte refl lt)

digits_x0xx0000 : (byte : ℕ) → byte < 256 → eqb (bit_and byte 79) 0 ≡ has_digits (codes "x0xx0000") byte
digits_x0xx0000 byte lt = agreed _ _ (holds_below (masked 79 0 (codes "x0xx0000")) 256 byte refl lt)

digits_10xx0000 : (byte : ℕ) → byte < 256 → eqb (bit_and byte 207) 128 ≡ has_digits (codes "10xx0000") byte
digits_10xx0000 byte lt = agreed _ _ (holds_below (masked 207 128 (codes "10xx0000")) 256 byte refl lt)

digits_0x0x0000 : (byte : ℕ) → byte < 256 → eqb (bit_and byte 175) 0 ≡ has_digits (codes "0x0x0000") byte
digits_0x0x0000 byte lt = agreed _ _ (holds_below (masked 175 0 (codes "0x0x0000")) 256 byte refl lt)

digits_00000000 : (byte : ℕ) → byte < 256 → eqb (bit_and byte 255) 0 ≡ has_digits (codes "00000000") byte
digits_00000000 byte lt = agreed _ _ (holds_below (masked 255 0 (codes "00000000")) 256 byte refl lt)

digits_00001100 : (byte : ℕ) → byte < 256 → eqb (bit_and byte 255) 12 ≡ has_digits (codes "00001100") byte
digits_00001100 byte lt = agreed _ _ (holds_below (masked 255 12 (codes "00001100")) 256 byte refl lt)

-- one row more, with a mask and with digits
cond_step : (t u : Bool) (a : ProfileRow) (b : Row) (o : Option ProfileRow) (p : Option Row) → t ≡ u → a.profile
    ≡ b.profile → option_map (λ r. r.profile) o ≡ option_map (λ r. r.profile) p
    → option_map (λ (r : ProfileRow). r.profile) (cond t (Some a) o)
    ≡ option_map (λ (r : Row). r.profile) (cond u (Some b) p)
cond_step true true a b o p e f later = ap Some f
cond_step true false a b o p e f later = absurd (false≢true (sym e))
cond_step false true a b o p e f later = absurd (false≢true e)
cond_step false false a b o p e f later = later

-- two tables say the same of a byte, row by row
abbrev SayTheSame : ℕ → List ProfileRow → List Row → Type 0
SayTheSame iop [] [] = Unit {0}
SayTheSame iop [] (r ∷ rs) = ⊥
SayTheSame iop (m ∷ ms) [] = ⊥
SayTheSame iop (m ∷ ms) (r ∷ rs) = (m.idc ≡ r.idc)
    × ((m.profile ≡ r.profile) × ((eqb (bit_and iop m.mask) m.bits ≡ has_digits r.digits iop) × SayTheSame iop ms rs))

same_profile : (iop idc : ℕ) (ms : List ProfileRow) (rs : List Row) → SayTheSame iop ms rs
    → masked_profile ms idc iop ≡ option_map (λ (r : Row). r.profile) (find (is_of_row idc iop) rs)
same_profile iop idc [] [] is = refl
same_profile iop idc [] (r ∷ rs) is = absurd is
same_profile iop idc (m ∷ ms) [] is = absurd is
same_profile iop idc (m ∷ ms) (r ∷ rs) is =
    let same : (eqb m.idc idc && eqb (bit_and iop m.mask) m.bits) ≡ (eqb r.idc idc && has_digits r.digits iop) =
    ap (λ n. eqb n idc && eqb (bit_and iop m.mask) m.bits) is.0 ∙ ap (λ t. eqb r.idc idc && t) is.1.1.0 in
    cond_step _ _ m r _ _ same is.1.0 (same_profile iop idc ms rs is.1.1.1)

-- the masks say what the digits say
pub profile_of-masked : (idc iop : ℕ) → iop < 256 → masked_profile ROWS idc iop ≡ profile_of idc iop
profile_of-masked idc iop lt =
    same_profile iop idc ROWS rows ((
      refl,
      (
        refl,
        (
          digits_x1xx0000 iop lt,
          (
            refl,
            (
              refl,
              (
                digits_1xxx0000 iop lt,
                (
                  refl,
                  (
                    refl,
                    (
                      digits_11xx0000 iop lt,
                      (
                        refl,
                        (
                          refl,
                          (
                            digits_x0xx0000 iop lt,
                            (
                              refl,
                              (
                                refl,
                                (
                                  digits_10xx0000 iop lt,
                                  (
                                    refl,
                                    (
                                      refl,
                                      (
                                        digits_0x0x0000 iop lt,
                                        (
                                          refl,
                                          (
                                            refl,
                                            (
                                              digits_00000000 iop lt,
                                              (
                                                refl,
                                                (
                                                  refl,
                                                  (
                                                    digits_00001100 iop lt,
                                                    (
                                                      refl,
                                                      (
                                                        refl,
                                                        (
                                                          digits_00000000 iop lt,
                                                          tt,
                                                        ),
                                                      ),
                                                    ),
                                                  ),
                                                ),
                                              ),
                                            ),
                                          ),
                                        ),
                                      ),
                                    ),
                                  ),
                                ),
                              ),
                            ),
                          ),
                        ),
                      ),
                    ),
                  ),
                ),
              ),
            ),
          ),
        ),
      ),
    ))

abbrev few_rows : ℕ → ℕ → Bool
few_rows idc iop = leb (count_by (is_of_row idc iop) rows) 1

few_at : (known idc iop : ℕ) → all_below (few_rows known) 256 ≡ true → known ≡ idc → iop < 256
    → count_by (is_of_row idc iop) rows ≤ 1
few_at known idc iop checked same lt =
    leb-true _ _ (ap (λ n. few_rows n iop) (sym same) ∙ holds_below (few_rows known) 256 iop checked lt)

-- no row has another profile_idc
none_at : (idc iop : ℕ) → eqb 66 idc ≡ false → eqb 77 idc ≡ false → eqb 88 idc ≡ false → eqb 100 idc ≡ false
    → eqb 244 idc ≡ false → count_by (is_of_row idc iop) rows ≡ 0
none_at idc iop a b c d e = simp (a, b, c, d, e) refl

pub has_one_row : HasOneRow
has_one_row idc iop lt =
    elim (eqb_tells 66 idc) [
      | inl p ↦ few_at 66 idc iop refl p.1 lt
      | inr a ↦
          elim (eqb_tells 77 idc) [
            | inl p ↦ few_at 77 idc iop refl p.1 lt
            | inr b ↦
                elim (eqb_tells 88 idc) [
                  | inl p ↦ few_at 88 idc iop refl p.1 lt
                  | inr c ↦
                      elim (eqb_tells 100 idc) [
                        | inl p ↦ few_at 100 idc iop refl p.1 lt
                        | inr d ↦
                            elim (eqb_tells 244 idc) [
                              | inl p ↦ few_at 244 idc iop refl p.1 lt
                              | inr e ↦
                                  let none : count_by (is_of_row idc iop) rows ≡ 0 =
                                  none_at idc iop a.0 b.0 c.0 d.0 e.0 in omega (arith, none)
                            ]
                      ]
                ]
          ]
    ]
