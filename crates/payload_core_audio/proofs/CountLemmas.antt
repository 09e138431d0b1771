-- The first header whose F is clear.
use Rattle.std.proofs.Common.{◌≡◌, ℕ, zero, suc, ◌+◌, ◌*◌, ◌<◌, ◌≤◌, Bool, true, false, cond, ltb, List, Some, None}
use Rattle.std.proofs.Common.{refl, sym, ap, ◌∙◌, inl, inr, arith}
use Rattle.std.specs.Prelude.{find, slice_index}
use Rattle.std.specs.List.{range_with_len}
use Rattle.std.proofs.lemmas.Bool.{cases_lt}
use Rattle.std.proofs.lemmas.Bool.Decides.{nat_tests}
use Rattle.payload_core_audio.specs.RedReading.{count_of_blocks}

-- no number of the range passes
find-none : (p : ℕ → Bool) (a n : ℕ) → ((j : ℕ) → a ≤ j → j < a + n → p j ≡ false) → find p (range_with_len a n) ≡ None
find-none p a zero fails = refl
find-none p a (suc n) fails =
    ap (λ t. cond t (Some a) (find p (range_with_len (a + 1) n))) (fails a (omega arith) (omega arith))
    ∙ find-none p (a + 1) n (λ j above below. fails j (omega arith) (omega arith))

-- the first that passes
find-some : (p : ℕ → Bool) (a n k : ℕ) → a ≤ k → k < a + n → p k ≡ true → ((j : ℕ) → a ≤ j → j < k → p j ≡ false)
    → find p (range_with_len a n) ≡ Some k
find-some p a zero k above below passes fails = absurd (omega arith)
find-some p a (suc n) k above below passes fails = elim (cases_lt a k) [
  | inl less ↦
      ap (λ t. cond t (Some a) (find p (range_with_len (a + 1) n))) (fails a (omega arith) less)
      ∙ find-some p (a + 1) n k (omega arith) (omega arith) passes (λ j more below'. fails j (omega arith) below')
  | inr more ↦
      let same : a ≡ k = omega arith in
      ap (λ t. cond t (Some a) (find p (range_with_len (a + 1) n))) (ap p same ∙ passes) ∙ ap Some same
]

-- what is found is the first that passes
pub record IsFirst (p : ℕ → Bool) (a n k : ℕ) : Type 0 where
  pub above : a ≤ k
  pub below : k < a + n
  pub passes : p k ≡ true
  pub fails : (j : ℕ) → a ≤ j → j < k → p j ≡ false

find-first : (p : ℕ → Bool) (a n k : ℕ) → find p (range_with_len a n) ≡ Some k → IsFirst p a n k
find-first p a zero k is = absurd (cc)
find-first p a (suc n) k is = by_test (p a) refl is (find-first p (a + 1) n k)
  where
    by_test : (t : Bool) → p a ≡ t → cond t (Some a) (find p (range_with_len (a + 1) n)) ≡ Some k
        → (find p (range_with_len (a + 1) n) ≡ Some k → IsFirst p (a + 1) n k) → IsFirst p a (suc n) k
    by_test true e is' rest =
        let same : a ≡ k = cc in
        record {
          above = omega arith;
          below = omega arith;
          passes = ap p (sym same) ∙ e;
          fails =
              λ j above below. absurd (omega (arith, same));
        }
    by_test false e is' rest =
        let later = rest is' in
        record {
          above = omega (arith, later.above);
          below = omega (arith, later.below);
          passes = later.passes;
          fails = λ j above below. elim (cases_lt a j) [
            | inl less ↦ later.fails j (omega arith) below
            | inr more ↦ let same : a ≡ j = omega arith in ap p (sym same) ∙ e
          ];
        }

-- the first header with F clear
pub count-is : (packet : List ℕ) (k : ℕ) → k ≤ 32 → slice_index packet (4 * k) < 128
    → ((j : ℕ) → j < k → 128 ≤ slice_index packet (4 * j)) → count_of_blocks packet ≡ Some k
unfolding count_of_blocks
count-is packet k few clear set =
    let P : ℕ → Bool = λ k. ltb (slice_index packet (4 * k)) 128 in
    find-some P 0 33 k (omega arith) (omega arith) (grind (arith, nat_tests))
    (λ j above below. let s = set j below in grind (arith, nat_tests))

-- none of the first 33 has F clear
pub count-none : (packet : List ℕ) → ((j : ℕ) → j < 33 → 128 ≤ slice_index packet (4 * j)) → count_of_blocks packet
    ≡ None
unfolding count_of_blocks
count-none packet set =
    let P : ℕ → Bool = λ k. ltb (slice_index packet (4 * k)) 128 in
    find-none P 0 33 (λ j above below. let s = set j (omega arith) in grind (arith, nat_tests))

-- the headers that were counted have F set, and the next one has not
pub record IsCounted (packet : List ℕ) (k : ℕ) : Type 0 where
  pub few : k ≤ 32
  pub clear : slice_index packet (4 * k) < 128
  pub set : (j : ℕ) → j < k → 128 ≤ slice_index packet (4 * j)

pub counted : (packet : List ℕ) (k : ℕ) → count_of_blocks packet ≡ Some k → IsCounted packet k
unfolding count_of_blocks
counted packet k is =
    let P : ℕ → Bool = λ k. ltb (slice_index packet (4 * k)) 128 in
    let first : IsFirst P 0 33 k = find-first P 0 33 k is in
    record {
      few = omega (arith, first.below);
      clear = let passes = first.passes in grind (arith, nat_tests);
      set = λ j below. let fails = first.fails j (omega arith) below in grind (arith, nat_tests);
    }
