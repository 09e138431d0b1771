-- Distances that rise, by each one and the one before it.
use Rattle.std.proofs.Common.{◌≡◌, ℕ, zero, suc, ◌<◌, ◌≤◌, List, ◌∷◌, get_or, length, subst, inl, inr, arith}
use Rattle.std.specs.Prelude.{slice_index}
use Rattle.std.proofs.lemmas.Bool.{cases_lt}
use Rattle.std.proofs.lemmas.List.{get_or_default}
use Rattle.payload_core_audio.specs.RedHistory.{AreDistances}

-- the distance before, 0 before the first
abbrev pub before : List ℕ → ℕ → ℕ
before ds k = slice_index (0 ∷ ds) k

-- each distance is above the one before it, and at most 8
abbrev pub AreAbove : List ℕ → ℕ → Type 0
AreAbove ds n = (k : ℕ) → k < n → (before ds k < slice_index ds k) × (slice_index ds k ≤ 8)

rises : (ds : List ℕ) → AreAbove ds (length ds) → (i j : ℕ) → i < j → j < length ds
    → slice_index ds i < slice_index ds j
rises ds above i zero lt within = absurd (omega arith)
rises ds above i (suc j) lt within =
    let step : slice_index ds j < slice_index ds (suc j) = (above (suc j) within).0 in
    elim (cases_lt i j) [
      | inl less ↦ let rest = rises ds above i j less (omega arith) in omega (arith, step, rest)
      | inr more ↦ let same : j ≡ i = omega arith in let P : ℕ → Type 0 =
          λ k. slice_index ds k < slice_index ds (suc j) in subst P same step
    ]

positive : (ds : List ℕ) → AreAbove ds (length ds) → (k : ℕ) → k < length ds → 0 < slice_index ds k
positive ds above k within = let here = (above k within).0 in omega arith

pub distances-from : (ds : List ℕ) → AreAbove ds (length ds) → AreDistances ds
distances-from ds above = record {
  rising = λ i j d lt within.
      let a : get_or ds i d ≡ get_or ds i 0 = get_or_default ds i d 0 (omega arith) in
      let b : get_or ds j d ≡ get_or ds j 0 = get_or_default ds j d 0 within in
      omega (arith, a, b, rises ds above i j lt within);
  in_range = λ k d within.
      let a : get_or ds k d ≡ get_or ds k 0 = get_or_default ds k d 0 within in
      (omega (arith, a, positive ds above k within), omega (arith, a, (above k within).1));
}
