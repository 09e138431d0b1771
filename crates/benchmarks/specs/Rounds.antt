-- What is done over and over.
use Rattle.std.specs.Prelude.{◌≡◌, ℕ, zero, suc, ◌⊎◌}
use Rattle.benchmarks.specs.declared.tally.Tally.{Tally}
use Rattle.benchmarks.specs.Tallies.{empty_tally}

-- n rounds lead from one state and tally to another. Zero rounds change nothing; round n starts if the n before it
-- ended.
abbrev pub Repeats : {S : Type 0} → (S → ℕ → Tally → S → Tally → Type 0) → ℕ → S → Tally → S → Tally → Type 0
Repeats counts zero old before new after = (new ≡ old) × (after ≡ before)
Repeats {S} counts (suc n) old before new after =
    (state : S) × (tally : Tally) × Repeats counts n old before state tally × counts state n tally new after

-- Either no round was run, or all were, whatever they counted.
abbrev pub RepeatsOrKeeps : {S : Type 0} → (S → ℕ → Tally → S → Tally → Type 0) → ℕ → S → S → Type 0
RepeatsOrKeeps counts rounds old new =
    (new ≡ old) ⊎ ((tally : Tally) × Repeats counts rounds old empty_tally new tally)
