-- A start code that is looked for in blocks.
use Rattle.std.proofs.Common.{◌≡◌, ℕ, ◌+◌, ◌-◌, ◌<◌, ◌≤◌, ◌⊎◌, inl, inr, List, Option, Some, None, MatchOption, length}
use Rattle.std.proofs.Common.{arith}
use Rattle.std.proofs.lemmas.Bool.{cases_lt}
use Rattle.std.proofs.lemmas.List.{get_or_past}
use Rattle.h26x_payload_units.specs.Places.{HasCodeAt, HasNoCodeBefore, HasNoCodeBetween}

-- no code begins at the last two places of a text
none_last : (text : List ℕ) (k : ℕ) → length text ≤ k + 2 → HasCodeAt text k → ⊥
none_last text k past at = omega (arith, at.1.1, get_or_past text (k + 2) 0 past)

none_by : (text : List ℕ) (i end k : ℕ) → HasNoCodeBefore text i → HasNoCodeBetween text i end → (k < i) ⊎ (i ≤ k)
    → k < end → HasCodeAt text k → ⊥
none_by text i end k none between (inl lt) below at = none k lt at
none_by text i end k none between (inr le) below at = between k le below at

both : (text : List ℕ) (i end : ℕ) → HasNoCodeBefore text i → HasNoCodeBetween text i end → HasNoCodeBefore text end
both text i end none between k lt at = none_by text i end k none between (cases_lt k i) lt at

whole_by : (text : List ℕ) (end k : ℕ) → HasNoCodeBefore text end → length text ≤ end + 2 → (k < end) ⊎ (end ≤ k)
    → HasCodeAt text k → ⊥
whole_by text end k none past (inl lt) at = none k lt at
whole_by text end k none past (inr le) at = none_last text k (omega (arith, past, le)) at

-- what is found, or isn't, after places where no code begins
pub found_behind : (text : List ℕ) (i end : ℕ) (found : Option ℕ) → HasNoCodeBefore text i → end ≡ length text - 2
    → MatchOption found (HasNoCodeBetween text i end) (λ place. HasCodeAt text place × HasNoCodeBetween text i place)
    → MatchOption found (HasNoCodeBefore text (length text)) (λ place. HasCodeAt text place
    × HasNoCodeBefore text place)
found_behind text i end None none is_end between =
    λ k lt at. whole_by text end k (both text i end none between) (omega (arith, is_end)) (cases_lt k end) at
found_behind text i end (Some place) none is_end between = (between.0, both text i place none between.1)
