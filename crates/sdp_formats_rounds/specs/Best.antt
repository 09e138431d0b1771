-- The last row with the highest score.
use Rattle.std.specs.Prelude.{◌≡◌, ℕ, Bool, true, false, IsTrue, nat_le, nat_lt, Option, Some, None, is_none, List, ◌∷◌}
use Rattle.std.specs.Prelude.{◌++◌, fold, if◌then◌else◌}
use Rattle.std.specs.List.{list_all}
use Rattle.sdp_formats_rows.specs.declared.spec.CodecSpec.{CodecSpec}
use Rattle.sdp_formats_rows.specs.Rows.{Row}
use Rattle.sdp_formats_rows.specs.Scores.{score}

-- Whether there are points, and no fewer than the best so far.
abbrev pub is_reached : Option ℕ → Option ℕ → Bool
is_reached best None = false
is_reached None (Some points) = true
is_reached (Some best) (Some points) = nat_le best points

abbrev pub points_of : CodecSpec → Option Row → Option ℕ
points_of spec None = None
points_of spec (Some row) = score spec row.spec

abbrev pub better : CodecSpec → Option Row → Row → Option Row
better spec best row = if is_reached (points_of spec best) (score spec row.spec) then Some row else best

-- The best row, the last of equal ones.
abbrev pub best_row : CodecSpec → List Row → Option Row
best_row spec rows = fold (better spec) None rows

-- No match, or one of at most so many points; no match, or one of fewer.
abbrev pub is_at_most : ℕ → Option ℕ → Bool
is_at_most points None = true
is_at_most points (Some p) = nat_le p points

abbrev pub is_below : ℕ → Option ℕ → Bool
is_below points None = true
is_below points (Some p) = nat_lt p points

-- The row matches, none before it has more points, and none after it has as many.
pub record IsBest (spec : CodecSpec) (rows : List Row) (best : Row) : Type 0 where
  pub before : List Row
  pub behind : List Row
  pub points : ℕ
  pub placed : rows ≡ before ++ best ∷ behind
  pub scored : score spec best.spec ≡ Some points
  pub none_better : IsTrue (list_all (λ row. is_at_most points (score spec row.spec)) before)
  pub last : IsTrue (list_all (λ row. is_below points (score spec row.spec)) behind)

-- The best row is the last with the highest score; if there is none, no row matches.
abbrev pub BestIsBest : Type 0
BestIsBest = (spec : CodecSpec) (rows : List Row) (best : Row) → best_row spec rows ≡ Some best
    → IsBest spec rows best

abbrev pub NoneMatches : Type 0
NoneMatches = (spec : CodecSpec) (rows : List Row) → best_row spec rows ≡ None
    → IsTrue (list_all (λ row. is_none (score spec row.spec)) rows)
