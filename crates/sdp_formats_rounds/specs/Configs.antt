-- Configs: rows in order.
use Rattle.std.specs.Prelude.{ℕ, Bool, true, false, ◌||◌, ◌==◌, List, [], ◌∷◌, ◌++◌, filter}
use Rattle.std.specs.List.{list_any}
use Rattle.media_types.specs.declared.codec.Codec.{Codec}
use Rattle.sdp_formats_rows.specs.Replaced.{rows_without}
use Rattle.sdp_formats_rows.specs.Rows.{Row}

-- A config: its rows in order, and the redundancy distances that were set (RFC 2198); empty if none were.
pub record Config : Type 0 where
  pub rows : List Row
  pub distances : List ℕ

-- The rows of a codec are removed, and these are appended.
abbrev pub with_rows : Codec → List Row → Config → Config
with_rows codec rows config = record config { rows = rows_without codec config.rows ++ rows }

-- The rows with one more after them.
abbrev pub with_row : Row → Config → Config
with_row row config = record config { rows = config.rows ++ row ∷ [] }

-- The distances in effect: those set, or by default only 1.
abbrev pub distances_of : List ℕ → List ℕ
distances_of [] = 1 ∷ []
distances_of (d ∷ ds) = d ∷ ds

-- The distances kept of those given: 1 to 8, increasing, each once, and always 1 (RFC 2198).
abbrev pub kept_distances : List ℕ → List ℕ
kept_distances given = filter (λ d. d == 1 || list_any (λ e. e == d) given) (1 ∷ 2 ∷ 3 ∷ 4 ∷ 5 ∷ 6 ∷ 7 ∷ 8 ∷ [])

-- The rows of a codec if it is enabled, else none.
abbrev pub rows_if : Bool → List Row → List Row
rows_if true rows = rows
rows_if false rows = []
