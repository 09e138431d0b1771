-- The payload type a remote row is used with.
use Rattle.std.specs.Prelude.{ℕ, Bool, true, false, Option, Some, None}
use Rattle.sdp_formats_rows.specs.Rows.{Row}

-- The payload type for a remote row, given the own row that matches it best: the remote row's if the other end
-- receives, otherwise the own row's.
abbrev pub type_for : Bool → Row → Option Row → Option ℕ
type_for receives remote None = None
type_for true remote (Some own) = Some remote.pt
type_for false remote (Some own) = Some own.pt
