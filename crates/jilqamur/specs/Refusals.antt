-- Why a stream isn't opened, as a number.
use Rattle.std.specs.Prelude.{ℕ, Option, Some, None}
use Rattle.rtp_media_ends.specs.declared.OpenError.{OpenError}
use Rattle.rtp_media_ends.specs.declared.OpenError.TheVariants as open_error
use Rattle.jilqamur.specs.Codes.{ok, memory, no_section, row_not_agreed, row_differs, wrong_direction}
use Rattle.jilqamur.specs.Codes.{ssrc_not_named, already_open}

-- The number of a refusal to open a stream.
abbrev pub open_code : OpenError → ℕ
open_code open_error.NoSection = no_section
open_code open_error.RowNotAgreed = row_not_agreed
open_code open_error.RowDiffers = row_differs
open_code open_error.WrongDirection = wrong_direction
open_code open_error.SsrcNotNamed = ssrc_not_named
open_code open_error.AlreadyOpen = already_open
open_code open_error.Memory = memory

abbrev pub open_outcome : Option OpenError → ℕ
open_outcome None = ok
open_outcome (Some e) = open_code e
