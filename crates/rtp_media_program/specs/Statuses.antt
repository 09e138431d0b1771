-- How a run ends.
use Rattle.std.specs.Prelude.{ℕ}
use Rattle.rtp_media_program.specs.declared.status.Status.{Status}
use Rattle.rtp_media_program.specs.declared.status.Status.TheVariants.{Success, ErrorLine}

-- The program's exit status.
abbrev pub code_of : Status → ℕ
code_of Success = 0
code_of ErrorLine = 2

-- Once an error line was printed, the status stays ErrorLine.
abbrev pub worse : Status → Status → Status
worse Success later = later
worse ErrorLine later = ErrorLine
