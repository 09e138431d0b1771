use Rattle.std.proofs.Common.{◌≡◌, Some, drop}
use Rattle.media_files_captures.specs.HexLines.{digits_behind}
use Rattle.media_files_captures.proofs.hex_lines.decimal.Given as goal

-- the digits left give what all give
abbrev pub invariant-loop-digit : goal.invariant-loop-digit
invariant-loop-digit l = digits_behind (Some l.number) (drop l.digit-index l.text) ≡ digits_behind (Some 0) l.text
