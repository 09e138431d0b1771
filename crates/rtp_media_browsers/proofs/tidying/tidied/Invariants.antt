use Rattle.std.proofs.Common.{◌≡◌, ◌++◌, length}
use Rattle.std.specs.Option.{option_copied}
use Rattle.std.specs.String.{string_bytes}
use Rattle.sdp_formats_grammar.specs.Pieces.{parts_from}
use Rattle.rtp_media_browsers.specs.Tidied.{tidied, written}
use Rattle.rtp_media_browsers.proofs.tidying.tidied.Given as goal

-- what is written so far, and what is written of the lines that are left
abbrev pub invariant-loop-rest : goal.invariant-loop-rest
invariant-loop-rest l =
    string_bytes l.out ++ written l.passed (parts_from 10 (option_copied l.rest)) ≡ tidied l.fn.text

abbrev pub decreases-loop-rest : goal.decreases-loop-rest
decreases-loop-rest l = length (parts_from 10 (option_copied l.rest))
