use Rattle.std.proofs.Common.{◌≡◌, ◌++◌, length}
use Rattle.std.specs.List.{flat_map}
use Rattle.std.specs.Option.{option_copied}
use Rattle.sdp_formats_grammar.specs.Pieces.{parts_from}
use Rattle.rtp_media_browsers.specs.Known.{known_alone, known_in}
use Rattle.rtp_media_browsers.proofs.known.known_in.Given as goal

-- what is known so far, and of the parts that are left
abbrev pub invariant-loop-rest : goal.invariant-loop-rest
invariant-loop-rest l =
    l.known.items ++ flat_map known_alone (parts_from 59 (option_copied l.rest)) ≡ known_in l.fn.text

abbrev pub decreases-loop-rest : goal.decreases-loop-rest
decreases-loop-rest l = length (parts_from 59 (option_copied l.rest))
