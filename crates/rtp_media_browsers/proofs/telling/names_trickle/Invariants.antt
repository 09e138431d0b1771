use Rattle.std.proofs.Common.{◌≡◌, length}
use Rattle.std.specs.Option.{option_copied}
use Rattle.std.specs.List.{list_any}
use Rattle.sdp_formats_grammar.specs.Pieces.{parts_from}
use Rattle.rtp_media_browsers.specs.Remotes.{is_trickle, names_trickle}
use Rattle.rtp_media_browsers.proofs.telling.names_trickle.Given as goal

-- no word so far is it: those that are left decide
abbrev pub invariant-loop-rest : goal.invariant-loop-rest
invariant-loop-rest l =
    list_any is_trickle (parts_from 32 (option_copied l.rest)) ≡ names_trickle l.fn.options

abbrev pub decreases-loop-rest : goal.decreases-loop-rest
decreases-loop-rest l = length (parts_from 32 (option_copied l.rest))
