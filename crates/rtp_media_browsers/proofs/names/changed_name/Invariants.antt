use Rattle.std.proofs.Common.{◌≡◌, length}
use Rattle.std.specs.Option.{option_copied}
use Rattle.sdp_formats_data.specs.Lookups.{first_of}
use Rattle.sdp_formats_grammar.specs.Pieces.{parts_from}
use Rattle.rtp_media_browsers.specs.Names.{changed_in, changed_name}
use Rattle.rtp_media_browsers.proofs.names.changed_name.Given as goal

-- no name so far is changed: the lines that are left decide
abbrev pub invariant-loop-rest : goal.invariant-loop-rest
invariant-loop-rest l =
    first_of changed_in (parts_from 10 (option_copied l.rest)) ≡ changed_name l.fn.text

abbrev pub decreases-loop-rest : goal.decreases-loop-rest
decreases-loop-rest l = length (parts_from 10 (option_copied l.rest))
