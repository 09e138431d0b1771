use Rattle.std.proofs.Common.{◌≡◌, length}
use Rattle.std.specs.Option.{option_copied}
use Rattle.sdp_formats_grammar.specs.Form.{each}
use Rattle.sdp_formats_grammar.specs.Split.{parts}
use Rattle.sdp_formats_grammar.specs.Pieces.{parts_from, with_front}
use Rattle.sdp_formats_grammar.proofs.reads.list_of.Given as goal

-- the values so far and those of the pieces that are left
abbrev pub invariant-loop-rest : goal.invariant-loop-rest
invariant-loop-rest g l =
    let reads = g.R.Reads.reads in
    with_front l.items.items (each reads (parts_from l.at (option_copied l.rest))) ≡ each reads (parts l.at l.fn.text)

abbrev pub decreases-loop-rest : goal.decreases-loop-rest
decreases-loop-rest g l = length (parts_from l.at (option_copied l.rest))
