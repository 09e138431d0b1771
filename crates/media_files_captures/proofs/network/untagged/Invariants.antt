use Rattle.std.proofs.Common.{◌≡◌, length}
use Rattle.media_files_captures.specs.Network.{untagged}
use Rattle.media_files_captures.proofs.network.untagged.Given as goal

-- what is left has what the whole has after its tags
abbrev pub invariant-loop-kind : goal.invariant-loop-kind
invariant-loop-kind l = untagged l.kind l.rest ≡ untagged l.fn.kind l.fn.bytes

abbrev pub decreases-loop-kind : goal.decreases-loop-kind
decreases-loop-kind l = length l.rest
