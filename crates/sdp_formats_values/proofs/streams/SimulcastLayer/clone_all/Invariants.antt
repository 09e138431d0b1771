use Rattle.std.proofs.Common.{◌≡◌, ◌++◌, drop}
use Rattle.sdp_formats_values.proofs.streams.SimulcastLayer.clone_all.Given as goal

-- the copies so far and the values that are left
abbrev pub invariant-loop-layer : goal.invariant-loop-layer
invariant-loop-layer l = l.copies.items ++ drop l.layer-index l.layers ≡ l.fn.layers
