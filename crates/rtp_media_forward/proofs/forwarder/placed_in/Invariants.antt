use Rattle.std.proofs.Common.{◌≡◌, ◌-◌, drop, length}
use Rattle.std.specs.Prelude.{None}
use Rattle.rtp_media_forward.specs.Forwarding.{placed_in}
use Rattle.rtp_media_forward.proofs.forwarder.placed_in.Given as goal

-- none of the newer pieces has the packet
abbrev pub invariant-loop-newer : goal.invariant-loop-newer
invariant-loop-newer l = placed_in (drop (length l.pieces - l.newer) l.pieces) l.source l.number l.time ≡ None
