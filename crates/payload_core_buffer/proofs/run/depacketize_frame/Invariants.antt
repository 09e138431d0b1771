use Rattle.std.proofs.Common.{◌≡◌, take, length}
use Rattle.std.specs.Prelude.{slice_range}
use Rattle.payload_core_buffer.specs.Packets.{packets_of}
use Rattle.payload_core_buffer.specs.Pops.{IsReadAs, run_of}
use Rattle.payload_core_buffer.proofs.run.depacketize_frame.Given as goal

-- the packets so far were read
abbrev pub invariant-loop-held : goal.invariant-loop-held
invariant-loop-held g l =
    let d = g.D.Depacketizer in
    record {
      format : d.format l.depacketizer ≡ d.format l.fn.depacketizer;
      read : IsReadAs (run_of (d.format l.fn.depacketizer) (d.fragment l.fn.depacketizer)
          (packets_of (take (length l.yielded) (slice_range l.held.items l.fn.frame.start l.fn.frame.end))))
          l.bytes.items l.extra (d.fragment l.depacketizer);
    }
