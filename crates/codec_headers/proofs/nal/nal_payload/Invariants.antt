use Rattle.std.proofs.Common.{◌≡◌, ◌++◌, drop}
use Rattle.codec_headers.specs.Nal.{payload, payload_after}
use Rattle.codec_headers.proofs.nal.nal_payload.Given as goal

abbrev pub invariant-loop-byte : goal.invariant-loop-byte
invariant-loop-byte l = payload l.fn.unit ≡ l.out.items ++ payload_after l.before l.last (drop l.byte-index l.unit)
