-- The packetizer and depacketizer used where the caller supplies none.
use Rattle.std.specs.Prelude.{false, [], Ok}
use Rattle.payload_core_base.specs.Format.{Format}
use Rattle.payload_core_base.specs.Packing.{Packing}
use Rattle.payload_core_base.specs.Stateless.{no_marker, sent_as}

-- No packet is sent.
abbrev pub no_packing : Packing
no_packing = record { pack = λ sender limit sample. sent_as sender []; marks = no_marker }

-- No packet is a head or a tail, and none gives any bytes.
abbrev pub no_format : Format
no_format = record {
  head = λ packet. false;
  tail = λ marker packet. false;
  read = λ fragment extra packet. Ok (record { written = []; extra = extra; fragment = fragment });
}
