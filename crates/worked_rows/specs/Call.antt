-- Codecs that cut samples into pieces, and short samples.
use Rattle.std.specs.Prelude.{◌≡◌, ◌<◌, ◌≤◌, Bool, true, false, length}
use Rattle.media_types.specs.declared.codec.Codec.{Codec}
use Rattle.media_types.specs.declared.codec.Codec.TheVariants.{Opus, PCMU, PCMA, G722}
use Rattle.rtp_wire.specs.Values.{absent}
use Rattle.rtp_media_streams.specs.Sending.{Sample}
use Rattle.sdp_formats_rows.specs.Rows.{Row}
use Rattle.payload_core_buffer.specs.Buffered.{Holding, holding_of}

-- The capacity of the receiving stream in the examples.
abbrev pub opened_to_hold : Holding
opened_to_hold = holding_of 1023 4096

-- A sample that fits one datagram, without header extension values.
pub record IsShortSample (x : Sample) : Type 0 where
  pub some : 0 < length x.bytes
  pub short : length x.bytes ≤ 1199
  pub values : x.values ≡ absent

-- Opus, G.711 and G.722: the packets are plain pieces of the sample (RFC 7587 4.2, RFC 3551 4.5).
abbrev pub sends_pieces : Codec → Bool
sends_pieces Opus = true
sends_pieces PCMU = true
sends_pieces PCMA = true
sends_pieces G722 = true
sends_pieces _ = false

-- A row of one of them.
abbrev pub SendsPieces : Row → Type 0
SendsPieces row = sends_pieces row.spec.codec ≡ true
