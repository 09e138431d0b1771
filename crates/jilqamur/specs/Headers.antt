use Rattle.std.specs.Prelude.{ℕ, List, length, ◌||◌, nat_lt, if◌then◌else◌}
use Rattle.rtp_wire.specs.Header.{spelled}
use Rattle.rtp_wire.specs.declared.header.RtpHeader.{RtpHeader}
use Rattle.rtp_wire.specs.Maps.{empty_map}
use Rattle.rtp_wire.specs.Values.{absent}
use Rattle.jilqamur.specs.declared.header.WireHeader.{WireHeader}
use Rattle.jilqamur.specs.Codes.{ok, unwritable, too_small}

-- A parsed header, as C sees it.
abbrev pub as_wire : RtpHeader → WireHeader
as_wire h = record {
  has_padding = h.has_padding;
  has_extension = h.has_extension;
  marker = h.marker;
  payload_type = h.payload_type;
  sequence_number = h.sequence_number;
  timestamp = h.timestamp;
  ssrc = h.ssrc;
  csrc_count = h.csrc_count;
  csrc = h.csrc;
  header_len = h.header_len;
}

-- The header to write; its extension block, if it has one, is empty.
abbrev pub as_header : WireHeader → RtpHeader
as_header h = record {
  version = 2;
  has_padding = h.has_padding;
  has_extension = h.has_extension;
  csrc_count = h.csrc_count;
  marker = h.marker;
  payload_type = h.payload_type;
  sequence_number = h.sequence_number;
  timestamp = h.timestamp;
  ssrc = h.ssrc;
  csrc = h.csrc;
  ext_vals = absent;
  header_len = 0;
}

-- What writing a header into a buffer answers.
abbrev pub write_outcome : WireHeader → List ℕ → ℕ
write_outcome h buffer =
    if (nat_lt 127 h.payload_type || nat_lt 15 h.csrc_count) then unwritable
    else (if (nat_lt (length buffer) (length (spelled empty_map (as_header h)))) then too_small else ok)
