use Rattle.std.specs.Prelude.{true, false, replicate}
use Rattle.rtp_wire.specs.Values.{absent}
use Rattle.rtp_wire.specs.declared.header.RtpHeader.{RtpHeader}

-- The default header: version 2, an empty extension block, payload type 1.
abbrev pub default_header : RtpHeader
default_header = record {
  version = 2;
  has_padding = false;
  has_extension = true;
  csrc_count = 0;
  marker = false;
  payload_type = 1;
  sequence_number = 0;
  timestamp = 0;
  ssrc = 0;
  csrc = replicate 15 0;
  ext_vals = absent;
  header_len = 16;
}
