-- Headers with extensions.
use Rattle.std.specs.Prelude.{ℕ, not}
use Rattle.rtp_wire.specs.Default.{default_header}
use Rattle.rtp_wire.specs.declared.header.RtpHeader.{RtpHeader}
use Rattle.rtp_wire.specs.Maps.{is_empty_map}
use Rattle.benchmarks.specs.declared.headers.Extensions.{Extensions}

-- A header of this number with these extensions, and nothing else set.
abbrev pub header_with : Extensions → ℕ → RtpHeader
header_with extensions number = record default_header {
  sequence_number = number;
  has_extension = not (is_empty_map extensions.map);
  ext_vals = extensions.values;
}
