-- The first bytes of H.264 packets: the NAL unit header, which is F, NRI in two bits and the type in five, and the FU
-- header, which is S, E, R and the type (RFC 6184 1.3, 5.2 and 5.8). S and E are those of all three codecs.
use Rattle.std.specs.Prelude.{ℕ, ◌+◌, ◌*◌, ◌/◌, ◌%◌, ◌==◌, ◌&&◌, nat_le, if◌then◌else◌}
use Rattle.h26x_payload_units.specs.declared.layout.PacketKind.{PacketKind}
use Rattle.h26x_payload_units.specs.declared.layout.PacketKind.TheVariants.{Single, Aggregate, Fragment, Unhandled}

abbrev pub type_of : ℕ → ℕ
type_of header = header % 32

-- Types 1 to 23 are single NAL units, 24 is a STAP-A, 28 an FU-A.
abbrev pub kind_of : ℕ → PacketKind
kind_of header =
    if type_of header == 24 then Aggregate
    else (if type_of header == 28 then Fragment
    else (if nat_le 1 (type_of header) && nat_le (type_of header) 23 then Single
    else Unhandled))

-- The header of the NAL unit that an FU-A starts: F and NRI from the packet's first byte, the type from the FU header.
abbrev pub begun_header : ℕ → ℕ → ℕ
begun_header first fu = first / 32 * 32 + type_of fu
