-- Capture files of pcap (draft-ietf-opsawg-pcap 4 and 5).
use Rattle.std.specs.Prelude.{◌≡◌, ℕ, ◌+◌, ◌*◌, ◌%◌, ◌==◌, nat_lt, List, length, take, drop}
use Rattle.std.specs.Prelude.{Option, None, Some, option_map, if◌then◌else◌}
use Rattle.media_files_captures.specs.Numbers.{u32_at}
use Rattle.media_files_captures.specs.Captures.{Packet}
use Rattle.media_files_captures.specs.Runs.{HoldsAll}
use Rattle.media_files_captures.specs.Links.{link_of}
use Rattle.media_files_captures.specs.declared.numbers.ByteOrder.{ByteOrder}
use Rattle.media_files_captures.specs.declared.numbers.ByteOrder.TheVariants.{Big, Little}
use Rattle.media_files_captures.specs.declared.captures.Resolution.TheVariants.{Decimal}
use Rattle.media_files_captures.specs.declared.pcap.PcapHeader.{PcapHeader}

-- The magic numbers of nanosecond and microsecond captures, read as the file's first number.
abbrev pub digits_of : ℕ → Option ℕ
digits_of magic = if magic == 0xa1b2c3d4 then Some 6 else if magic == 0xa1b23c4d then Some 9 else None

abbrev pub format_of : Option ℕ → Option ℕ → Option (ByteOrder × ℕ)
format_of (Some digits) little = Some (Big, digits)
format_of None (Some digits) = Some (Little, digits)
format_of None None = None

-- A file's byte order, and the number of decimal digits in its fractions of a second.
unfoldable pub pcap_format : List ℕ → Option (ByteOrder × ℕ)
pcap_format file = format_of (digits_of (u32_at Big file 0)) (digits_of (u32_at Little file 0))

-- The lower half of the number is the link type; the upper half is about the frame check sequence.
abbrev pub header_of : List ℕ → ByteOrder × ℕ → PcapHeader
header_of file f = record { order = f.0; digits = f.1; link = link_of (u32_at f.0 file 20 % 65536) }

-- The 24-byte file header.
unfoldable pub pcap_header : List ℕ → Option PcapHeader
pcap_header file = if nat_lt (length file) 24 then None else option_map (header_of file) (pcap_format file)

-- How many ticks a second has.
abbrev pub ticks_per_second : ℕ → ℕ
ticks_per_second digits = if digits == 6 then 1000000 else 1000000000

-- A record has a header of 16 bytes: seconds, their fraction, how many bytes are kept, how many there were.
abbrev pub packet_of : PcapHeader → List ℕ → Packet
packet_of h bytes = record {
  ticks = u32_at h.order bytes 0 * ticks_per_second h.digits + u32_at h.order bytes 4;
  resolution = Decimal h.digits;
  link = h.link;
  original_len = u32_at h.order bytes 12;
  bytes = take (u32_at h.order bytes 8) (drop 16 bytes);
}

-- The first record of these bytes, if it is complete, and the bytes after it.
unfoldable pub pcap_record : PcapHeader → List ℕ → Option (Packet × List ℕ)
pcap_record h bytes =
    if nat_lt (length bytes) 16 then None
    else if nat_lt (length bytes) (16 + u32_at h.order bytes 8) then None
    else Some (packet_of h bytes, drop (16 + u32_at h.order bytes 8) bytes)

-- A pcap file holds these packets; the bytes left after the last one are not a complete record.
abbrev pub IsPcap : List ℕ → List Packet → List ℕ → Type 0
IsPcap file packets unread =
    (h : PcapHeader) × (pcap_header file ≡ Some h) × HoldsAll (pcap_record h) (drop 24 file) packets unread
