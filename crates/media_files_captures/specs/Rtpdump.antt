-- Files of rtpdump (rtptools, rtpdump 1.0).
use Rattle.std.specs.Prelude.{◌≡◌, ℕ, ◌+◌, ◌-◌, ◌==◌, nat_eq, nat_lt, List, length, take, drop, codes, position}
use Rattle.std.specs.Prelude.{Option, None, Some, if◌then◌else◌}
use Rattle.std.specs.List.{starts_with}
use Rattle.std.specs.Borrow.{Bor}
use Rattle.media_files_captures.specs.Numbers.{u16_be, u32_at}
use Rattle.media_files_captures.specs.Runs.{HoldsAll}
use Rattle.media_files_captures.specs.declared.numbers.ByteOrder.TheVariants.{Big}
use Rattle.media_files_captures.specs.declared.rtpdump.RtpdumpDatagram.{RtpdumpDatagram}

-- When a datagram came, in milliseconds after the start; its length if it is RTP, or 0 if RTCP; and the bytes kept.
pub record Datagram : Type 0 where
  pub milliseconds : ℕ
  pub rtp_len : ℕ
  pub bytes : List ℕ

abbrev pub datagram_seen : RtpdumpDatagram → Datagram
datagram_seen d = record { milliseconds = d.milliseconds; rtp_len = d.rtp_len; bytes = d.bytes.now }

abbrev pub read_datagram : Option (RtpdumpDatagram × Bor (List ℕ)) → Option (Datagram × List ℕ)
read_datagram None = None
read_datagram (Some d) = Some (datagram_seen d.0, d.1.now)

abbrev pub rest_seen : Option (Bor (List ℕ)) → Option (List ℕ)
rest_seen None = None
rest_seen (Some rest) = Some rest.now

-- The prefix of a file's first line, which ends with a line feed.
abbrev pub first_line : List ℕ
first_line = codes "#!rtpplay1.0 "

-- A 16-byte header follows the first line: start time, address, port, two unused bytes. The records follow it.
abbrev pub behind_line : Option ℕ → List ℕ → Option (List ℕ)
behind_line None file = None
behind_line (Some n) file = if nat_lt (length file) (n + 17) then None else Some (drop (n + 17) file)

unfoldable pub rtpdump_records : List ℕ → Option (List ℕ)
rtpdump_records file =
    if starts_with nat_eq file first_line then behind_line (position (λ b. b == 10) file) file else None

-- A record: its length including the eight-byte header, the datagram's length, its time, the bytes kept.
abbrev pub datagram_of : List ℕ → Datagram
datagram_of bytes = record {
  milliseconds = u32_at Big bytes 4;
  rtp_len = u16_be bytes 2;
  bytes = take (u16_be bytes 0 - 8) (drop 8 bytes);
}

unfoldable pub rtpdump_record : List ℕ → Option (Datagram × List ℕ)
rtpdump_record bytes =
    if nat_lt (length bytes) 8 then None
    else if nat_lt (u16_be bytes 0) 8 then None
    else if nat_lt (length bytes) (u16_be bytes 0) then None
    else Some (datagram_of bytes, drop (u16_be bytes 0) bytes)

-- An rtpdump file holds these datagrams; the bytes left after the last one are not a complete record.
abbrev pub IsRtpdump : List ℕ → List Datagram → List ℕ → Type 0
IsRtpdump file datagrams unread = (records : List ℕ) × (rtpdump_records file ≡ Some records)
    × HoldsAll rtpdump_record records datagrams unread
