-- Datagrams that a TURN server relays.
use Rattle.std.specs.Prelude.{ℕ, zero, suc, ◌+◌, ◌==◌, ◌&&◌, ◌||◌, Bool, nat_lt, nat_le, List, length, take, drop}
use Rattle.std.specs.Prelude.{slice_index, Option, None, Some, option_map, if◌then◌else◌}
use Rattle.std.specs.Borrow.{Bor}
use Rattle.media_files_captures.specs.Numbers.{u16_be, u32_at}
use Rattle.media_files_captures.specs.Pcapng.{padded}
use Rattle.media_files_captures.specs.declared.numbers.ByteOrder.TheVariants.{Big}

-- A message on a channel: its number, 4000 to 4FFF in hexadecimal; its length, without this header; what is relayed,
-- which may be followed by padding (RFC 8656 12 and 12.4).
abbrev pub is_on_channel : List ℕ → Bool
is_on_channel bytes = nat_le 64 (slice_index bytes 0) && nat_le (slice_index bytes 0) 79

unfoldable pub channel_data : List ℕ → Option (List ℕ)
channel_data bytes =
    if nat_lt (length bytes) 4 then None
    else if nat_lt (length bytes) (4 + u16_be bytes 2) then None
    else Some (take (u16_be bytes 2) (drop 4 bytes))

-- A message of STUN has a header of 20 bytes: type, length of what follows, magic cookie, transaction (RFC 8489 5). The
-- methods Send and Data are 6 and 7, and an indication adds 10 in hexadecimal (RFC 8656 17, RFC 8489 5).
abbrev pub is_indication : List ℕ → Bool
is_indication bytes = nat_le 20 (length bytes) && ((u16_be bytes 0 == 0x16) || (u16_be bytes 0 == 0x17))
    && (u32_at Big bytes 4 == 0x2112a442)

-- Attributes are a type, a length, and a value that is filled up to fours (RFC 8489 14). This is the value of the first
-- of type DATA (RFC 8656 18.4), among at most n.
unfoldable pub data_attribute : ℕ → List ℕ → Option (List ℕ)
data_attribute zero bytes = None
data_attribute (suc n) bytes =
    if nat_lt (length bytes) 4 then None
    else if nat_lt (length bytes) (4 + padded (u16_be bytes 2)) then None
    else if u16_be bytes 0 == 0x13 then Some (take (u16_be bytes 2) (drop 4 bytes))
    else data_attribute n (drop (4 + padded (u16_be bytes 2)) bytes)

-- What a Send or Data indication relays (RFC 8656 11.1 and 11.3).
unfoldable pub indicated : List ℕ → Option (List ℕ)
indicated bytes =
    if nat_lt (length bytes) (20 + u16_be bytes 2) then None
    else data_attribute (length bytes) (take (u16_be bytes 2) (drop 20 bytes))

-- The datagram that a message of TURN relays.
unfoldable pub relayed : List ℕ → Option (List ℕ)
relayed bytes =
    if length bytes == 0 then None
    else if is_on_channel bytes then channel_data bytes
    else if is_indication bytes then indicated bytes
    else None

abbrev pub bytes_shown : Option (Bor (List ℕ)) → Option (List ℕ)
bytes_shown b = option_map (λ x. x.now) b
