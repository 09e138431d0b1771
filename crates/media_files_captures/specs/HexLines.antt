-- Datagrams in lines of hexadecimal, with or without milliseconds in front.
use Rattle.std.specs.Prelude.{◌≡◌, ◌<◌, ℕ, ◌+◌, ◌-◌, ◌*◌, ◌==◌, ◌&&◌, ◌||◌, Bool, not, nat_lt, nat_le, List, [], ◌∷◌}
use Rattle.std.specs.Prelude.{length, take, drop, position, slice_index, Option, None, Some, option_map, if◌then◌else◌}
use Rattle.std.specs.List.{flat_map, prefix_len}
use Rattle.std.specs.Option.{option_to_list}
use Rattle.std.specs.Result.{result_ok}
use Rattle.std.specs.Borrow.{Bor}
use Rattle.hex.specs.Hex.{decode_of}
use Rattle.media_files_captures.specs.Runs.{HoldsAll}
use Rattle.media_files_captures.specs.declared.hex_lines.HexDatagram.{HexDatagram}

-- When a datagram came, in milliseconds, if its line says it; its bytes.
pub record Datagram : Type 0 where
  pub milliseconds : Option ℕ
  pub bytes : List ℕ

abbrev pub datagram_of : Option ℕ → List ℕ → Datagram
datagram_of milliseconds bytes = record { milliseconds = milliseconds; bytes = bytes }

abbrev pub datagram_shown : HexDatagram → Datagram
datagram_shown d = datagram_of d.milliseconds d.bytes.items

abbrev pub said_shown : Option (Option HexDatagram) → Option (Option Datagram)
said_shown s = option_map (λ d. option_map datagram_shown d) s

-- The bytes of digits in pairs, of either case.
unfoldable pub hex_bytes : List ℕ → Option (List ℕ)
hex_bytes text = result_ok (decode_of text)

-- The value of decimal digits; None if a byte isn't a digit, or the number doesn't fit in 64 bits.
abbrev pub is_digit : ℕ → Bool
is_digit c = nat_le 48 c && nat_le c 57

unfoldable pub with_digit : ℕ → ℕ → Option ℕ
with_digit n c =
    if is_digit c && nat_lt (10 * n + (c - 48)) 18446744073709551616 then Some (10 * n + (c - 48)) else None

abbrev pub digits_behind : Option ℕ → List ℕ → Option ℕ
digits_behind found [] = found
digits_behind None (c ∷ text) = None
digits_behind (Some n) (c ∷ text) = digits_behind (with_digit n c) text

unfoldable pub decimal : List ℕ → Option ℕ
decimal text = if length text == 0 then None else digits_behind (Some 0) text

-- The datagram of a line: its bytes, optionally preceded by milliseconds and a blank.
abbrev pub timed : Option ℕ → Option (List ℕ) → Option Datagram
timed (Some n) (Some bytes) = Some (datagram_of (Some n) bytes)
timed (Some n) None = None
timed None bytes = None

abbrev pub datagram_at : Option ℕ → List ℕ → Option Datagram
datagram_at None line = option_map (datagram_of None) (hex_bytes line)
datagram_at (Some n) line = timed (decimal (take n line)) (hex_bytes (drop (n + 1) line))

unfoldable pub datagram_in : List ℕ → Option Datagram
datagram_in line = datagram_at (position (λ b. b == 32) line) line

-- An empty line and a line starting with '#' are skipped; any other line holds a datagram, or is bad.
abbrev pub is_silent : List ℕ → Bool
is_silent line = (length line == 0) || (slice_index line 0 == 35)

unfoldable pub said : List ℕ → Option (Option Datagram)
said line = if is_silent line then Some None else option_map (λ d. Some d) (datagram_in line)

-- A line may end in a carriage return.
unfoldable pub trimmed : List ℕ → List ℕ
trimmed line =
    if nat_lt 0 (length line) && (slice_index line (length line - 1) == 13) then take (length line - 1) line else line

-- The first line of a text ends at its line feed, or at the text's end.
abbrev pub line_length : List ℕ → ℕ
line_length text = prefix_len (λ b. not (b == 10)) text

abbrev pub with_rest : {A : Type 0} → Option A → List ℕ → Option (A × List ℕ)
with_rest None rest = None
with_rest (Some a) rest = Some (a, rest)

unfoldable pub hex_line : List ℕ → Option (Option Datagram × List ℕ)
hex_line text =
    if length text == 0 then None
    else with_rest (said (trimmed (take (line_length text) text))) (drop (line_length text + 1) text)

abbrev pub line_shown : Option (Option HexDatagram × Bor (List ℕ)) → Option (Option Datagram × List ℕ)
line_shown None = None
line_shown (Some l) = Some (option_map datagram_shown l.0, l.1.now)

-- The text holds these datagrams: each of its lines can be read.
abbrev pub IsHexText : List ℕ → List Datagram → Type 0
IsHexText text datagrams = (lines : List (Option Datagram)) × HoldsAll hex_line text lines []
    × (datagrams ≡ flat_map option_to_list lines)

-- The line with this number is the first that is neither skipped nor a datagram.
abbrev pub IsBadAt : List ℕ → ℕ → Type 0
IsBadAt text number = (lines : List (Option Datagram)) × (rest : List ℕ) × HoldsAll hex_line text lines rest
    × (0 < length rest) × (number ≡ length lines + 1)
