-- What is kept of the datagrams that a stream sent.
use Rattle.std.specs.Prelude.{◌≡◌, ℕ, ◌+◌, ◌%◌, ◌-◌, ◌==◌, ◌&&◌, nat_le, nat_lt, if◌then◌else◌, List, [], ◌∷◌, length}
use Rattle.std.specs.Prelude.{Bool, false, true, Option, Some, None, is_some, slice_get}
use Rattle.std.specs.BTreeMap.{insert_entry, is_at}
use Rattle.std.specs.Map.{lookup}
use Rattle.std.specs.Ordering.{nat_cmp}

-- A datagram under its number.
abbrev pub Sent : Type 0
Sent = ℕ × List ℕ

-- The datagrams kept, by rising number; the bounds of their count and of their bytes; and the greatest number that
-- went, if one did.
pub record History : Type 0 where
  pub packets : List Sent
  pub most : ℕ
  pub most_bytes : ℕ
  pub gone : Option ℕ

-- How many bytes datagrams have together.
abbrev pub bytes_of : List Sent → ℕ
bytes_of [] = 0
bytes_of (p ∷ ps) = length p.1 + bytes_of ps

-- Whether datagrams fit both bounds.
abbrev pub fits : (most most_bytes : ℕ) → List Sent → Bool
fits most most_bytes ps = nat_le (length ps) most && nat_le (bytes_of ps) most_bytes

-- Of datagrams by rising number the newest that fit: the longest end of the list that does.
abbrev pub newest_fitting : (most most_bytes : ℕ) → List Sent → List Sent
newest_fitting most most_bytes [] = []
newest_fitting most most_bytes (p ∷ ps) =
    if fits most most_bytes (p ∷ ps) then p ∷ ps else newest_fitting most most_bytes ps

-- The greatest number that goes then, or went before.
abbrev pub gone_after : (most most_bytes : ℕ) → Option ℕ → List Sent → Option ℕ
gone_after most most_bytes gone [] = gone
gone_after most most_bytes gone (p ∷ ps) =
    if fits most most_bytes (p ∷ ps) then gone else gone_after most most_bytes (Some p.0) ps

-- Whether a datagram of this number is among these.
abbrev pub is_held : List Sent → (number : ℕ) → Bool
is_held ps number = is_some (lookup (is_at (nat_cmp number)) ps)

-- A datagram among others at its number; one that is there already stays.
abbrev pub placed_in : List Sent → (number : ℕ) → (datagram : List ℕ) → List Sent
placed_in ps number datagram = if is_held ps number then ps else insert_entry nat_cmp ps number datagram

-- Nothing is kept.
abbrev pub nothing_kept : (most most_bytes : ℕ) → History
nothing_kept most most_bytes = record { packets = []; most = most; most_bytes = most_bytes; gone = None }

-- With these datagrams, of which the newest that fit are kept.
abbrev pub with_packets : History → List Sent → History
with_packets h ps = record h {
  packets = newest_fitting h.most h.most_bytes ps;
  gone = gone_after h.most h.most_bytes h.gone ps;
}

-- Whether a number is one that went, or below one.
abbrev pub is_gone : Option ℕ → ℕ → Bool
is_gone None number = false
is_gone (Some g) number = nat_le number g

-- After one datagram more, unless its number is below one that went.
abbrev pub kept : History → (number : ℕ) → (datagram : List ℕ) → History
kept h number datagram = if is_gone h.gone number then h else with_packets h (placed_in h.packets number datagram)

-- The greatest number of a datagram that is kept.
abbrev pub number_of : Option Sent → ℕ
number_of None = 0
number_of (Some p) = p.0

abbrev pub newest : List Sent → ℕ
newest ps = number_of (slice_get ps (length ps - 1))

-- Whether a number is the one that a NACK means by its low 16 bits: one of the last 65,536 up to the newest
-- (RFC 4585 6.2.1, PID).
abbrev pub is_meant : (newest low number : ℕ) → Bool
is_meant newest low number = (number % 65536 == low) && nat_lt newest (number + 65536)

-- The datagram that a NACK asks for, if it is kept.
abbrev pub asked : History → (low : ℕ) → Option (List ℕ)
asked h low = lookup (is_meant (newest h.packets) low) h.packets

-- What a store holds fits, and its bytes are counted.
abbrev pub IsWithin : List Sent → (bytes most most_bytes : ℕ) → Type 0
IsWithin ps bytes most most_bytes = (bytes ≡ bytes_of ps) × (fits most most_bytes ps ≡ true)
