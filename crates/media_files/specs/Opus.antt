-- Opus packets (RFC 6716 3) in Ogg (RFC 7845).
use Rattle.std.specs.Prelude.{ℕ, ◌+◌, ◌-◌, ◌*◌, ◌/◌, ◌%◌, ◌==◌, ◌&&◌, ◌<◌, ◌⊎◌, Bool, true, false, nat_lt, nat_le, not}
use Rattle.std.specs.Prelude.{List, [], ◌∷◌, ◌++◌, length, slice_index, codes, Any, Option, None, Some, if◌then◌else◌}
use Rattle.std.specs.Prelude.{option_map}
use Rattle.std.specs.Borrow.{Bor}
use Rattle.media_files_captures.specs.Numbers.{u16_le, u32_le}
use Rattle.media_files.specs.Ogg.{Place, page, flags_of, longest_packet}

-- How many samples, at 48,000 a second, a frame of a configuration has (RFC 6716 3.1, table 2): 10, 20, 40 or 60 ms of
-- SILK, 10 or 20 ms of both layers, 2.5, 5, 10 or 20 ms of CELT.
abbrev pub celt_samples : ℕ → ℕ
celt_samples k = if k == 0 then 120 else if k == 1 then 240 else if k == 2 then 480 else 960

abbrev pub silk_samples : ℕ → ℕ
silk_samples k = if k == 0 then 480 else if k == 1 then 960 else if k == 2 then 1920 else 2880

unfoldable pub frame_samples : ℕ → ℕ
frame_samples config =
    if nat_lt config 12 then silk_samples (config % 4)
    else if nat_lt config 16 then silk_samples (config % 2)
    else celt_samples (config % 4)

-- How many frames a packet has, by the code in its first byte's lowest bits; with code 3 a second byte says it (RFC
-- 6716 3.2).
unfoldable pub opus_frames : List ℕ → ℕ
opus_frames packet =
    if length packet == 0 then 0
    else if slice_index packet 0 % 4 == 0 then 1
    else if slice_index packet 0 % 4 == 3 then (if nat_lt (length packet) 2 then 0 else slice_index packet 1 % 64)
    else 2

abbrev pub at_most_120_ms : ℕ → ℕ
at_most_120_ms samples = if nat_le samples 5760 then samples else 0

-- How many samples a packet has; 0 if it is none, as one of more than 120 ms (RFC 6716 3.2.5).
unfoldable pub opus_duration : List ℕ → ℕ
opus_duration packet = at_most_120_ms (opus_frames packet * frame_samples (slice_index packet 0 / 8))

-- A packet of silence as long as another: the same frames, each empty.
unfoldable pub silence_of : List ℕ → List ℕ
silence_of packet =
    if length packet == 0 then []
    else if slice_index packet 0 % 4 == 2 then (slice_index packet 0 - 1) ∷ []
    else if (slice_index packet 0 % 4 == 3) && nat_lt 1 (length packet)
    then slice_index packet 0 ∷ (slice_index packet 1 % 64 ∷ [])
    else slice_index packet 0 ∷ []

-- A packet with a valid duration.
abbrev pub is_sound : List ℕ → Bool
is_sound packet = not (opus_duration packet == 0)

abbrev pub if_sound : Bool → List ℕ → Option (List ℕ)
if_sound true packet = Some packet
if_sound false packet = None

unfoldable pub sound : Option (List ℕ) → Option (List ℕ)
sound None = None
sound (Some packet) = if_sound (is_sound packet) packet

-- What is heard in place of a packet: itself, or silence as long as the one before.
abbrev pub heard_of : Option (List ℕ) → List ℕ → List ℕ
heard_of (Some packet) previous = packet
heard_of None previous = silence_of previous

abbrev pub kept_of : Option (List ℕ) → List ℕ → List ℕ
kept_of (Some packet) previous = packet
kept_of None previous = previous

-- The packets from the first valid one on.
abbrev pub from_sound : List (Option (List ℕ)) → List (Option (List ℕ))
from_sound [] = []
from_sound (None ∷ packets) = from_sound packets
from_sound (Some p ∷ packets) = if is_sound p then Some p ∷ packets else from_sound packets

-- A stream: channel count, pre-skip, serial number.
pub record Stream : Type 0 where
  pub channels : ℕ
  pub pre_skip : ℕ
  pub serial : ℕ

-- The OpusHead header, version 1: channels, pre-skip, input rate, gain 0, mapping family 0 (RFC 7845 5.1).
unfoldable pub opus_head : Stream → List ℕ
opus_head s = codes "OpusHead" ++ (1 ∷ (s.channels ∷ (u16_le s.pre_skip ++ (u32_le 48000 ++ (u16_le 0 ++ 0 ∷ [])))))

-- The OpusTags header: the vendor string, no user comments (RFC 7845 5.2).
unfoldable pub opus_tags : List ℕ
opus_tags = codes "OpusTags" ++ (u32_le 11 ++ (codes "media_files" ++ u32_le 0))

-- Where the packets are: the last one that came whole, how many samples there were, the number of the next page.
pub record Playing : Type 0 where
  pub previous : List ℕ
  pub granule : ℕ
  pub sequence : ℕ

abbrev pub playing : List ℕ → ℕ → ℕ → Playing
playing previous granule sequence = record { previous = previous; granule = granule; sequence = sequence }

abbrev pub playing_after : Playing → Option (List ℕ) → Playing
playing_after at item = playing (kept_of (sound item) at.previous)
    (at.granule + opus_duration (kept_of (sound item) at.previous)) (at.sequence + 1)

abbrev pub place_of : ℕ → Playing → Bool → Place
place_of serial after is_last = record {
  flags = flags_of false is_last;
  granule = after.granule;
  serial = serial;
  sequence = after.sequence - 1;
}

-- The page of a packet, which ends the stream if it is the last.
abbrev pub sound_page : ℕ → Playing → Option (List ℕ) → Bool → List ℕ
sound_page serial at item is_last =
    page (place_of serial (playing_after at item) is_last) (heard_of (sound item) at.previous)

abbrev pub is_empty : List (Option (List ℕ)) → Bool
is_empty [] = true
is_empty (p ∷ packets) = false

abbrev pub sound_pages : ℕ → Playing → List (Option (List ℕ)) → List ℕ
sound_pages serial at [] = []
sound_pages serial at (p ∷ packets) =
    sound_page serial at p (is_empty packets) ++ sound_pages serial (playing_after at p) packets

abbrev pub head_page : Stream → List ℕ
head_page s = page (record { flags = flags_of true false; granule = 0; serial = s.serial; sequence = 0 }) (opus_head s)

abbrev pub tags_page : ℕ → Bool → List ℕ
tags_page serial is_last =
    page (record { flags = flags_of false is_last; granule = 0; serial = serial; sequence = 1 }) opus_tags

-- The file: header and comments each on a page of their own, then a page for each packet.
unfoldable pub opus_file : Stream → List (Option (List ℕ)) → List ℕ
opus_file s packets = head_page s ++ (tags_page s.serial (is_empty (from_sound packets))
    ++ sound_pages s.serial (playing [] 0 2) (from_sound packets))

-- What an item of a list shows.
abbrev pub item : Option (Bor (List ℕ)) → Option (List ℕ)
item p = option_map (λ x. x.now) p

-- A packet that came whole and that no page has room for.
abbrev pub IsLong : Option (List ℕ) → Type 0
IsLong None = ⊥
IsLong (Some packet) = longest_packet < length packet

-- More packets than page numbers allow, or one, from the first valid packet on, that is too long for a page.
abbrev pub IsTooMuch : List (Option (List ℕ)) → Type 0
IsTooMuch packets = (4294967293 < length packets) ⊎ Any IsLong (from_sound packets)
