-- IVF files of VP8, VP9 and AV1.
use Rattle.std.specs.Prelude.{ℕ, ◌+◌, ◌-◌, ◌/◌, ◌%◌, ◌==◌, ◌&&◌, Bool, nat_lt, List, [], ◌∷◌, ◌++◌, fold, min}
use Rattle.std.specs.Prelude.{length, slice_index, codes, All, Any, ◌<◌, ◌≤◌, ◌⊎◌, Option, None, Some, if◌then◌else◌}
use Rattle.media_files_captures.specs.Numbers.{u16_at, u16_le, u32_le, u64_le}
use Rattle.media_files.specs.Units.{Timed, delimited}
use Rattle.media_files_captures.specs.declared.numbers.ByteOrder.TheVariants.{Little}
use Rattle.media_files.specs.declared.ivf.IvfCodec.{IvfCodec}
use Rattle.media_files.specs.declared.ivf.IvfCodec.TheVariants.{Vp8, Vp9, Av1}

abbrev pub fourcc : IvfCodec → List ℕ
fourcc Vp8 = codes "VP80"
fourcc Vp9 = codes "VP90"
fourcc Av1 = codes "AV01"

-- The size of a picture.
pub record Size : Type 0 where
  pub width : ℕ
  pub height : ℕ

abbrev pub size_of : ℕ → ℕ → Size
size_of width height = record { width = width; height = height }

-- A VP8 key frame has a start code after its frame tag, then width and height in 14 bits each (RFC 6386 9.1).
abbrev pub is_vp8_key : List ℕ → Bool
is_vp8_key frame = (slice_index frame 0 % 2 == 0) && (slice_index frame 3 == 0x9d) && (slice_index frame 4 == 1)
    && (slice_index frame 5 == 0x2a)

unfoldable pub vp8_size : List ℕ → Option Size
vp8_size frame =
    if nat_lt (length frame) 10 then None
    else if is_vp8_key frame then Some (size_of (u16_at Little frame 6 % 16384) (u16_at Little frame 8 % 16384))
    else None

abbrev pub sized : Option (ℕ × ℕ) → Option Size
sized (Some s) = Some (size_of s.0 s.1)
sized None = None

abbrev pub or_size : Option Size → Size → Size
or_size (Some size) other = size
or_size None other = other

-- The size in the first key frame, and 0 if there is none.
abbrev pub first_vp8_size : List Timed → Size
first_vp8_size [] = size_of 0 0
first_vp8_size (f ∷ frames) = or_size (vp8_size f.bytes) (first_vp8_size frames)

abbrev pub picture_size : IvfCodec → List Timed → Size
picture_size Vp8 frames = first_vp8_size frames
picture_size Vp9 frames = size_of 0 0
picture_size Av1 frames = size_of 0 0

-- The 32-byte header: signature, version 0, its own length, codec, width and height, time base (rate over scale), the
-- length in ticks, four unused bytes.
unfoldable pub signature : IvfCodec → List ℕ
signature codec = codes "DKIF" ++ (u16_le 0 ++ (u16_le 32 ++ fourcc codec))

unfoldable pub clock : ℕ → ℕ → List ℕ
clock rate ticks = u32_le rate ++ (u32_le 1 ++ (u32_le ticks ++ u32_le 0))

unfoldable pub ivf_header : IvfCodec → Size → ℕ → ℕ → List ℕ
ivf_header codec size rate ticks =
    signature codec ++ (u16_le size.width ++ (u16_le size.height ++ clock rate ticks))

-- A frame: how many bytes it has, its time, its bytes.
abbrev pub ivf_frame : ℕ → List ℕ → List ℕ
ivf_frame time bytes = u32_le (length bytes) ++ (u64_le time ++ bytes)

-- Units of AV1 have a temporal delimiter in front.
abbrev pub framed : IvfCodec → List ℕ → List ℕ
framed Vp8 unit = unit
framed Vp9 unit = unit
framed Av1 unit = delimited unit

-- How far a 32-bit timestamp is ahead of a time, modulo 2^32.
abbrev pub ahead : ℕ → ℕ → ℕ
ahead previous low = (low + 4294967296 - previous % 4294967296) % 4294967296

-- The time nearest to the previous one with these low 32 bits, but never below 0.
unfoldable pub nearest_time : ℕ → ℕ → ℕ
nearest_time previous low =
    if nat_lt (ahead previous low) 2147483648 then previous + ahead previous low
    else previous - (4294967296 - ahead previous low)

-- The items, each spelled in the state that the items before it left.
abbrev pub spelled : {S A : Type 0} → (S → A → S) → (S → A → List ℕ) → S → List A → List ℕ
spelled after spell s [] = []
spelled after spell s (a ∷ items) = spell s a ++ spelled after spell (after s a) items

-- A clock that doesn't wrap; it starts high enough that timestamps before the first one fit.
abbrev pub first_time : List Timed → ℕ
first_time [] = 0
first_time (f ∷ frames) = 4294967296 + f.time

abbrev pub time_after : ℕ → Timed → ℕ
time_after previous f = nearest_time previous f.time

-- How many ticks there are from the first frame to the last.
abbrev pub span_of : List Timed → ℕ
span_of frames = fold time_after (first_time frames) frames - first_time frames

-- How many ticks some frames last: their span, and as much for the last one as they have on average; at most what four
-- bytes can say.
unfoldable pub ticks_of : ℕ → ℕ → ℕ
ticks_of count span = if nat_lt count 2 then 0 else min (span + span / (count - 1)) 4294967295

-- The frames, their times counted from the first.
abbrev pub ivf_frames : IvfCodec → ℕ → ℕ → List Timed → List ℕ
ivf_frames codec first previous frames =
    spelled time_after (λ before f. ivf_frame (time_after before f - first) (framed codec f.bytes)) previous frames

-- The file of these frames, at so many ticks a second.
unfoldable pub ivf_file : IvfCodec → ℕ → List Timed → List ℕ
ivf_file codec rate frames =
    ivf_header codec (picture_size codec frames) rate (ticks_of (length frames) (span_of frames))
    ++ ivf_frames codec (first_time frames) (first_time frames) frames

-- Four bytes say how many bytes each frame has.
abbrev pub AllFit : IvfCodec → List Timed → Type 0
AllFit codec frames = All (λ (f : Timed). length (framed codec f.bytes) < 4294967296) frames

-- More frames, or a frame of more bytes, than four bytes can say.
abbrev pub IsTooMuch : IvfCodec → List Timed → Type 0
IsTooMuch codec frames =
    (4294967296 ≤ length frames) ⊎ Any (λ (f : Timed). 4294967296 ≤ length (framed codec f.bytes)) frames
