-- Sizes of pictures (H.264 6.2 and 7.4.2.1.1, H.265 6.2 and 7.4.3.2.1).
use Rattle.std.specs.Prelude.{ℕ, ◌+◌, ◌-◌, ◌==◌, ◌||◌, nat_le, nat_lt, List, Option, None, Some, if◌then◌else◌}
use Rattle.codec_headers.specs.Bits.{Read, ◌>>=◌, done, flag, ue}
use Rattle.codec_headers.specs.declared.picture.PictureSize.{PictureSize}

abbrev pub size_of : ℕ → ℕ → PictureSize
size_of width height = record { width = width; height = height }

unfoldable pub fitting : ℕ → ℕ → Option PictureSize
fitting width height =
    if nat_lt 4294967295 width || nat_lt 4294967295 height then None else Some (size_of width height)

-- The samples that are left if some are cut off across and down: at least one of each.
unfoldable pub shown : ℕ → ℕ → ℕ → ℕ → Option PictureSize
shown width across height down =
    if nat_le width across || nat_le height down then None else fitting (width - across) (height - down)

-- SubWidthC and SubHeightC: luma samples to a chroma sample (tables 6-1). The chroma formats 0 to 3 are monochrome,
-- 4:2:0, 4:2:2 and 4:4:4.
abbrev pub sub_width : ℕ → ℕ
sub_width format = if (format == 1) || (format == 2) then 2 else 1

abbrev pub sub_height : ℕ → ℕ
sub_height format = if format == 1 then 2 else 1

-- The offsets of a cropping rectangle from the left, right, top and bottom, if there is one, as sums across and down.
unfoldable pub cuts : List ℕ → Option (Read (ℕ × ℕ))
cuts = do
  left ← ue
  right ← ue
  top ← ue
  bottom ← ue
  done (left + right, top + bottom)

unfoldable pub cropping : List ℕ → Option (Read (ℕ × ℕ))
cropping = do
  is_cropped ← flag
  if is_cropped then cuts else done (0, 0)
