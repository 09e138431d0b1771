-- Superframes of VP9 (VP9 bitstream specification, Annex B).
use Rattle.std.specs.Prelude.{ℕ, ◌+◌, ◌-◌, ◌*◌, ◌||◌, nat_lt, List, [], ◌∷◌, ◌++◌, length, take, fold, max}
use Rattle.std.specs.Prelude.{if◌then◌else◌}
use Rattle.std.specs.List.{flat_map}
use Rattle.media_files_captures.specs.Numbers.{u32_le}

-- How many bytes hold a size.
abbrev pub width_of : ℕ → ℕ
width_of size =
    if nat_lt size 256 then 1 else if nat_lt size 65536 then 2 else if nat_lt size 16777216 then 3 else 4

-- The first and last byte of an index: three bits that mark it, the width of a size less one in two bits, the number of
-- frames less one in three.
abbrev pub marker : ℕ → ℕ → ℕ
marker width count = 192 + 8 * (width - 1) + (count - 1)

abbrev pub size_bytes : ℕ → ℕ → List ℕ
size_bytes width size = take width (u32_le size)

abbrev pub index_of : ℕ → List ℕ → List ℕ
index_of width sizes =
    marker width (length sizes) ∷ (flat_map (size_bytes width) sizes ++ marker width (length sizes) ∷ [])

-- What follows the frames of a superframe that have these sizes: nothing after one frame, or after more than an index
-- can count.
unfoldable pub superframe_index : List ℕ → List ℕ
superframe_index sizes =
    if nat_lt (length sizes) 2 || nat_lt 8 (length sizes) then []
    else index_of (width_of (fold max 0 sizes)) sizes
