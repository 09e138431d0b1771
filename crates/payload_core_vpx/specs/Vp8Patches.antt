-- Patches of the ids in VP8 payload descriptors (RFC 7741 4.2).
use Rattle.std.specs.Prelude.{ℕ, ◌+◌, ◌*◌, ◌/◌, ◌%◌, ◌<◌, Bool, true, false, List, nat_lt, slice_index, slice_set}
use Rattle.std.specs.Prelude.{Option, Some, None, if◌then◌else◌}
use Rattle.std.specs.Option.{ForSome}
use Rattle.payload_core_vpx.specs.Vp8Descriptor.{key_place, tl0_place}
use Rattle.payload_core_vpx.specs.declared.vp8_descriptor.Shape.{Shape}
use Rattle.payload_core_vpx.specs.declared.vp8_patch.Vp8Patch.{Vp8Patch}
use Rattle.payload_core_vpx.specs.declared.vp8_patch.Vp8PatchBuilder.{Vp8PatchBuilder}
use Rattle.payload_core_vpx.specs.declared.vp8_patch.Vp8PatchError.{Vp8PatchError}
use Rattle.payload_core_vpx.specs.declared.vp8_patch.Vp8PatchError.TheVariants.{KeyIdxMissing, KeyIdxTooLarge}
use Rattle.payload_core_vpx.specs.declared.vp8_patch.Vp8PatchError.TheVariants.{PictureIdMissing, PictureIdTooLarge}
use Rattle.payload_core_vpx.specs.declared.vp8_patch.Vp8PatchError.TheVariants.{Tl0PicIdxMissing}

-- A builder without ids, for descriptors of this shape.
abbrev pub builder_of : Shape → Vp8PatchBuilder
builder_of s = record { shape = s; picture_id = None; tl0_pic_idx = None; key_idx = None }

-- The greatest picture id that the field holds.
abbrev pub max_picture_id : Shape → ℕ
max_picture_id s = if s.is_long then 32767 else 127

abbrev pub picture_id_refusal : Shape → Option ℕ → Option Vp8PatchError
picture_id_refusal s None = None
picture_id_refusal s (Some id) = if s.has_picture_id
    then (if nat_lt (max_picture_id s) id then Some PictureIdTooLarge else None) else Some PictureIdMissing

abbrev pub tl0_pic_idx_refusal : Shape → Option ℕ → Option Vp8PatchError
tl0_pic_idx_refusal s None = None
tl0_pic_idx_refusal s (Some index) = if s.has_tl0_pic_idx then None else Some Tl0PicIdxMissing

abbrev pub key_idx_refusal : Shape → Option ℕ → Option Vp8PatchError
key_idx_refusal s None = None
key_idx_refusal s (Some index) = if s.has_key_idx then (if nat_lt 31 index then Some KeyIdxTooLarge else None)
    else Some KeyIdxMissing

abbrev pub first_of_two : Option Vp8PatchError → Option Vp8PatchError → Option Vp8PatchError
first_of_two (Some e) later = Some e
first_of_two None later = later

-- Why no patch is built: the first of the three ids that is invalid.
abbrev pub refusal_of_build : Vp8PatchBuilder → Option Vp8PatchError
refusal_of_build b = first_of_two (picture_id_refusal b.shape b.picture_id)
    (first_of_two (tl0_pic_idx_refusal b.shape b.tl0_pic_idx) (key_idx_refusal b.shape b.key_idx))

abbrev pub patch_with : Shape → (picture_id tl0_pic_idx key_idx : Option ℕ) → Vp8Patch
patch_with s picture_id tl0_pic_idx key_idx =
    record { shape = s; picture_id = picture_id; tl0_pic_idx = tl0_pic_idx; key_idx = key_idx }

abbrev pub patch_of : Vp8PatchBuilder → Vp8Patch
patch_of b = record { shape = b.shape; picture_id = b.picture_id; tl0_pic_idx = b.tl0_pic_idx; key_idx = b.key_idx }

-- The byte with its bits below this weight taken from the value.
abbrev pub with_low : ℕ → ℕ → ℕ → ℕ
with_low weight value byte = byte / weight * weight + value % weight

-- The picture id in the seven bits after M, or in these and the next byte.
abbrev pub with_picture_id : Bool → Option ℕ → List ℕ → List ℕ
with_picture_id long None p = p
with_picture_id false (Some id) p = slice_set p 2 (with_low 128 id (slice_index p 2))
with_picture_id true (Some id) p = slice_set (slice_set p 2 (with_low 128 (id / 256) (slice_index p 2))) 3 (id % 256)

abbrev pub with_tl0_pic_idx : ℕ → Option ℕ → List ℕ → List ℕ
with_tl0_pic_idx place None p = p
with_tl0_pic_idx place (Some index) p = slice_set p place index

-- KEYIDX after TID and Y, which don't change.
abbrev pub with_key_idx : ℕ → Option ℕ → List ℕ → List ℕ
with_key_idx place None p = p
with_key_idx place (Some index) p = slice_set p place (with_low 32 index (slice_index p place))

-- A payload with the ids of a patch.
abbrev pub patched : Vp8Patch → List ℕ → List ℕ
patched patch p = with_key_idx (key_place patch.shape) patch.key_idx
    (with_tl0_pic_idx (tl0_place patch.shape) patch.tl0_pic_idx
    (with_picture_id patch.shape.is_long patch.picture_id p))

-- The last byte of the picture id.
abbrev pub picture_id_end : Bool → ℕ
picture_id_end long = if long then 3 else 2

-- A payload of this length has every byte that the patch writes.
pub record Reaches (patch : Vp8Patch) (size : ℕ) : Type 0 where
  pub picture_id : ForSome patch.picture_id (λ _. picture_id_end patch.shape.is_long < size)
  pub tl0_pic_idx : ForSome patch.tl0_pic_idx (λ _. tl0_place patch.shape < size)
  pub key_idx : ForSome patch.key_idx (λ _. key_place patch.shape < size)
