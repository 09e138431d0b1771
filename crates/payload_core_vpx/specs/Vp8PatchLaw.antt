-- What holds of every patch of a payload whose descriptor was read.
use Rattle.std.specs.Prelude.{◌≡◌, ◌≢◌, ℕ, ◌/◌, ◌<◌, true, List, length, slice_index, Option, Some, None, Ok}
use Rattle.std.specs.Option.{ForSome}
use Rattle.payload_core_vpx.specs.Vp8Descriptor.{key_place, parsed, tl0_place}
use Rattle.payload_core_vpx.specs.Vp8Patches.{Reaches, patch_of, patched, picture_id_end, refusal_of_build}
use Rattle.payload_core_vpx.specs.declared.vp8_descriptor.Vp8Descriptor.{Vp8Descriptor}
use Rattle.payload_core_vpx.specs.declared.vp8_patch.Vp8Patch.{Vp8Patch}
use Rattle.payload_core_vpx.specs.declared.vp8_patch.Vp8PatchBuilder.{Vp8PatchBuilder}

-- The patch writes nothing at this place.
pub record IsApart (patch : Vp8Patch) (k : ℕ) : Type 0 where
  pub picture_id : ForSome patch.picture_id (λ _. (k ≢ 2) × (k ≢ picture_id_end patch.shape.is_long))
  pub tl0_pic_idx : ForSome patch.tl0_pic_idx (λ _. k ≢ tl0_place patch.shape)
  pub key_idx : ForSome patch.key_idx (λ _. k ≢ key_place patch.shape)

-- The patch changes no byte that it doesn't write, nor the M bit before the picture id, nor TID and Y before KEYIDX.
pub record ChangesIdsOnly (patch : Vp8Patch) (old new : List ℕ) : Type 0 where
  pub same_length : length new ≡ length old
  pub other_bytes : (k : ℕ) → IsApart patch k → slice_index new k ≡ slice_index old k
  pub m_bit : patch.shape.has_picture_id ≡ true → slice_index new 2 / 128 ≡ slice_index old 2 / 128
  pub tid_and_y : patch.shape.has_key_idx ≡ true → slice_index new (key_place patch.shape) / 32
      ≡ slice_index old (key_place patch.shape) / 32

-- A builder holding the descriptor's own ids.
abbrev pub own_ids : Vp8Descriptor → Vp8PatchBuilder
own_ids d = record { shape = d.shape; picture_id = d.picture_id; tl0_pic_idx = d.tl0_pic_idx; key_idx = d.key_idx }

-- The ids can be restored: a patch built from the descriptor's own ids gives back the payload.
pub record ComesBack (d : Vp8Descriptor) (old new : List ℕ) : Type 0 where
  pub built : refusal_of_build (own_ids d) ≡ None
  pub restored : patched (patch_of (own_ids d)) new ≡ old

-- The id that is written, or else the old one.
abbrev pub or_old : Option ℕ → Option ℕ → Option ℕ
or_old None old = old
or_old (Some new) old = Some new

-- A descriptor with the ids of a builder in place of its own.
abbrev pub with_ids : Vp8PatchBuilder → Vp8Descriptor → Vp8Descriptor
with_ids b d = record {
  begins_frame = d.begins_frame;
  shape = d.shape;
  picture_id = or_old b.picture_id d.picture_id;
  tl0_pic_idx = or_old b.tl0_pic_idx d.tl0_pic_idx;
  key_idx = or_old b.key_idx d.key_idx;
}

pub record PatchHolds (d : Vp8Descriptor) (b : Vp8PatchBuilder) (payload : List ℕ) : Type 0 where
  pub reaches : Reaches (patch_of b) (length payload)
  pub ids_only : ChangesIdsOnly (patch_of b) payload (patched (patch_of b) payload)
  pub new_ids : parsed (patched (patch_of b) payload) ≡ Ok (with_ids b d)
  pub comes_back : ComesBack d payload (patched (patch_of b) payload)

-- This holds of every patch built from a payload's descriptor, for that payload.
abbrev pub PatchLaw : Type 0
PatchLaw = (payload : List ℕ) (d : Vp8Descriptor) (b : Vp8PatchBuilder) → slice_index payload 3 < 256
    → parsed payload ≡ Ok d → b.shape ≡ d.shape → refusal_of_build b ≡ None → PatchHolds d b payload
