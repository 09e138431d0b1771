-- Ids of VP8 payloads that are moved on, each on the circle of its field (RFC 7741 4.2).
use Rattle.std.specs.Prelude.{◌≡◌, ℕ, ◌+◌, ◌-◌, ◌%◌, ◌<◌, List, slice_index, Option, Some, None, Result, Ok, Err}
use Rattle.payload_core_vpx.specs.Vp8Descriptor.{parsed}
use Rattle.payload_core_vpx.specs.Vp8PatchLaw.{ChangesIdsOnly, with_ids}
use Rattle.payload_core_vpx.specs.Vp8Patches.{max_picture_id, patch_of, patched}
use Rattle.payload_core_vpx.specs.declared.vp8_descriptor.Vp8Descriptor.{Vp8Descriptor}
use Rattle.payload_core_vpx.specs.declared.vp8_descriptor.Vp8DescriptorError.{Vp8DescriptorError}
use Rattle.payload_core_vpx.specs.declared.vp8_patch.Vp8PatchBuilder.{Vp8PatchBuilder}
use Rattle.payload_core_vpx.specs.declared.vp8_shift.Vp8Shift.{Vp8Shift}

-- An id, so much further on a circle of this size.
abbrev pub moved : (size shift : ℕ) → Option ℕ → Option ℕ
moved size shift None = None
moved size shift (Some id) = Some ((id + shift) % size)

-- How many picture ids a descriptor's field holds: 2^7 or 2^15.
abbrev pub picture_ids : Vp8Descriptor → ℕ
picture_ids d = max_picture_id d.shape + 1

-- The descriptor's ids, moved on.
abbrev pub moved_ids : Vp8Shift → Vp8Descriptor → Vp8PatchBuilder
moved_ids s d = record {
  shape = d.shape;
  picture_id = moved (picture_ids d) s.picture_id d.picture_id;
  tl0_pic_idx = moved 256 s.tl0_pic_idx d.tl0_pic_idx;
  key_idx = moved 32 s.key_idx d.key_idx;
}

-- A payload with its ids moved on; as it is, if it has no descriptor.
abbrev pub moved_by : Vp8Shift → List ℕ → Result Vp8Descriptor Vp8DescriptorError → List ℕ
moved_by s p (Ok d) = patched (patch_of (moved_ids s d)) p
moved_by s p (Err e) = p

abbrev pub moved_payload : Vp8Shift → List ℕ → List ℕ
moved_payload s p = moved_by s p (parsed p)

-- How far an id is moved on a circle of this size so that it follows another one; not at all if one of them is missing.
abbrev pub shift_after : (size : ℕ) → (last first : Option ℕ) → ℕ
shift_after size None first = 0
shift_after size (Some last) None = 0
shift_after size (Some last) (Some first) = (last + 1 + (size - first)) % size

abbrev pub continuing : (last first : Vp8Descriptor) → Vp8Shift
continuing last first = record {
  picture_id = shift_after (picture_ids first) last.picture_id first.picture_id;
  tl0_pic_idx = shift_after 256 last.tl0_pic_idx first.tl0_pic_idx;
  key_idx = shift_after 32 last.key_idx first.key_idx;
}

-- A moved payload is read with the moved ids, and nothing else in it changes.
pub record IsMoved (s : Vp8Shift) (d : Vp8Descriptor) (payload : List ℕ) : Type 0 where
  pub new_ids : parsed (moved_payload s payload) ≡ Ok (with_ids (moved_ids s d) d)
  pub ids_only : ChangesIdsOnly (patch_of (moved_ids s d)) payload (moved_payload s payload)

abbrev pub MovesLaw : Type 0
MovesLaw = (s : Vp8Shift) (payload : List ℕ) (d : Vp8Descriptor) → slice_index payload 3 < 256
    → parsed payload ≡ Ok d → IsMoved s d payload

-- The first id follows the last one, and the distances of ids stay.
abbrev pub ContinuesLaw : Type 0
ContinuesLaw = (size last first id : ℕ) → first < size → id < size →
    (moved size (shift_after size (Some last) (Some first)) (Some first) ≡ Some ((last + 1) % size))
    × (moved size (shift_after size (Some last) (Some first)) (Some id)
    ≡ Some ((last + 1 + (id + (size - first))) % size))
