-- Ids that are moved on fit their fields.
use Rattle.std.proofs.Common.{◌≡◌, ℕ, ◌+◌, ◌-◌, ◌*◌, ◌%◌, ◌<◌, Bool, true, false, List, [], ◌∷◌, drop}
use Rattle.std.proofs.Common.{None, Some, Ok, if◌then◌else◌, refl, sym, ap, subst, ◌∙◌, arith}
use Rattle.std.specs.Prelude.{slice_index}
use Rattle.std.proofs.Math.Nat.{add-mod-mod, add-mod_right}
use Rattle.payload_core_vpx.specs.Vp8Descriptor.{described_in, key_idx_in, key_place, layout_size, parsed}
use Rattle.payload_core_vpx.specs.Vp8Descriptor.{picture_id_in, shape_of, tl0_pic_idx_in, tl0_place}
use Rattle.payload_core_vpx.specs.Vp8PatchLaw.{ChangesIdsOnly, PatchHolds}
use Rattle.payload_core_vpx.specs.Vp8Patches.{key_idx_refusal, max_picture_id, patch_of, picture_id_refusal}
use Rattle.payload_core_vpx.specs.Vp8Patches.{refusal_of_build, tl0_pic_idx_refusal}
use Rattle.payload_core_vpx.specs.Vp8Shifts.{ContinuesLaw, MovesLaw, moved, moved_by, moved_ids}
use Rattle.payload_core_vpx.specs.declared.vp8_descriptor.Shape.{Shape}
use Rattle.payload_core_vpx.specs.declared.vp8_descriptor.Vp8Descriptor.{Vp8Descriptor}
use Rattle.std.specs.Prelude.{Result}
use Rattle.payload_core_vpx.specs.declared.vp8_descriptor.Vp8DescriptorError.{Vp8DescriptorError}
use Rattle.payload_core_vpx.specs.declared.vp8_patch.Vp8PatchError.TheVariants.{KeyIdxTooLarge, PictureIdTooLarge}
use Rattle.payload_core_vpx.specs.declared.vp8_shift.Vp8Shift.{Vp8Shift}
use Rattle.payload_core_vpx.proofs.PatchLaw.{frame_behind, none_of, not_above, patch_law}

id_fits : (s : Shape) (shift : ℕ) (p : List ℕ)
    → picture_id_refusal s (moved (max_picture_id s + 1) shift (picture_id_in s p)) ≡ None
id_fits s shift p = by_width s.has_picture_id s.is_long
  where
    by_width : (i m : Bool) → picture_id_refusal (record s { has_picture_id = i; is_long = m })
        (moved (max_picture_id (record s { has_picture_id = i; is_long = m }) + 1) shift
        (picture_id_in (record s { has_picture_id = i; is_long = m }) p)) ≡ None
    by_width true true = not_above ((slice_index p 2 % 128 * 256 + slice_index p 3 + shift) % 32768) 32767
        PictureIdTooLarge (omega arith)
    by_width true false = not_above ((slice_index p 2 % 128 + shift) % 128) 127 PictureIdTooLarge (omega arith)
    by_width false m = refl

tl0_fits : (s : Shape) (shift : ℕ) (p : List ℕ) → tl0_pic_idx_refusal s (moved 256 shift (tl0_pic_idx_in s p)) ≡ None
tl0_fits s shift p = by_there s.has_tl0_pic_idx (slice_index p (tl0_place s))
  where
    by_there : (l : Bool) (v : ℕ) → tl0_pic_idx_refusal (record s { has_tl0_pic_idx = l })
        (moved 256 shift (if l then Some v else None)) ≡ None
    by_there true v = refl
    by_there false v = refl

key_fits : (s : Shape) (shift : ℕ) (p : List ℕ) → key_idx_refusal s (moved 32 shift (key_idx_in s p)) ≡ None
key_fits s shift p = by_there s.has_key_idx (slice_index p (key_place s))
  where
    by_there : (k : Bool) (v : ℕ) → key_idx_refusal (record s { has_key_idx = k })
        (moved 32 shift (if k then Some (v % 32) else None)) ≡ None
    by_there true v = not_above ((v % 32 + shift) % 32) 31 KeyIdxTooLarge (omega arith)
    by_there false v = refl

pub moved_fits : (s : Vp8Shift) (p : List ℕ) (d : Vp8Descriptor) → parsed p ≡ Ok d
    → refusal_of_build (moved_ids s d) ≡ None
moved_fits s [] d is = absurd (cc)
moved_fits s (c ∷ cs) d is =
    let p : List ℕ = c ∷ cs in
    let z : Shape = shape_of p in
    let frame = frame_behind (described_in z p) d (drop (layout_size z) p) is in
    subst (λ (e : Vp8Descriptor). refusal_of_build (moved_ids s e) ≡ None) (sym frame.1)
    (none_of (picture_id_refusal z (moved (max_picture_id z + 1) s.picture_id (picture_id_in z p)))
    (tl0_pic_idx_refusal z (moved 256 s.tl0_pic_idx (tl0_pic_idx_in z p)))
    (key_idx_refusal z (moved 32 s.key_idx (key_idx_in z p)))
    (id_fits z s.picture_id p) (tl0_fits z s.tl0_pic_idx p) (key_fits z s.key_idx p))

pub moved_holds : (s : Vp8Shift) (p : List ℕ) (d : Vp8Descriptor) → slice_index p 3 < 256 → parsed p ≡ Ok d
    → PatchHolds d (moved_ids s d) p
moved_holds s p d byte is = patch_law p d (moved_ids s d) byte is refl (moved_fits s p d is)

pub moves : MovesLaw
moves s p d byte is =
    let holds : PatchHolds d (moved_ids s d) p = moved_holds s p d byte is in
    record {
      new_ids = ap (λ (r : Result Vp8Descriptor Vp8DescriptorError). parsed (moved_by s p r)) is ∙ holds.new_ids;
      ids_only = subst (λ (r : Result Vp8Descriptor Vp8DescriptorError).
          ChangesIdsOnly (patch_of (moved_ids s d)) p (moved_by s p r)) (sym is) holds.ids_only;
    }

follows : (size last first id : ℕ) → (id + (last + 1 + (size - first)) % size) % size
    ≡ (last + 1 + (id + (size - first))) % size
follows size last first id =
    let e : id + (last + 1 + (size - first)) ≡ last + 1 + (id + (size - first)) = omega arith in
    add-mod-mod id (last + 1 + (size - first)) size ∙ ap (λ (n : ℕ). n % size) e

pub continues : ContinuesLaw
continues size last first id below inside =
    let e : last + 1 + (first + (size - first)) ≡ last + 1 + size = omega (arith, below) in (
      ap (λ (n : ℕ). Some n) (follows size last first first ∙ ap (λ (n : ℕ). n % size) e
          ∙ add-mod_right (last + 1) size),
      ap (λ (n : ℕ). Some n) (follows size last first id),
    )
