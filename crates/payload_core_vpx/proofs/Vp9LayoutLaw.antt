-- What makes every packet that is laid out by its fields be read.
use Rattle.std.proofs.Common.{◌≡◌, ℕ, zero, suc, ◌+◌, ◌*◌, ◌/◌, ◌%◌, ◌<◌, Bool, true, false, eqb, List, [], ◌∷◌, ◌++◌}
use Rattle.std.proofs.Common.{drop, length, None, Some, Ok, Err, Option, Result, if◌then◌else◌, refl, sym, ap, ◌∙◌}
use Rattle.std.proofs.Common.{append_assoc, arith}
use Rattle.std.specs.Prelude.{◌&&◌, slice_index}
use Rattle.std.proofs.lemmas.List.{drop_at}
use Rattle.payload_core_base.specs.Format.{Fragment, Reading}
use Rattle.payload_core_base.specs.declared.error.PacketError.{PacketError}
use Rattle.payload_core_base.specs.declared.error.PacketError.TheVariants.{ErrTooManyPDiff}
use Rattle.payload_core_base.specs.declared.extra.CodecExtra.TheVariants.{Vp9}
use Rattle.payload_core_base.specs.Bytes.{has_bit}
use Rattle.payload_core_vpx.specs.Vp9Descriptor.{behind_group, behind_pictures, behind_structure, has_f}
use Rattle.payload_core_vpx.specs.Vp9Descriptor.{has_i, has_l, has_n, has_p, has_v, layers_size, lists_too_many}
use Rattle.payload_core_vpx.specs.Vp9Descriptor.{payload_of, picture_id_of, read_vp9, reading_of, references_of}
use Rattle.payload_core_vpx.specs.Vp9Descriptor.{references_size, sizes_size}
use Rattle.payload_core_vpx.specs.Vp9Layout.{AreLayers, ArePictures, AreReferences, IsGroup, IsPictureId, IsStructure}
use Rattle.payload_core_vpx.specs.Vp9Layout.{LayoutLaw}

id_size : (i : Bool) (bytes rest : List ℕ) (id : Option ℕ) → IsPictureId i bytes id
    → (if i then (if has_bit 128 (slice_index (bytes ++ rest) 0) then 2 else 1) else 0) ≡ length bytes
id_size false [] rest id is = refl
id_size false (b ∷ bs) rest id is = absurd is
id_size true [] rest id is = absurd is
id_size true (b ∷ []) rest id is = ap (λ m. if m then 2 else 1) is.0
id_size true (h ∷ l ∷ []) rest id is = ap (λ m. if m then 2 else 1) is.0
id_size true (h ∷ l ∷ x ∷ xs) rest id is = absurd is

id_is : (i : Bool) (bytes rest : List ℕ) (id : Option ℕ) → IsPictureId i bytes id
    → (if i then (if has_bit 128 (slice_index (bytes ++ rest) 0)
    then Some (slice_index (bytes ++ rest) 0 % 128 * 256 + slice_index (bytes ++ rest) 1)
    else Some (slice_index (bytes ++ rest) 0)) else None) ≡ id
id_is false [] rest id is = sym is
id_is false (b ∷ bs) rest id is = absurd is
id_is true [] rest id is = absurd is
id_is true (b ∷ []) rest id is = ap (λ m. if m then Some (b % 128 * 256 + slice_index rest 0) else Some b) is.0
    ∙ sym is.1
id_is true (h ∷ l ∷ []) rest id is = ap (λ m. if m then Some (h % 128 * 256 + l) else Some h) is.0 ∙ sym is.1
id_is true (h ∷ l ∷ x ∷ xs) rest id is = absurd is

layers_are : (l f : Bool) (bytes : List ℕ) → AreLayers l f bytes → (if l then (if f then 1 else 2) else 0)
    ≡ length bytes
layers_are false f [] is = refl
layers_are false f (b ∷ bs) is = absurd is
layers_are true true [] is = absurd is
layers_are true true (a ∷ []) is = refl
layers_are true true (a ∷ b ∷ bs) is = absurd is
layers_are true false [] is = absurd is
layers_are true false (a ∷ []) is = absurd is
layers_are true false (a ∷ b ∷ []) is = refl
layers_are true false (a ∷ b ∷ c ∷ bs) is = absurd is

references_are : (r : Bool) (bytes rest : List ℕ) → AreReferences r bytes
    → (if r then (if has_n (bytes ++ rest) 0 then (if has_n (bytes ++ rest) 1 then 3 else 2) else 1) else 0)
    ≡ length bytes
references_are false [] rest is = refl
references_are false (b ∷ bs) rest is = absurd is
references_are true [] rest is = absurd is
references_are true (a ∷ []) rest is = ap (λ n. if n then (if has_bit 1 (slice_index rest 0) then 3 else 2) else 1) is
references_are true (a ∷ b ∷ []) rest is = ap (λ n. if n then (if has_bit 1 b then 3 else 2) else 1) is.0
    ∙ ap (λ n. if n then 3 else 2) is.1
references_are true (a ∷ b ∷ c ∷ []) rest is = ap (λ n. if n then (if has_bit 1 b then 3 else 2) else 1) is.0
    ∙ ap (λ n. if n then 3 else 2) is.1
references_are true (a ∷ b ∷ c ∷ x ∷ xs) rest is = absurd is

few_references : (r : Bool) (bytes rest : List ℕ) → AreReferences r bytes
    → ((eqb (if r then (if has_n (bytes ++ rest) 0 then (if has_n (bytes ++ rest) 1 then 3 else 2) else 1) else 0) 3)
    && has_n (bytes ++ rest) 2) ≡ false
few_references false [] rest is = refl
few_references false (b ∷ bs) rest is = absurd is
few_references true [] rest is = absurd is
few_references true (a ∷ []) rest is = ap (λ n. eqb n 3 && has_n (a ∷ rest) 2) (references_are true (a ∷ []) rest is)
few_references true (a ∷ b ∷ []) rest is =
    ap (λ n. eqb n 3 && has_n (a ∷ b ∷ rest) 2) (references_are true (a ∷ b ∷ []) rest is)
few_references true (a ∷ b ∷ c ∷ []) rest is =
    ap (λ n. eqb n 3 && has_n (a ∷ b ∷ c ∷ rest) 2) (references_are true (a ∷ b ∷ c ∷ []) rest is) ∙ is.2
few_references true (a ∷ b ∷ c ∷ x ∷ xs) rest is = absurd is

drop_past : (x h : ℕ) (xs ys zs : List ℕ) → length xs ≡ x → drop (1 + x) ((h ∷ (xs ++ ys)) ++ zs) ≡ ys ++ zs
drop_past x h xs ys zs long =
    let next : 1 + x ≡ suc x = omega arith in
    ap (λ n. drop n ((h ∷ (xs ++ ys)) ++ zs)) next ∙ ap (drop x) (append_assoc xs ys zs) ∙ drop_at xs (ys ++ zs) x long

pictures_are : (n : ℕ) (bytes payload : List ℕ) → ArePictures n bytes → behind_pictures n (bytes ++ payload) ≡ payload
pictures_are zero bytes payload is = ap (λ b. b ++ payload) is
pictures_are (suc n) bytes payload (byte, references, rest, laid, long, more) =
    ap (λ b. behind_pictures (suc n) (b ++ payload)) laid
    ∙ ap (behind_pictures n) (drop_past (byte / 4 % 4) byte references rest payload long)
    ∙ pictures_are n rest payload more

group_is : (g : Bool) (bytes payload : List ℕ) → IsGroup g bytes → behind_group g (bytes ++ payload) ≡ payload
group_is false bytes payload is = ap (λ b. b ++ payload) is
group_is true bytes payload (n, pictures, laid, more) =
    ap (λ b. behind_group true (b ++ payload)) laid ∙ pictures_are n pictures payload more

structure_is : (v : Bool) (bytes payload : List ℕ) → IsStructure v bytes
    → (if v then behind_group (has_bit 8 (slice_index (bytes ++ payload) 0))
    (drop (1 + sizes_size (slice_index (bytes ++ payload) 0)) (bytes ++ payload)) else bytes ++ payload) ≡ payload
structure_is false bytes payload is = ap (λ b. b ++ payload) is
structure_is true bytes payload (flags, sizes, group, laid, long, more) =
    ap (λ b. behind_group (has_bit 8 (slice_index (b ++ payload) 0))
    (drop (1 + sizes_size (slice_index (b ++ payload) 0)) (b ++ payload))) laid
    ∙ ap (behind_group (has_bit 8 flags)) (drop_past (sizes_size flags) flags sizes group payload long)
    ∙ group_is (has_bit 8 flags) group payload more

reading_some : (fragment : Fragment) (id : Option ℕ) (payload : List ℕ) → 0 < length payload
    → reading_of fragment id payload ≡ Ok (record
    { written = payload; extra = Vp9 (record { picture_id = id }); fragment = fragment })
reading_some fragment id [] some = absurd (omega arith)
reading_some fragment id (b ∷ bs) some = refl

-- after the picture id and the layers are the references
pub referring_is : (first : ℕ) (id : Option ℕ) (picture_id layers referring : List ℕ)
    → IsPictureId (has_i first) picture_id id → AreLayers (has_l first) (has_f first) layers
    → references_of first (picture_id ++ (layers ++ referring)) ≡ referring
referring_is first id picture_id layers referring is_id are_layers =
    let layered : List ℕ = layers ++ referring in
    ap (λ n. drop (layers_size first) (drop n (picture_id ++ layered)))
    (id_size (has_i first) picture_id layered id is_id)
    ∙ ap (drop (layers_size first)) (drop_at picture_id layered (length picture_id) refl)
    ∙ ap (λ n. drop n layered) (layers_are (has_l first) (has_f first) layers are_layers)
    ∙ drop_at layers referring (length layers) refl

pub layout_law : LayoutLaw
layout_law fragment extra packet id payload is =
    let first : ℕ = is.first in
    let structured : List ℕ = is.structure ++ payload in
    let referring : List ℕ = is.references ++ structured in
    let layered : List ℕ = is.layers ++ referring in
    let rest : List ℕ = is.picture_id ++ layered in
    let behind_layers : references_of first rest ≡ referring =
    referring_is first id is.picture_id is.layers referring is.is_picture_id is.are_layers in
    let few : lists_too_many first (references_of first rest) ≡ false =
    ap (lists_too_many first) behind_layers ∙ few_references (has_p first && has_f first) is.references structured
    is.are_references in
    let behind_all : payload_of first rest ≡ payload =
    ap (λ r. behind_structure first (drop (references_size first r) r)) behind_layers
    ∙ ap (λ n. behind_structure first (drop n referring))
    (references_are (has_p first && has_f first) is.references structured is.are_references)
    ∙ ap (behind_structure first) (drop_at is.references structured (length is.references) refl)
    ∙ structure_is (has_v first) is.structure payload is.is_structure in
    let refused : Result Reading PacketError = Err ErrTooManyPDiff in
    ap (read_vp9 fragment extra) is.laid_out
    ∙ ap (λ t. if t then refused else reading_of fragment (picture_id_of first rest) (payload_of first rest)) few
    ∙ ap (λ i. reading_of fragment i (payload_of first rest))
    (id_is (has_i first) is.picture_id layered id is.is_picture_id)
    ∙ ap (reading_of fragment id) behind_all
    ∙ reading_some fragment id payload is.some_payload
