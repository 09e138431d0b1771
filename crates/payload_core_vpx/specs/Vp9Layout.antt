-- VP9 packets as their descriptor's fields followed by a payload (RFC 9628 4.2).
use Rattle.std.specs.Prelude.{◌≡◌, ⊤, ℕ, ◌+◌, ◌*◌, ◌/◌, ◌%◌, ◌<◌, ◌&&◌, Bool, true, false, zero, suc, List, [], ◌∷◌}
use Rattle.std.specs.Prelude.{◌++◌, length, Option, Some, None, Ok, Err}
use Rattle.payload_core_base.specs.Format.{Fragment, Reading}
use Rattle.payload_core_base.specs.declared.error.PacketError.TheVariants.{ErrTooManyPDiff}
use Rattle.payload_core_base.specs.declared.extra.CodecExtra.{CodecExtra}
use Rattle.payload_core_base.specs.declared.extra.CodecExtra.TheVariants.{Vp9}
use Rattle.payload_core_base.specs.Bytes.{has_bit}
use Rattle.payload_core_vpx.specs.Vp9Descriptor.{has_f, has_i, has_l, has_p, has_v, read_vp9, sizes_size}

-- With I there is a byte, whose M bit is clear, or two, the first with M.
abbrev pub IsPictureId : Bool → List ℕ → Option ℕ → Type 0
IsPictureId false [] id = id ≡ None
IsPictureId true (b ∷ []) id = (has_bit 128 b ≡ false) × (id ≡ Some b)
IsPictureId true (h ∷ l ∷ []) id = (has_bit 128 h ≡ true) × (id ≡ Some (h % 128 * 256 + l))
IsPictureId _ _ id = ⊥

-- With L there is TID, U, SID and D, and without F TL0PICIDX.
abbrev pub AreLayers : Bool → Bool → List ℕ → Type 0
AreLayers false f [] = ⊤
AreLayers true true (layer ∷ []) = ⊤
AreLayers true false (layer ∷ tl0 ∷ []) = ⊤
AreLayers _ _ _ = ⊥

-- With P and F there are one to three references, and N is set in all but the last.
abbrev pub AreReferences : Bool → List ℕ → Type 0
AreReferences false [] = ⊤
AreReferences true (a ∷ []) = has_bit 1 a ≡ false
AreReferences true (a ∷ b ∷ []) = (has_bit 1 a ≡ true) × (has_bit 1 b ≡ false)
AreReferences true (a ∷ b ∷ c ∷ []) = (has_bit 1 a ≡ true) × (has_bit 1 b ≡ true) × (has_bit 1 c ≡ false)
AreReferences _ _ = ⊥

-- n pictures, each a byte of TID, U and R followed by R references.
abbrev pub ArePictures : ℕ → List ℕ → Type 0
ArePictures zero bytes = bytes ≡ []
ArePictures (suc n) bytes = (byte : ℕ) × (references : List ℕ) × (rest : List ℕ)
    × (bytes ≡ byte ∷ (references ++ rest)) × (length references ≡ byte / 4 % 4) × ArePictures n rest

-- With G there is a count of pictures, and the pictures.
abbrev pub IsGroup : Bool → List ℕ → Type 0
IsGroup false bytes = bytes ≡ []
IsGroup true bytes = (n : ℕ) × (pictures : List ℕ) × (bytes ≡ n ∷ pictures) × ArePictures n pictures

-- With V there is a byte of N_S, Y and G, the sizes of the layers with Y, and the picture group.
abbrev pub IsStructure : Bool → List ℕ → Type 0
IsStructure false bytes = bytes ≡ []
IsStructure true bytes = (flags : ℕ) × (sizes : List ℕ) × (group : List ℕ) × (bytes ≡ flags ∷ (sizes ++ group))
    × (length sizes ≡ sizes_size flags) × IsGroup (has_bit 8 flags) group

-- A packet with this picture id and this payload.
pub record IsVp9Packet (packet : List ℕ) (id : Option ℕ) (payload : List ℕ) : Type 0 where
  pub first : ℕ
  pub picture_id : List ℕ
  pub layers : List ℕ
  pub references : List ℕ
  pub structure : List ℕ
  pub laid_out : packet ≡ first ∷ (picture_id ++ (layers ++ (references ++ (structure ++ payload))))
  pub is_picture_id : IsPictureId (has_i first) picture_id id
  pub are_layers : AreLayers (has_l first) (has_f first) layers
  pub are_references : AreReferences (has_p first && has_f first) references
  pub is_structure : IsStructure (has_v first) structure
  pub some_payload : 0 < length payload

-- Every such packet is read, and gives this payload and picture id.
abbrev pub LayoutLaw : Type 0
LayoutLaw = (fragment : Fragment) (extra : CodecExtra) (packet : List ℕ) (id : Option ℕ) (payload : List ℕ)
    → IsVp9Packet packet id payload
    → read_vp9 fragment extra packet ≡ Ok (record
    { written = payload; extra = Vp9 (record { picture_id = id }); fragment = fragment })

-- The reading is the payload and the picture id of a packet with this layout.
pub record IsReadAs (fragment : Fragment) (packet : List ℕ) (r : Reading) : Type 0 where
  pub id : Option ℕ
  pub payload : List ℕ
  pub laid : IsVp9Packet packet id payload
  pub reading : r ≡ record { written = payload; extra = Vp9 (record { picture_id = id }); fragment = fragment }

-- And no other packet is read.
abbrev pub ReadLaw : Type 0
ReadLaw = (fragment : Fragment) (extra : CodecExtra) (packet : List ℕ) (r : Reading) → read_vp9 fragment extra packet
    ≡ Ok r → IsReadAs fragment packet r

-- A packet that lists a fourth reference: N is set in the third.
pub record ListsFour (packet : List ℕ) : Type 0 where
  pub first : ℕ
  pub id : Option ℕ
  pub picture_id : List ℕ
  pub layers : List ℕ
  pub a : ℕ
  pub b : ℕ
  pub c : ℕ
  pub rest : List ℕ
  pub laid_out : packet ≡ first ∷ (picture_id ++ (layers ++ (a ∷ b ∷ c ∷ rest)))
  pub is_picture_id : IsPictureId (has_i first) picture_id id
  pub are_layers : AreLayers (has_l first) (has_f first) layers
  pub lists : (has_p first && has_f first) ≡ true
  pub first_n : has_bit 1 a ≡ true
  pub second_n : has_bit 1 b ≡ true
  pub third_n : has_bit 1 c ≡ true

-- These packets, and no others, are refused as TooManyPDiff.
abbrev pub TooManyLaw : Type 0
TooManyLaw = (fragment : Fragment) (extra : CodecExtra) (packet : List ℕ)
    → (ListsFour packet → read_vp9 fragment extra packet ≡ Err ErrTooManyPDiff)
    × (read_vp9 fragment extra packet ≡ Err ErrTooManyPDiff → ListsFour packet)
