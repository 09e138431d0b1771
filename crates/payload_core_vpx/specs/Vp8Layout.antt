-- VP8 payloads as their descriptor's fields followed by bytes of a frame (RFC 7741 4.2).
use Rattle.std.specs.Prelude.{◌≡◌, ℕ, ◌+◌, ◌*◌, ◌%◌, ◌<◌, ◌&&◌, ◌||◌, Bool, true, false, List, [], ◌∷◌, ◌++◌, drop}
use Rattle.std.specs.Prelude.{length, Option, Some, None, Ok, if◌then◌else◌}
use Rattle.payload_core_base.specs.Format.{Fragment, Reading}
use Rattle.payload_core_base.specs.declared.extra.CodecExtra.{CodecExtra}
use Rattle.payload_core_base.specs.declared.extra.CodecExtra.TheVariants.{Vp8}
use Rattle.payload_core_vpx.specs.Vp8.{read_vp8, was_keyframe}
use Rattle.payload_core_base.specs.Bytes.{has_bit}
use Rattle.payload_core_vpx.specs.Vp8Descriptor.{begins_frame, begins_keyframe, layout_size, parsed}
use Rattle.payload_core_vpx.specs.declared.vp8_descriptor.Vp8Descriptor.{Vp8Descriptor}

-- What a descriptor tells: whether a frame begins, the picture id, TL0PICIDX and KEYIDX.
pub record Told : Type 0 where
  pub begins_frame : Bool
  pub picture_id : Option ℕ
  pub tl0_pic_idx : Option ℕ
  pub key_idx : Option ℕ

-- With X there is a byte of flags; without it no flag is set.
abbrev pub IsExtension : Bool → List ℕ → ℕ → Type 0
IsExtension false [] flags = flags ≡ 0
IsExtension true (b ∷ []) flags = flags ≡ b
IsExtension _ _ flags = ⊥

-- With I there is a byte, whose M bit is clear, or two, the first with M: an id of 7 or of 15 bits.
abbrev pub IsPictureId : Bool → List ℕ → Option ℕ → Type 0
IsPictureId false [] id = id ≡ None
IsPictureId true (b ∷ []) id = (has_bit 128 b ≡ false) × (id ≡ Some (b % 128))
IsPictureId true (h ∷ l ∷ []) id = (has_bit 128 h ≡ true) × (id ≡ Some (h % 128 * 256 + l))
IsPictureId _ _ id = ⊥

-- With L there is TL0PICIDX.
abbrev pub IsTl0PicIdx : Bool → List ℕ → Option ℕ → Type 0
IsTl0PicIdx false [] index = index ≡ None
IsTl0PicIdx true (b ∷ []) index = index ≡ Some b
IsTl0PicIdx _ _ index = ⊥

-- With T or K there is a byte of TID, Y and KEYIDX, of which KEYIDX, the low five bits, counts with K.
abbrev pub IsKeyByte : Bool → Bool → List ℕ → Option ℕ → Type 0
IsKeyByte false k [] index = index ≡ None
IsKeyByte true k (b ∷ []) index = index ≡ (if k then Some (b % 32) else None)
IsKeyByte _ k _ index = ⊥

-- A payload with this descriptor and this part of a frame. A frame begins with S, in partition 0.
pub record IsVp8Packet (packet : List ℕ) (told : Told) (frame : List ℕ) : Type 0 where
  pub first : ℕ
  pub flags : ℕ
  pub extension : List ℕ
  pub picture_id : List ℕ
  pub tl0_pic_idx : List ℕ
  pub key_byte : List ℕ
  pub laid_out : packet ≡ first ∷ (extension ++ (picture_id ++ (tl0_pic_idx ++ (key_byte ++ frame))))
  pub begins : told.begins_frame ≡ begins_frame first
  pub is_extension : IsExtension (has_bit 128 first) extension flags
  pub is_picture_id : IsPictureId (has_bit 128 flags) picture_id told.picture_id
  pub is_tl0_pic_idx : IsTl0PicIdx (has_bit 64 flags) tl0_pic_idx told.tl0_pic_idx
  pub is_key_byte : IsKeyByte (has_bit 32 flags || has_bit 16 flags) (has_bit 16 flags) key_byte told.key_idx
  pub some_frame : 0 < length frame

abbrev pub told_by : Vp8Descriptor → Told
told_by d = record {
  begins_frame = d.begins_frame;
  picture_id = d.picture_id;
  tl0_pic_idx = d.tl0_pic_idx;
  key_idx = d.key_idx;
}

-- The descriptor is read with these values, and these bytes follow it.
pub record IsParsedAs (packet : List ℕ) (told : Told) (frame : List ℕ) : Type 0 where
  pub descriptor : Vp8Descriptor
  pub is_parsed : parsed packet ≡ Ok descriptor
  pub tells : told_by descriptor ≡ told
  pub behind : drop (layout_size descriptor.shape) packet ≡ frame

-- Every such payload's descriptor is read this way.
abbrev pub LayoutLaw : Type 0
LayoutLaw = (packet : List ℕ) (told : Told) (frame : List ℕ) → IsVp8Packet packet told frame
    → IsParsedAs packet told frame

-- No other payload's descriptor is read.
abbrev pub ParsedLaw : Type 0
ParsedLaw = (packet : List ℕ) (d : Vp8Descriptor) → parsed packet ≡ Ok d
    → IsVp8Packet packet (told_by d) (drop (layout_size d.shape) packet)

-- Such a payload gives its bytes of the frame, the ids, and whether it or an earlier one begins a keyframe.
abbrev pub ReadLaw : Type 0
ReadLaw = (fragment : Fragment) (extra : CodecExtra) (packet : List ℕ) (told : Told) (frame : List ℕ)
    → IsVp8Packet packet told frame → read_vp8 fragment extra packet ≡ Ok (record {
      written = frame;
      extra = Vp8 (record {
        is_keyframe = was_keyframe extra || (told.begins_frame && begins_keyframe frame);
        picture_id = told.picture_id;
        tl0_pic_idx = told.tl0_pic_idx;
      });
      fragment = fragment;
    })

-- No other payload is read.
pub record IsLaidOut (packet : List ℕ) : Type 0 where
  pub told : Told
  pub frame : List ℕ
  pub is_packet : IsVp8Packet packet told frame

abbrev pub OnlyLaw : Type 0
OnlyLaw = (fragment : Fragment) (extra : CodecExtra) (packet : List ℕ) (r : Reading)
    → read_vp8 fragment extra packet ≡ Ok r → IsLaidOut packet
