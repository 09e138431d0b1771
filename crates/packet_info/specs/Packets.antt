-- What a packet says of its frame by itself.
use Rattle.std.specs.Prelude.{ℕ, ◌/◌, ◌%◌, ◌==◌, ◌&&◌, not, Bool, true, false, List, [], ◌∷◌, Option, Some, None}
use Rattle.std.specs.Prelude.{slice_get}
use Rattle.std.specs.Prelude.{if◌then◌else◌}
use Rattle.h26x_payload_formats.specs.H264Reading.{is_h264_head, shows_type}
use Rattle.h26x_payload_formats.specs.Reading.{is_h265_h266_head, shows_irap}
use Rattle.h26x_payload_units.specs.declared.layout.Layout.TheVariants as layouts
use Rattle.media_types.specs.declared.codec.Codec.{Codec}
use Rattle.media_types.specs.declared.codec.Codec.TheVariants as codecs
use Rattle.payload_core_av1.specs.Av1Reading.{is_av1_head, is_av1_keyframe}
use Rattle.payload_core_base.specs.Bytes.{has_bit}
use Rattle.payload_core_vpx.specs.Vp8.{is_vp8_head}
use Rattle.payload_core_vpx.specs.Vp8Descriptor.{keyframe_in, parsed}
use Rattle.payload_core_vpx.specs.Vp9Descriptor.{has_l, has_p, is_vp9_head, picture_id_size}

-- There is a first byte, which has the bit of this weight.
abbrev pub first_has : ℕ → List ℕ → Bool
first_has weight [] = false
first_has weight (first ∷ rest) = has_bit weight first

-- Whether a frame can begin with a packet: of VP8 one with S, of VP9 one with B, of AV1 one without Z, of H.264, H.265
-- and H.266 any but a fragment without S, and of other codecs any.
abbrev pub is_head : Codec → List ℕ → Bool
is_head codecs.Vp8 packet = is_vp8_head packet
is_head codecs.Vp9 packet = is_vp9_head packet
is_head codecs.Av1 packet = is_av1_head packet
is_head codecs.H264 packet = is_h264_head packet
is_head codecs.H265 packet = is_h265_h266_head layouts.H265 packet
is_head codecs.H266 packet = is_h265_h266_head layouts.H266 packet
is_head _ packet = true

-- Whether a frame ends with a packet: of video one with the marker bit, of other codecs any.
abbrev pub is_tail : Codec → Bool → Bool
is_tail codecs.Vp8 marker = marker
is_tail codecs.Vp9 marker = marker
is_tail codecs.Av1 marker = marker
is_tail codecs.H264 marker = marker
is_tail codecs.H265 marker = marker
is_tail codecs.H266 marker = marker
is_tail _ marker = true

-- VP9's byte of TID, U, SID and D, with L (RFC 9628 4.2).
abbrev pub vp9_layer_byte : List ℕ → Option ℕ
vp9_layer_byte [] = None
vp9_layer_byte (first ∷ rest) = if has_l first then slice_get rest (picture_id_size first rest) else None

-- The spatial layer is the lowest one, or there are no layers.
abbrev pub is_lowest : Option ℕ → Bool
is_lowest None = true
is_lowest (Some byte) = byte / 2 % 8 == 0

-- Not predicted from other pictures, in the lowest spatial layer (RFC 9628 4.2, P and SID).
abbrev pub shows_vp9_key : List ℕ → Bool
shows_vp9_key [] = false
shows_vp9_key (first ∷ rest) = not (has_p first) && is_lowest (vp9_layer_byte (first ∷ rest))

-- Whether a packet shows that its frame is a key frame: of VP8 one that begins such a frame (RFC 7741 4.3), of VP9 each
-- of such a frame, of AV1 the first of a coded video sequence, of H.264 one that shows a slice of an IDR picture, of
-- H.265 and H.266, without decoding order numbers, one that shows a random access picture.
abbrev pub shows_key_frame : Codec → List ℕ → Bool
shows_key_frame codecs.Vp8 packet = keyframe_in (parsed packet) packet
shows_key_frame codecs.Vp9 packet = shows_vp9_key packet
shows_key_frame codecs.Av1 packet = is_av1_keyframe packet
shows_key_frame codecs.H264 packet = shows_type 5 packet
shows_key_frame codecs.H265 packet = shows_irap layouts.H265 false packet
shows_key_frame codecs.H266 packet = shows_irap layouts.H266 false packet
shows_key_frame _ packet = false
