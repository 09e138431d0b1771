-- The layers of a packet.
use Rattle.std.specs.Prelude.{ℕ, zero, suc, ◌+◌, ◌-◌, ◌/◌, ◌%◌, ◌==◌, ◌&&◌, Bool, true, false, List, [], ◌∷◌, nat_lt}
use Rattle.std.specs.Prelude.{Option, Some, None, slice_get, slice_index, if◌then◌else◌}
use Rattle.std.specs.Option.{option_map}
use Rattle.h26x_payload_units.specs.Headers.{layer_in}
use Rattle.h26x_payload_units.specs.declared.layout.Layout.{Layout}
use Rattle.h26x_payload_units.specs.declared.layout.Layout.TheVariants as layouts
use Rattle.media_types.specs.declared.codec.Codec.{Codec}
use Rattle.media_types.specs.declared.codec.Codec.TheVariants as codecs
use Rattle.payload_core_av1.specs.Av1Reading.{count_w, has_z}
use Rattle.payload_core_av1.specs.Obus.{has_extension}
use Rattle.payload_core_base.specs.Bytes.{has_bit}
use Rattle.packet_info.specs.Packets.{vp9_layer_byte}
use Rattle.packet_info.specs.declared.layers.Layers.{Layers}

abbrev pub no_layers : Layers
no_layers = record { spatial = None; temporal = None }

-- VP8 (RFC 7741 4.2): in the second byte, the flags of X, I announces a picture id, of two bytes if it has M, and L the
-- byte of TL0PICIDX; with T, TID is in the two high bits of the byte after these.
abbrev pub vp8_id_size : List ℕ → ℕ
vp8_id_size packet =
    if has_bit 128 (slice_index packet 1) then (if has_bit 128 (slice_index packet 2) then 2 else 1) else 0

abbrev pub vp8_tid_place : List ℕ → ℕ
vp8_tid_place packet = 2 + (vp8_id_size packet + (if has_bit 64 (slice_index packet 1) then 1 else 0))

abbrev pub vp8_tid : List ℕ → Option ℕ
vp8_tid packet = if has_bit 128 (slice_index packet 0) && has_bit 32 (slice_index packet 1)
    then option_map (λ b. b / 64) (slice_get packet (vp8_tid_place packet)) else None

abbrev pub vp8_layers : List ℕ → Layers
vp8_layers packet = record { spatial = None; temporal = vp8_tid packet }

-- VP9 (RFC 9628 4.2): TID in three bits, U, SID in three bits, D.
abbrev pub vp9_layers_of : Option ℕ → Layers
vp9_layers_of None = no_layers
vp9_layers_of (Some byte) = record { spatial = Some (byte / 2 % 8); temporal = Some (byte / 32) }

abbrev pub vp9_layers : List ℕ → Layers
vp9_layers packet = vp9_layers_of (vp9_layer_byte packet)

-- H.265 and H.266 (RFC 7798 1.1.4, RFC 9328 1.1.4): the layer, and TID, one less than the three bits say, which are
-- never 0.
abbrev pub tid_below : ℕ → Option ℕ
tid_below bits = if bits == 0 then None else Some (bits - 1)

abbrev pub h26x_layers : Layout → List ℕ → Layers
h26x_layers l [] = no_layers
h26x_layers l (high ∷ []) = no_layers
h26x_layers l (high ∷ low ∷ body) = record { spatial = Some (layer_in l high low); temporal = tid_below (low % 8) }

-- The bytes after a size in leb128, of at most so many bytes: after the first one whose top bit is clear (AV1 bitstream
-- specification 4.10.5).
abbrev pub behind_size : ℕ → List ℕ → Option (List ℕ)
behind_size zero bytes = None
behind_size (suc k) [] = None
behind_size (suc k) (b ∷ bs) = if nat_lt b 128 then Some bs else behind_size k bs

-- The bytes of a packet's first OBU: with Z it began in an earlier packet; with W = 1 it has no size in front.
abbrev pub first_obu_in : List ℕ → Option (List ℕ)
first_obu_in [] = None
first_obu_in (first ∷ body) =
    if has_z first then None else (if count_w first == 1 then Some body else behind_size 8 body)

-- The extension of an OBU header: the temporal layer in three bits, the spatial one in two (AV1 bitstream specification
-- 5.3.3).
abbrev pub extension_layers : Option (List ℕ) → Layers
extension_layers None = no_layers
extension_layers (Some []) = no_layers
extension_layers (Some (header ∷ [])) = no_layers
extension_layers (Some (header ∷ byte ∷ bytes)) =
    if has_extension header then record { spatial = Some (byte / 8 % 4); temporal = Some (byte / 32) } else no_layers

-- AV1 (RTP payload format for AV1, 4.4): those of the packet's first OBU.
abbrev pub av1_layers : List ℕ → Layers
av1_layers packet = extension_layers (first_obu_in packet)

-- The layers that a packet tells. H.264 and audio tell none.
abbrev pub layers_in : Codec → List ℕ → Layers
layers_in codecs.Vp8 packet = vp8_layers packet
layers_in codecs.Vp9 packet = vp9_layers packet
layers_in codecs.Av1 packet = av1_layers packet
layers_in codecs.H265 packet = h26x_layers layouts.H265 packet
layers_in codecs.H266 packet = h26x_layers layouts.H266 packet
layers_in _ packet = no_layers
