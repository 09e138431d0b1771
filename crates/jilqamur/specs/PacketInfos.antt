-- What a packet says of its frame, as C is told.
use Rattle.std.specs.Prelude.{ℕ, Bool, List, Option, Some, None, is_some, if◌then◌else◌}
use Rattle.std.specs.Str.{is_utf8}
use Rattle.h26x_payload.specs.Codings.{has_format}
use Rattle.media_types.specs.Codecs.{codec_named}
use Rattle.packet_info.specs.Layers.{layers_in}
use Rattle.packet_info.specs.Packets.{is_head, is_tail, shows_key_frame}
use Rattle.packet_info.specs.declared.info.PacketInfo.{PacketInfo}
use Rattle.jilqamur.specs.Codes.{ok, not_text, out_of_range}
use Rattle.jilqamur.specs.declared.payload_info.WirePacketInfo.{WirePacketInfo}

-- The name is UTF-8, and names a codec that has a payload format.
abbrev pub info_outcome : List ℕ → ℕ
info_outcome name =
    if is_utf8 name then (if has_format (codec_named name) then ok else out_of_range) else not_text

abbrev pub layer_told : Option ℕ → ℕ
layer_told None = 0
layer_told (Some layer) = layer

abbrev pub told_of : PacketInfo → WirePacketInfo
told_of i = record {
  is_head = i.is_head;
  is_tail = i.is_tail;
  shows_key_frame = i.shows_key_frame;
  has_spatial_layer = is_some i.layers.spatial;
  spatial_layer = layer_told i.layers.spatial;
  has_temporal_layer = is_some i.layers.temporal;
  temporal_layer = layer_told i.layers.temporal;
}

-- What a packet of the codec of this name says.
abbrev pub said_of : List ℕ → List ℕ → Bool → PacketInfo
said_of name payload marker = record {
  is_head = is_head (codec_named name) payload;
  is_tail = is_tail (codec_named name) marker;
  shows_key_frame = shows_key_frame (codec_named name) payload;
  layers = layers_in (codec_named name) payload;
}
