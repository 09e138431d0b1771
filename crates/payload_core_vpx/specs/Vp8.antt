-- VP8 payloads (RFC 7741 4).
use Rattle.std.specs.Prelude.{ℕ, ◌+◌, ◌-◌, ◌/◌, ◌%◌, ◌<◌, ◌==◌, ◌&&◌, ◌||◌, not, Bool, true, false, List, [], ◌∷◌}
use Rattle.std.specs.Prelude.{◌++◌, drop}
use Rattle.std.specs.Prelude.{length, nat_lt, nat_le, Result, Ok, Err, if◌then◌else◌}
use Rattle.payload_core_base.specs.Format.{Format, Fragment, Reading}
use Rattle.payload_core_base.specs.Frames.{after_frame}
use Rattle.payload_core_base.specs.Law.{Coding}
use Rattle.payload_core_base.specs.Packing.{Packing, Sender, Sent}
use Rattle.payload_core_base.specs.Pieces.{pieces}
use Rattle.payload_core_base.specs.declared.error.PacketError.{PacketError}
use Rattle.payload_core_base.specs.declared.error.PacketError.TheVariants.{ErrShortPacket, ErrVP8CorruptedPacket}
use Rattle.payload_core_base.specs.declared.extra.CodecExtra.{CodecExtra}
use Rattle.payload_core_base.specs.declared.extra.CodecExtra.TheVariants.{Vp8}
use Rattle.payload_core_base.specs.Bytes.{has_bit}
use Rattle.payload_core_vpx.specs.Vp8Descriptor.{layout_size, parsed, starts_keyframe}
use Rattle.payload_core_vpx.specs.declared.vp8_descriptor.Vp8Descriptor.{Vp8Descriptor}
use Rattle.payload_core_vpx.specs.declared.vp8_descriptor.Vp8DescriptorError.{Vp8DescriptorError}
use Rattle.payload_core_vpx.specs.declared.vp8_descriptor.Vp8DescriptorError.TheVariants.{MalformedDescriptor}
use Rattle.payload_core_vpx.specs.declared.vp8_descriptor.Vp8DescriptorError.TheVariants.{ShortPayload}

-- Whether a frame's packets carry its picture id (RFC 7741 4.2): if ids are sent, always, except that 0 is sent only on
-- request.
abbrev pub tells_id : Bool → Bool → ℕ → Bool
tells_id has_id zero_id id = has_id && (zero_id || not (id == 0))

-- The payload descriptor of a sent packet (RFC 7741 4.2): S on the first packet; no picture id, a 7-bit one, or a
-- 15-bit one.
abbrev pub descriptor : Bool → ℕ → Bool → List ℕ
descriptor false id first = (if first then 16 else 0) ∷ []
descriptor true id first =
    if nat_lt id 128 then (if first then 144 else 128) ∷ 128 ∷ id ∷ []
    else (if first then 144 else 128) ∷ 128 ∷ (128 + id / 256) ∷ id % 256 ∷ []

-- The descriptor's length.
abbrev pub descriptor_size : Bool → ℕ → ℕ
descriptor_size false id = 1
descriptor_size true id = if nat_lt id 128 then 3 else 4

-- The pieces of a frame, each after its descriptor; the first packet has S.
abbrev pub described : Bool → ℕ → Bool → List (List ℕ) → List (List ℕ)
described tells id first [] = []
described tells id first (p ∷ ps) = (descriptor tells id first ++ p) ∷ described tells id false ps

-- A frame is cut into pieces of the limit less the descriptor; if nothing is left, nothing is sent.
abbrev pub frame_sent : Bool → Sender → ℕ → List ℕ → Sent
frame_sent tells s limit frame =
    if nat_le limit (descriptor_size tells s.number) then record { packets = []; sender = s }
    else record {
      packets = described tells s.number true (pieces (limit - descriptor_size tells s.number) frame);
      sender = after_frame s;
    }

-- An empty sample sends none.
abbrev pub pack_vp8 : Bool → Bool → Sender → ℕ → List ℕ → Result Sent PacketError
pack_vp8 has_id zero_id s limit [] = Ok (record { packets = []; sender = s })
pack_vp8 has_id zero_id s limit (b ∷ bs) = Ok (frame_sent (tells_id has_id zero_id s.number) s limit (b ∷ bs))

-- The last packet of a frame has the marker bit.
abbrev pub vp8_packing : Bool → Bool → Packing
vp8_packing has_id zero_id = record { pack = pack_vp8 has_id zero_id; marks = λ packet last. last }

-- Whether an earlier packet showed that this is a keyframe.
abbrev pub was_keyframe : CodecExtra → Bool
was_keyframe (Vp8 extra) = extra.is_keyframe
was_keyframe _ = false

-- A frame's bytes are those after the descriptor.
abbrev pub reading_of : Fragment → CodecExtra → List ℕ → Result Vp8Descriptor Vp8DescriptorError
    → Result Reading PacketError
reading_of fragment extra p (Err ShortPayload) = Err ErrShortPacket
reading_of fragment extra p (Err MalformedDescriptor) = Err ErrVP8CorruptedPacket
reading_of fragment extra p (Ok d) = Ok (record {
  written = drop (layout_size d.shape) p;
  extra = Vp8 (record {
    is_keyframe = was_keyframe extra || starts_keyframe d p;
    picture_id =
        d.picture_id;
    tl0_pic_idx = d.tl0_pic_idx;
  });
  fragment = fragment;
})

abbrev pub read_vp8 : Fragment → CodecExtra → List ℕ → Result Reading PacketError
read_vp8 fragment extra p = reading_of fragment extra p (parsed p)

-- A packet with S is a head; a packet with the marker bit is a tail.
abbrev pub is_vp8_head : List ℕ → Bool
is_vp8_head [] = false
is_vp8_head (first ∷ rest) = has_bit 16 first

abbrev pub vp8_format : Format
vp8_format = record { head = is_vp8_head; tail = λ marker packet. marker; read = read_vp8 }

-- Every nonempty frame is well-formed. It is one unit of one part, unless the limit leaves no room after the
-- descriptor.
abbrev pub units_of : Bool → ℕ → ℕ → List ℕ → List (List (List ℕ))
units_of tells id limit sample = if nat_le limit (descriptor_size tells id) then [] else (sample ∷ []) ∷ []

abbrev pub vp8_units : Bool → Bool → Sender → ℕ → List ℕ → List (List (List ℕ))
vp8_units has_id zero_id s limit sample = units_of (tells_id has_id zero_id s.number) s.number limit sample

-- An empty sample, and one whose limit leaves no room after the descriptor, don't change the sender.
abbrev pub after_limit : Bool → Sender → ℕ → Sender
after_limit tells s limit = if nat_le limit (descriptor_size tells s.number) then s else after_frame s

abbrev pub vp8_after : Bool → Bool → Sender → ℕ → List ℕ → Sender
vp8_after has_id zero_id s limit [] = s
vp8_after has_id zero_id s limit (b ∷ bs) = after_limit (tells_id has_id zero_id s.number) s limit

abbrev pub vp8_coding : Bool → Bool → Coding
vp8_coding has_id zero_id = record {
  packing = vp8_packing has_id zero_id;
  format = vp8_format;
  IsReached = λ sender. sender.number < 32768;
  IsWellFormed = λ limit sample. 0 < length sample;
  units = vp8_units has_id zero_id;
  after = vp8_after has_id zero_id;
}
