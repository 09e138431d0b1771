-- VP9 payloads that are sent, in flexible mode (RFC 9628 4.2).
use Rattle.std.specs.Prelude.{◌≡◌, ℕ, ◌+◌, ◌-◌, ◌/◌, ◌%◌, ◌<◌, ◌&&◌, Bool, true, false, List, [], ◌∷◌, ◌++◌, length}
use Rattle.std.specs.Prelude.{nat_le, Result, Ok, if◌then◌else◌}
use Rattle.payload_core_base.specs.Frames.{after_frame}
use Rattle.payload_core_base.specs.Law.{Coding}
use Rattle.payload_core_base.specs.Packing.{Packing, Sender, Sent, is_none_left}
use Rattle.payload_core_base.specs.Pieces.{pieces}
use Rattle.payload_core_base.specs.declared.error.PacketError.{PacketError}
use Rattle.payload_core_vpx.specs.Vp9Descriptor.{vp9_format}
use Rattle.payload_core_vpx.specs.Vp9Frame.{is_predicted}

-- The descriptor of a packet: I and F; P if the frame is marked as predicted; B on the first packet, E on the last; a
-- 15-bit picture id after the M bit; with P a reference to the previous frame (P_DIFF 1, without N).
abbrev pub descriptor : Bool → ℕ → Bool → Bool → List ℕ
descriptor told id first last =
    (144 + (if told then 64 else 0) + (if first then 8 else 0) + (if last then 4 else 0)) ∷ (128 + id / 256) ∷ id % 256
    ∷ (if told then 2 ∷ [] else [])

-- The descriptor's length.
abbrev pub descriptor_size : Bool → ℕ
descriptor_size told = if told then 4 else 3

-- The pieces of a frame after their descriptors.
abbrev pub described : Bool → ℕ → Bool → List (List ℕ) → List (List ℕ)
described told id first [] = []
described told id first (p ∷ ps) = (descriptor told id first (is_none_left ps) ++ p) ∷ described told id false ps

-- A frame is cut into pieces of the limit less the descriptor; if nothing is left, nothing is sent.
abbrev pub frame_sent : Bool → Sender → ℕ → List ℕ → Sent
frame_sent told s limit frame =
    if nat_le limit (descriptor_size told) then record { packets = []; sender = s }
    else record {
      packets = described told s.number true (pieces (limit - descriptor_size told) frame);
      sender = after_frame s;
    }

-- Whether a frame's packets mark it as predicted: if that was asked for and the frame's own header says so.
abbrev pub tells_prediction : Bool → List ℕ → Bool
tells_prediction prediction frame = prediction && is_predicted frame

-- An empty sample sends no frame.
abbrev pub pack_vp9 : Bool → Sender → ℕ → List ℕ → Result Sent PacketError
pack_vp9 prediction s limit [] = Ok (record { packets = []; sender = s })
pack_vp9 prediction s limit (b ∷ bs) = Ok (frame_sent (tells_prediction prediction (b ∷ bs)) s limit (b ∷ bs))

-- The last packet of a frame has the marker bit.
abbrev pub vp9_packing : Bool → Packing
vp9_packing prediction = record { pack = pack_vp9 prediction; marks = λ packet last. last }

-- Every nonempty frame is well-formed. It is one unit of one part, unless the limit leaves no room after the
-- descriptor.
abbrev pub units_of : Bool → ℕ → List ℕ → List (List (List ℕ))
units_of told limit sample = if nat_le limit (descriptor_size told) then [] else (sample ∷ []) ∷ []

abbrev pub vp9_units : Bool → Sender → ℕ → List ℕ → List (List (List ℕ))
vp9_units prediction s limit sample = units_of (tells_prediction prediction sample) limit sample

-- An empty sample, and one whose limit leaves no room after the descriptor, don't change the sender.
abbrev pub after_limit : Bool → Sender → ℕ → Sender
after_limit told s limit = if nat_le limit (descriptor_size told) then s else after_frame s

abbrev pub vp9_after : Bool → Sender → ℕ → List ℕ → Sender
vp9_after prediction s limit [] = s
vp9_after prediction s limit (b ∷ bs) = after_limit (tells_prediction prediction (b ∷ bs)) s limit

abbrev pub vp9_coding : Bool → Coding
vp9_coding prediction = record {
  packing = vp9_packing prediction;
  format = vp9_format;
  IsReached = λ sender. sender.number < 32768;
  IsWellFormed = λ limit sample. 0 < length sample;
  units = vp9_units prediction;
  after = vp9_after prediction;
}

-- At a limit that leaves room after each descriptor the units are the same, told or not.
abbrev pub SameUnits : Type 0
SameUnits = (prediction : Bool) (s : Sender) (limit : ℕ) (sample : List ℕ) → 4 < limit
    → vp9_units prediction s limit sample ≡ vp9_units false s limit sample
