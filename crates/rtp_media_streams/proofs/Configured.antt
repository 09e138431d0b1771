-- Packetizers and depacketizers that were configured.
use Rattle.std.proofs.Common.{◌≡◌, refl, Bool, false}
use Rattle.payload_core_base.specs.Packing.{Sender}
use Rattle.media_types.specs.declared.codec.Codec.{Codec}
use Rattle.media_types.specs.declared.codec.Codec.TheVariants as codecs
use Rattle.h26x_payload.specs.Codings.{Forms, Settings, coding_in, coding_of}

-- neither picture ids nor forms change how payloads are read
pub same-reading : (f : Forms) (s : Settings) (has_id : Bool) (codec : Codec) → (coding_in f s has_id codec).format
    ≡ (coding_of s false codec).format
same-reading f s has_id codecs.Opus = refl
same-reading f s has_id _ = refl

-- forms do not change what a packetizer may keep between samples
pub reached-in-forms : (f : Forms) (s : Settings) (has_id : Bool) (codec : Codec) (kept : Sender)
    → (coding_of s has_id codec).IsReached kept → (coding_in f s has_id codec).IsReached kept
reached-in-forms f s has_id codecs.Opus kept reached = reached
reached-in-forms f s has_id _ kept reached = reached
