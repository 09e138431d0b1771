-- What holds of the payload formats of all codecs, and of a packetizer and a depacketizer of one.
use Rattle.std.specs.Prelude.{◌≡◌, ℕ, ◌<◌, Bool, true, List, map, None, Result, Ok, Err}
use Rattle.payload_core_base.specs.Format.{Format, Run, read_all}
use Rattle.payload_core_base.specs.Law.{AreWithin, CodecLaw, Coding, FillsPackets, joined}
use Rattle.payload_core_base.specs.Packing.{Packing, Sender, Sent}
use Rattle.payload_core_base.specs.declared.error.PacketError.{PacketError}
use Rattle.payload_core_base.specs.declared.extra.CodecExtra.{CodecExtra}
use Rattle.media_types.specs.declared.codec.Codec.{Codec}
use Rattle.media_types.specs.declared.codec.Codec.TheVariants.{Vp8, Vp9}
use Rattle.h26x_payload.specs.Codings.{Forms, Settings, coding_in, coding_of, first_sender, has_format}

-- Under any settings each codec keeps the codec law.
abbrev pub KeepCodecLaw : Type 0
KeepCodecLaw = (s : Settings) (has_id : Bool) (codec : Codec) → CodecLaw (coding_of s has_id codec)

-- And in every form.
abbrev pub KeepCodecLawInForms : Type 0
KeepCodecLawInForms = (f : Forms) (s : Settings) (has_id : Bool) (codec : Codec) → CodecLaw (coding_in f s has_id codec)

-- The codec law covers the state before the first sample, whatever the first picture id.
abbrev pub FirstIsReached : Type 0
FirstIsReached = (s : Settings) (has_id : Bool) (codec : Codec) (picture_id : ℕ) → has_format codec ≡ true
    → picture_id < 32768 → (coding_of s has_id codec).IsReached (first_sender picture_id codec)

-- Every VP8 or VP9 packet except the sample's last is exactly as long as the limit.
abbrev pub FillPackets : Type 0
FillPackets = (s : Settings) (has_id : Bool) → FillsPackets (coding_of s has_id Vp8).packing
    × FillsPackets (coding_of s has_id Vp9).packing

abbrev pub FillPacketsInForms : Type 0
FillPacketsInForms = (f : Forms) (s : Settings) (has_id : Bool) → FillsPackets (coding_in f s has_id Vp8).packing
    × FillsPackets (coding_in f s has_id Vp9).packing

-- At limits above 4 bytes, the options don't change the units.
abbrev pub FormsKeepUnits : Type 0
FormsKeepUnits = (f : Forms) (s : Settings) (has_id : Bool) (codec : Codec) (sender : Sender) (limit : ℕ)
    (sample : List ℕ) → 4 < limit → (coding_in f s has_id codec).units sender limit sample
    ≡ (coding_of s has_id codec).units sender limit sample

-- The codec with this packetizer and this format in place of its own.
abbrev pub through : Packing → Format → Coding → Coding
through packing format coding = record {
  packing = packing;
  format = format;
  IsReached = coding.IsReached;
  IsWellFormed = coding.IsWellFormed;
  units = coding.units;
  after = coding.after;
}

-- The run had no fault, gave the bytes of these units, concatenated, and left no fragment open.
pub record GivesUnits (run : Run) (units : List (List (List ℕ))) : Type 0 where
  pub no_fault : run.fault ≡ None
  pub written : run.written ≡ joined (map joined units)
  pub closed : run.fragment ≡ None

-- The sample is accepted; each packet has between one byte and the limit; and read in order, with no fragment open, the
-- packets give these units.
abbrev pub SendsAndGives : Format → ℕ → Result Sent PacketError → List (List (List ℕ)) → Type 0
SendsAndGives format limit (Ok sent) units =
    AreWithin limit sent.packets × ((extra : CodecExtra) → GivesUnits (read_all format None extra sent.packets) units)
SendsAndGives format limit (Err e) units = ⊥

-- A well-formed sample is cut into packets that give its units.
abbrev pub ComesThrough : Coding → Type 0
ComesThrough coding = (sender : Sender) (limit : ℕ) (sample : List ℕ) → coding.IsReached sender
    → coding.IsWellFormed limit sample → SendsAndGives coding.format limit (coding.packing.pack sender limit sample)
    (coding.units sender limit sample)

-- A packetizer and a depacketizer that work as a codec does under the same settings obey the codec law, and well-formed
-- samples come through.
pub record ArePair (packing : Packing) (format : Format) (coding : Coding) : Type 0 where
  pub law : CodecLaw (through packing format coding)
  pub comes_through : ComesThrough (through packing format coding)

abbrev pub PairKeepsCodecLaw : Packing → Format → Type 0
PairKeepsCodecLaw packing format = (s : Settings) (has_id : Bool) (codec : Codec) → packing
    ≡ (coding_of s has_id codec).packing → format ≡ (coding_of s has_id codec).format
    → ArePair packing format (coding_of s has_id codec)

abbrev pub PairKeepsCodecLawInForms : Packing → Format → Type 0
PairKeepsCodecLawInForms packing format = (f : Forms) (s : Settings) (has_id : Bool) (codec : Codec) → packing
    ≡ (coding_in f s has_id codec).packing → format ≡ (coding_of s has_id codec).format
    → ArePair packing format (coding_in f s has_id codec)
