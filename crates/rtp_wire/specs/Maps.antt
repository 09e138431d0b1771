use Rattle.std.specs.Prelude.{ℕ, suc, ◌-◌, Bool, true, false, ◌&&◌, nat_le, if◌then◌else◌, List, [], ◌∷◌, replicate}
use Rattle.std.specs.Prelude.{position, swap, is_none, Option, Some, None}
use Rattle.std.specs.Option.{option_map}
use Rattle.std.specs.List.{list_all}
use Rattle.rtp_wire.specs.declared.extension.Extension.{Extension}
use Rattle.rtp_wire.specs.declared.extension.Extension.TheVariants.{AbsoluteSendTime, AudioLevel}
use Rattle.rtp_wire.specs.declared.extension.Extension.TheVariants.{VideoOrientation}
use Rattle.rtp_wire.specs.declared.extension.Extension.TheVariants.{TransportSequenceNumber, RtpStreamId}
use Rattle.rtp_wire.specs.declared.extension.Extension.TheVariants.{RepairedRtpStreamId, RtpMid}
use Rattle.rtp_wire.specs.declared.map.ExtensionsForm.{ExtensionsForm}
use Rattle.rtp_wire.specs.declared.map.ExtensionsForm.TheVariants.{OneByte, TwoByte}
use Rattle.rtp_wire.specs.declared.values.ExtensionValues.{ExtensionValues}
use Rattle.rtp_wire.specs.Elements.{Numbering, slot_is, are_one_byte}
use Rattle.rtp_wire.specs.Values.{written_elements}

-- No id has an extension.
abbrev pub empty_map : Numbering
empty_map = replicate 16 None

abbrev pub is_empty_map : Numbering → Bool
is_empty_map map = list_all (λ o. is_none o) map

-- The usual numbers.
abbrev pub standard_map : Numbering
standard_map =
    Some AudioLevel ∷ Some AbsoluteSendTime ∷ Some TransportSequenceNumber ∷ Some RtpMid
    ∷ None ∷ None ∷ None ∷ None ∷ None ∷ Some RtpStreamId ∷ Some RepairedRtpStreamId ∷ None
    ∷ Some VideoOrientation ∷ None ∷ None ∷ None ∷ []

-- The first index of an extension.
abbrev pub place_of : Numbering → Extension → Option ℕ
place_of map ext = position (λ o. slot_is o ext) map

-- The lowest id of an extension.
abbrev pub id_of : Numbering → Extension → Option ℕ
id_of map ext = option_map suc (place_of map ext)

-- The extension moves to this id; the extension that was there takes its old id.
abbrev pub moved_from : Numbering → ℕ → Option ℕ → Numbering
moved_from map id None = map
moved_from map id (Some place) = if nat_le 1 id && nat_le id 16 then swap map place (id - 1) else map

abbrev pub moved : Numbering → ℕ → Extension → Numbering
moved map id ext = moved_from map id (place_of map ext)

abbrev pub remapped : Numbering → List (ℕ × Extension) → Numbering
remapped map [] = map
remapped map (p ∷ ps) = remapped (moved map p.0 p.1) ps

abbrev pub form_if : Bool → ExtensionsForm
form_if true = OneByte
form_if false = TwoByte

-- The form of the block that is written for values (RFC 8285 4.2 and 4.3).
abbrev pub form_for : Numbering → ExtensionValues → ExtensionsForm
form_for map values = form_if (are_one_byte (written_elements map values))
