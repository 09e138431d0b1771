use Rattle.std.specs.Prelude.{ℕ, ◌/◌, Bool, true, false, ◌==◌, if◌then◌else◌, List, length, Option, Some, None}
use Rattle.rtp_wire.specs.declared.values.ExtensionValues.{ExtensionValues}
use Rattle.rtp_wire.specs.declared.extension.Extension.{Extension}
use Rattle.rtp_wire.specs.Carried.{values_for}
use Rattle.rtp_wire.specs.Elements as elements
use Rattle.rtp_wire.specs.Elements.{Element, holds, elements_to, are_one_byte, elements_text, filled_text}
use Rattle.rtp_wire.specs.Elements.{values_from}

-- The extension of each id, starting with id 1.
abbrev pub Numbering : Type 0
Numbering = elements.Numbering

-- No value is there.
abbrev pub absent : ExtensionValues
absent = record {
  audio_level = None;
  voice_activity = None;
  abs_send_time = None;
  transport_cc = None;
  mid = None;
  rid = None;
  rid_repair = None;
  video_orientation = None;
  play_delay_min = None;
  play_delay_max = None;
  video_content_type = None;
  abs_capture_time = None;
}

-- An extension block: its profile and its contents, a whole number of 32-bit words (RFC 3550 5.3.1).
pub record Block : Type 0 where
  pub profile : ℕ
  pub content : List ℕ

-- The form of a profile: one-byte, two-byte, or none with elements (RFC 8285 4.2 and 4.3).
abbrev pub form_of_profile : ℕ → Option Bool
form_of_profile profile = if profile == 48862 then Some true else if profile / 16 == 256 then Some false else None

abbrev pub values_in_form : Option Bool → Numbering → List ℕ → ExtensionValues
values_in_form None map content = absent
values_in_form (Some one) map content = values_from one map (length content) content absent

-- What a block holds.
unfoldable pub values_of : Numbering → Block → ExtensionValues
values_of map block = values_in_form (form_of_profile block.profile) map block.content

-- The elements that are written for values.
unfoldable pub written_elements : Numbering → ExtensionValues → List Element
written_elements map values = elements_to map values 16

abbrev pub profile_of : Bool → ℕ
profile_of true = 48862
profile_of false = 4096

abbrev pub block_in_form : Bool → List Element → Block
block_in_form one es = record { profile = profile_of one; content = filled_text (elements_text one es) }

-- The block written for values: in the one-byte form if every element fits it.
unfoldable pub block_of : Numbering → ExtensionValues → Block
block_of map values = block_in_form (are_one_byte (written_elements map values)) (written_elements map values)

-- The block with each element in the two-byte form.
unfoldable pub two_byte_block : Numbering → ExtensionValues → Block
two_byte_block map values = block_in_form false (written_elements map values)

-- Some number has the extension.
unfoldable pub is_mapped : Numbering → Extension → Bool
is_mapped map ext = holds map 16 ext

-- The wire image of values: those of the map's extensions, as they are once written as bytes.
unfoldable pub image_values : Numbering → ExtensionValues → ExtensionValues
image_values map values = values_for (is_mapped map) values
