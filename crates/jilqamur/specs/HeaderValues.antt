-- The values of header extensions of a datagram, by the ids that a C program gives.
use Rattle.std.specs.Prelude.{ℕ, ◌≡◌, ◌-◌, ◌&&◌, Bool, nat_le, if◌then◌else◌, List, [], length, Option, Some, None}
use Rattle.std.specs.Prelude.{is_some}
use Rattle.std.specs.Prelude.{unwrap_or, slice_set}
use Rattle.rtp_wire.specs.Elements.{Numbering}
use Rattle.rtp_wire.specs.Header.{header_in}
use Rattle.rtp_wire.specs.Maps.{empty_map}
use Rattle.rtp_wire.specs.Name.{filled}
use Rattle.rtp_wire.specs.declared.extension.Extension.{Extension}
use Rattle.rtp_wire.specs.declared.extension.Extension.TheVariants as extension
use Rattle.rtp_wire.specs.declared.header.RtpHeader.{RtpHeader}
use Rattle.rtp_wire.specs.declared.values.ExtensionValues.{ExtensionValues}
use Rattle.jilqamur.specs.Codes.{ok, unreadable}
use Rattle.jilqamur.specs.Values.{values_told}
use Rattle.jilqamur.specs.declared.header_values.WireIds.{WireIds}
use Rattle.jilqamur.specs.declared.header_values.WireNames.{WireNames}
use Rattle.jilqamur.specs.declared.values.WireValues.{WireValues}

-- An id of 0 is none, and 16 is the greatest (RFC 8285 4.3).
unfoldable pub are_ids : WireIds → Bool
are_ids w =
    nat_le w.audio_level 16 && nat_le w.abs_send_time 16 && nat_le w.transport_cc 16 && nat_le w.video_orientation 16
    && nat_le w.play_delay 16 && nat_le w.video_content_type 16 && nat_le w.capture_time 16
    && nat_le w.mid 16 && nat_le w.rid 16 && nat_le w.repaired_rid 16

-- The map with this id given to an extension.
abbrev pub with_id : Numbering → ℕ → Extension → Numbering
with_id ids id ext = if nat_le 1 id then slice_set ids (id - 1) (Some ext) else ids

-- The map of these ids; of two extensions with one id the later one has it.
unfoldable pub map_of : WireIds → Numbering
map_of w =
    with_id (with_id (with_id (with_id (with_id (with_id (with_id (with_id (with_id (with_id empty_map
    w.audio_level extension.AudioLevel)
    w.abs_send_time extension.AbsoluteSendTime)
    w.transport_cc extension.TransportSequenceNumber)
    w.video_orientation extension.VideoOrientation)
    w.play_delay extension.PlayoutDelay)
    w.video_content_type extension.VideoContentType)
    w.capture_time extension.AbsoluteCaptureTime)
    w.mid extension.RtpMid)
    w.rid extension.RtpStreamId)
    w.repaired_rid extension.RepairedRtpStreamId

-- A name that is told, and its length; without one all is 0.
abbrev pub name_told : ℕ → Option (List ℕ) → List ℕ
name_told most name = filled most (unwrap_or name [])

abbrev pub len_told : Option (List ℕ) → ℕ
len_told name = length (unwrap_or name [])

abbrev pub names_told : ExtensionValues → WireNames
names_told v = record {
  has_mid = is_some v.mid;
  mid_len = len_told v.mid;
  mid = name_told 16 v.mid;
  has_rid = is_some v.rid;
  rid_len = len_told v.rid;
  rid = name_told 8 v.rid;
  has_repaired_rid = is_some v.rid_repair;
  repaired_rid_len = len_told v.rid_repair;
  repaired_rid = name_told 8 v.rid_repair;
}

-- What is told of the header in front of a datagram.
abbrev pub TellsHeader : Option RtpHeader → ℕ → WireValues → WireNames → Type 0
TellsHeader None result values names = result ≡ unreadable
TellsHeader (Some h) result values names =
    (result ≡ ok) × (values ≡ values_told h.ext_vals) × (names ≡ names_told h.ext_vals)
