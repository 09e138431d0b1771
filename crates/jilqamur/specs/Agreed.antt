-- What an end tells about what was agreed.
use Rattle.std.specs.Prelude.{ℕ, ◌≡◌, List, length, Bool, Option, Some, None, is_some, unwrap_or}
use Rattle.std.specs.List.{slice_get}
use Rattle.media_types.specs.Codecs.{codec_name, is_video_kind}
use Rattle.rtp_media_ends.specs.Ends.{EndState}
use Rattle.rtp_media_sections.specs.Agreement.{Agreed}
use Rattle.sdp_formats_rows.specs.Rows.{Row}
use Rattle.jilqamur.specs.Codes.{nothing, ok}
use Rattle.jilqamur.specs.declared.agreed.WireSection.{WireSection}
use Rattle.jilqamur.specs.declared.row.WireRow.{WireRow}

-- The agreed section with this index, the row with this index in it, and the SSRC with this index among the remote
-- ones; none without an end.
abbrev pub section_at : Option EndState → ℕ → Option Agreed
section_at None n = None
section_at (Some e) n = slice_get e.exchange.agreed n

abbrev pub row_in : Option Agreed → ℕ → Option Row
row_in None n = None
row_in (Some a) n = slice_get a.rows n

abbrev pub ssrc_in : Option Agreed → ℕ → Option ℕ
ssrc_in None n = None
ssrc_in (Some a) n = slice_get a.remote_ssrcs n

abbrev pub section_told : Agreed → WireSection
section_told a = record {
  is_video = is_video_kind a.kind;
  sends = a.sends;
  receives = a.receives;
  rows = length a.rows;
  ssrcs = length a.remote_ssrcs;
}

abbrev pub row_told : Row → WireRow
row_told r = record {
  payload_type = r.pt;
  has_resend = is_some r.resend;
  resend = unwrap_or r.resend 0;
  has_red = is_some r.red;
  red = unwrap_or r.red 0;
  clock_rate = r.spec.clock_rate;
  has_channels = is_some r.spec.channels;
  channels = unwrap_or r.spec.channels 0;
}

abbrev pub name_of : Option Agreed → Option (List ℕ)
name_of None = None
name_of (Some a) = Some a.mid

abbrev pub codec_of : Option Row → Option (List ℕ)
codec_of None = None
codec_of (Some r) = Some (codec_name r.spec.codec)

-- What is told where there is one.
abbrev pub TellsSection : Option Agreed → WireSection → WireSection → Type 0
TellsSection None before told = told ≡ before
TellsSection (Some a) before told = told ≡ section_told a

abbrev pub TellsRow : Option Row → WireRow → WireRow → Type 0
TellsRow None before told = told ≡ before
TellsRow (Some r) before told = told ≡ row_told r

abbrev pub TellsSsrc : Option ℕ → ℕ → ℕ → ℕ → Type 0
TellsSsrc None before result told = (result ≡ nothing) × (told ≡ before)
TellsSsrc (Some ssrc) before result told = (result ≡ ok) × (told ≡ ssrc)
