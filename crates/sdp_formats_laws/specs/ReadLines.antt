-- What holds of lines that are read of a text.
use Rattle.std.specs.Prelude.{◌≡◌, ◌<◌, ◌≤◌, ◌^◌, ℕ, List}
use Rattle.rtp_wire.specs.Kinds.{extension_of, uri_of}
use Rattle.sdp_formats_data.specs.declared.media.MediaAttribute.{MediaAttribute}
use Rattle.sdp_formats_data.specs.declared.media.MediaAttribute.TheVariants.{ExtMap, Fmtp}
use Rattle.sdp_formats_data.specs.declared.media.MediaLine.{MediaLine}
use Rattle.sdp_formats_data.specs.declared.session.Sdp.{Sdp}
use Rattle.sdp_formats_reader.specs.Grammar.{SdpSays}
use Rattle.sdp_formats_rounds.specs.Members.{IsEach}
use Rattle.sdp_formats_rounds.specs.PlainLaws.{IsSoundRow}
use Rattle.sdp_formats_rounds.specs.Ranges.{IsModes}
use Rattle.sdp_formats_section_rows.specs.SectionRows.{rows_of}
use Rattle.sdp_formats_values.specs.declared.param.FormatParam.{FormatParam}
use Rattle.sdp_formats_values.specs.declared.param.FormatParam.TheVariants.{ModeSet, ProfileId, SpropMaxDonDiff}

-- AMR-WB modes, `sprop-max-don-diff` and `profile-id` within their ranges (RFC 4867 8.2, RFC 7798 7.1).
abbrev pub IsSoundParam : FormatParam → Type 0
IsSoundParam (ModeSet modes) = IsModes modes
IsSoundParam (SpropMaxDonDiff n) = n ≤ 32767
IsSoundParam (ProfileId n) = n < 2 ^ 32
IsSoundParam _ = Unit {0}

-- Parameters within their ranges, and a header extension that is the one its URI names (RFC 8285 5).
abbrev pub IsSoundLine : MediaAttribute → Type 0
IsSoundLine (Fmtp pt ps) = IsEach IsSoundParam ps
IsSoundLine (ExtMap id ext) = extension_of (uri_of ext) ≡ ext
IsSoundLine _ = Unit {0}

abbrev pub HasSoundLines : MediaLine → Type 0
HasSoundLines m = IsEach IsSoundLine m.attrs

-- Every line of a section that was read satisfies this.
abbrev pub ReadLinesAreSound : Type 0
ReadLinesAreSound = (text : List ℕ) (sdp : Sdp) (rest : List ℕ) → SdpSays text sdp rest
    → IsEach HasSoundLines sdp.media_lines

-- The rows of such lines contain only values within their ranges.
abbrev pub SoundLinesGiveSoundRows : Type 0
SoundLinesGiveSoundRows = (pts : List ℕ) (attrs : List MediaAttribute) → IsEach IsSoundLine attrs
    → IsEach IsSoundRow (rows_of pts attrs)
