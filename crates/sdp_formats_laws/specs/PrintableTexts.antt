-- SDP that is read back as it was printed.
use Rattle.std.specs.Prelude.{◌≡◌, ◌<◌, ◌^◌, ◌++◌, ℕ, IsTrue, List, [], ◌∷◌, Option, Some, None}
use Rattle.std.specs.List.{list_all}
use Rattle.sdp_formats_grammar.specs.Line.{LineOf}
use Rattle.sdp_formats_grammar.specs.Split.{Lacks}
use Rattle.sdp_formats_reader.specs.AsRead.{as_read}
use Rattle.sdp_formats_reader.specs.AttributesChoice.{attribute_line}
use Rattle.sdp_formats_data.specs.PrintedMedia.{attribute_text}
use Rattle.sdp_formats_data.specs.declared.media.MediaAttribute.{MediaAttribute}
use Rattle.sdp_formats_reader.specs.Heads.{media_type}
use Rattle.sdp_formats_data.specs.Consistency.{is_consistent}
use Rattle.sdp_formats_data.specs.declared.media.MediaLine.{MediaLine}
use Rattle.sdp_formats_values.specs.declared.media_type.MediaType.{MediaType}
use Rattle.sdp_formats_values.specs.declared.media_type.MediaType.TheVariants.{Audio, Video, Application, Unknown}
use Rattle.sdp_formats_values.specs.declared.bandwidth.Bandwidth.{Bandwidth}
use Rattle.sdp_formats_data.specs.declared.session.Sdp.{Sdp}
use Rattle.sdp_formats_data.specs.declared.session.Session.{Session}
use Rattle.sdp_formats_rounds.specs.Members.{IsEach}
use Rattle.sdp_formats_laws.specs.Printable.{IsText, IsWord, IsPrintable, AreBelow}
use Rattle.sdp_formats_laws.specs.PrintableSession.{IsPrintable as IsPrintableInSession}

-- A bandwidth, if there is one, of texts that can be where they are printed.
abbrev pub IsPrintableBandwidth : Option Bandwidth → Type 0
IsPrintableBandwidth None = Unit {0}
IsPrintableBandwidth (Some b) = IsText b.typ × Lacks 58 b.typ × IsText b.val

-- A media type and its formats: at least one payload type; none for data channels.
abbrev pub AreFormats : MediaType → List ℕ → Type 0
AreFormats Application pts = pts ≡ []
AreFormats typ [] = ⊥
AreFormats Audio (pt ∷ pts) = AreBelow (2 ^ 8) (pt ∷ pts)
AreFormats Video (pt ∷ pts) = AreBelow (2 ^ 8) (pt ∷ pts)
AreFormats (Unknown word) (pt ∷ pts) = IsWord word × (media_type word ≡ Some (Unknown word))
    × AreBelow (2 ^ 8) (pt ∷ pts)

abbrev pub IsPrintableSection : MediaLine → Type 0
IsPrintableSection m = AreFormats m.typ m.pts × IsPrintableBandwidth m.bw × IsEach IsPrintable m.attrs

-- An attribute whose line is read back as it, whatever follows, as a printable one's is; a section of such lines.
abbrev pub LineComesBack : MediaAttribute → Type 0
LineComesBack a = (rest : List ℕ) → LineOf attribute_line.Says (attribute_text a ++ rest) (as_read a) rest

abbrev pub HasLinesThatComeBack : MediaLine → Type 0
HasLinesThatComeBack m = AreFormats m.typ m.pts × IsPrintableBandwidth m.bw × IsEach LineComesBack m.attrs

abbrev pub IsPrintableSession : Session → Type 0
IsPrintableSession s = (s.id < 2 ^ 64) × IsPrintableBandwidth s.bw × IsEach IsPrintableInSession s.attrs

-- A session and sections without a fault whose texts can be where they are printed.
abbrev pub IsPrintableText : Sdp → Type 0
IsPrintableText sdp = IsPrintableSession sdp.session × IsEach IsPrintableSection sdp.media_lines
    × IsTrue (list_all is_consistent sdp.media_lines)
