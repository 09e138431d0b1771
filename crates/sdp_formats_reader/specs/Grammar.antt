-- What an SDP says (RFC 8866 5): the grammar.
use Rattle.std.specs.Prelude.{◌≡◌, ℕ, IsTrue, List, Option, Result, Ok, Err}
use Rattle.std.specs.Borrow.{Bor}
use Rattle.std.specs.List.{list_all}
use Rattle.sdp_formats_grammar.specs.declared.refusal.Refusal.{Refusal}
use Rattle.sdp_formats_grammar.specs.declared.refusal.Refusal.TheVariants.{Unfit, Memory}
use Rattle.sdp_formats_reader.specs.Lines.{version_line, origin_line, name_line, other_line, bandwidth_line}
use Rattle.sdp_formats_reader.specs.Lines.{times_line, repeat_line, connection_line, head_line}
use Rattle.sdp_formats_reader.specs.declared.media.MediaHead.{MediaHead}
use Rattle.sdp_formats_reader.specs.declared.passed.Passed.{Passed}
use Rattle.sdp_formats_reader.specs.AttributesChoice.{attribute_line as media_line}
use Rattle.sdp_formats_reader.specs.ReaderChoice.{attribute_line as session_line}
use Rattle.sdp_formats_grammar.specs.Line.{LineOf}
use Rattle.sdp_formats_grammar.specs.Step.{Many, Perhaps}
use Rattle.sdp_formats_data.specs.Consistency.{is_consistent}
use Rattle.sdp_formats_data.specs.declared.media.MediaLine.{MediaLine}
use Rattle.sdp_formats_data.specs.declared.session.Sdp.{Sdp}
use Rattle.sdp_formats_data.specs.declared.session.Session.{Session}

-- The lines `v=`, `o=` and `s=`: the session's number.
unfoldable pub OpeningSays : List ℕ → ℕ → List ℕ → Type 0
OpeningSays text id rest = (v : Passed) × (one : List ℕ) × LineOf version_line.Says text v one
    × (two : List ℕ) × LineOf origin_line.Says one id two
    × (s : Passed) × LineOf name_line.Says two s rest

-- The line `t=` and any `r=`.
unfoldable pub TimesSay : List ℕ → Passed → List ℕ → Type 0
TimesSay text t rest = (one : List ℕ) × LineOf times_line.Says text t one
    × (rs : List Passed) × Many (LineOf repeat_line.Says) one rs rest

-- The header, and the attributes up to the first section (RFC 8866 5).
unfoldable pub SessionSays : List ℕ → Session → List ℕ → Type 0
SessionSays text session rest = (one : List ℕ) × OpeningSays text session.id one
    × (others : List Passed) × (two : List ℕ) × Many (LineOf other_line.Says) one others two
    × (three : List ℕ) × Perhaps (LineOf bandwidth_line.Says) two session.bw three
    × (t : Passed) × (four : List ℕ) × TimesSay three t four
    × Many (LineOf session_line.Says) four session.attrs rest

-- The section that a line `m=`, a bandwidth and attributes make.
abbrev pub section_of : MediaHead → MediaLine → Type 0
section_of h section = (section.typ ≡ h.typ) × (section.disabled ≡ h.disabled) × (section.proto ≡ h.proto)
    × (section.pts ≡ h.pts)

-- `m=`, at most one `c=`, at most one `b=`, and attributes (RFC 8866 5.14)
unfoldable pub SectionSays : List ℕ → MediaLine → List ℕ → Type 0
SectionSays text section rest = (h : MediaHead) × (one : List ℕ) × LineOf head_line.Says text h one
    × section_of h section
    × (c : Option Passed) × (two : List ℕ) × Perhaps (LineOf connection_line.Says) one c two
    × (three : List ℕ) × Perhaps (LineOf bandwidth_line.Says) two section.bw three
    × Many (LineOf media_line.Says) three section.attrs rest

-- An SDP: a header, session attributes, consistent sections; the rest begins at the first line that fits nowhere.
unfoldable pub SdpSays : List ℕ → Sdp → List ℕ → Type 0
SdpSays text sdp rest = (one : List ℕ) × SessionSays text sdp.session one × Many SectionSays one sdp.media_lines rest
    × IsTrue (list_all is_consistent sdp.media_lines)

-- What is read is what the text says, and it says nothing else; if nothing is read, except for lack of memory, the text
-- says nothing.
unfoldable pub ReadsSdp : List ℕ → Result (Sdp × Bor (List ℕ)) Refusal → Type 0
ReadsSdp text (Ok r) = SdpSays text r.0 r.1.now
    × ((sdp : Sdp) (rest : List ℕ) → SdpSays text sdp rest → (sdp ≡ r.0) × (rest ≡ r.1.now))
ReadsSdp text (Err Unfit) = (sdp : Sdp) (rest : List ℕ) → SdpSays text sdp rest → ⊥
ReadsSdp text (Err Memory) = Unit {0}

-- The same of a header with its attributes alone.
unfoldable pub ReadsSession : List ℕ → Result (Session × Bor (List ℕ)) Refusal → Type 0
ReadsSession text (Ok r) = SessionSays text r.0 r.1.now
    × ((session : Session) (rest : List ℕ) → SessionSays text session rest → (session ≡ r.0) × (rest ≡ r.1.now))
ReadsSession text (Err Unfit) = (session : Session) (rest : List ℕ) → SessionSays text session rest → ⊥
ReadsSession text (Err Memory) = Unit {0}
