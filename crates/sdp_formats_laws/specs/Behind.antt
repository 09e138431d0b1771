-- Which texts continue a session's text.
use Rattle.std.specs.Prelude.{◌≡◌, ◌↔◌, ℕ, true, List, [], ◌∷◌, ◌++◌, codes}
use Rattle.sdp_formats_grammar.specs.Line.{LineOf}
use Rattle.sdp_formats_grammar.specs.Split.{Lacks}
use Rattle.sdp_formats_grammar.specs.Step.{Stops}
use Rattle.sdp_formats_reader.specs.AttributesChoice.{attribute_line as media_line}
use Rattle.sdp_formats_reader.specs.ReaderChoice.{attribute_line as session_line}
use Rattle.sdp_formats_reader.specs.Lines.{repeat_line}
use Rattle.sdp_formats_reader.specs.Grammar.{SdpSays, SectionSays, SessionSays}
use Rattle.sdp_formats_laws.specs.LineEnds.{is_ended}
use Rattle.sdp_formats_data.specs.declared.media.MediaLine.{MediaLine}
use Rattle.sdp_formats_data.specs.declared.session.Sdp.{Sdp}
use Rattle.sdp_formats_data.specs.declared.session.Session.{Session}
use Rattle.sdp_formats_data.specs.declared.session.SessionAttribute.{SessionAttribute}

-- The text doesn't begin with a line that continues the end of a session (RFC 8866 5): an attribute line of the last
-- section; or, without sections, a session attribute line; or, without those, an `r=` line.
abbrev pub GoesOnWithNothing : List SessionAttribute → List MediaLine → List ℕ → Type 0
GoesOnWithNothing attributes (m ∷ ms) more = Stops (LineOf media_line.Says) more
GoesOnWithNothing (a ∷ as') [] more = Stops (LineOf session_line.Says) more
GoesOnWithNothing [] [] more = Stops (LineOf session_line.Says) more × Stops (LineOf repeat_line.Says) more

-- It can't follow a session: it doesn't continue its end, and doesn't begin another section.
abbrev pub FitsNowhereBehind : Sdp → List ℕ → Type 0
FitsNowhereBehind sdp more = GoesOnWithNothing sdp.session.attrs sdp.media_lines more × Stops SectionSays more

-- Take a text whose last line is terminated, and append another text. What is read of it stays the same (apart from the
-- rest) if and only if something of it was left unread anyway, or the appended text can't follow it.
abbrev pub StaysWithWhatFitsNowhere : Type 0
StaysWithWhatFitsNowhere = (text more rest : List ℕ) (sdp : Sdp) → is_ended text ≡ true → SdpSays text sdp rest
    → (rest ≡ [] → FitsNowhereBehind sdp more) ↔ SdpSays (text ++ more) sdp (rest ++ more)

-- The same holds of a session read on its own; what can't follow it includes sections.
abbrev pub SessionStaysWithWhatFitsNowhere : Type 0
SessionStaysWithWhatFitsNowhere = (text more rest : List ℕ) (session : Session) → is_ended text ≡ true
    → SessionSays text session rest
    → (rest ≡ [] → GoesOnWithNothing session.attrs [] more) ↔ SessionSays (text ++ more) session (rest ++ more)

-- A text that begins with none of the letters `a`, `m` and `r` can't follow any session.
abbrev pub BeginsOtherwise : List ℕ → Type 0
BeginsOtherwise [] = Unit {0}
BeginsOtherwise (b ∷ t) = Lacks b (codes "amr")

abbrev pub OthersFitNowhere : Type 0
OthersFitNowhere = (more : List ℕ) → BeginsOtherwise more → (sdp : Sdp) → FitsNowhereBehind sdp more
