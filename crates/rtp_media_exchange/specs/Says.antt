-- What the text of an offer or an answer says (RFC 8866 5).
use Rattle.std.specs.Prelude.{◌≡◌, ℕ, List, map}
use Rattle.sdp_formats_reader.specs.Grammar.{SdpSays}
use Rattle.sdp_formats_data.specs.declared.media.MediaLine.{MediaLine}
use Rattle.sdp_formats_data.specs.declared.session.Session.{Session}
use Rattle.rtp_media_sections.specs.Agreement.{Agreed, AgreesOn}
use Rattle.rtp_media_sections.specs.Lines.{section_of}
use Rattle.rtp_media_sections.specs.Sections.{Section}

-- The text says these sections.
abbrev pub Says : List ℕ → List MediaLine → Type 0
Says text lines = (session : Session) × (rest : List ℕ)
    × SdpSays text (record { session = session; media_lines = lines }) rest

-- It says these, and no others.
pub record SaysOnly (text : List ℕ) (lines : List MediaLine) : Type 0 where
  pub says : Says text lines
  pub only : (others : List MediaLine) → Says text others → others ≡ lines

-- What the sections of a text mean to an exchange.
pub record SaysSections (text : List ℕ) (sections : List Section) : Type 0 where
  pub lines : List MediaLine
  pub says : SaysOnly text lines
  pub sections_are : sections ≡ map section_of lines

-- What was agreed on is what the text says.
pub record AgreesOnText (text : List ℕ) (agreed : List Agreed) : Type 0 where
  pub sections : List Section
  pub says : SaysSections text sections
  pub agrees : AgreesOn sections agreed
