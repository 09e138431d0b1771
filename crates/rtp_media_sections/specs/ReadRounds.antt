-- What the rounds preserve.
use Rattle.std.specs.Prelude.{◌≡◌, ℕ, List, Ok, map}
use Rattle.rtp_media_sections.specs.Lines.{remote_of, section_of}
use Rattle.sdp_formats_data.specs.declared.session.Sdp.{Sdp}
use Rattle.sdp_formats_reader.specs.Grammar.{SdpSays}
use Rattle.sdp_formats_rounds.specs.Laws.{rounds}
use Rattle.sdp_formats_rows.specs.Rows.{Row}
use Rattle.rtp_media_sections.specs.PrintableSections.{ArePrintable}

-- The rounds with a text's sections keep rows plain, with distinct payload types and numbers that fit.
abbrev pub ReadSectionsKeepRows : Type 0
ReadSectionsKeepRows = (text : List ℕ) (said : Sdp) (rest : List ℕ) → SdpSays text said rest → (rows after : List Row)
    → ArePrintable rows → rounds (map remote_of (map section_of said.media_lines)) rows ≡ Ok after
    → ArePrintable after
