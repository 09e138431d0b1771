-- Whole texts of rows.
use Rattle.std.proofs.Common.{◌≡◌, List, [], ◌∷◌, map, refl, ◌∙◌}
use Rattle.sdp_formats_rounds.specs.Members.{IsEach}
use Rattle.sdp_formats_laws.specs.PrintableTexts.{IsPrintableSection, IsPrintableText}
use Rattle.sdp_formats_laws.specs.ReadTexts.{section_as_read, text_as_read}
use Rattle.sdp_formats_reader.specs.Grammar.{SdpSays}
use Rattle.sdp_formats_laws.specs.RowsBack.{PlainRowsComeBack, unlocked}
use Rattle.sdp_formats_laws.specs.Rows.{EachListsRows, ListedRowsHaveNoFault, ListsRows, ReadRowsAreRows}
use Rattle.sdp_formats_laws.specs.Rows.{RowTextsComeBack, RowsArePrintable, section_rows}
use Rattle.sdp_formats_laws.proofs.Faultless.{none_at_fault}
use Rattle.sdp_formats_rows.specs.Rows.{Row}
use Rattle.sdp_formats_section_rows.specs.SectionRows.{rows_of}
use Rattle.sdp_formats_data.specs.PrintedSession.{sdp_text}
use Rattle.sdp_formats_data.specs.declared.MediaLine.{MediaLine}
use Rattle.sdp_formats_data.specs.declared.Sdp.{Sdp}

section_back : PlainRowsComeBack → ReadRowsAreRows → (m : MediaLine) (rows : List Row) → ListsRows m rows
    → section_rows (section_as_read m) ≡ map unlocked rows
section_back come read m rows h =
    read m ∙ (λ i. rows_of (h.types i) (h.attributes i))
    ∙ come rows h.others h.behind h.plain h.distinct h.others_silent h.behind_silent

pub sections_back : PlainRowsComeBack → ReadRowsAreRows → (ms : List MediaLine) (lists : List (List Row))
    → EachListsRows ms lists → map section_rows (map section_as_read ms) ≡ map (map unlocked) lists
sections_back come read [] [] h = refl
sections_back come read (m ∷ ms) (rows ∷ lists) h =
    (λ i. section_back come read m rows h.0 i ∷ sections_back come read ms lists h.1 i)
sections_back come read [] (rows ∷ lists) h = absurd h
sections_back come read (m ∷ ms) [] h = absurd h

pub sections_print : RowsArePrintable → (ms : List MediaLine) (lists : List (List Row)) → EachListsRows ms lists
    → IsEach IsPrintableSection ms
sections_print print [] [] h = tt
sections_print print (m ∷ ms) (rows ∷ lists) h = (print m rows h.0, sections_print print ms lists h.1)
sections_print print [] (rows ∷ lists) h = absurd h
sections_print print (m ∷ ms) [] h = absurd h

abbrev pub TextsComeBack : Type 0
TextsComeBack = (sdp : Sdp) → IsPrintableText sdp → SdpSays (sdp_text sdp) (text_as_read sdp) []

pub texts_back : TextsComeBack → PlainRowsComeBack → RowsArePrintable → ListedRowsHaveNoFault → ReadRowsAreRows
    → RowTextsComeBack
texts_back texts come print fine read sdp lists session each one = (
  texts sdp (
    session,
    sections_print print sdp.media_lines lists each,
    none_at_fault fine sdp.media_lines lists each one,
  ),
  sections_back come read sdp.media_lines lists each,
)
