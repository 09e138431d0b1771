-- What holds of the parameters of rows.
use Rattle.std.specs.Prelude.{◌≡◌, ◌≢◌, ◌≤◌, ◌↔◌, ℕ, List, [], ◌∷◌, true, Some}
use Rattle.sdp_formats_values.specs.declared.param.FormatParam.{FormatParam}
use Rattle.sdp_formats_values.specs.declared.param.FormatParam.TheVariants.{Apt, Red, Unknown}
use Rattle.sdp_formats_rows.specs.Formats.{format_of}
use Rattle.sdp_formats_rows.specs.Texts.{format_text}
use Rattle.sdp_formats_rows.specs.declared.format.FormatParams.{FormatParams}
use Rattle.sdp_formats_reader.specs.AsRead.{params_as_read}
use Rattle.sdp_formats_reader.specs.Parameters.{parameters}
use Rattle.sdp_formats_rows.specs.Plain.{comes_back, has_plain_others, is_plain}
use Rattle.sdp_formats_rows.specs.Rows.{Row}
use Rattle.sdp_formats_section_rows.specs.Attributes.{params_in}
use Rattle.sdp_formats_data.specs.PrintedMedia.{params_text}
use Rattle.sdp_formats_laws.specs.ParameterLists.{AreReadable}
use Rattle.sdp_formats_laws.specs.Printable.{LacksLineEnds}
use Rattle.sdp_formats_rounds.specs.Ranges.{IsInRange, OneLevel}

-- Parameters print some text, except a single unknown one.
abbrev pub HasText : List FormatParam → Type 0
HasText ps = ps ≢ Unknown ∷ [] → params_text ps ≢ []

-- Printed parameters are allowed on a line and read back as themselves; or there are none.
abbrev pub IsReadBack : List FormatParam → Type 0
IsReadBack [] = Unit {0}
IsReadBack (p ∷ ps) = LacksLineEnds (params_text (p ∷ ps)) × HasText (p ∷ ps)
    × (parameters.reads (params_text (p ∷ ps)) ≡ Some (params_as_read (p ∷ ps)))

-- Readable parameter lists read back.
abbrev pub ReadableListsComeBack : Type 0
ReadableListsComeBack = (ps : List FormatParam) → AreReadable ps → IsReadBack ps

-- A plain row's parameters are readable, and are never a single unknown one.
abbrev pub PlainParametersAreReadable : Type 0
PlainParametersAreReadable = (row : Row) → is_plain row ≡ true
    → AreReadable (params_in row.spec) × (params_in row.spec ≢ Unknown ∷ [])

-- The parameters of a plain row, which are never one alone that isn't known, are read as they are printed.
abbrev pub PlainParametersComeBack : Type 0
PlainParametersComeBack = (row : Row) → is_plain row ≡ true
    → IsReadBack (params_in row.spec) × (params_in row.spec ≢ Unknown ∷ [])

-- The same holds of the parameters of RTX and RED types.
abbrev pub LinksComeBack : Type 0
LinksComeBack = (pt : ℕ) → pt ≤ 127 → IsReadBack (Apt pt ∷ []) × IsReadBack (Red pt ∷ [])

-- A format whose numbers fit, with at most one profile, tier and level (and then no `profile-id`), reads back from its
-- printed text.
abbrev pub FormatsComeBack : Type 0
FormatsComeBack = (f : FormatParams) → IsInRange f → OneLevel f → format_of (format_text f) ≡ f

-- These are exactly the formats that read back, as a plain row's must.
abbrev pub PlainFormatsAreInRange : Type 0
PlainFormatsAreInRange = (f : FormatParams) → comes_back f ≡ true ↔ (IsInRange f × OneLevel f)

-- A row with such a format is plain if and only if its other fields are.
abbrev pub RowsAreAsPlainAsTheirOthers : Type 0
RowsAreAsPlainAsTheirOthers = (row : Row) → IsInRange row.spec.format → OneLevel row.spec.format
    → is_plain row ≡ has_plain_others row
