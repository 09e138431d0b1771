-- The rows of an answer (RFC 3264 6.1).
use Rattle.std.specs.Prelude.{◌≡◌, ◌↔◌, Bool, List, map}
use Rattle.std.specs.List.{flat_map}
use Rattle.rtp_media_sections.specs.Answered.{row_answering, rows_answering}
use Rattle.sdp_formats_rows.specs.Rows.{Row}
use Rattle.sdp_formats_laws.specs.EachOnce.{AreDistinct, IsEachOnce}

-- The rows that answer offered ones, in the offered order, with repetitions.
abbrev pub answering : List Row → Bool → List Row → List Row
answering rows dictated offered = flat_map (row_answering rows dictated) offered

-- The rows of an answer are exactly these, each once, in the order of their first occurrence.
abbrev pub AnsweredAreEachOnce : Type 0
AnsweredAreEachOnce = (rows : List Row) (dictated : Bool) (offered answered : List Row)
    → (answered ≡ rows_answering rows dictated offered) ↔ IsEachOnce (answering rows dictated offered) answered

-- No two of them have the same type.
abbrev pub AnsweredTypesAreDistinct : Type 0
AnsweredTypesAreDistinct = (rows : List Row) (dictated : Bool) (offered : List Row)
    → AreDistinct (map (λ row. row.pt) (rows_answering rows dictated offered))
