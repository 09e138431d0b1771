-- What rounds preserve of a text's rows.
use Rattle.std.specs.Prelude.{◌≡◌, true, List, Ok}
use Rattle.std.specs.List.{list_all}
use Rattle.sdp_formats_rounds.specs.Laws.{Section, rounds}
use Rattle.sdp_formats_rounds.specs.Members.{IsEach}
use Rattle.sdp_formats_rounds.specs.PlainLaws.{AreSound}
use Rattle.sdp_formats_rows.specs.Plain.{is_plain}
use Rattle.sdp_formats_rows.specs.Rows.{Row}

-- Rounds keep rows plain, if the values in the sections' rows fit their widths.
abbrev pub RoundsKeepPlainRows : Type 0
RoundsKeepPlainRows = (sections : List Section) (rows after : List Row) → IsEach AreSound sections
    → list_all is_plain rows ≡ true → rounds sections rows ≡ Ok after → list_all is_plain after ≡ true
