-- Rounds with the rows of a text keep plain rows.
use Rattle.std.proofs.Common.{◌≡◌, true, ◌&&◌, List, [], ◌∷◌, refl}
use Rattle.std.specs.List.{list_all}
use Rattle.sdp_formats_rounds.specs.Members.{IsEach}
use Rattle.sdp_formats_rounds.specs.PlainLaws.{IsOfWidths, RoundsKeepWidths}
use Rattle.sdp_formats_rows.specs.Plain.{comes_back, has_plain_others, is_plain}
use Rattle.sdp_formats_rows.specs.Rows.{Row}
use Rattle.sdp_formats_laws.specs.PlainRounds.{RoundsKeepPlainRows}
use Rattle.sdp_formats_laws.specs.PrintedParameters.{PlainFormatsAreInRange}
use Rattle.sdp_formats_laws.proofs.AnyMember.{both}

-- a plain row is one of widths, and the other way round
of_widths : PlainFormatsAreInRange → (rows : List Row) → list_all is_plain rows ≡ true → IsEach IsOfWidths rows
of_widths ranges [] h = tt
of_widths ranges (row ∷ rows) h =
    let p = both (is_plain row) (list_all is_plain rows) h in
    let q = both (has_plain_others row) (comes_back row.spec.format) p.0 in
    let r = (ranges row.spec.format).0 q.1 in
    (record { others = q.0; ranges = r.0; levels = r.1 }, of_widths ranges rows p.1)

plain : PlainFormatsAreInRange → (rows : List Row) → IsEach IsOfWidths rows → list_all is_plain rows ≡ true
plain ranges [] h = refl
plain ranges (row ∷ rows) h =
    let back : comes_back row.spec.format ≡ true = (ranges row.spec.format).1 (h.0.ranges, h.0.levels) in
    (λ i. (h.0.others i && back i) && plain ranges rows h.1 i)

pub rounds_keep_plain : RoundsKeepWidths → PlainFormatsAreInRange → RoundsKeepPlainRows
rounds_keep_plain widths ranges sections rows after sound h e =
    plain ranges after (widths sections rows after sound (of_widths ranges rows h) e)
