-- Sections to which an answer would list no row.
use Rattle.std.proofs.Common.{◌≡◌, ◌==◌, ◌||◌, arith, refl, Bool, true, false, not, cond, List, [], ◌∷◌, ◌++◌, fold}
use Rattle.std.proofs.Common.{length}
use Rattle.std.proofs.Common.{Option, None, Some}
use Rattle.std.specs.List.{flat_map, list_any}
use Rattle.std.specs.Option.{is_some}
use Rattle.rtp_wire.specs.Direction.{receives}
use Rattle.rtp_media_exchange.specs.Refusals.{answers_none}
use Rattle.rtp_media_sections.specs.Answered.{has_pt, locked_row, row_answering, with_once}
use Rattle.rtp_media_sections.specs.Sections.{Section}
use Rattle.sdp_formats_rounds.specs.Best.{best_row}
use Rattle.sdp_formats_rounds.specs.Matching.{type_for}
use Rattle.sdp_formats_rows.specs.Rows.{Row}
use Rattle.sdp_formats_section_rows.specs.SectionRows.{listed}
use Rattle.rtp_media_browsers.specs.InCommon.{is_answered}

abbrev IsSome : List Row → Type 0
IsSome rows = (length rows == 0) ≡ false

either_some : (b : Bool) (picks xs ys : List Row) → IsSome (fold with_once xs picks) → IsSome (fold with_once ys picks)
    → IsSome (fold with_once (cond b xs ys) picks)
either_some true picks xs ys h k = h
either_some false picks xs ys h k = k

-- once a row is listed, the list stays
stays : (picks : List Row) (x : Row) (xs : List Row) → IsSome (fold with_once (x ∷ xs) picks)
unfolding with_once
stays [] x xs = grind arith
stays (p ∷ ps) x xs =
    either_some (has_pt (x ∷ xs) p.pt) ps (x ∷ xs) (x ∷ (xs ++ p ∷ [])) (stays ps x xs) (stays ps x (xs ++ p ∷ []))

module _ (rows : List Row) (dictated : Bool) where
  abbrev answering : List Row → List Row
  answering offered = flat_map (row_answering rows dictated) offered

  by_row : (o : Option Row) (os : List Row)
      → (length (fold with_once [] (answering os)) == 0) ≡ not (list_any (is_answered rows dictated) os)
      → (length (fold with_once [] (listed o ++ answering os)) == 0)
      ≡ not (is_some o || list_any (is_answered rows dictated) os)
  unfolding with_once
  by_row None os h = h
  by_row (Some r) os h = stays (answering os) r []

  none_listed : (os : List Row)
      → (length (fold with_once [] (answering os)) == 0) ≡ not (list_any (is_answered rows dictated) os)
  unfolding row_answering is_answered
  none_listed [] = refl
  none_listed (o ∷ os) =
      by_row (locked_row rows (type_for dictated o (best_row o.spec rows))) os (none_listed os)

pub none_answered : (rows : List Row) (s : Section)
    → answers_none rows s ≡ not (list_any (is_answered rows (receives s.dir)) s.rows)
none_answered rows s = none_listed rows (receives s.dir) s.rows
