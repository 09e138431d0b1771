-- The rows that sections list are printable if all rows are.
use Rattle.std.proofs.Common.{◌≡◌, ◌==◌, ◌&&◌, ℕ, Bool, true, false, cond, List, [], ◌∷◌, ◌++◌, Option, Some, None}
use Rattle.std.proofs.Common.{append_assoc, refl, sym, subst, find, inl, inr, if◌then◌else◌}
use Rattle.std.specs.Prelude.{fold, filter}
use Rattle.std.specs.List.{flat_map, list_all}
use Rattle.media_types.specs.declared.codec.MediaKind.{MediaKind}
use Rattle.rtp_media_sections.specs.Answered as answer
use Rattle.rtp_media_sections.specs.Lines.{types_listed}
use Rattle.rtp_media_sections.specs.Sections.{Section}
use Rattle.rtp_wire.specs.Direction.{receives}
use Rattle.sdp_formats_laws.proofs.AnyMember.{both}
use Rattle.sdp_formats_rounds.proofs.Apart.{distinct_out}
use Rattle.sdp_formats_rounds.proofs.Chosen.{as_all, chosen_apart}
use Rattle.sdp_formats_rounds.specs.Best.{best_row}
use Rattle.sdp_formats_rounds.specs.Chosen.{has_pt, with_once}
use Rattle.sdp_formats_rows.specs.Kinds.{is_of_kind, rows_of_kind}
use Rattle.sdp_formats_rounds.specs.Laws.{is_distinct}
use Rattle.sdp_formats_rounds.specs.Matching.{type_for}
use Rattle.sdp_formats_rounds.specs.Members.{AreIn, IsEach, IsIn}
use Rattle.sdp_formats_rounds.specs.Ranges.{IsSized}
use Rattle.sdp_formats_rounds.specs.Types.{types_of}
use Rattle.sdp_formats_rows.specs.Plain.{is_plain}
use Rattle.sdp_formats_rows.specs.Rows.{Row}
use Rattle.sdp_formats_section_rows.specs.SectionRows.{listed}
use Rattle.rtp_media_sections.specs.PrintableSections.{ArePrintable}

-- rows that are found are of those that are searched
found_in : (p : Row → Bool) (rows : List Row) (row : Row) → find p rows ≡ Some row → IsIn row rows
found_in p [] row e = cc
found_in p (x ∷ xs) row e = at (p x) e (found_in p xs row)
  where
    at : (b : Bool) → (if b then Some x else find p xs) ≡ Some row → (find p xs ≡ Some row → IsIn row xs)
        → IsIn row (x ∷ xs)
    at true f later = let same : x ≡ row = (cc) in inl same
    at false f later = inr (later f)

listed_in : (rows : List Row) (o : Option Row) → ((row : Row) → o ≡ Some row → IsIn row rows) → AreIn (listed o) rows
listed_in rows None h = tt
listed_in rows (Some row) h = (h row refl, tt)

locked_in : (rows : List Row) (o : Option ℕ) (row : Row) → answer.locked_row rows o ≡ Some row → IsIn row rows
locked_in rows None row e = cc
locked_in rows (Some pt) row e = found_in (λ r. r.locked && (r.pt == pt)) rows row e

answering_in : (rows : List Row) (dictated : Bool) (offered : Row)
    → AreIn (answer.row_answering rows dictated offered) rows
unfolding answer.row_answering
answering_in rows dictated offered =
    listed_in rows (answer.locked_row rows (type_for dictated offered (best_row offered.spec rows)))
    (locked_in rows (type_for dictated offered (best_row offered.spec rows)))

both_in : (xs ys rows : List Row) → AreIn xs rows → AreIn ys rows → AreIn (xs ++ ys) rows
both_in [] ys rows h k = k
both_in (x ∷ xs) ys rows h k = (h.0, both_in xs ys rows h.1 k)

all_in : (rows : List Row) (dictated : Bool) (offered : List Row)
    → AreIn (flat_map (answer.row_answering rows dictated) offered) rows
all_in rows dictated [] = tt
all_in rows dictated (x ∷ offered) =
    both_in (answer.row_answering rows dictated x) _ rows (answering_in rows dictated x) (all_in rows dictated offered)

-- each property of all
pub one_of : (P : Row → Type 0) (rows : List Row) (row : Row) → IsEach P rows → IsIn row rows → P row
one_of P [] row h i = absurd i
one_of P (x ∷ xs) row h (inl same) = subst P same h.0
one_of P (x ∷ xs) row h (inr i) = one_of P xs row h.1 i

each_last : (P : Row → Type 0) (so_far : List Row) (row : Row) → IsEach P so_far → P row
    → IsEach P (so_far ++ row ∷ [])
each_last P [] row h k = (k, tt)
each_last P (x ∷ xs) row h k = (h.0, each_last P xs row h.1 k)

each_once : (P : Row → Type 0) (so_far : List Row) (row : Row) → IsEach P so_far → P row
    → IsEach P (with_once so_far row)
unfolding with_once
each_once P so_far row h k = at (has_pt so_far row.pt)
  where
    at : (b : Bool) → IsEach P (if b then so_far else so_far ++ row ∷ [])
    at true = h
    at false = each_last P so_far row h k

each_grown : (P : Row → Type 0) (rows so_far picks : List Row) → IsEach P rows → IsEach P so_far → AreIn picks rows
    → IsEach P (fold with_once so_far picks)
each_grown P rows so_far [] all h i = h
each_grown P rows so_far (x ∷ xs) all h i =
    each_grown P rows (with_once so_far x) xs all (each_once P so_far x h (one_of P rows x all i.0)) i.1

-- the rows of an answer are chosen ones
once_same : (so_far picks : List Row) → fold answer.with_once so_far picks ≡ fold with_once so_far picks
unfolding answer.with_once with_once
once_same so_far [] = refl
once_same so_far (x ∷ xs) = once_same (answer.with_once so_far x) xs

pub answered_printable : (rows : List Row) (offer : Section) → ArePrintable rows
    → ArePrintable (answer.answered_rows rows offer)
answered_printable rows offer h =
    let dictated = receives offer.dir in
    let picks : List Row = flat_map (answer.row_answering rows dictated) offer.rows in
    let i = all_in rows dictated offer.rows in
    subst ArePrintable (sym (once_same [] picks)) (record {
      plain = as_all is_plain rows picks h.plain i;
      apart = chosen_apart rows picks h.apart i;
      sized = each_grown IsSized rows [] picks h.sized tt i;
    })

-- some of the rows, in their order
types_left : (p : Row → Bool) (front : List ℕ) (rows : List Row) → is_distinct (front ++ types_listed rows) ≡ true
    → is_distinct (front ++ types_listed (filter p rows)) ≡ true
types_left p front [] d = d
types_left p front (row ∷ rows) d = at (p row) d (types_left p front rows)
    (types_left p (front ++ types_of row) rows)
  where
    at : (b : Bool) → is_distinct (front ++ (types_of row ++ types_listed rows)) ≡ true
        → (is_distinct (front ++ types_listed rows) ≡ true
        → is_distinct (front ++ types_listed (filter p rows)) ≡ true)
        → (is_distinct ((front ++ types_of row) ++ types_listed rows) ≡ true
        → is_distinct ((front ++ types_of row) ++ types_listed (filter p rows)) ≡ true)
        → is_distinct (front ++ types_listed (cond b (row ∷ filter p rows) (filter p rows))) ≡ true
    at true e out on =
        rw (sym (append_assoc front (types_of row) (types_listed (filter p rows))))
        (on (rw (append_assoc front (types_of row) (types_listed rows)) e))
    at false e out on = out (distinct_out front (types_of row) (types_listed rows) e)

all_left : (p q : Row → Bool) (rows : List Row) → list_all q rows ≡ true → list_all q (filter p rows) ≡ true
all_left p q [] e = refl
all_left p q (row ∷ rows) e =
    let two = both (q row) (list_all q rows) e in
    at (p row) two.0 (all_left p q rows two.1)
  where
    at : (b : Bool) → q row ≡ true → list_all q (filter p rows) ≡ true
        → list_all q (cond b (row ∷ filter p rows) (filter p rows)) ≡ true
    at true here later = (λ i. here i && later i)
    at false here later = later

each_left : (P : Row → Type 0) (p : Row → Bool) (rows : List Row) → IsEach P rows → IsEach P (filter p rows)
each_left P p [] h = tt
each_left P p (row ∷ rows) h = at (p row) (each_left P p rows h.1)
  where
    at : (b : Bool) → IsEach P (filter p rows) → IsEach P (cond b (row ∷ filter p rows) (filter p rows))
    at true later = (h.0, later)
    at false later = later

pub offered_printable : (kind : MediaKind) (rows : List Row) → ArePrintable rows
    → ArePrintable (rows_of_kind kind true rows)
offered_printable kind rows h = record {
  plain = all_left (is_of_kind kind true rows) is_plain rows h.plain;
  apart = types_left (is_of_kind kind true rows) [] rows h.apart;
  sized = each_left IsSized (is_of_kind kind true rows) rows h.sized;
}
