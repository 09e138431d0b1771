-- The rows of an answer, each once.
use Rattle.std.proofs.Common.{◌≡◌, ◌⊎◌, inl, inr, ℕ, Bool, true, false, ◌&&◌, ◌==◌, List, [], ◌∷◌, ◌++◌, map}
use Rattle.std.proofs.Common.{Option, Some, None, cond, find, fold, if◌then◌else◌, refl, sym, ◌∙◌, ap, subst}
use Rattle.std.specs.List.{FoldsTo}
use Rattle.std.proofs.lemmas.Bool.{and_parts, both_ways, cases_Bool, eq-eqb, eqb-true}
use Rattle.rtp_media_sections.specs.Answered.{has_pt, locked_row, row_answering, rows_answering, with_once}
use Rattle.sdp_formats_rounds.specs.Matching.{type_for}
use Rattle.sdp_formats_rounds.specs.Best.{best_row}
use Rattle.sdp_formats_rows.specs.Rows.{Row}
use Rattle.sdp_formats_section_rows.specs.SectionRows.{listed}
use Rattle.sdp_formats_laws.proofs.AnyMember.{any_in, in_any}
use Rattle.sdp_formats_laws.proofs.EachOnce.{Adds, each_once, in_either, one_list}
use Rattle.sdp_formats_laws.proofs.Options.{none_some, some_same}
use Rattle.sdp_formats_laws.specs.EachOnce.{AreDistinct, IsEachOnce}
use Rattle.sdp_formats_rounds.specs.Members.{IsIn}
use Rattle.rtp_media_runs.proofs.Members.{member_with}
use Rattle.rtp_media_runs.specs.Answered.{AnsweredAreEachOnce, AnsweredTypesAreDistinct, answering}

-- what is found passes the test
passes : {A : Type 0} (test : A → Bool) (x : A) (xs : List A) → find test xs ≡ Some x → test x ≡ true
passes test x [] e = absurd (none_some e)
passes {A} test x (y ∷ ys) e = at (cases_Bool (test y)) (passes test x ys)
  where
    at : (test y ≡ true) ⊎ (test y ≡ false) → (find test ys ≡ Some x → test x ≡ true) → test x ≡ true
    at (inl t) later =
        let same : y ≡ x = some_same (ap (λ (b : Bool). cond b (Some y) (find test ys)) (sym t) ∙ e) in
        ap test (sym same) ∙ t
    at (inr n) later = later (ap (λ (b : Bool). cond b (Some y) (find test ys)) (sym n) ∙ e)

-- a row that is the locked one of its own type
abbrev IsOfType : List Row → Row → Type 0
IsOfType rows row = locked_row rows (Some row.pt) ≡ Some row

same_row : (rows : List Row) (x y : Row) → IsOfType rows x → IsOfType rows y → x.pt ≡ y.pt → x ≡ y
same_row rows x y h k e = some_same (sym h ∙ ap (λ t. locked_row rows (Some t)) e ∙ k)

of_type : (rows : List Row) (t : Option ℕ) (row : Row) → locked_row rows t ≡ Some row → IsOfType rows row
of_type rows None row e = absurd (none_some e)
of_type rows (Some t) row e =
    let parts = and_parts row.locked (row.pt == t) (passes (λ own. own.locked && (own.pt == t)) row rows e) in
    subst (λ (u : ℕ). locked_row rows (Some u) ≡ Some row) (sym (eqb-true row.pt t parts.1)) e

the_listed : (o : Option Row) (row : Row) → IsIn row (listed o) → o ≡ Some row
the_listed None row i = absurd i
the_listed (Some other) row (inl e) = ap Some e
the_listed (Some other) row (inr i) = absurd i

-- such are all that answer offered ones
abbrev AllOfType : List Row → List Row → Type 0
AllOfType rows some = (row : Row) → IsIn row some → IsOfType rows row

answering_of_type : (rows : List Row) (dictated : Bool) (offered : List Row)
    → AllOfType rows (answering rows dictated offered)
unfolding row_answering
answering_of_type rows dictated [] row i = absurd i
answering_of_type rows dictated (one ∷ others) row i =
    let t = type_for dictated one (best_row one.spec rows) in
    elim (in_either row (listed (locked_row rows t)) (answering rows dictated others) i) [
      | inl j ↦ of_type rows t row (the_listed (locked_row rows t) row j)
      | inr j ↦ answering_of_type rows dictated others row j
    ]

-- one more is put after them, if it isn't among them yet
one_added : (rows seen : List Row) (row : Row) → AllOfType rows seen → IsOfType rows row
    → Adds seen row (with_once seen row)
unfolding with_once
one_added rows seen row all own = elim (cases_Bool (has_pt seen row.pt)) [
  | inl e ↦ inl (member e, ap (λ (b : Bool). if b then seen else seen ++ row ∷ []) e)
  | inr e ↦ inr (no_member e, ap (λ (b : Bool). if b then seen else seen ++ row ∷ []) e)
]
  where
    member : has_pt seen row.pt ≡ true → IsIn row seen
    member e =
        let r = any_in (λ (other : Row). other.pt == row.pt) seen e in
        subst (λ (other : Row). IsIn other seen)
        (same_row rows r.0 row (all r.0 r.1) own (eqb-true r.0.pt row.pt r.2)) r.1

    no_member : has_pt seen row.pt ≡ false → IsIn row seen → ⊥
    no_member e i = both_ways (has_pt seen row.pt) e
        (in_any (λ (other : Row). other.pt == row.pt) seen row i (eq-eqb row.pt row.pt refl))

still_of_type : (rows seen : List Row) (row : Row) (now : List Row) → AllOfType rows seen → IsOfType rows row
    → Adds seen row now → AllOfType rows now
still_of_type rows seen row now all own (inl a) other i = all other (subst (λ (l : List Row). IsIn other l) a.1 i)
still_of_type rows seen row now all own (inr a) other i =
    elim (in_either other seen (row ∷ []) (subst (λ (l : List Row). IsIn other l) a.1 i)) [
      | inl j ↦ all other j
      | inr j ↦ elim j [ inl e ↦ subst (λ (one : Row). IsOfType rows one) e own | inr n ↦ absurd n ]
    ]

all_added : (rows seen more : List Row) → AllOfType rows seen → AllOfType rows more
    → FoldsTo Adds seen more (fold with_once seen more)
all_added rows seen [] all others = refl
all_added rows seen (row ∷ more) all others =
    let now = with_once seen row in
    let own = others row (inl refl) in
    let step = one_added rows seen row all own in
    let still = still_of_type rows seen row now all own step in
    (now, step, all_added rows now more still (λ other i. others other (inr i)))

each_answered : (rows : List Row) (dictated : Bool) (offered : List Row)
    → IsEachOnce (answering rows dictated offered) (rows_answering rows dictated offered)
each_answered rows dictated offered =
    let all = answering rows dictated offered in
    each_once all (rows_answering rows dictated offered)
    (all_added rows [] all (λ row i. absurd i) (answering_of_type rows dictated offered))

pub answered_once : AnsweredAreEachOnce
answered_once rows dictated offered answered =
    let all = answering rows dictated offered in
    let once = each_answered rows dictated offered in (
      (λ e. subst (λ (l : List Row). IsEachOnce all l) (sym e) once),
      λ h. one_list all answered (rows_answering rows dictated offered) h once,
    )

types_apart : (rows some : List Row) → AllOfType rows some → AreDistinct some → AreDistinct (map (λ row. row.pt) some)
types_apart rows [] all d = tt
types_apart rows (row ∷ others) all d = (
  (λ i. let r = member_with (λ (other : Row). other.pt) row.pt others i in
      d.0 (subst (λ (other : Row). IsIn other others)
      (same_row rows r.0 row (all r.0 (inr r.1)) (all row (inl refl)) r.2) r.1)),
  types_apart rows others (λ other i. all other (inr i)) d.1,
)

pub types_distinct : AnsweredTypesAreDistinct
types_distinct rows dictated offered =
    let once = each_answered rows dictated offered in
    types_apart rows (rows_answering rows dictated offered)
    (λ row i. answering_of_type rows dictated offered row ((once.members row).0 i)) once.distinct
