-- Names of sections that are each there once.
use Rattle.std.proofs.Common.{◌≡◌, ℕ, true, not, List, [], ◌∷◌, ◌++◌, sym, ◌∙◌, ap, subst, append_assoc}
use Rattle.std.proofs.Common.{append-nil, refl}
use Rattle.std.specs.List.{list_any}
use Rattle.std.proofs.lemmas.Bool.{and_from, and_parts, both_ways, false_from_ne_true, not-true, not_from_false}
use Rattle.std.proofs.lemmas.List.{map-append}
use Rattle.std.proofs.lemmas.Slice.Eq.{bytes_eq-Decides}
use Rattle.rtp_media_sections.specs.Sections.{Wanted, are_distinct, has_mid}
use Rattle.sdp_formats_laws.proofs.AnyMember.{any_in, in_any}
use Rattle.sdp_formats_laws.proofs.EachOnce.{distinct_more}
use Rattle.sdp_formats_laws.specs.EachOnce.{AreDistinct}
use Rattle.sdp_formats_rounds.specs.Members.{IsIn}
use Rattle.rtp_media_runs.proofs.Members.{member_with, not_before, part_in}
use Rattle.rtp_media_runs.specs.Names.{NamesAreDistinct, names_of}

abbrev name_of : Wanted → List ℕ
name_of section = section.mid

-- whether a section has the name is whether the name is among the names
named : (mid : List ℕ) (sections : List Wanted) → list_any (has_mid mid) sections ≡ true → IsIn mid (names_of sections)
named mid sections e =
    let r = any_in (has_mid mid) sections e in
    subst (λ (name : List ℕ). IsIn name (names_of sections)) ((bytes_eq-Decides r.0.mid mid).0 r.2)
    (part_in name_of r.0 sections r.1)

has_name : (mid : List ℕ) (sections : List Wanted) → IsIn mid (names_of sections)
    → list_any (has_mid mid) sections ≡ true
has_name mid sections i =
    let r = member_with name_of mid sections i in
    in_any (has_mid mid) sections r.0 r.1 ((bytes_eq-Decides r.0.mid mid).1 r.2)

-- one section goes from those after to those before
moved : (before : List Wanted) (section : Wanted) (rest : List Wanted)
    → names_of (before ++ section ∷ []) ++ names_of rest ≡ names_of before ++ names_of (section ∷ rest)
moved before section rest = ap (λ names. names ++ names_of rest) (map-append name_of before (section ∷ []))
    ∙ append_assoc (names_of before) (section.mid ∷ []) (names_of rest)

passed : (before sections : List Wanted) → AreDistinct (names_of before) → are_distinct before sections ≡ true
    → AreDistinct (names_of before ++ names_of sections)
passed before [] d e = subst (λ (names : List (List ℕ)). AreDistinct names) (sym (append-nil (names_of before))) d
passed before (section ∷ rest) d e =
    let test = list_any (has_mid section.mid) before in
    let parts = and_parts (not test) (are_distinct (before ++ section ∷ []) rest) e in
    let apart : IsIn section.mid (names_of before) → ⊥
    = λ i. both_ways test (not-true test parts.0) (has_name section.mid before i) in
    let longer : AreDistinct (names_of (before ++ section ∷ []))
    = subst (λ (names : List (List ℕ)). AreDistinct names) (sym (map-append name_of before (section ∷ [])))
    (distinct_more section.mid (names_of before) d apart) in
    subst (λ (names : List (List ℕ)). AreDistinct names) (moved before section rest)
    (passed (before ++ section ∷ []) rest longer parts.1)

passes : (before sections : List Wanted) → AreDistinct (names_of before ++ names_of sections)
    → are_distinct before sections ≡ true
passes before [] d = refl
passes before (section ∷ rest) d =
    let test = list_any (has_mid section.mid) before in
    let apart = λ (e : test ≡ true). not_before section.mid (names_of before) (names_of rest) d
    (named section.mid before e) in
    and_from (not test) (are_distinct (before ++ section ∷ []) rest)
    (not_from_false test (false_from_ne_true test apart))
    (passes (before ++ section ∷ []) rest
    (subst (λ (names : List (List ℕ)). AreDistinct names) (sym (moved before section rest)) d))

pub names_distinct : NamesAreDistinct
names_distinct sections = (passed [] sections tt, passes [] sections)
