-- The first type that is repeated.
use Rattle.std.proofs.Common.{◌≡◌, inl, inr, ℕ, Bool, true, false, ◌==◌, List, [], ◌∷◌, ◌++◌, Some, None}
use Rattle.std.proofs.Common.{if◌then◌else◌, refl, sym, ◌∙◌, ap, subst, append_assoc, append-nil}
use Rattle.std.proofs.lemmas.Bool.{both_ways, cases_Bool, eq-eqb, eqb-true, false_from_ne_true}
use Rattle.rtp_media_exchange.specs.Refusals.{first_repeated, is_among}
use Rattle.sdp_formats_laws.proofs.AnyMember.{any_in, in_any}
use Rattle.sdp_formats_laws.proofs.EachOnce.{distinct_more}
use Rattle.sdp_formats_laws.proofs.Options.{none_some, some_same}
use Rattle.sdp_formats_laws.specs.EachOnce.{AreDistinct}
use Rattle.sdp_formats_rounds.specs.Members.{IsIn}
use Rattle.rtp_media_runs.proofs.Members.{not_before}
use Rattle.rtp_media_runs.specs.Types.{FirstIsRepeated, IsFirstRepeated, NoneIsRepeated}

-- whether a type is among others
among : (before : List ℕ) (t : ℕ) → is_among before t ≡ true → IsIn t before
among before t e =
    let r = any_in (λ u. u == t) before e in
    subst (λ (u : ℕ). IsIn u before) (eqb-true r.0 t r.2) r.1

is_there : (before : List ℕ) (t : ℕ) → IsIn t before → is_among before t ≡ true
is_there before t i = in_any (λ u. u == t) before t i (eq-eqb t t refl)

not_there : (before : List ℕ) (t : ℕ) → (IsIn t before → ⊥) → is_among before t ≡ false
not_there before t n = false_from_ne_true (is_among before t) (λ e. n (among before t e))

-- types stay distinct with one more that isn't among them
one_more : (before : List ℕ) (t : ℕ) → AreDistinct before → is_among before t ≡ false → AreDistinct (before ++ t ∷ [])
one_more before t d e = distinct_more t before d (λ i. both_ways (is_among before t) e (is_there before t i))

-- a type that is among those before it is the one; else one after it may be
here : (before : List ℕ) (t : ℕ) (rest : List ℕ) → is_among before t ≡ true
    → first_repeated before (t ∷ rest) ≡ Some t
here before t rest e = ap (λ (b : Bool). if b then Some t else first_repeated (before ++ t ∷ []) rest) e

further : (before : List ℕ) (t : ℕ) (rest : List ℕ) → is_among before t ≡ false
    → first_repeated before (t ∷ rest) ≡ first_repeated (before ++ t ∷ []) rest
further before t rest e = ap (λ (b : Bool). if b then Some t else first_repeated (before ++ t ∷ []) rest) e

none_found : (before types : List ℕ) → AreDistinct before → first_repeated before types ≡ None
    → AreDistinct (before ++ types)
none_found before [] d e = subst (λ (l : List ℕ). AreDistinct l) (sym (append-nil before)) d
none_found before (t ∷ rest) d e = elim (cases_Bool (is_among before t)) [
  | inl h ↦ absurd (none_some (sym e ∙ here before t rest h))
  | inr h ↦ subst (λ (l : List ℕ). AreDistinct l) (append_assoc before (t ∷ []) rest)
      (none_found (before ++ t ∷ []) rest (one_more before t d h) (sym (further before t rest h) ∙ e))
]

none_repeated : (before types : List ℕ) → AreDistinct (before ++ types) → first_repeated before types ≡ None
none_repeated before [] d = refl
none_repeated before (t ∷ rest) d =
    further before t rest (not_there before t (not_before t before rest d))
    ∙ none_repeated (before ++ t ∷ []) rest
    (subst (λ (l : List ℕ). AreDistinct l) (sym (append_assoc before (t ∷ []) rest)) d)

found : (before types : List ℕ) (repeated : ℕ) → AreDistinct before → first_repeated before types ≡ Some repeated
    → IsFirstRepeated (before ++ types) repeated
found before [] repeated d e = absurd (none_some e)
found before (t ∷ rest) repeated d e = elim (cases_Bool (is_among before t)) [
  | inl h ↦ at_hand h (some_same (sym (here before t rest h) ∙ e))
  | inr h ↦ behind (found (before ++ t ∷ []) rest repeated (one_more before t d h) (sym (further before t rest h) ∙ e))
]
  where
    at_hand : is_among before t ≡ true → t ≡ repeated → IsFirstRepeated (before ++ t ∷ rest) repeated
    at_hand h same = (
      before,
      rest,
      ap (λ u. before ++ u ∷ rest) same,
      d,
      subst (λ (u : ℕ). IsIn u before) same (among before t h),
    )

    behind : IsFirstRepeated ((before ++ t ∷ []) ++ rest) repeated → IsFirstRepeated (before ++ t ∷ rest) repeated
    behind r = (r.0, r.1, sym (append_assoc before (t ∷ []) rest) ∙ r.2, r.3, r.4)

first_found : (before front back : List ℕ) (repeated : ℕ) → AreDistinct (before ++ front)
    → IsIn repeated (before ++ front) → first_repeated before (front ++ repeated ∷ back) ≡ Some repeated
first_found before [] back repeated d i =
    here before repeated back
    (is_there before repeated (subst (λ (l : List ℕ). IsIn repeated l) (append-nil before) i))
first_found before (t ∷ front) back repeated d i =
    let same = sym (append_assoc before (t ∷ []) front) in
    further before t (front ++ repeated ∷ back) (not_there before t (not_before t before front d))
    ∙ first_found (before ++ t ∷ []) front back repeated (subst (λ (l : List ℕ). AreDistinct l) same d)
    (subst (λ (l : List ℕ). IsIn repeated l) same i)

pub none_is_repeated : NoneIsRepeated
none_is_repeated types = (none_found [] types tt, none_repeated [] types)

pub first_is_repeated : FirstIsRepeated
first_is_repeated types repeated = (
  found [] types repeated tt,
  λ r. ap (λ l. first_repeated [] l) r.2 ∙ first_found [] r.0 r.1 repeated r.3 r.4,
)
