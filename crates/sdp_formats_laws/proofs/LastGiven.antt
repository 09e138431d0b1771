-- What the last part gives, of those that give any.
use Rattle.std.proofs.Common.{◌≡◌, ◌⊎◌, inl, inr, ◌↔◌, ℕ, List, [], ◌∷◌, ◌++◌, Option, Some, None, filter_map}
use Rattle.std.proofs.Common.{refl, sym, ◌∙◌, ap, subst}
use Rattle.std.specs.List.{cons_option, last_or}
use Rattle.sdp_formats_grammar.specs.Split.{parts}
use Rattle.sdp_formats_laws.proofs.Options.{none_some, some_same}
use Rattle.sdp_formats_rounds.specs.Members.{IsIn}
use Rattle.sdp_formats_laws.specs.FormatParts.{GiveNone, IsLastGiven, IsLastOfLine}
use Rattle.sdp_formats_laws.specs.Last.{IsLastIfAny, NoneGives}

module _ {P A : Type 0} (given : P → Option A) where
  past : (before : Option A) (ps : List P) → GiveNone given ps → last_or before (filter_map given ps) ≡ before
  past before [] n = refl
  past before (p ∷ ps) n =
      ap (λ o. last_or before (cons_option o (filter_map given ps))) (n p (inl refl))
      ∙ past before ps (λ q i. n q (inr i))

  found : (x : A) (before : Option A) (front : List P) (part : P) (back : List P)
      → given part ≡ Some x → GiveNone given back
      → last_or before (filter_map given (front ++ part ∷ back)) ≡ Some x
  found x before [] part back e n =
      ap (λ o. last_or before (cons_option o (filter_map given back))) e ∙ past (Some x) back n
  found x before (q ∷ front) part back e n = at (given q) (λ b. found x b front part back e n)
    where
      at : (o : Option A)
          → ((b : Option A) → last_or b (filter_map given (front ++ part ∷ back)) ≡ Some x)
          → last_or before (cons_option o (filter_map given (front ++ part ∷ back))) ≡ Some x
      at None later = later before
      at (Some y) later = later (Some y)

  found_in : (x : A) (ps : List P) → IsLastGiven given ps x → last_or None (filter_map given ps) ≡ Some x
  found_in x ps l =
      ap (λ (qs : List P). last_or None (filter_map given qs)) l.3 ∙ found x None l.0 l.1 l.2 l.4 l.5

  later_given : (x : A) (p : P) (ps : List P) → IsLastGiven given ps x → IsLastGiven given (p ∷ ps) x
  later_given x p ps l = (p ∷ l.0, l.1, l.2, ap (λ qs. p ∷ qs) l.3, l.4, l.5)

  -- there is a last one, or none at all
  either : (ps : List P) → ((x : A) × IsLastGiven given ps x) ⊎ GiveNone given ps
  either [] = inr (λ q i. absurd i)
  either (p ∷ ps) = elim (either ps) [
    | inl l ↦ inl (l.0, later_given l.0 p ps l.1)
    | inr n ↦ at (given p) refl n
  ]
    where
      at : (o : Option A) → given p ≡ o → GiveNone given ps
          → ((x : A) × IsLastGiven given (p ∷ ps) x) ⊎ GiveNone given (p ∷ ps)
      at None e n = inr (λ q (i : (p ≡ q) ⊎ IsIn q ps). elim i [
        | inl s ↦ ap given (sym s) ∙ e
        | inr j ↦ n q j
      ])
      at (Some x) e n = inl (x, ([], p, ps, refl, e, n))

  pub last_some : (ps : List P) (x : A) → (last_or None (filter_map given ps) ≡ Some x) ↔ IsLastGiven given ps x
  last_some ps x = (
    (λ e. elim (either ps) [
      | inl l ↦ subst (IsLastGiven given ps) (some_same (sym (found_in l.0 ps l.1) ∙ e)) l.1
      | inr n ↦ absurd (none_some (sym (past None ps n) ∙ e))
    ]),
    found_in x ps,
  )

  pub last_none : (ps : List P) → (last_or None (filter_map given ps) ≡ None) ↔ GiveNone given ps
  last_none ps = (
    (λ e. elim (either ps) [
      | inl l ↦ absurd (none_some (sym e ∙ found_in l.0 ps l.1))
      | inr n ↦ n
    ]),
    past None ps,
  )

pub last_of_line : {A : Type 0} (given : List ℕ → Option A) (line : List ℕ) → IsLastOfLine given line
last_of_line given line = record { some = last_some given (parts 59 line); none = last_none given (parts 59 line) }

-- the same by what each part is said to give
module _ {P A : Type 0} (given : P → Option A) (gives : P → A → Type 0)
    (told : (p : P) (x : A) → (given p ≡ Some x) ↔ gives p x) where
  none_told : (ps : List P) → GiveNone given ps → NoneGives gives ps
  none_told ps n p x i g = none_some (sym (n p i) ∙ (told p x).1 g)

  none_back : (ps : List P) → NoneGives gives ps → GiveNone given ps
  none_back ps n p i = at (given p) refl
    where
      at : (o : Option A) → given p ≡ o → given p ≡ None
      at None e = e
      at (Some x) e = absurd (n p x i ((told p x).0 e))

  pub last_exact : (ps : List P) (o : Option A) → (o ≡ last_or None (filter_map given ps)) ↔ IsLastIfAny gives ps o
  last_exact ps None = (
    (λ e. none_told ps ((last_none given ps).0 (sym e))),
    λ n. sym ((last_none given ps).1 (none_back ps n)),
  )
  last_exact ps (Some x) = (
    (λ e. let l = (last_some given ps x).0 (sym e) in
        (l.0, l.1, l.2, l.3, (told l.1 x).0 l.4, none_told l.2 l.5)),
    λ l. sym ((last_some given ps x).1 (l.0, l.1, l.2, l.3, (told l.1 x).1 l.4, none_back l.2 l.5)),
  )
