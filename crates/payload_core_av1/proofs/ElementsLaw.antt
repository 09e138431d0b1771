-- What makes just the bodies be read that are elements after their sizes.
use Rattle.std.proofs.Common.{◌≡◌, ℕ, zero, suc, ◌-◌, ◌≤◌, false, eqb, List, [], ◌∷◌, length, None, Some, Option}
use Rattle.std.proofs.Common.{if◌then◌else◌, refl, sym, ap, subst, ◌∙◌, arith}
use Rattle.std.proofs.lemmas.Bool.Decides.{nat_tests}
use Rattle.payload_core_av1.specs.Leb128.{Cut, sized_part}
use Rattle.payload_core_av1.specs.Av1Reading.{and_behind, counted_elements, elements_of, in_front}
use Rattle.payload_core_av1.specs.Av1Reading.{sized_elements}
use Rattle.payload_core_av1.specs.Av1Layout.{AreSized, AreSizedButLast, IsBody, IsSized}
use Rattle.payload_core_av1.proofs.ReaderLemmas.{part-shorter-at}
use Rattle.payload_core_av1.proofs.SizeLaw.{sized-found, sized-read, sized-some}

read_sized : (n : ℕ) (text : List ℕ) (es : List (List ℕ)) → length text ≤ n → AreSized text es
    → sized_elements n text ≡ Some es
read_sized n text [] room are = ap (sized_elements n) are
read_sized n [] (e ∷ es) room (rest, is, more) = absurd (omega (arith, sized-some [] e rest is))
read_sized zero (b ∷ bs) (e ∷ es) room are = absurd (omega arith)
read_sized (suc n) (b ∷ bs) (e ∷ es) room (rest, is, more) =
    let read = sized-read (b ∷ bs) e rest is in
    let shorter = part-shorter-at (b ∷ bs) (record { part = e; rest = rest }) read in
    ap (λ o. and_behind o (λ r. sized_elements n r)) read
    ∙ ap (in_front e) (read_sized n rest es (omega (arith, shorter)) more)

-- an element in front of others that were read
step_found : (text : List ℕ) (A : List (List ℕ) → Type 0) (o : Option Cut) (f : List ℕ → Option (List (List ℕ)))
    (es : List (List ℕ))
    → ((cut : Cut) (others : List (List ℕ)) → o ≡ Some cut → f cut.rest ≡ Some others → A (cut.part ∷ others))
    → and_behind o f ≡ Some es → A es
step_found text A None f es found is = absurd (cc)
step_found text A (Some cut) f es found is = by_others (f cut.rest) refl is
  where
    by_others : (p : Option (List (List ℕ))) → f cut.rest ≡ p → in_front cut.part p ≡ Some es → A es
    by_others None e is = absurd (cc)
    by_others (Some others) e is = let same : cut.part ∷ others ≡ es = cc in subst A same (found cut others refl e)

found_sized : (n : ℕ) (text : List ℕ) (es : List (List ℕ)) → sized_elements n text ≡ Some es → AreSized text es
found_sized n [] es is = let same : [] ≡ es = cc in let P : List (List ℕ) → Type 0 = AreSized [] in subst P same refl
found_sized zero (b ∷ bs) es is = absurd (cc)
found_sized (suc n) (b ∷ bs) es is =
    step_found (b ∷ bs) (AreSized (b ∷ bs)) (sized_part (b ∷ bs)) (λ r. sized_elements n r) es
    (λ cut others e f. (cut.rest, sized-found (b ∷ bs) cut e, found_sized n cut.rest others f)) is

read_counted : (n : ℕ) (text : List ℕ) (es : List (List ℕ)) → length es ≡ suc n → AreSizedButLast text es
    → counted_elements n text ≡ Some es
read_counted n text [] long are = absurd are
read_counted zero text (e ∷ []) long are = ap (λ t. Some (t ∷ [])) are
read_counted (suc n) text (e ∷ []) long are = absurd (omega arith)
read_counted zero text (e ∷ f ∷ es) long are = absurd (omega arith)
read_counted (suc n) text (e ∷ f ∷ es) long (rest, is, more) =
    ap (λ o. and_behind o (λ r. counted_elements n r)) (sized-read text e rest is)
    ∙ ap (in_front e) (read_counted n rest (f ∷ es) (omega arith) more)

abbrev IsCounted : ℕ → List ℕ → List (List ℕ) → Type 0
IsCounted n text es = (length es ≡ suc n) × AreSizedButLast text es

counted_cons : (n : ℕ) (text e rest : List ℕ) (others : List (List ℕ)) → IsSized text e rest
    → IsCounted n rest others → IsCounted (suc n) text (e ∷ others)
counted_cons n text e rest [] is (long, are) = absurd are
counted_cons n text e rest (f ∷ es) is (long, are) = (omega arith, (rest, is, are))

found_counted : (n : ℕ) (text : List ℕ) (es : List (List ℕ)) → counted_elements n text ≡ Some es → IsCounted n text es
found_counted zero text es is = let same : text ∷ [] ≡ es = cc in let P : List (List ℕ) → Type 0 =
    IsCounted zero text in subst P same (refl, refl)
found_counted (suc n) text es is =
    step_found text (IsCounted (suc n) text) (sized_part text) (λ r. counted_elements n r) es
    (λ cut others e f. counted_cons n text cut.part cut.rest others (sized-found text cut e)
    (found_counted n cut.rest others f)) is

counted_by_w : (w : ℕ) (body : List ℕ) → elements_of (suc w) body ≡ counted_elements w body
counted_by_w w body =
    let t : eqb (suc w) 0 ≡ false = grind (arith, nat_tests) in
    let n : suc w - 1 ≡ w = omega arith in
    ap (λ t. if t then sized_elements (length body) body else counted_elements (suc w - 1) body) t
    ∙ ap (λ n. counted_elements n body) n

pub elements-read : (w : ℕ) (body : List ℕ) (es : List (List ℕ)) → IsBody w body es → elements_of w body ≡ Some es
elements-read zero body es is = read_sized (length body) body es (omega arith) is
elements-read (suc w) body es is = counted_by_w w body ∙ read_counted w body es is.0 is.1

pub elements-found : (w : ℕ) (body : List ℕ) (es : List (List ℕ)) → elements_of w body ≡ Some es → IsBody w body es
elements-found zero body es is = found_sized (length body) body es is
elements-found (suc w) body es is = found_counted w body es (sym (counted_by_w w body) ∙ is)
