-- A line of a text is what the reader cuts off.
use Rattle.std.proofs.Common.{◌<◌, ◌+◌, arith, ◌≡◌, ◌≢◌, ◌⊎◌, ◌++◌, ◌==◌, ◌||◌, ℕ, suc, Bool, true, false, cond, List}
use Rattle.std.proofs.Common.{[], ◌∷◌, length, Some, None, refl, sym, ◌∙◌, ap, subst, inl, inr, ⊎_elim}
use Rattle.std.proofs.Common.{append_assoc}
use Rattle.std.proofs.lemmas.Bool.{cases_Bool}
use Rattle.std.proofs.lemmas.Bool.Decides.{Decides-eqb}
use Rattle.sdp_formats_grammar.specs.Split.{Lacks, halves, halves_of, split_first}
use Rattle.sdp_formats_grammar.specs.Form.{Form, IsExact}
use Rattle.sdp_formats_grammar.specs.Cuts.{IsCut, somewhere, nowhere, cut_of, split_first-at, split_first-nowhere}
use Rattle.sdp_formats_grammar.specs.Cuts.{same_byte, other_byte, same_or_not}
use Rattle.sdp_formats_grammar.specs.Steps.{none_some, some_same}
use Rattle.sdp_formats_grammar.specs.Step.{IsFunctional, IsShortening}
use Rattle.sdp_formats_grammar.specs.Line.{IsEnded, IsLine, LineOf, has_return, without_return, passed_line, line_in}
use Rattle.sdp_formats_grammar.specs.Line.{next_line}

false_true : (b : Bool) → b ≡ true → b ≡ false → ⊥
false_true true h k = cc
false_true false h k = cc

or_false : (a b : Bool) → (a || b) ≡ false → (a ≡ false) × (b ≡ false)
or_false true b h = absurd (cc)
or_false false b h = (refl, h)

or_both : (a b : Bool) → a ≡ false → b ≡ false → (a || b) ≡ false
or_both a b h k = cc

unequal : (b c : ℕ) → (b == c) ≡ false → b ≢ c
unequal b c h e = false_true (b == c) ((Decides-eqb b c).1 e) h

not_equal : (b c : ℕ) → b ≢ c → (b == c) ≡ false
not_equal b c h = ⊎_elim (λ e. absurd (h ((Decides-eqb b c).0 e))) (λ e. e) (cases_Bool (b == c))

pub lacks-return : (t : List ℕ) → has_return t ≡ false → Lacks 13 t
lacks-return [] h = tt
lacks-return (b ∷ t) h = let two = or_false (b == 13) (has_return t) h in (unequal b 13 two.0, lacks-return t two.1)

pub return-lacks : (t : List ℕ) → Lacks 13 t → has_return t ≡ false
return-lacks [] h = refl
return-lacks (b ∷ t) h = or_both (b == 13) (has_return t) (not_equal b 13 h.0) (return-lacks t h.1)

pub without-at : (front : List ℕ) → without_return (front ++ 13 ∷ []) ≡ front
without-at [] = refl
without-at (b ∷ []) = refl
without-at (b ∷ c ∷ front) = ap (λ t. b ∷ t) (without-at (c ∷ front))

pub without-none : (text : List ℕ) → ((front : List ℕ) → text ≢ front ++ 13 ∷ []) → without_return text ≡ text
without-none [] h = refl
without-none (b ∷ []) h = other_byte b 13 [] (b ∷ []) (λ e. h [] (ap (λ x. x ∷ []) e))
without-none (b ∷ c ∷ text) h = ap (λ t. b ∷ t) (without-none (c ∷ text) (λ front e. h (b ∷ front) (ap (λ t. b ∷ t) e)))

without-lacks : (t : List ℕ) → Lacks 13 t → without_return t ≡ t
without-lacks [] h = refl
without-lacks (b ∷ []) h = other_byte b 13 [] (b ∷ []) h.0
without-lacks (b ∷ c ∷ t) h = ap (λ x. b ∷ x) (without-lacks (c ∷ t) h.1)

-- What is left of a piece without its CR.
split_return : (t : List ℕ) → (t ≡ without_return t ++ 13 ∷ []) ⊎ (t ≡ without_return t)
split_return [] = inr refl
split_return (b ∷ []) = ⊎_elim (λ e. inl
    (ap (λ x. x ∷ []) e ∙ sym (ap (λ x. x ++ 13 ∷ []) (same_byte b 13 [] (b ∷ []) e))))
    (λ h. inr (sym (other_byte b 13 [] (b ∷ []) h))) (same_or_not b 13)
split_return (b ∷ c ∷ t) = ⊎_elim (λ e. inl (ap (λ x. b ∷ x) e)) (λ e. inr (ap (λ x. b ∷ x) e)) (split_return (c ∷ t))

lacks-front : (k : ℕ) (a b : List ℕ) → Lacks k (a ++ b) → Lacks k a
lacks-front k [] b h = tt
lacks-front k (x ∷ a) b h = (h.0, lacks-front k a b h.1)

lacks-both : (k : ℕ) (a b : List ℕ) → Lacks k a → Lacks k b → Lacks k (a ++ b)
lacks-both k [] b h i = i
lacks-both k (x ∷ a) b h i = (h.0, lacks-both k a b h.1 i)

some_length : (c : List ℕ) → (length c == 0) ≡ false → c ≢ []
some_length [] h e = false_true true refl h
some_length (x ∷ c) h e = cc

length_some : (c : List ℕ) → c ≢ [] → (length c == 0) ≡ false
length_some [] h = absurd (h refl)
length_some (x ∷ c) h = not_equal (suc (length c)) 0 (λ e. cc)

passed_cond : (b : Bool) (x y : List ℕ × List ℕ) → cond b None (Some x) ≡ Some y → (b ≡ false) × (x ≡ y)
passed_cond true x y h = absurd (none_some y h)
passed_cond false x y h = (refl, some_same x y h)

passed-sound : (c r : List ℕ) (x : List ℕ × List ℕ) → passed_line c r ≡ Some x → (Lacks 13 c) × (c ≢ []) × ((c, r) ≡ x)
passed-sound c r x h =
    let p = passed_cond (length c == 0 || has_return c) (c, r) x h in
    let two = or_false (length c == 0) (has_return c) p.0 in
    (lacks-return c two.1, some_length c two.0, p.1)

passed-complete : (c r : List ℕ) → Lacks 13 c → c ≢ [] → passed_line c r ≡ Some (c, r)
passed-complete c r h k = ap (λ b. cond b None (Some (c, r)))
    (or_both (length c == 0) (has_return c) (length_some c k) (return-lacks c h))

by_return : (t front back : List ℕ) → t ≡ front ++ 10 ∷ back → Lacks 10 front → (w : List ℕ) → (front ≡ w ++ 13 ∷ [])
    ⊎ (front ≡ w) → IsEnded t w back × Lacks 10 w
by_return t front back whole lacks w (inl e) = (
  inr (inl (whole ∙ ap (λ x. x ++ 10 ∷ back) e ∙ append_assoc w (13 ∷ []) (10 ∷ back))),
  lacks-front 10 w (13 ∷ []) (subst (Lacks 10) e lacks),
)
by_return t front back whole lacks w (inr e) = (inl (whole ∙ ap (λ x. x ++ 10 ∷ back) e), subst (Lacks 10) e lacks)

by_cut : (t : List ℕ) (x : List ℕ × List ℕ) → IsCut 10 t → next_line t ≡ Some x → IsLine t x.0 x.1
by_cut t x (somewhere front back whole lacks) h =
    let at : halves 10 t ≡ (front, Some back) =
    ap (halves_of t) (ap (split_first 10) whole ∙ split_first-at 10 front back lacks) in
    let w = without_return front in
    let p = passed-sound w back x (sym (ap line_in at) ∙ h) in
    let e = by_return t front back whole lacks w (split_return front) in
    subst (λ y. IsLine t y.0 y.1) p.2 (e.0, e.1, p.0, p.1)
by_cut t x (nowhere lacks) h =
    let at : halves 10 t ≡ (t, None) = ap (halves_of t) (split_first-nowhere 10 t lacks) in
    let p = passed-sound t [] x (sym (ap line_in at) ∙ h) in
    subst (λ y. IsLine t y.0 y.1) p.2 (inr (inr (refl, refl)), lacks, p.0, p.1)

pub next-sound : (t c r : List ℕ) → next_line t ≡ Some (c, r) → IsLine t c r
next-sound t c r h = by_cut t (c, r) (cut_of 10 t) h

ended : (t c r : List ℕ) → IsEnded t c r → Lacks 10 c → Lacks 13 c → c ≢ [] → next_line t ≡ Some (c, r)
ended t c r (inl e) h k n =
    ap line_in (ap (halves_of t) (ap (split_first 10) e ∙ split_first-at 10 c r h))
    ∙ ap (λ x. passed_line x r) (without-lacks c k) ∙ passed-complete c r k n
ended t c r (inr (inl e)) h k n =
    let whole : t ≡ (c ++ 13 ∷ []) ++ 10 ∷ r = e ∙ sym (append_assoc c (13 ∷ []) (10 ∷ r)) in
    ap line_in (ap (halves_of t) (ap (split_first 10) whole
    ∙ split_first-at 10 (c ++ 13 ∷ []) r (lacks-both 10 c (13 ∷ []) h ((λ e. cc), tt))))
    ∙ ap (λ x. passed_line x r) (without-at c) ∙ passed-complete c r k n
ended t c r (inr (inr e)) h k n =
    ap line_in (ap (halves_of t) (split_first-nowhere 10 t (subst (Lacks 10) (sym e.0) h)))
    ∙ (λ i. passed_line (e.0 i) (sym e.1 i)) ∙ passed-complete c r k n

pub next-complete : (t c r : List ℕ) → IsLine t c r → next_line t ≡ Some (c, r)
next-complete t c r h = ended t c r h.0 h.1 h.2 h.3

pub line-same : (t c d r s : List ℕ) → IsLine t c r → IsLine t d s → (c ≡ d) × (r ≡ s)
line-same t c d r s h k =
    let same : (c, r) ≡ (d, s) = some_same _ _ (sym (next-complete t c r h) ∙ next-complete t d s k) in
    (ap (λ (x : List ℕ × List ℕ). x.0) same, ap (λ (x : List ℕ × List ℕ). x.1) same)

-- A line of a form that is read exactly has one value.
pub line-functional : {A : Type 0} (f : Form A) → IsExact f → IsFunctional (LineOf f.Says)
line-functional f exact t a b r s h k =
    let two = line-same t h.0 k.0 r s h.1 k.1 in
    (some_same a b (sym (exact.complete h.0 a h.2) ∙ ap f.reads two.0 ∙ exact.complete k.0 b k.2), two.1)

longer : (c r : List ℕ) → length (c ++ r) ≡ length c + length r
longer [] r = omega arith
longer (x ∷ c) r = omega (arith, longer c r)

positive : (c : List ℕ) → c ≢ [] → 0 < length c
positive [] h = absurd (h refl)
positive (x ∷ c) h = omega arith

ended-shorter : (t c r : List ℕ) → IsEnded t c r → 0 < length c → length r < length t
ended-shorter t c r (inl e) h = omega (arith, ap length e, longer c (10 ∷ r))
ended-shorter t c r (inr (inl e)) h = omega (arith, ap length e, longer c (13 ∷ 10 ∷ r))
ended-shorter t c r (inr (inr e)) h = omega (arith, ap length e.0, ap length e.1)

pub line-shorter : {A : Type 0} (F : List ℕ → A → Type 0) → IsShortening (LineOf F)
line-shorter F t a r h = ended-shorter t h.0 r h.1.0 (positive h.0 h.1.3)
