-- Texts with other ends of lines, and with more after them, are read the same.
use Rattle.std.proofs.Common.{◌≡◌, ℕ, List, [], ◌∷◌, ◌++◌, Option, Some, None}
use Rattle.std.proofs.Common.{refl, sym, ◌∙◌, ap, subst, inl, inr, ⊎_elim, append_assoc}
use Rattle.sdp_formats_grammar.specs.Cuts.{IsCut, somewhere, nowhere, cut_of, other_byte, split_first-at}
use Rattle.sdp_formats_grammar.specs.Split.{Lacks, split_first}
use Rattle.sdp_formats_reader.specs.Lines.{version_line, origin_line, name_line, other_line, bandwidth_line}
use Rattle.sdp_formats_reader.specs.Lines.{times_line, repeat_line, connection_line, head_line}
use Rattle.sdp_formats_reader.specs.AttributesChoice.{attribute_line}
use Rattle.sdp_formats_reader.specs.ReaderChoice.{attribute_line as session_line}
use Rattle.sdp_formats_grammar.specs.Line.{IsLine, LineOf}
use Rattle.sdp_formats_laws.proofs.Carried.{Carries, CarriesLines, texts}
use Rattle.sdp_formats_laws.specs.LineEnds.{ReadsByAnyEnd, with_returns}

-- parts of a text that lacks a byte
lacks_front : (c : ℕ) (xs ys : List ℕ) → Lacks c (xs ++ ys) → Lacks c xs
lacks_front c [] ys h = tt
lacks_front c (x ∷ xs) ys h = (h.0, lacks_front c xs ys h.1)

lacks_back : (c : ℕ) (xs ys : List ℕ) → Lacks c (xs ++ ys) → Lacks c ys
lacks_back c [] ys h = h
lacks_back c (x ∷ xs) ys h = lacks_back c xs ys h.1

-- two cuts at one byte are one
pub one_cut : (c : ℕ) (a b s r : List ℕ) → Lacks c a → Lacks c b → a ++ c ∷ s ≡ b ++ c ∷ r → (a ≡ b) × (s ≡ r)
one_cut c a b s r h k e =
    let same : Some (a, s) ≡ Some (b, r) =
    sym (split_first-at c a s h) ∙ ap (split_first c) e ∙ split_first-at c b r k in (
      ap (λ (o : Option (List ℕ × List ℕ)). elim o [ Some p ↦ p.0 | None ↦ a ]) same,
      ap (λ (o : Option (List ℕ × List ℕ)). elim o [ Some p ↦ p.1 | None ↦ s ]) same,
    )

pub lacking : (c : ℕ) (a s t : List ℕ) → Lacks c t → a ++ c ∷ s ≡ t → ⊥
lacking c a s t h e = (lacks_back c a (c ∷ s) (subst (Lacks c) (sym e) h)).0 refl

-- a text with CR LF in the place of each LF
returned-front : (xs ys : List ℕ) → Lacks 10 xs → with_returns (xs ++ ys) ≡ xs ++ with_returns ys
returned-front [] ys h = refl
returned-front (x ∷ xs) ys h =
    other_byte x 10 (13 ∷ 10 ∷ with_returns (xs ++ ys)) (x ∷ with_returns (xs ++ ys)) h.0
    ∙ ap (λ t. x ∷ t) (returned-front xs ys h.1)

returned-whole : (xs : List ℕ) → Lacks 10 xs → with_returns xs ≡ xs
returned-whole [] h = refl
returned-whole (x ∷ xs) h =
    other_byte x 10 (13 ∷ 10 ∷ with_returns xs) (x ∷ with_returns xs) h.0 ∙ ap (λ t. x ∷ t) (returned-whole xs h.1)

returned-line : (c r : List ℕ) → Lacks 10 c → with_returns (c ++ 10 ∷ r) ≡ c ++ 13 ∷ 10 ∷ with_returns r
returned-line c r h = returned-front c (10 ∷ r) h

line_forth : (t c r : List ℕ) → Lacks 13 t → IsLine t c r → IsLine (with_returns t) c (with_returns r) × Lacks 13 r
line_forth t c r ok h = ⊎_elim
    (λ (e : t ≡ c ++ 10 ∷ r). (
      (inr (inl (ap with_returns e ∙ returned-line c r h.1)), h.1, h.2, h.3),
      (lacks_back 13 c (10 ∷ r) (subst (Lacks 13) e ok)).1,
    ))
    (λ o. ⊎_elim (λ (e : t ≡ c ++ 13 ∷ 10 ∷ r). absurd (lacking 13 c (10 ∷ r) t ok (sym e)))
    (λ (e : (t ≡ c) × (r ≡ [])). (
      (inr (inr (ap with_returns e.0 ∙ returned-whole c h.1, ap with_returns e.1)), h.1, h.2, h.3),
      subst (Lacks 13) (sym e.1) tt,
    )) o) h.0

line_back : (t c r : List ℕ) → IsCut 10 t → Lacks 13 t → IsLine (with_returns t) c r
    → (s : List ℕ) × (r ≡ with_returns s) × IsLine t c s × Lacks 13 s
line_back t c r (somewhere front back whole lacks) ok h =
    let shape : with_returns t ≡ front ++ 13 ∷ 10 ∷ with_returns back =
    ap with_returns whole ∙ returned-line front back lacks in
    let clear : Lacks 13 front = lacks_front 13 front (10 ∷ back) (subst (Lacks 13) whole ok) in
    let left : Lacks 13 back = (lacks_back 13 front (10 ∷ back) (subst (Lacks 13) whole ok)).1 in
    ⊎_elim (λ (e : with_returns t ≡ c ++ 10 ∷ r). absurd (feeds front back shape clear lacks e))
    (λ o. ⊎_elim (λ (e : with_returns t ≡ c ++ 13 ∷ 10 ∷ r).
    let cut = one_cut 13 c front (10 ∷ r) (10 ∷ with_returns back) h.2 clear (sym e ∙ shape) in (
      back,
      tail_same r (with_returns back) cut.1,
      (inl (whole ∙ ap (λ x. x ++ 10 ∷ back) (sym cut.0)), h.1, h.2, h.3),
      left,
    ))
    (λ (e : (with_returns t ≡ c) × (r ≡ [])). absurd (lacking 10 (front ++ 13 ∷ []) (with_returns back) c h.1
    (append_assoc front (13 ∷ []) (10 ∷ with_returns back) ∙ sym shape ∙ e.0))) o) h.0
  where
    tail_same : (x y : List ℕ) → 10 ∷ x ≡ 10 ∷ y → x ≡ y
    tail_same x y e = cc

    feeds : (front back : List ℕ) → with_returns t ≡ front ++ 13 ∷ 10 ∷ with_returns back → Lacks 13 front
        → Lacks 10 front → with_returns t ≡ c ++ 10 ∷ r → ⊥
    feeds front back shape clear lacks e =
        let cut = one_cut 10 c (front ++ 13 ∷ []) r (with_returns back) h.1 (both front lacks)
        (sym e ∙ shape ∙ sym (append_assoc front (13 ∷ []) (10 ∷ with_returns back))) in
        lacking 13 front [] c h.2 (sym cut.0)
      where
        both : (front : List ℕ) → Lacks 10 front → Lacks 10 (front ++ 13 ∷ [])
        both [] k = ((λ e. cc), tt)
        both (x ∷ xs) k = (k.0, both xs k.1)
line_back t c r (nowhere lacks) ok h =
    let same = returned-whole t lacks in
    ⊎_elim (λ (e : with_returns t ≡ c ++ 10 ∷ r). absurd (lacking 10 c r t lacks (sym e ∙ same)))
    (λ o. ⊎_elim (λ (e : with_returns t ≡ c ++ 13 ∷ 10 ∷ r). absurd (lacking 13 c (10 ∷ r) t ok (sym e ∙ same)))
    (λ (e : (with_returns t ≡ c) × (r ≡ [])). (
      [],
      e.1,
      (inr (inr (sym same ∙ e.0, refl)), h.1, h.2, h.3),
      tt,
    )) o) h.0

line_carries : {A : Type 0} (F : List ℕ → A → Type 0) → Carries with_returns (λ t. Lacks 13 t) (LineOf F)
line_carries F = record {
  forth = λ t a r ok h. let one = line_forth t h.0 r ok h.1 in ((h.0, one.0, h.2), one.1);
  back = λ t a r ok h. let one = line_back t h.0 r (cut_of 10 t) ok h.1 in (one.0, one.1, (h.0, one.2, h.2), one.3);
}

returns_carry : CarriesLines with_returns (λ t. Lacks 13 t)
returns_carry = record {
  version = line_carries version_line.Says;
  origin = line_carries origin_line.Says;
  name = line_carries name_line.Says;
  others = line_carries other_line.Says;
  bandwidth = line_carries bandwidth_line.Says;
  times = line_carries times_line.Says;
  repeats = line_carries repeat_line.Says;
  attribute = line_carries session_line.Says;
  head = line_carries head_line.Says;
  connection = line_carries connection_line.Says;
  media = line_carries attribute_line.Says;
}

pub by_any_end : ReadsByAnyEnd
by_any_end text sdp ok = (
  λ rest h. ((texts with_returns (λ t. Lacks 13 t) returns_carry).forth text sdp rest ok h).0,
  λ rest h.
      let b = (texts with_returns (λ t. Lacks 13 t) returns_carry).back text sdp rest ok h in
      (b.0, b.1, b.2),
)
