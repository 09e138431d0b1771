-- Texts of the same lines, each ended either way, are read the same.
use Rattle.std.proofs.Common.{◌≡◌, ◌≢◌, ◌==◌, ◌&&◌, ℕ, Bool, true, false, cond, not, List, [], ◌∷◌, ◌++◌}
use Rattle.std.proofs.Common.{refl, sym, ◌∙◌, ap, subst, inl, inr, ⊎_elim, append_assoc, arith}
use Rattle.std.proofs.lemmas.Bool.Decides.{nat_tests}
use Rattle.sdp_formats_grammar.specs.Cuts.{IsCut, somewhere, nowhere, cut_of}
use Rattle.sdp_formats_grammar.specs.Line.{IsLine, LineOf}
use Rattle.sdp_formats_grammar.specs.Split.{Lacks}
use Rattle.sdp_formats_reader.specs.Lines.{version_line, origin_line, name_line, other_line, bandwidth_line}
use Rattle.sdp_formats_reader.specs.Lines.{times_line, repeat_line, connection_line, head_line}
use Rattle.sdp_formats_reader.specs.AttributesChoice.{attribute_line}
use Rattle.sdp_formats_reader.specs.ReaderChoice.{attribute_line as session_line}
use Rattle.sdp_formats_laws.proofs.Carried.{Carries, CarriesLines, session, texts}
use Rattle.sdp_formats_laws.proofs.LineEnds.{lacking, one_cut}
use Rattle.sdp_formats_laws.proofs.Printed.{lacks_both}
use Rattle.sdp_formats_laws.specs.LineEnds.{HaveSameLines, LinesEndEitherWay, ReadsBySameLines, ReadsSessionBySameLines}
use Rattle.sdp_formats_laws.specs.LineEnds.{all_returned, either_end}

abbrev pub returned : List ℕ → List ℕ
returned t = all_returned false t

-- bytes that end no line stay
other_byte : (b : ℕ) (behind : Bool) (x y : List ℕ) → b ≢ 10 → cond (b == 10 && not behind) x y ≡ y
other_byte b behind x y h = grind (arith, nat_tests)

no_return : (b : ℕ) → b ≢ 13 → (b == 13) ≡ false
no_return b h = grind (arith, nat_tests)

whole : (behind : Bool) (t : List ℕ) → Lacks 10 t → all_returned behind t ≡ t
whole behind [] h = refl
whole behind (b ∷ t) h =
    other_byte b behind (13 ∷ 10 ∷ all_returned false t) (b ∷ all_returned (b == 13) t) h.0
    ∙ ap (λ x. b ∷ x) (whole (b == 13) t h.1)

-- whether the last byte is a CR
abbrev pub ends_open : Bool → List ℕ → Bool
ends_open behind [] = behind
ends_open behind (b ∷ t) = ends_open (b == 13) t

front_stays : (behind : Bool) (front back : List ℕ) → Lacks 10 front
    → all_returned behind (front ++ back) ≡ front ++ all_returned (ends_open behind front) back
front_stays behind [] back h = refl
front_stays behind (b ∷ front) back h =
    other_byte b behind (13 ∷ 10 ∷ all_returned false (front ++ back)) (b ∷ all_returned (b == 13) (front ++ back)) h.0
    ∙ ap (λ x. b ∷ x) (front_stays (b == 13) front back h.1)

closed : (front : List ℕ) → Lacks 13 front → ends_open false front ≡ false
closed [] h = refl
closed (b ∷ front) h = ap (λ x. ends_open x front) (no_return b h.0) ∙ closed front h.1

open_end : (behind : Bool) (front : List ℕ) → ends_open behind front ≡ true → front ≢ []
    → (g : List ℕ) × (front ≡ g ++ 13 ∷ [])
open_end behind [] h some = absurd (some refl)
open_end behind (b ∷ []) h some = ([], ap (λ x. x ∷ []) (the_return b h))
  where
    the_return : (b : ℕ) → (b == 13) ≡ true → b ≡ 13
    the_return b h = grind (arith, nat_tests)
open_end behind (b ∷ c ∷ front) h some =
    let more = open_end (b == 13) (c ∷ front) h (λ e. cc) in (b ∷ more.0, ap (λ x. b ∷ x) more.1)

-- a line, whichever its end
ended_line : (c r : List ℕ) → Lacks 10 c → Lacks 13 c → returned (c ++ 10 ∷ r) ≡ c ++ 13 ∷ 10 ∷ returned r
ended_line c r h k =
    front_stays false c (10 ∷ r) h ∙ ap (λ b. c ++ all_returned b (10 ∷ r)) (closed c k)

returned_line : (c r : List ℕ) → Lacks 10 c → Lacks 13 c → returned (c ++ 13 ∷ 10 ∷ r) ≡ c ++ 13 ∷ 10 ∷ returned r
returned_line c r h k =
    front_stays false c (13 ∷ 10 ∷ r) h ∙ ap (λ b. c ++ all_returned b (13 ∷ 10 ∷ r)) (closed c k)

line_forth : (t c r : List ℕ) → IsLine t c r → IsLine (returned t) c (returned r)
line_forth t c r h = ⊎_elim
    (λ (e : t ≡ c ++ 10 ∷ r). (inr (inl (ap returned e ∙ ended_line c r h.1 h.2)), h.1, h.2, h.3))
    (λ o. ⊎_elim (λ (e : t ≡ c ++ 13 ∷ 10 ∷ r).
    (inr (inl (ap returned e ∙ returned_line c r h.1 h.2)), h.1, h.2, h.3))
    (λ (e : (t ≡ c) × (r ≡ [])).
    (inr (inr (ap returned e.0 ∙ whole false c h.1, ap returned e.1)), h.1, h.2, h.3)) o) h.0

two_ends : (c r : List ℕ) → c ++ 13 ∷ 10 ∷ r ≡ (c ++ 13 ∷ []) ++ 10 ∷ r
two_ends c r = sym (append_assoc c (13 ∷ []) (10 ∷ r))

behind_return : (c : List ℕ) → Lacks 10 c → Lacks 10 (c ++ 13 ∷ [])
behind_return c h = lacks_both 10 c (13 ∷ []) h ((λ e. cc), tt)

same_front : (xs ys : List ℕ) (b : ℕ) → xs ++ b ∷ [] ≡ ys ++ b ∷ [] → xs ≡ ys
same_front [] [] b e = refl
same_front [] (y ∷ ys) b e = absurd (longer ys (tail_of b y [] (ys ++ b ∷ []) e))
  where
    longer : (ys : List ℕ) → [] ≡ ys ++ b ∷ [] → ⊥
    longer [] e = cc
    longer (y ∷ ys) e = cc

    tail_of : (a b : ℕ) (xs ys : List ℕ) → a ∷ xs ≡ b ∷ ys → xs ≡ ys
    tail_of a b xs ys e = cc
same_front (x ∷ xs) [] b e = absurd (longer xs (tail_of x b (xs ++ b ∷ []) [] e))
  where
    longer : (ys : List ℕ) → ys ++ b ∷ [] ≡ [] → ⊥
    longer [] e = cc
    longer (y ∷ ys) e = cc

    tail_of : (a b : ℕ) (xs ys : List ℕ) → a ∷ xs ≡ b ∷ ys → xs ≡ ys
    tail_of a b xs ys e = cc
same_front (x ∷ xs) (y ∷ ys) b e = λ i. (heads x y (xs ++ b ∷ []) (ys ++ b ∷ []) e).0 i
    ∷ same_front xs ys b (heads x y (xs ++ b ∷ []) (ys ++ b ∷ []) e).1 i
  where
    heads : (a b : ℕ) (xs ys : List ℕ) → a ∷ xs ≡ b ∷ ys → (a ≡ b) × (xs ≡ ys)
    heads a b xs ys e = (cc, cc)

-- the line that a text begins with, from the text with all ends CR LF
abbrev pub IsBack : List ℕ → List ℕ → List ℕ → Type 0
IsBack t c r = (s : List ℕ) × (r ≡ returned s) × IsLine t c s

at_open : (t c r front back : List ℕ) → t ≡ front ++ 10 ∷ back → Lacks 10 front → ends_open false front ≡ true
    → IsLine (returned t) c r → IsBack t c r
at_open t c r front back parts lacks last h =
    let end = open_end false front last (some front last) in
    let shape : returned t ≡ front ++ 10 ∷ returned back =
    ap returned parts ∙ front_stays false front (10 ∷ back) lacks
    ∙ ap (λ b. front ++ all_returned b (10 ∷ back)) last in
    ⊎_elim (λ (e : returned t ≡ c ++ 10 ∷ r).
    let cut = one_cut 10 c front r (returned back) h.1 lacks (sym e ∙ shape) in
    absurd (lacking 13 end.0 [] c h.2 (sym end.1 ∙ sym cut.0)))
    (λ o. ⊎_elim (λ (e : returned t ≡ c ++ 13 ∷ 10 ∷ r).
    let cut = one_cut 10 (c ++ 13 ∷ []) front r (returned back) (behind_return c h.1) lacks
    (sym (two_ends c r) ∙ sym e ∙ shape) in (
      back,
      cut.1,
      (
        inr (inl (parts ∙ ap (λ x. x ++ 10 ∷ back) (sym cut.0) ∙ sym (two_ends c back))),
        h.1,
        h.2,
        h.3,
      ),
    ))
    (λ (e : (returned t ≡ c) × (r ≡ [])). absurd (lacking 10 front (returned back) c h.1 (sym shape ∙ e.0))) o) h.0
  where
    some : (front : List ℕ) → ends_open false front ≡ true → front ≢ []
    some [] h = absurd (cc)
    some (b ∷ front) h = λ e. cc

at_closed : (t c r front back : List ℕ) → t ≡ front ++ 10 ∷ back → Lacks 10 front → ends_open false front ≡ false
    → IsLine (returned t) c r → IsBack t c r
at_closed t c r front back parts lacks last h =
    let shape : returned t ≡ front ++ 13 ∷ 10 ∷ returned back =
    ap returned parts ∙ front_stays false front (10 ∷ back) lacks
    ∙ ap (λ b. front ++ all_returned b (10 ∷ back)) last in
    ⊎_elim (λ (e : returned t ≡ c ++ 10 ∷ r).
    let cut = one_cut 10 c (front ++ 13 ∷ []) r (returned back) h.1 (behind_return front lacks)
    (sym e ∙ shape ∙ two_ends front (returned back)) in
    absurd (lacking 13 front [] c h.2 (sym cut.0)))
    (λ o. ⊎_elim (λ (e : returned t ≡ c ++ 13 ∷ 10 ∷ r).
    let cut = one_cut 10 (c ++ 13 ∷ []) (front ++ 13 ∷ []) r (returned back) (behind_return c h.1)
    (behind_return front lacks) (sym (two_ends c r) ∙ sym e ∙ shape ∙ two_ends front (returned back)) in (
      back,
      cut.1,
      (inl (parts ∙ ap (λ x. x ++ 10 ∷ back) (sym (same_front c front 13 cut.0))), h.1, h.2, h.3),
    ))
    (λ (e : (returned t ≡ c) × (r ≡ [])). absurd (lacking 10 (front ++ 13 ∷ []) (returned back) c h.1
    (sym (two_ends front (returned back)) ∙ sym shape ∙ e.0))) o) h.0

by_end : (t c r front back : List ℕ) → t ≡ front ++ 10 ∷ back → Lacks 10 front → (b : Bool)
    → ends_open false front ≡ b → IsLine (returned t) c r → IsBack t c r
by_end t c r front back parts lacks true e h = at_open t c r front back parts lacks e h
by_end t c r front back parts lacks false e h = at_closed t c r front back parts lacks e h

line_back : (t c r : List ℕ) → IsCut 10 t → IsLine (returned t) c r → IsBack t c r
line_back t c r (somewhere front back parts lacks) h =
    by_end t c r front back parts lacks (ends_open false front) refl h
line_back t c r (nowhere lacks) h =
    let same = whole false t lacks in
    ⊎_elim (λ (e : returned t ≡ c ++ 10 ∷ r). absurd (lacking 10 c r t lacks (sym e ∙ same)))
    (λ o. ⊎_elim (λ (e : returned t ≡ c ++ 13 ∷ 10 ∷ r).
    absurd (lacking 10 (c ++ 13 ∷ []) r t lacks (sym (two_ends c r) ∙ sym e ∙ same)))
    (λ (e : (returned t ≡ c) × (r ≡ [])). ([], e.1, (inr (inr (sym same ∙ e.0, refl)), h.1, h.2, h.3))) o) h.0

-- whatever is in the text
abbrev pub Anything : List ℕ → Type 0
Anything t = Unit {0}

line_carries : {A : Type 0} (F : List ℕ → A → Type 0) → Carries returned Anything (LineOf F)
line_carries F = record {
  forth = λ t a r ok h. ((h.0, line_forth t h.0 r h.1, h.2), tt);
  back = λ t a r ok h. let one = line_back t h.0 r (cut_of 10 t) h.1 in (one.0, one.1, (h.0, one.2, h.2), tt);
}

returns_carry : CarriesLines returned Anything
returns_carry = record {
  version = line_carries version_line.Says;
  origin = line_carries origin_line.Says;
  name = line_carries name_line.Says;
  others = line_carries other_line.Says;
  bandwidth = line_carries bandwidth_line.Says;
  times = line_carries times_line.Says;
  repeats = line_carries repeat_line.Says;
  attribute = line_carries session_line.Says;
  head = line_carries head_line.Says;
  connection = line_carries connection_line.Says;
  media = line_carries attribute_line.Says;
}

across : {A : Type 0} (S : List ℕ → A → List ℕ → Type 0) → Carries returned Anything S → (text other : List ℕ) (a : A)
    (rest : List ℕ) → HaveSameLines text other → S text a rest
    → (left : List ℕ) × HaveSameLines rest left × S other a left
across S c text other a rest same h =
    let one = subst (λ t. S t a (returned rest)) same (c.forth text a rest tt h).0 in
    let two = c.back other a (returned rest) tt one in
    (two.0, two.1, two.2)

pub by_same_lines : ReadsBySameLines
by_same_lines = across _ (texts returned Anything returns_carry)

pub session_by_same_lines : ReadsSessionBySameLines
session_by_same_lines = across _ (session returned Anything returns_carry)

-- a line of each end
either_line : (line t : List ℕ) (first : Bool) → Lacks 10 line → Lacks 13 line
    → returned (line ++ (either_end first ++ t)) ≡ line ++ 13 ∷ 10 ∷ returned t
either_line line t true h k = returned_line line t h k
either_line line t false h k = ended_line line t h k

pub end_either_way : LinesEndEitherWay
end_either_way line t u first second h k same =
    either_line line t first h k ∙ ap (λ x. line ++ 13 ∷ 10 ∷ x) same ∙ sym (either_line line u second h k)
