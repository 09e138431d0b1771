-- Lines as they are printed, and what is read of them.
use Rattle.std.proofs.Common.{◌≡◌, ◌≢◌, ℕ, Bool, true, false, not, ◌&&◌, ◌==◌, List, [], ◌∷◌, ◌++◌, Some}
use Rattle.std.proofs.Common.{inl, inr, refl, sym, ◌∙◌, ap, subst, arith}
use Rattle.std.proofs.Common.{append_assoc}
use Rattle.std.proofs.lemmas.Bool.Decides.{nat_tests}
use Rattle.sdp_formats_grammar.specs.Form.{Form, IsExact, some_text}
use Rattle.sdp_formats_grammar.specs.Split.{Lacks}
use Rattle.sdp_formats_grammar.specs.Joined.{spelled}
use Rattle.sdp_formats_grammar.specs.Line.{LineOf}
use Rattle.sdp_formats_values.specs.PrintedValues.{line_end}
use Rattle.sdp_formats_values.specs.Lists.{named}
use Rattle.sdp_formats_laws.specs.Printable.{IsText}

pub lacks_both : (c : ℕ) (xs ys : List ℕ) → Lacks c xs → Lacks c ys → Lacks c (xs ++ ys)
lacks_both c [] ys h k = k
lacks_both c (x ∷ xs) ys h k = (h.0, lacks_both c xs ys h.1 k)

-- whether no byte is this one
abbrev pub lacks_byte : ℕ → List ℕ → Bool
lacks_byte c [] = true
lacks_byte c (x ∷ xs) = not (x == c) && lacks_byte c xs

other_first : (x c : ℕ) (b : Bool) → (not (x == c) && b) ≡ true → (x ≢ c) × (b ≡ true)
other_first x c b h = (λ e. grind (arith, nat_tests), grind (arith, nat_tests))

pub lacks : (c : ℕ) (xs : List ℕ) → lacks_byte c xs ≡ true → Lacks c xs
lacks c [] h = tt
lacks c (x ∷ xs) h = let two = other_first x c (lacks_byte c xs) h in (two.0, lacks c xs two.1)

pub text_some : (t : List ℕ) → t ≢ [] → some_text t ≡ Some t
text_some [] h = absurd (h refl)
text_some (b ∷ t) h = refl

-- a value is read from this text, with its end
abbrev pub IsPrintedAs : {A : Type 0} → Form A → List ℕ → A → Type 0
IsPrintedAs f text a = (content : List ℕ) × (text ≡ content ++ line_end) × IsText content × (f.reads content ≡ Some a)

pub not_empty : (xs ys : List ℕ) → xs ≢ [] → xs ++ ys ≢ []
not_empty [] ys h = absurd (h refl)
not_empty (x ∷ xs) ys h = λ e. cc

pub both_texts : (name v : List ℕ) → IsText name → Lacks 10 v → Lacks 13 v → IsText (name ++ v)
both_texts name v h feed return =
    (not_empty name v h.0, lacks_both 10 name v h.1 feed, lacks_both 13 name v h.2 return)

pub named_line : {A : Type 0} (f : Form A) (name v : List ℕ) (a : A) → IsText name → Lacks 10 v → Lacks 13 v
    → f.reads (name ++ v) ≡ Some a → IsPrintedAs f (named name v) a
named_line f name v a h feed return reads =
    (name ++ v, sym (append_assoc name v line_end), both_texts name v h feed return, reads)

pub printed_line : {A : Type 0} (f : Form A) (exact : IsExact f) (a : A) (text rest : List ℕ) → IsPrintedAs f text a
    → LineOf f.Says (text ++ rest) a rest
printed_line f exact a text rest p = (
  p.0,
  ((inr (inl (ap (λ t. t ++ rest) p.1 ∙ append_assoc p.0 line_end rest))), p.2.1, p.2.2, p.2.0),
  exact.sound p.0 a p.3,
)

abbrev pub is_name : List ℕ → Bool
is_name [] = false
is_name (x ∷ xs) = lacks_byte 10 (x ∷ xs) && lacks_byte 13 (x ∷ xs)

two_true : (a b : Bool) → (a && b) ≡ true → (a ≡ true) × (b ≡ true)
two_true true b h = (refl, h)
two_true false b h = absurd (cc)

pub named_by : (name : List ℕ) → is_name name ≡ true → IsText name
named_by [] h = absurd (cc)
named_by (x ∷ xs) h = let two = two_true (lacks_byte 10 (x ∷ xs)) (lacks_byte 13 (x ∷ xs)) h in
    (λ e. cc, lacks 10 (x ∷ xs) two.0, lacks 13 (x ∷ xs) two.1)

-- a line without a value
pub fixed_line : {A : Type 0} (f : Form A) (content : List ℕ) (a : A) → is_name content ≡ true
    → f.reads content ≡ Some a → IsPrintedAs f (content ++ line_end) a
fixed_line f content a name reads = (content, refl, named_by content name, reads)

-- two parts with a blank or another sign between
pub two_parts : (name front back : List ℕ) (c : ℕ) → spelled (name ∷ front ∷ (c ∷ []) ∷ back ∷ line_end ∷ [])
    ≡ named name (front ++ c ∷ back)
two_parts name front back c = ap (λ t. name ++ t) (sym (append_assoc front (c ∷ back) line_end))

pub at_text : {A : Type 0} (f : Form A) (text other : List ℕ) (a : A) → text ≡ other → IsPrintedAs f other a
    → IsPrintedAs f text a
at_text f text other a same = subst (λ t. IsPrintedAs f t a) (sym same)
