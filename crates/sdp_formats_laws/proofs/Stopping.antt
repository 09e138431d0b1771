-- Where lines of one kind end, and what begins there.
use Rattle.std.proofs.Common.{◌≡◌, ◌≢◌, ◌⊎◌, ℕ, List, [], ◌∷◌, ◌++◌, Option, Some, None, refl, sym, ◌∙◌, ap, inl, inr}
use Rattle.std.proofs.Common.{⊎_elim, subst, map, append_assoc}
use Rattle.sdp_formats_grammar.specs.Form.{Form, after}
use Rattle.sdp_formats_grammar.specs.Joined.{joined, each_behind}
use Rattle.sdp_formats_grammar.specs.Line.{LineOf, IsLine}
use Rattle.sdp_formats_grammar.specs.Step.{Stops, Begins}
use Rattle.sdp_formats_rounds.specs.Members.{IsEach}

-- the first byte of a text
abbrev pub first : List ℕ → Option ℕ
first [] = None
first (b ∷ t) = Some b

pub first_front : (xs ys : List ℕ) → xs ≢ [] → first (xs ++ ys) ≡ first xs
first_front [] ys some = absurd (some refl)
first_front (x ∷ xs) ys some = refl

pub line_first : (t content rest : List ℕ) → IsLine t content rest → first content ≡ first t
line_first t content rest h = ⊎_elim (λ e. sym (ap first e ∙ first_front content (10 ∷ rest) h.3))
    (λ o. ⊎_elim (λ e. sym (ap first e ∙ first_front content (13 ∷ 10 ∷ rest) h.3)) (λ e. sym (ap first e.0)) o) h.0

pub stops : {A : Type 0} (F : List ℕ → A → Type 0) (t : List ℕ)
    → ((content : List ℕ) (a : A) → F content a → first content ≡ first t → ⊥) → Stops (LineOf F) t
stops F t never = λ a r s. never s.0 a s.2 (line_first t s.0 r s.1)

pub other_start : {A : Type 0} (c : ℕ) (name : List ℕ) (f : Form A) (t : List ℕ) → (first t ≡ Some c → ⊥)
    → Stops (LineOf (after (c ∷ name) f).Says) t
other_start c name f t other = stops _ t (λ content a s same. other (sym same ∙ ap first s.1))

-- lines of a kind begin with its letter, or there are none
pub first_of : {A : Type 0} (c : ℕ) (name : List ℕ) (f : Form A) (t : List ℕ) (as' : List A) (r : List ℕ)
    → Begins (LineOf (after (c ∷ name) f).Says) t as' r → (first t ≡ Some c) ⊎ (r ≡ t)
first_of c name f t [] r h = inr h
first_of c name f t (a ∷ as') r h = inl (sym (line_first t h.1.0 h.0 h.1.1) ∙ ap first h.1.2.1)

-- printed values, one after the other
begins_behind : {A B : Type 0} (S : List ℕ → B → List ℕ → Type 0) (text : A → List ℕ) (value : A → B)
    (P : A → Type 0) → ((x : A) (rest : List ℕ) → P x → S (text x ++ rest) (value x) rest) → (xs : List A)
    (rest : List ℕ) → IsEach P xs → Begins S (each_behind [] (map text xs) ++ rest) (map value xs) rest
begins_behind S text value P line [] rest h = refl
begins_behind S text value P line (x ∷ xs) rest h = (
  each_behind [] (map text xs) ++ rest,
  subst (λ t. S t (value x) (each_behind [] (map text xs) ++ rest))
      (sym (append_assoc (text x) (each_behind [] (map text xs)) rest))
      (line x (each_behind [] (map text xs) ++ rest) h.0),
  begins_behind S text value P line xs rest h.1,
)

pub joined_behind : (ts : List (List ℕ)) → joined [] ts ≡ each_behind [] ts
joined_behind [] = refl
joined_behind (t ∷ ts) = refl

pub begins_as : {A B : Type 0} (S : List ℕ → B → List ℕ → Type 0) (text : A → List ℕ) (value : A → B)
    (P : A → Type 0) → ((x : A) (rest : List ℕ) → P x → S (text x ++ rest) (value x) rest) → (xs : List A)
    (rest : List ℕ) → IsEach P xs → Begins S (joined [] (map text xs) ++ rest) (map value xs) rest
begins_as S text value P line xs rest h = subst (λ t. Begins S (t ++ rest) (map value xs) rest)
    (sym (joined_behind (map text xs))) (begins_behind S text value P line xs rest h)

map_same : {A : Type 0} (xs : List A) → map (λ x. x) xs ≡ xs
map_same [] = refl
map_same (x ∷ xs) = ap (λ t. x ∷ t) (map_same xs)

pub begins_all : {A : Type 0} (S : List ℕ → A → List ℕ → Type 0) (text : A → List ℕ) (P : A → Type 0)
    → ((x : A) (rest : List ℕ) → P x → S (text x ++ rest) x rest) → (xs : List A) (rest : List ℕ) → IsEach P xs
    → Begins S (joined [] (map text xs) ++ rest) xs rest
begins_all S text P line xs rest h = subst (λ ys. Begins S (joined [] (map text xs) ++ rest) ys rest) (map_same xs)
    (begins_as S text (λ x. x) P line xs rest h)
