-- What the values of a form have.
use Rattle.std.proofs.Common.{◌≡◌, ℕ, Bool, true, false, List, [], ◌∷◌, ◌++◌, Option, Some, None, inl, inr, subst, sym}
use Rattle.std.proofs.Common.{if◌then◌else◌}
use Rattle.std.specs.Str.{bytes_eq}
use Rattle.sdp_formats_grammar.specs.Form.{Form, told, made, after, cut, either}
use Rattle.sdp_formats_grammar.specs.Step.{Begins, Step}
use Rattle.sdp_formats_grammar.specs.Kinds.{Kind, Named, OneOf, kind_form, first_of}
use Rattle.sdp_formats_grammar.specs.Tables.{Table, word_of}
use Rattle.sdp_formats_grammar.specs.Steps.{none_some, some_same}
use Rattle.sdp_formats_rounds.specs.Members.{IsEach}

-- Each value that a text says by the form has it.
pub record Gives {A : Type 0} (P : A → Type 0) (f : Form A) : Type 0 where
  pub each : (t : List ℕ) (a : A) → f.Says t a → P a

pub either_gives : {A : Type 0} (P : A → Type 0) (f g : Form A) → Gives P f → Gives P g → Gives P (either f g)
either_gives {A} P f g x y = record { each = by }
  where
    by : (t : List ℕ) (a : A) → (either f g).Says t a → P a
    by t a (inl s) = x.each t a s
    by t a (inr s) = y.each t a s.1

pub after_gives : {A : Type 0} (P : A → Type 0) (words : List ℕ) (f : Form A) → Gives P f → Gives P (after words f)
after_gives P words f x = record { each = λ t a s. x.each s.0 a s.2 }

pub made_gives : {A B : Type 0} (P : B → Type 0) (h : A → B) (f : Form A) → ((a : A) → P (h a))
    → Gives P (made h f)
made_gives P h f x = record { each = λ t b s. subst P (sym s.2) (x s.0) }

pub made_of : {A B : Type 0} (Q : A → Type 0) (P : B → Type 0) (h : A → B) (f : Form A) → Gives Q f
    → ((a : A) → Q a → P (h a)) → Gives P (made h f)
made_of Q P h f g x = record { each = λ t b s. subst P (sym s.2) (x s.0 (g.each t s.0 s.1)) }

-- what follows the cut
pub behind_gives : {A B : Type 0} (Q : B → Type 0) (c : ℕ) (f : Form A) (g : Form B) → Gives Q g
    → Gives (λ (x : A × B). Q x.1) (cut c f g)
behind_gives Q c f g x = record { each = λ t ab s. x.each s.1 ab.1 s.5 }

pub always : {A : Type 0} (P : A → Type 0) (x : A) → P x → Gives P (told (λ t. Some x))
always P x p = record { each = λ t a s. subst P (some_same x a s) p }

pub some_gives : {A : Type 0} (P : A → Type 0) (b : Bool) (x : A) (o : Option A) → P x
    → ((a : A) → o ≡ Some a → P a) → (a : A) → (if b then Some x else o) ≡ Some a → P a
some_gives P true x o p f a e = subst P (some_same x a e) p
some_gives P false x o p f a e = f a e

pub none_gives : {A : Type 0} (P : A → Type 0) (a : A) → None ≡ Some a → P a
none_gives P a e = absurd (none_some a e)

-- the values of a table
abbrev pub Words : {A : Type 0} (P : A → Type 0) → Table A → Type 0
Words P [] = Unit {0}
Words P (row ∷ rows) = P row.1 × Words P rows

pub table_gives : {A : Type 0} (P : A → Type 0) (table : Table A) → Words P table → Gives P (told (word_of table))
table_gives {A} P table h = record { each = λ t a e. by table h t a e }
  where
    by : (table : Table A) → Words P table → (t : List ℕ) (a : A) → word_of table t ≡ Some a → P a
    by [] h t a e = none_gives P a e
    by (row ∷ rows) h t a e = some_gives P (bytes_eq t row.0) row.1 (word_of rows t) h.0 (by rows h.1 t) a e

-- the values of the first kind that fits
abbrev KindGives : {A : Type 0} (P : A → Type 0) → Kind A → Type 0
KindGives P (Named name form) = Gives P form
KindGives P (OneOf table) = Words P table

abbrev pub KindsGive : {A : Type 0} (P : A → Type 0) → List (Kind A) → Type 0
KindsGive P [] = Unit {0}
KindsGive P (kind ∷ kinds) = KindGives P kind × KindsGive P kinds

kind_gives : {A : Type 0} (P : A → Type 0) (kind : Kind A) → KindGives P kind → Gives P (kind_form kind)
kind_gives P (Named name form) h = after_gives P (name ++ 58 ∷ []) form h
kind_gives P (OneOf table) h = table_gives P table h

pub first_of_gives : {A : Type 0} (P : A → Type 0) (kinds : List (Kind A)) (otherwise : Form A) → KindsGive P kinds
    → Gives P otherwise → Gives P (first_of kinds otherwise)
first_of_gives P [] otherwise h k = k
first_of_gives P (kind ∷ kinds) otherwise h k =
    either_gives P (kind_form kind) (first_of kinds otherwise) (kind_gives P kind h.0)
    (first_of_gives P kinds otherwise h.1 k)

-- the values of steps
pub begins_each : {A : Type 0} (S : Step A) (P : A → Type 0) → ((t : List ℕ) (a : A) (r : List ℕ) → S t a r → P a)
    → (t : List ℕ) (as' : List A) (r : List ℕ) → Begins S t as' r → IsEach P as'
begins_each S P f t [] r h = tt
begins_each S P f t (a ∷ as') r h = (f t a h.0 h.1, begins_each S P f h.0 as' r h.2)
