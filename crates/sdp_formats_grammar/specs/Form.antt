-- Forms of a text: a reader, and the same as a relation.
use Rattle.std.specs.Prelude.{◌≡◌, ◌⊎◌, ◌++◌, ℕ, Bool, true, if◌then◌else◌, List, [], ◌∷◌, Option, Some, None}
use Rattle.std.specs.Option.{option_map, option_or}
use Rattle.sdp_formats_grammar.specs.Bind.{◌>>=◌}
use Rattle.sdp_formats_grammar.specs.Numbers.{number_below}
use Rattle.sdp_formats_grammar.specs.Split.{Lacks, IsJoined, split_first, halves, behind, parts}

-- A form: its reader, and the relation that specifies it.
pub record Form (A : Type 0) : Type 1 where
  pub reads : List ℕ → Option A
  pub Says : List ℕ → A → Type 0

-- They agree: a text says at most one value, and is read if and only if it says one.
pub record IsExact {A : Type 0} (f : Form A) : Type 0 where
  pub sound : (text : List ℕ) (a : A) → f.reads text ≡ Some a → f.Says text a
  pub complete : (text : List ℕ) (a : A) → f.Says text a → f.reads text ≡ Some a

-- The form of a function on texts.
abbrev pub told : {A : Type 0} → (List ℕ → Option A) → Form A
told f = record { reads = f; Says = λ t a. f t ≡ Some a }

-- Any text but the empty one.
abbrev pub some_text : List ℕ → Option (List ℕ)
some_text [] = None
some_text (b ∷ bs) = Some (b ∷ bs)

abbrev pub any_text : Form (List ℕ)
any_text = told some_text

-- A number below a limit.
abbrev pub number : ℕ → Form ℕ
number limit = told (number_below limit)

-- A form whose value is mapped by a function.
abbrev pub made : {A B : Type 0} → (A → B) → Form A → Form B
made h f = record {
  reads = λ t. option_map h (f.reads t);
  Says = λ t b. (a : _) × f.Says t a × (b ≡ h a);
}

-- These words, followed by a form.
abbrev pub after : {A : Type 0} → List ℕ → Form A → Form A
after words f = record {
  reads = λ t. behind words t >>= f.reads;
  Says = λ t a. (rest : List ℕ) × (t ≡ words ++ rest) × f.Says rest a;
}

-- One form before the first occurrence of a byte, and one after it.
abbrev pub both : {A B : Type 0} → (List ℕ → Option A) → (List ℕ → Option B) → List ℕ × List ℕ → Option (A × B)
both f g p = f p.0 >>= λ a. g p.1 >>= λ b. Some (a, b)

abbrev pub cut : {A B : Type 0} → ℕ → Form A → Form B → Form (A × B)
cut c f g = record {
  reads = λ t. split_first c t >>= both f.reads g.reads;
  Says = λ t ab. (front back : List ℕ) × (t ≡ front ++ c ∷ back) × Lacks c front × f.Says front ab.0 × g.Says back ab.1;
}

-- A form of what may be there.
abbrev pub maybe : {A : Type 0} → (List ℕ → Option A) → Option (List ℕ) → Option (Option A)
maybe f None = Some None
maybe f (Some t) = option_map Some (f t)

-- One form before the first occurrence of a byte, and one after it if there is one.
abbrev pub both_maybe : {A B : Type 0} → (List ℕ → Option A) → (Option (List ℕ) → Option B) → List ℕ
    × Option (List ℕ) → Option (A × B)
both_maybe f g h = f h.0 >>= λ a. g h.1 >>= λ b. Some (a, b)

abbrev pub SaysMaybe : {A B : Type 0} → ℕ → (List ℕ → A → Type 0) → (List ℕ → B → Type 0) → List ℕ → A → Option B
    → Type 0
SaysMaybe c F G t a None = Lacks c t × F t a
SaysMaybe c F G t a (Some b) = (front back : List ℕ) × (t ≡ front ++ c ∷ back) × Lacks c front × F front a × G back b

abbrev pub cut_maybe : {A B : Type 0} → ℕ → Form A → Form B → Form (A × Option B)
cut_maybe c f g = record {
  reads = λ t. both_maybe f.reads (maybe g.reads) (halves c t);
  Says = λ t ab. SaysMaybe c f.Says g.Says t ab.0 ab.1;
}

-- Pieces separated by a byte, each of a form.
abbrev pub each : {A : Type 0} → (List ℕ → Option A) → List (List ℕ) → Option (List A)
each f [] = Some []
each f (t ∷ ts) = f t >>= λ a. each f ts >>= λ as'. Some (a ∷ as')

abbrev pub Each : {A : Type 0} → (List ℕ → A → Type 0) → List (List ℕ) → List A → Type 0
Each F [] [] = Unit {0}
Each F (t ∷ ts) (a ∷ as') = F t a × Each F ts as'
Each F [] (a ∷ as') = ⊥
Each F (t ∷ ts) [] = ⊥

abbrev pub separated : {A : Type 0} → ℕ → Form A → Form (List A)
separated c f = record {
  reads = λ t. each f.reads (parts c t);
  Says = λ t as'. (pieces : List (List ℕ)) × IsJoined c pieces t × Each f.Says pieces as';
}

-- The first of two forms that matches.
abbrev pub either : {A : Type 0} → Form A → Form A → Form A
either f g = record {
  reads = λ t. option_or (f.reads t) (g.reads t);
  Says = λ t a. f.Says t a ⊎ (((x : _) → f.Says t x → ⊥) × g.Says t a);
}

-- A form's values that pass a test.
abbrev pub passed : {A : Type 0} → (A → Bool) → A → Option A
passed p a = if p a then Some a else None

abbrev pub only : {A : Type 0} → (A → Bool) → Form A → Form A
only p f = record {
  reads = λ t. f.reads t >>= passed p;
  Says = λ t a. f.Says t a × (p a ≡ true);
}

-- The word after a field's name, and the rest after a blank; no word if the text doesn't begin with the name.
abbrev pub field_word : List ℕ × Option (List ℕ) → Option (Option (List ℕ) × Option (List ℕ))
field_word h = some_text h.0 >>= λ w. Some (Some w, h.1)

abbrev pub field_in : List ℕ → Option (List ℕ) → Option (Option (List ℕ) × Option (List ℕ))
field_in t None = Some (None, Some t)
field_in t (Some v) = field_word (halves 32 v)

abbrev pub field : List ℕ → Option (List ℕ) → Option (Option (List ℕ) × Option (List ℕ))
field name None = Some (None, None)
field name (Some t) = field_in t (behind name t)
