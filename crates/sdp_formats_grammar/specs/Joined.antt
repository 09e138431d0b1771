-- Concatenated texts, as they are printed.
use Rattle.std.proofs.Common.{◌≡◌, ℕ, List, [], ◌∷◌, ◌++◌, ◌/◌, ◌%◌, true, map, Option, None, Some, Result, refl, ap}
use Rattle.std.proofs.Common.{subst, ◌∙◌}
use Rattle.std.specs.Option.{option_map}
use Rattle.std.specs.declared.fmt.Error.{Error}
use Rattle.std.specs.declared.fmt.Formatter.{Formatter}
use Rattle.std.specs.Fmt.{DisplaysOnOk, digits}
use Rattle.sdp_formats_grammar.specs.Bind.{◌>>=◌}

-- Texts one after the other.
abbrev pub spelled : List (List ℕ) → List ℕ
spelled [] = []
spelled (text ∷ []) = text
spelled (text ∷ next ∷ texts) = text ++ spelled (next ∷ texts)

-- The texts, each after a separator.
abbrev pub each_behind : List ℕ → List (List ℕ) → List ℕ
each_behind separator [] = []
each_behind separator (text ∷ texts) = separator ++ text ++ each_behind separator texts

-- The texts with the separator between each two.
abbrev pub joined : List ℕ → List (List ℕ) → List ℕ
joined separator [] = []
joined separator (text ∷ texts) = text ++ each_behind separator texts

-- The same for values that may have no text.
abbrev pub outputs_behind : List ℕ → List (Option (List ℕ)) → Option (List ℕ)
outputs_behind separator [] = Some []
outputs_behind separator (o ∷ os) = o >>= λ text. outputs_behind separator os
    >>= λ more. Some (separator ++ text ++ more)

abbrev pub joined_outputs : List ℕ → List (Option (List ℕ)) → Option (List ℕ)
joined_outputs separator [] = Some []
joined_outputs separator (o ∷ os) = o >>= λ text. outputs_behind separator os >>= λ more. Some (text ++ more)

outputs_some : {A : Type 0} (separator : List ℕ) (text : A → List ℕ) (xs : List A)
    → outputs_behind separator (map (λ x. Some (text x)) xs) ≡ Some (each_behind separator (map text xs))
outputs_some separator text [] = refl
outputs_some separator text (x ∷ xs) =
    ap (λ o. o >>= λ more. Some (separator ++ text x ++ more)) (outputs_some separator text xs)

-- Where each value has a text, these are joined.
pub joined_some : {A : Type 0} (separator : List ℕ) (text : A → List ℕ) (xs : List A)
    → joined_outputs separator (map (λ x. Some (text x)) xs) ≡ Some (joined separator (map text xs))
joined_some separator text [] = refl
joined_some separator text (x ∷ xs) =
    ap (λ o. o >>= λ more. Some (text x ++ more)) (outputs_some separator text xs)

-- An optional text, preceded by another.
abbrev pub maybe_text : List ℕ → Option (List ℕ) → List ℕ
maybe_text before None = []
maybe_text before (Some text) = before ++ text

abbrev pub maybe_output : List ℕ → Option (Option (List ℕ)) → Option (List ℕ)
maybe_output before None = Some []
maybe_output before (Some None) = None
maybe_output before (Some (Some text)) = Some (before ++ text)

pub maybe_some : {A : Type 0} (before : List ℕ) (text : A → List ℕ) (o : Option A)
    → maybe_output before (option_map (λ x. Some (text x)) o) ≡ Some (maybe_text before (option_map text o))
maybe_some before text None = refl
maybe_some before text (Some x) = refl

-- What writes a text writes the same text in another form.
pub writes_same : {W : Type 0} (took : W → List ℕ → W → Type 0) (f : Formatter W) (r : Result (Unit {0}) Error)
    (o p : Option (List ℕ)) (g : Formatter W) → o ≡ p → DisplaysOnOk took f r o g → DisplaysOnOk took f r p g
writes_same took f r o p g same = subst (λ x. DisplaysOnOk took f r x g) same

pub maybe_same : (before : List ℕ) (o : Option (List ℕ))
    → maybe_output before (option_map (λ x. Some x) o) ≡ Some (maybe_text before o)
maybe_same before None = refl
maybe_same before (Some x) = refl

-- A byte in two hexadecimal digits.
abbrev pub octet_text : ℕ → List ℕ
octet_text byte = digits 16 true (byte / 16) ++ digits 16 true (byte % 16)

pub joined_said : {A : Type 0} (separator : List ℕ) (text : A → List ℕ) (xs ys : List A) → xs ≡ ys
    → joined_outputs separator (map (λ x. Some (text x)) xs) ≡ Some (joined separator (map text ys))
joined_said separator text xs ys same =
    ap (λ zs. joined_outputs separator (map (λ x. Some (text x)) zs)) same ∙ joined_some separator text ys

-- The same of values that are texts.
outputs_same : (separator : List ℕ) (xs : List (List ℕ))
    → outputs_behind separator (map (λ x. Some x) xs) ≡ Some (each_behind separator xs)
outputs_same separator [] = refl
outputs_same separator (x ∷ xs) = ap (λ o. o >>= λ more. Some (separator ++ x ++ more)) (outputs_same separator xs)

pub joined_same : (separator : List ℕ) (xs : List (List ℕ))
    → joined_outputs separator (map (λ x. Some x) xs) ≡ Some (joined separator xs)
joined_same separator [] = refl
joined_same separator (x ∷ xs) = ap (λ o. o >>= λ more. Some (x ++ more)) (outputs_same separator xs)
