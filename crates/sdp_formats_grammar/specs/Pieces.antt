-- Pieces of a text.
use Rattle.std.specs.Prelude.{ℕ, List, [], ◌∷◌, ◌++◌, Option, None, Some}
use Rattle.std.specs.Option.{option_map}
use Rattle.sdp_formats_grammar.specs.Split.{parts}

-- The pieces of what is left of a text, if anything is.
abbrev pub parts_from : ℕ → Option (List ℕ) → List (List ℕ)
parts_from c None = []
parts_from c (Some rest) = parts c rest

-- Values before those that are there.
abbrev pub with_front : {A : Type 0} → List A → Option (List A) → Option (List A)
with_front front o = option_map (λ more. front ++ more) o

-- The first value.
abbrev pub head : {A : Type 0} → List A → Option A
head [] = None
head (a ∷ as') = Some a
