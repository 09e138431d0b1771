-- Parting a text at a byte.
use Rattle.std.proofs.Common.{◌≡◌, ℕ, suc, ◌+◌, ◌==◌, Bool, true, false, not, cond, List, [], ◌∷◌, ◌++◌, length}
use Rattle.std.proofs.Common.{None, Some, Option, refl, ◌∙◌, ap, arith, Bor, lit<}
use Rattle.std.specs.List.{slice_split, onto_first, position_or_len}
use Rattle.std.specs.Option.{option_map}
use Rattle.std.proofs.lemmas.List.Splits.{slice_split_first}
use Rattle.std.proofs.lemmas.Str.Pattern.{IsSplitOnceResult, split_once_first}
use Rattle.words_and_replies.specs.Bytes.{plus_parts}

unsplit_step : {X : Type 0} (b : Bool) (m : ℕ) (x : X) (xs : List X) (parts : List (List X))
    → cond (not b) (1 + m) 0 ≡ suc (length xs) → (m ≡ length xs → parts ≡ xs ∷ [])
    → cond b ([] ∷ parts) (onto_first x parts) ≡ (x ∷ xs) ∷ []
unsplit_step true m x xs parts h ih = absurd (omega arith)
unsplit_step false m x xs parts h ih = ap (onto_first x) (ih (omega arith))

-- if no element passes there is one part
slice_split-whole : {X : Type 0} (p : X → Bool) (xs : List X) → position_or_len p xs ≡ length xs
    → slice_split p xs ≡ xs ∷ []
slice_split-whole p [] h = refl
slice_split-whole p (x ∷ xs) h = unsplit_step (p x) (position_or_len p xs) x xs (slice_split p xs) h
    (slice_split-whole p xs)

pub plus_parts-split : (text : List ℕ) (part rest : Bor (List ℕ)) → IsSplitOnceResult 43 text (Some (part, rest))
    → plus_parts text ≡ part.now ∷ plus_parts rest.now
plus_parts-split text part rest h =
    let found = split_once_first 43 text (Some (part, rest)) h (lit< tt) in
    slice_split_first (λ b. b == 43) text 0 found.0 ∙ rw (found.1, found.2) refl

pub plus_parts-whole : (text : List ℕ) → IsSplitOnceResult 43 text None → plus_parts text ≡ text ∷ []
plus_parts-whole text h = slice_split-whole (λ b. b == 43) text (split_once_first 43 text None h (lit< tt))

-- what was read so far, and then what the rest says
abbrev pub with_front : {A : Type 0} → List A → Option (List A) → Option (List A)
with_front front rest = option_map (λ more. front ++ more) rest
