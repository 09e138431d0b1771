-- Parting a text at a byte.
use Rattle.std.proofs.Common.{◌≡◌, ℕ, suc, ◌+◌, ◌<◌, ◌==◌, Bool, true, false, not, cond, List, [], ◌∷◌, length, None}
use Rattle.std.proofs.Common.{Some, refl, ◌∙◌, ap, arith, Bor, lit<}
use Rattle.std.specs.List.{slice_split, onto_first, position_or_len}
use Rattle.std.proofs.lemmas.Bool.{cond_both}
use Rattle.std.proofs.lemmas.List.Splits.{slice_split_first}
use Rattle.std.proofs.lemmas.Str.Pattern.{IsSplitOnceResult, split_once_first}
use Rattle.rtp_media_program.specs.Words.{words_of, comma_parts, ended}
use Rattle.rtp_media_program.specs.Sections.{colon_parts, plus_parts}

abbrev pub IsCons : {X : Type 0} → List X → Type 0
IsCons {X} xs = (y : X) × (ys : List X) × (xs ≡ y ∷ ys)

onto_first-IsCons : {X : Type 0} (x : X) (parts : List (List X)) → IsCons (onto_first x parts)
onto_first-IsCons x [] = (x ∷ [], [], refl)
onto_first-IsCons x (part ∷ parts) = (x ∷ part, parts, refl)

-- there is always a part
pub slice_split-IsCons : {X : Type 0} (p : X → Bool) (xs : List X) → IsCons (slice_split p xs)
slice_split-IsCons p [] = ([], [], refl)
slice_split-IsCons p (x ∷ xs) =
    cond_both (p x) ([] ∷ slice_split p xs) (onto_first x (slice_split p xs)) IsCons
    (λ _. ([], slice_split p xs, refl))
    (λ _. onto_first-IsCons x (slice_split p xs))

unsplit_step : {X : Type 0} (b : Bool) (m : ℕ) (x : X) (xs : List X) (parts : List (List X))
    → cond (not b) (1 + m) 0 ≡ suc (length xs) → (m ≡ length xs → parts ≡ xs ∷ [])
    → cond b ([] ∷ parts) (onto_first x parts) ≡ (x ∷ xs) ∷ []
unsplit_step true m x xs parts h ih = absurd (omega arith)
unsplit_step false m x xs parts h ih = ap (onto_first x) (ih (omega arith))

-- if no element passes there is one part
pub slice_split-whole : {X : Type 0} (p : X → Bool) (xs : List X) → position_or_len p xs ≡ length xs
    → slice_split p xs ≡ xs ∷ []
slice_split-whole p [] h = refl
slice_split-whole p (x ∷ xs) h = unsplit_step (p x) (position_or_len p xs) x xs (slice_split p xs) h
    (slice_split-whole p xs)

-- the parts of a text whose first separator was found
split_at_byte : (byte : ℕ) (text : List ℕ) (part rest : Bor (List ℕ)) → byte < 128
    → IsSplitOnceResult byte text (Some (part, rest))
    → slice_split (λ b. b == byte) text ≡ part.now ∷ slice_split (λ b. b == byte) rest.now
split_at_byte byte text part rest ascii h =
    let found = split_once_first byte text (Some (part, rest)) h ascii in
    slice_split_first (λ b. b == byte) text 0 found.0 ∙ rw (found.1, found.2) refl

-- the part of a text without a separator
split_nowhere : (byte : ℕ) (text : List ℕ) → byte < 128 → IsSplitOnceResult byte text None
    → slice_split (λ b. b == byte) text ≡ text ∷ []
split_nowhere byte text ascii h = slice_split-whole (λ b. b == byte) text (split_once_first byte text None h ascii)

pub words_of-split : (line : List ℕ) (word rest : Bor (List ℕ)) → IsSplitOnceResult 32 line (Some (word, rest))
    → words_of line ≡ word.now ∷ words_of rest.now
words_of-split line word rest h = split_at_byte 32 line word rest (lit< tt) h

pub words_of-whole : (line : List ℕ) → IsSplitOnceResult 32 line None → words_of line ≡ line ∷ []
words_of-whole line h = split_nowhere 32 line (lit< tt) h

pub comma_parts-split : (text : List ℕ) (part rest : Bor (List ℕ)) → IsSplitOnceResult 44 text (Some (part, rest))
    → comma_parts text ≡ part.now ∷ comma_parts rest.now
comma_parts-split text part rest h = split_at_byte 44 text part rest (lit< tt) h

pub comma_parts-whole : (text : List ℕ) → IsSplitOnceResult 44 text None → comma_parts text ≡ text ∷ []
comma_parts-whole text h = split_nowhere 44 text (lit< tt) h

pub colon_parts-split : (text : List ℕ) (part rest : Bor (List ℕ)) → IsSplitOnceResult 58 text (Some (part, rest))
    → colon_parts text ≡ part.now ∷ colon_parts rest.now
colon_parts-split text part rest h = split_at_byte 58 text part rest (lit< tt) h

pub colon_parts-whole : (text : List ℕ) → IsSplitOnceResult 58 text None → colon_parts text ≡ text ∷ []
colon_parts-whole text h = split_nowhere 58 text (lit< tt) h

pub plus_parts-split : (text : List ℕ) (part rest : Bor (List ℕ)) → IsSplitOnceResult 43 text (Some (part, rest))
    → plus_parts text ≡ part.now ∷ plus_parts rest.now
plus_parts-split text part rest h = split_at_byte 43 text part rest (lit< tt) h

pub plus_parts-whole : (text : List ℕ) → IsSplitOnceResult 43 text None → plus_parts text ≡ text ∷ []
plus_parts-whole text h = split_nowhere 43 text (lit< tt) h

-- a line has a word
pub ended-words_of : {A : Type 0} (line : List ℕ) (x : A) → ended (words_of line) x ≡ None
ended-words_of line x = let parts = slice_split-IsCons (λ b. b == 32) line in rw parts.2 refl

-- a source has a part
pub ended-plus_parts : {A : Type 0} (word : List ℕ) (x : A) → ended (plus_parts word) x ≡ None
ended-plus_parts word x = let parts = slice_split-IsCons (λ b. b == 43) word in rw parts.2 refl

-- a word has a part
pub ended-colon_parts : {A : Type 0} (word : List ℕ) (x : A) → ended (colon_parts word) x ≡ None
ended-colon_parts word x = let parts = slice_split-IsCons (λ b. b == 58) word in rw parts.2 refl
