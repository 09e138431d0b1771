-- What the restrictions of a line `a=rid` say (RFC 8851 4).
use Rattle.std.specs.Prelude.{◌≡◌, ◌≢◌, ◌⊎◌, ◌↔◌, ◌++◌, ℕ, List, [], ◌∷◌, Some, codes}
use Rattle.sdp_formats_grammar.specs.Split.{Lacks}
use Rattle.sdp_formats_reader.specs.Maps.{payload_type}
use Rattle.sdp_formats_reader.specs.Pairs.{restrictions_of}
use Rattle.sdp_formats_reader.specs.PairsSay.{Blanks, IsWord}
use Rattle.sdp_formats_reader.specs.Rids.{limits_of, make_limits}
use Rattle.sdp_formats_values.specs.declared.Pair.{Pair}

-- Optional blanks, then KEY=VALUE without blanks in or after it; the key may contain `;` and the value `=`.
abbrev pub RestrictionSays : List ℕ → Pair → Type 0
RestrictionSays t p = (front : List ℕ) × (t ≡ front ++ (p.key ++ 61 ∷ p.value)) × Blanks front × IsWord 61 p.key
    × IsWord 59 p.value

-- Restrictions separated by `;`; none for an empty text.
abbrev pub RestrictionsSay : List ℕ → List Pair → Type 0
RestrictionsSay t [] = t ≡ []
RestrictionsSay t (p ∷ []) = RestrictionSays t p
RestrictionsSay t (p ∷ q ∷ ps) = (one rest : List ℕ) × (t ≡ one ++ 59 ∷ rest) × RestrictionSays one p
    × RestrictionsSay rest (q ∷ ps)

-- A text is read as restrictions if and only if it says them.
abbrev pub RestrictionsAreExact : Type 0
RestrictionsAreExact = (t : List ℕ) (ps : List Pair) → restrictions_of t ≡ Some ps ↔ RestrictionsSay t ps

-- `pt=` and a payload type, then nothing, or a blank and at least one restriction.
abbrev pub TypeSays : List ℕ → List ℕ → List Pair → Type 0
TypeSays t types ps = (word : List ℕ) × (pt : ℕ) × (payload_type.reads word ≡ Some pt) × Lacks 32 word
    × (types ≡ pt ∷ []) × (((t ≡ codes "pt=" ++ word) × (ps ≡ []))
    ⊎ ((rest : List ℕ) × (t ≡ codes "pt=" ++ (word ++ 32 ∷ rest)) × (rest ≢ []) × RestrictionsSay rest ps))

-- That, or restrictions alone in a text that doesn't begin with the letter p.
abbrev pub LimitsSay : List ℕ → List ℕ → List Pair → Type 0
LimitsSay t types ps = TypeSays t types ps
    ⊎ ((types ≡ []) × RestrictionsSay t ps × ((rest : List ℕ) → t ≢ 112 ∷ rest))

-- A text is read as a stream's payload types and restrictions if and only if it says them.
abbrev pub LimitsAreExact : Type 0
LimitsAreExact = (t types : List ℕ) (ps : List Pair) → limits_of t ≡ Some (make_limits types ps) ↔ LimitsSay t types ps
