-- Pairs as they are printed: keys and values with `=` between, and semicolons between pairs.
use Rattle.std.specs.Prelude.{◌≡◌, ℕ, List, [], ◌∷◌, map, codes, Some}
use Rattle.sdp_formats_grammar.specs.Joined.{joined}
use Rattle.sdp_formats_reader.specs.Pairs.{restrictions_of}
use Rattle.sdp_formats_reader.specs.PairsSay.{IsWord, pair_list}
use Rattle.sdp_formats_values.specs.PrintedParameters.{pair_text}
use Rattle.sdp_formats_values.specs.declared.Pair.{Pair}

-- A key and a value that may be joined by `=`: words without blanks and tabs, no `=` in the key, no `;` in the value.
abbrev pub IsPair : Pair → Type 0
IsPair p = IsWord 61 p.key × IsWord 59 p.value

abbrev pub ArePairs : List Pair → Type 0
ArePairs [] = Unit {0}
ArePairs (p ∷ ps) = IsPair p × ArePairs ps

abbrev pub pairs_text : List Pair → List ℕ
pairs_text ps = joined (codes ";") (map pair_text ps)

-- Printed pairs are read back as the same pairs, as parameters and as restrictions.
abbrev pub PairsComeBack : Type 0
PairsComeBack = (p : Pair) (ps : List Pair) → ArePairs (p ∷ ps)
    → pair_list.reads (pairs_text (p ∷ ps)) ≡ Some (p ∷ ps)

abbrev pub RestrictionsComeBack : Type 0
RestrictionsComeBack = (p : Pair) (ps : List Pair) → ArePairs (p ∷ ps)
    → restrictions_of (pairs_text (p ∷ ps)) ≡ Some (p ∷ ps)
