-- What a list of keys and values says, as a relation.
use Rattle.std.specs.Prelude.{◌≡◌, ◌≢◌, ◌⊎◌, ◌++◌, ℕ, true, List, [], ◌∷◌}
use Rattle.std.specs.List.{list_all}
use Rattle.sdp_formats_grammar.specs.Form.{Form, IsExact}
use Rattle.sdp_formats_grammar.specs.Split.{Lacks}
use Rattle.sdp_formats_grammar.specs.Step.{Begins}
use Rattle.sdp_formats_reader.specs.Pairs.{is_word_byte, is_blank, pairs_of}
use Rattle.sdp_formats_values.specs.declared.Pair.{Pair}

-- Blanks and tabs alone.
abbrev pub Blanks : List ℕ → Type 0
Blanks t = list_all is_blank t ≡ true

-- A word: no blanks, no tabs, and not this byte.
abbrev pub IsWord : ℕ → List ℕ → Type 0
IsWord c w = (w ≢ []) × (list_all is_word_byte w ≡ true) × Lacks c w

-- After a pair: `;` and the rest, or the end.
abbrev pub IsParted : List ℕ → List ℕ → Type 0
IsParted t rest = (t ≡ 59 ∷ rest) ⊎ ((t ≡ []) × (rest ≡ []))

-- Blanks, KEY=VALUE, blanks, then `;` or the end; the key may contain `;` and the value `=`.
abbrev pub PairSays : List ℕ → Pair → List ℕ → Type 0
PairSays t p rest = (front tail after : List ℕ) × (t ≡ front ++ (p.key ++ 61 ∷ ((p.value ++ tail) ++ after)))
    × Blanks front × IsWord 61 p.key × IsWord 59 p.value × Blanks tail × IsParted after rest

-- One or more pairs, then only blanks.
abbrev pub PairsSay : List ℕ → List Pair → Type 0
PairsSay t ps = (rest : List ℕ) × Begins PairSays t ps rest × (ps ≢ []) × Blanks rest

-- The list as a form.
abbrev pub pair_list : Form (List Pair)
pair_list = record { reads = pairs_of; Says = PairsSay }

abbrev pub PairsAreExact : Type 0
PairsAreExact = IsExact pair_list
