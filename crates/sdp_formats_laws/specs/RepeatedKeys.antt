-- Format parameters with repeated keys (RFC 8866 6.15).
use Rattle.std.specs.Prelude.{◌≡◌, ◌↔◌, ◌⊎◌, ℕ, true, not, List, [], ◌∷◌, ◌++◌, Some, None, filter, map, codes}
use Rattle.std.specs.Char.{to_ascii_lowercase}
use Rattle.sdp_formats_values.specs.Params.{Entries, is_level_name, last_value, others_of, param_of, with_pairs}
use Rattle.sdp_formats_values.specs.declared.pairs.Pair.{Pair}
use Rattle.sdp_formats_laws.specs.EachOnce.{IsEachOnce}
use Rattle.sdp_formats_rounds.specs.Members.{IsIn}

-- A key in lower case: keys are case-insensitive (RFC 4855 3).
abbrev pub lower : List ℕ → List ℕ
lower text = map to_ascii_lowercase text

abbrev pub keys_of : List Pair → List (List ℕ)
keys_of pairs = map (λ p. lower p.key) pairs

-- The last pair with this key has this value.
abbrev pub IsLastValue : List ℕ → List ℕ → List Pair → Type 0
IsLastValue key value pairs = (front : List Pair) × (p : Pair) × (back : List Pair)
    × (pairs ≡ front ++ p ∷ back) × (lower p.key ≡ key) × (p.value ≡ value) × (IsIn key (keys_of back) → ⊥)

-- The entries have each key once, in the order of first occurrence, with the value of its last pair.
pub record AreSettled (pairs : List Pair) (entries : Entries) : Type 0 where
  pub keys : IsEachOnce (keys_of pairs) (map (λ e. e.0) entries)
  pub values : (key value : List ℕ) → IsIn (key, value) entries ↔ IsLastValue key value pairs

abbrev pub PairsAreSettled : Type 0
PairsAreSettled = (pairs : List Pair) (entries : Entries) → (entries ≡ with_pairs [] pairs) ↔ AreSettled pairs entries

-- The value of a name is that of the last pair with that name; none if there is no such pair.
pub record IsLastOf (name : List ℕ) (pairs : List Pair) : Type 0 where
  pub some : (value : List ℕ) → (last_value name None pairs ≡ Some value) ↔ IsLastValue (lower name) value pairs
  pub none : (last_value name None pairs ≡ None) ↔ (IsIn (lower name) (keys_of pairs) → ⊥)

abbrev pub ValuesAreLast : Type 0
ValuesAreLast = (name : List ℕ) (pairs : List Pair) → IsLastOf name pairs

-- It is the value of the entry of the name.
abbrev pub EntriesHaveLast : Type 0
EntriesHaveLast = (name value : List ℕ) (pairs : List Pair)
    → (last_value name None pairs ≡ Some value) ↔ IsIn (lower name, value) (with_pairs [] pairs)

-- The parameters of the other entries (not of a profile, tier and level), in order.
abbrev pub OthersAreInOrder : Type 0
OthersAreInOrder = (entries : Entries)
    → others_of entries ≡ map (λ e. param_of e.0 e.1) (filter (λ e. not (is_level_name e.0)) entries)

abbrev pub LevelNamesAreThree : Type 0
LevelNamesAreThree = (key : List ℕ) → (is_level_name key ≡ true)
    ↔ ((key ≡ codes "profile-id") ⊎ ((key ≡ codes "tier-flag") ⊎ (key ≡ codes "level-id")))
