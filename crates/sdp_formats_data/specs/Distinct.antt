-- Values of a list, each once.
use Rattle.std.specs.Prelude.{ℕ, ◌==◌, Bool, not, List, [], ◌∷◌, ◌++◌, filter, Option, Some, None, if◌then◌else◌}
use Rattle.std.specs.List.{list_any}

-- Each value once, in the order of first occurrence.
abbrev pub distinct : List ℕ → List ℕ
distinct [] = []
distinct (n ∷ ns) = n ∷ filter (λ m. not (m == n)) (distinct ns)

-- It is one of them.
abbrev pub is_among : ℕ → List ℕ → Bool
is_among n ns = list_any (λ m. m == n) ns

-- The list with one more value, unless it is already there.
abbrev pub with_new : List ℕ → ℕ → List ℕ
with_new ns n = if is_among n ns then ns else ns ++ n ∷ []

abbrev pub with_one : List ℕ → Option ℕ → List ℕ
with_one ns None = ns
with_one ns (Some n) = with_new ns n
