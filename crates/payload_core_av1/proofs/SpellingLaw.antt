-- What makes the spelling of a size the shortest one.
use Rattle.std.proofs.Common.{◌≡◌, ℕ, zero, suc, ◌+◌, ◌*◌, ◌/◌, ◌%◌, ◌<◌, ◌≤◌, Bool, true, false, ltb, List, [], ◌∷◌}
use Rattle.std.proofs.Common.{length, if◌then◌else◌, refl, sym, ap, arith}
use Rattle.std.proofs.lemmas.Bool.Decides.{nat_tests}
use Rattle.payload_core_av1.specs.Bounds.{bound_of}
use Rattle.payload_core_av1.specs.Leb128.{HasTopBits, Spells, size_limit, spelled, spelling, spelling_within}
use Rattle.payload_core_av1.specs.Av1Coding.{SpellingLaw}
use Rattle.payload_core_av1.proofs.Leb128Lemmas.{spelling-few}
use Rattle.payload_core_av1.proofs.SizeLaw.{top_cons}

abbrev IsValue : List ℕ → ℕ → Type 0
IsValue bytes n = HasTopBits bytes × (spelled bytes ≡ n)

value_by : (k n : ℕ) (t : Bool) → ltb n 128 ≡ t → (128 ≤ n → IsValue (spelling_within k (n / 128)) (n / 128))
    → IsValue (if t then n ∷ [] else (128 + n % 128) ∷ spelling_within k (n / 128)) n
value_by k n true e more = (grind (arith, nat_tests), (let lt : n < 128 = grind (arith, nat_tests) in omega arith))
value_by k n false e more =
    let large : 128 ≤ n = grind (arith, nat_tests) in
    let rest = more large in
    (top_cons (128 + n % 128) (spelling_within k (n / 128)) (omega arith) rest.0, omega (arith, rest.1))

value_within : (k n : ℕ) → n < bound_of (suc k) → IsValue (spelling_within k n) n
value_within zero n small = (omega arith, omega arith)
value_within (suc k) n small = value_by k n (ltb n 128) refl (λ large. value_within k (n / 128) (omega arith))

pub spelling-spells : (n : ℕ) → n < size_limit → Spells (spelling n) n
unfolding spelling
spelling-spells n small =
    let low : n < bound_of 8 = omega arith in
    let is = value_within 7 n low in
    record { few = spelling-few n; top_bits = is.0; value = sym is.1 }

shortest_by : (k n b m : ℕ) (bs : List ℕ) (t : Bool) → ltb n 128 ≡ t → n ≡ b % 128 + 128 * m
    → length (spelling_within k m) ≤ length bs
    → length (if t then n ∷ [] else (128 + n % 128) ∷ spelling_within k (n / 128)) ≤ length (b ∷ bs)
shortest_by k n b m bs true e is le = omega arith
shortest_by k n b m bs false e is le = let same : n / 128 ≡ m = omega arith in
    omega (arith, le, ap (λ q. length (spelling_within k q)) same)

shortest : (k : ℕ) (bytes : List ℕ) → HasTopBits bytes → length (spelling_within k (spelled bytes)) ≤ length bytes
shortest k [] top = absurd top
shortest zero (b ∷ bs) top = omega arith
shortest (suc k) (b ∷ []) top = let t : ltb (b % 128 + 128 * 0) 128 ≡ true = grind (arith, nat_tests) in
    omega (
      arith,
      ap (λ t. length (if t then (b % 128 + 128 * 0) ∷ [] else (128 + (b % 128 + 128 * 0) % 128)
          ∷ spelling_within k ((b % 128 + 128 * 0) / 128))) t,
    )
shortest (suc k) (b ∷ c ∷ bs) top = shortest_by k (spelled (b ∷ c ∷ bs)) b (spelled (c ∷ bs)) (c ∷ bs)
    (ltb (spelled (b ∷ c ∷ bs)) 128) refl refl (shortest k (c ∷ bs) top.1)

shortest_one : (n : ℕ) (bytes : List ℕ) → Spells bytes n → length (spelling n) ≤ length bytes
unfolding spelling
shortest_one n bytes is = omega (arith, shortest 7 bytes is.top_bits, ap (λ m. length (spelling_within 7 m)) is.value)

pub spelling_law : SpellingLaw
spelling_law n = (spelling-spells n, shortest_one n)
