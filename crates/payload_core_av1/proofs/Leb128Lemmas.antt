-- Sizes in leb128, byte by byte.
use Rattle.std.proofs.Common.{◌≡◌, ℕ, zero, suc, ◌+◌, ◌-◌, ◌*◌, ◌/◌, ◌%◌, ◌<◌, ◌≤◌, Bool, true, false, ltb, [], ◌∷◌}
use Rattle.std.proofs.Common.{length, if◌then◌else◌, refl, sym, ap, ◌∙◌, arith}
use Rattle.std.proofs.lemmas.Bool.Decides.{nat_tests}
use Rattle.payload_core_av1.specs.Bounds.{bound_of}
use Rattle.payload_core_av1.specs.Leb128.{spelling, spelling_within, size_limit}

one_byte : (k n : ℕ) → n < 128 → spelling_within k n ≡ n ∷ []
one_byte zero n small = refl
one_byte (suc k) n small = let t : ltb n 128 ≡ true = grind (arith, nat_tests) in
    ap (λ t. if t then n ∷ [] else (128 + n % 128) ∷ spelling_within k (n / 128)) t

more_bytes : (k n : ℕ) → 128 ≤ n → spelling_within (suc k) n ≡ (128 + n % 128) ∷ spelling_within k (n / 128)
more_bytes k n large = let t : ltb n 128 ≡ false = grind (arith, nat_tests) in
    ap (λ t. if t then n ∷ [] else (128 + n % 128) ∷ spelling_within k (n / 128)) t

quotient_small : (n b : ℕ) → n < 128 * b → n / 128 < b
quotient_small n b lt = omega arith

by_size : (a b n : ℕ) (t : Bool) → ltb n 128 ≡ t → spelling_within a (n / 128) ≡ spelling_within b (n / 128)
    → spelling_within (suc a) n ≡ spelling_within (suc b) n
by_size a b n true e same = let lt : n < 128 = grind (arith, nat_tests) in
    one_byte (suc a) n lt ∙ sym (one_byte (suc b) n lt)
by_size a b n false e same = let ge : 128 ≤ n = grind (arith, nat_tests) in
    more_bytes a n ge ∙ ap (λ s. (128 + n % 128) ∷ s) same ∙ sym (more_bytes b n ge)

-- with enough bytes allowed a spelling doesn't hang on how many are
same_spelling : (a b n : ℕ) → n < bound_of (suc a) → n < bound_of (suc b) → spelling_within a n ≡ spelling_within b n
same_spelling zero b n small small' = sym (one_byte b n (omega arith))
same_spelling (suc a) zero n small small' = one_byte (suc a) n (omega arith)
same_spelling (suc a) (suc b) n small small' =
    by_size a b n (ltb n 128) refl (same_spelling a b (n / 128) (quotient_small n (bound_of (suc a)) small)
    (quotient_small n (bound_of (suc b)) small'))

pub spelling-last : (n : ℕ) → n < 128 → spelling n ≡ n ∷ []
unfolding spelling
spelling-last n small = one_byte 7 n small

pub spelling-more : (n : ℕ) → 128 ≤ n → n < size_limit → spelling n ≡ (128 + n % 128) ∷ spelling (n / 128)
unfolding spelling
spelling-more n large small =
    let low : n / 128 < bound_of 7 = omega arith in
    let low' : n / 128 < bound_of 8 = omega arith in
    more_bytes 6 n large ∙ ap (λ s. (128 + n % 128) ∷ s) (same_spelling 6 7 (n / 128) low low')

pub bound-step : (k : ℕ) → 0 < k → bound_of k ≡ 128 * bound_of (k - 1)
bound-step zero some = absurd (omega arith)
bound-step (suc k) some = let e : suc k - 1 ≡ k = omega arith in ap (λ n. 128 * bound_of n) (sym e)

bound_grows : (k d : ℕ) → bound_of k ≤ bound_of (d + k)
bound_grows k zero = let e : 0 + k ≡ k = omega arith in omega (arith, ap bound_of e)
bound_grows k (suc d) = let e : suc d + k ≡ suc (d + k) = omega arith in omega (arith, ap bound_of e, bound_grows k d)

-- with fewer than eight bytes they are small
pub bound-seven : (k : ℕ) → k ≤ 7 → bound_of k ≤ 562949953421312
bound-seven k le = let e : (7 - k) + k ≡ 7 = omega arith in omega (arith, bound_grows k (7 - k), ap bound_of e)

pub bound-positive : (k : ℕ) → 1 ≤ bound_of k
bound-positive zero = omega arith
bound-positive (suc k) = omega (arith, bound-positive k)

few_within : (k n : ℕ) → length (spelling_within k n) ≤ k + 1
few_within zero n = omega arith
few_within (suc k) n = by_test (ltb n 128) (few_within k (n / 128))
  where
    by_test : (t : Bool) → length (spelling_within k (n / 128)) ≤ k + 1
        → length (if t then n ∷ [] else (128 + n % 128) ∷ spelling_within k (n / 128)) ≤ suc k + 1
    by_test true h = omega arith
    by_test false h = omega arith

pub spelling-few : (n : ℕ) → length (spelling n) ≤ 8
unfolding spelling
spelling-few n = few_within 7 n

pub spelling-len_more : (n : ℕ) → 128 ≤ n → n < size_limit → length (spelling n) ≡ 1 + length (spelling (n / 128))
spelling-len_more n large small = omega (arith, ap length (spelling-more n large small))

pub spelling-len_last : (n : ℕ) → n < 128 → length (spelling n) ≡ 1
spelling-len_last n small = ap length (spelling-last n small)

some_within : (k n : ℕ) → 0 < length (spelling_within k n)
some_within zero n = omega arith
some_within (suc k) n = by_test (ltb n 128)
  where
    by_test : (t : Bool) → 0 < length (if t then n ∷ [] else (128 + n % 128) ∷ spelling_within k (n / 128))
    by_test true = omega arith
    by_test false = omega arith

pub spelling-some : (n : ℕ) → 0 < length (spelling n)
unfolding spelling
spelling-some n = some_within 7 n
