-- Numbers as parameters write them, and what is read of them.
use Rattle.std.proofs.Common.{◌≡◌, ◌≢◌, ◌<◌, ◌≤◌, ◌^◌, ◌-◌, ℕ, zero, suc, Bool, true, false, ◌&&◌, cond, List, [], ◌∷◌}
use Rattle.std.proofs.Common.{◌++◌, length, drop, nat_lt, decimal, replicate, Option, None, Some, refl, ◌∙◌, ap}
use Rattle.std.proofs.Common.{arith, lit<, lit≤, append-nil}
use Rattle.std.specs.Char.{digit_value}
use Rattle.std.specs.Fmt.{digits, padded_integral, format_spec, char_count}
use Rattle.std.specs.Str.Parse.{AllDigits, IsNumeral, digits_value, digits_value_after, without_leading_plus}
use Rattle.std.proofs.lemmas.Bool.Decides.{nat_tests}
use Rattle.std.proofs.lemmas.Fmt.{decimal_is_IsNumeral, digits_is_IsNumeral}
use Rattle.sdp_formats_grammar.specs.Cuts.{other_byte}
use Rattle.sdp_formats_grammar.specs.Split.{Lacks}
use Rattle.sdp_formats_reader.specs.PairLemmas.{lacks-word}
use Rattle.sdp_formats_reader.specs.PairsSay.{IsWord}
use Rattle.sdp_formats_values.specs.Numbers.{are_digits, numeral_below}
use Rattle.sdp_formats_values.specs.PrintedParameters.{six_digits}

pub tested : (digit radix : ℕ) (others : Bool) → digit < radix → others ≡ true → (nat_lt digit radix && others) ≡ true
tested digit radix others d o = grind (arith, nat_tests)

all_true : (radix : ℕ) (ds : List ℕ) → AllDigits radix ds → are_digits radix ds ≡ true
all_true radix [] h = refl
all_true radix (c ∷ cs) h = tested (digit_value c) radix (are_digits radix cs) h.0 (all_true radix cs h.1)

pub accepted : (all : Bool) (len value limit : ℕ) → all ≡ true → 0 < len → value < limit
    → cond (nat_lt 0 len && all && nat_lt value limit) (Some value) None ≡ Some value
accepted all len value limit d l v = grind (arith, nat_tests)

pub no_plus : (radix : ℕ) (ds : List ℕ) → radix ≤ 16 → AllDigits radix ds → without_leading_plus ds ≡ ds
no_plus radix [] low h = refl
no_plus radix (c ∷ cs) low h = ap (λ n. drop n (c ∷ cs))
    (other_byte c 43 1 0 (λ e. let k : digit_value c ≡ 36 = ap digit_value e in omega (k, h.0, low, arith)))

read_of : ℕ → ℕ → List ℕ → Option ℕ
read_of limit radix ds =
    cond (nat_lt 0 (length ds) && are_digits radix ds && nat_lt (digits_value radix ds) limit)
    (Some (digits_value radix ds)) None

pub number_read : (limit radix : ℕ) (ds : List ℕ) → radix ≤ 16 → IsNumeral radix ds → digits_value radix ds < limit
    → numeral_below limit radix ds ≡ Some (digits_value radix ds)
unfolding read_of
number_read limit radix ds low h small =
    ap (read_of limit radix) (no_plus radix ds low h.1)
    ∙ accepted _ _ _ limit (all_true radix ds h.1) h.0 small

pub decimal_read : (limit n : ℕ) → n < limit → limit ≤ 2 ^ 64 → numeral_below limit 10 (decimal n) ≡ Some n
decimal_read limit n small wide =
    let numeral = decimal_is_IsNumeral n (omega arith) in
    number_read limit 10 (decimal n) (lit≤ tt) numeral.0 (rw numeral.1 small) ∙ ap Some numeral.1

-- a value of digits: a word without the signs that part values
abbrev pub IsValue : List ℕ → Type 0
IsValue t = IsWord 59 t × Lacks 10 t × Lacks 13 t × Lacks 61 t

pub lacks_digits : (radix c : ℕ) (ds : List ℕ) → radix ≤ digit_value c → AllDigits radix ds → Lacks c ds
lacks_digits radix c [] low h = tt
lacks_digits radix c (d ∷ ds) low h = (
  (λ e. let k : digit_value d ≡ digit_value c = ap digit_value e in omega (k, h.0, low, arith)),
  lacks_digits radix c ds low h.1,
)

there : (t : List ℕ) → 0 < length t → t ≢ []
there [] h = absurd (omega (h, arith))
there (b ∷ t) h = λ e. cc

pub value_digits : (radix : ℕ) (ds : List ℕ) → radix ≤ 16 → IsNumeral radix ds → IsValue ds
value_digits radix ds low h = (
  (
    there ds h.0,
    lacks-word ds (lacks_digits radix 32 ds (omega (low, arith)) h.1) (lacks_digits radix 9 ds (omega
        (low, arith)) h.1),
    lacks_digits radix 59 ds (omega (low, arith)) h.1,
  ),
  lacks_digits radix 10 ds (omega (low, arith)) h.1,
  lacks_digits radix 13 ds (omega (low, arith)) h.1,
  lacks_digits radix 61 ds (omega (low, arith)) h.1,
)

pub decimal_value : (n : ℕ) → n < 2 ^ 64 → IsValue (decimal n)
decimal_value n small = value_digits 10 (decimal n) (lit≤ tt) (decimal_is_IsNumeral n small).0

-- six hexadecimal digits at least
short : (n : ℕ) → 6 - n - 0 - 0 ≡ 6 - n
short n = omega arith

abbrev pub six_of : List ℕ → List ℕ
six_of ds = padded_integral (format_spec 32 0 4 6 (2 ^ 64 - 1)) false [] ds

wide : (v : ℕ) → v < 2 ^ 32 → v < 16 ^ 64
wide v small = omega (small, limit, arith)
  where
    limit : 2 ^ 32 < 16 ^ 64
    limit = lit< tt

six_shape : (ds : List ℕ) → six_of ds ≡ replicate (6 - length ds) 48 ++ ds
unfolding padded_integral char_count
six_shape ds = (λ i. replicate (short (length ds) i) 48 ++ append-nil ds i)

zeros_digits : (n : ℕ) (ds : List ℕ) → AllDigits 16 ds → AllDigits 16 (replicate n 48 ++ ds)
zeros_digits zero ds h = h
zeros_digits (suc n) ds h = (lit< tt, zeros_digits n ds h)

zeros_value : (n : ℕ) (ds : List ℕ) → digits_value_after 16 0 (replicate n 48 ++ ds) ≡ digits_value_after 16 0 ds
zeros_value zero ds = refl
zeros_value (suc n) ds = zeros_value n ds

zeros_length : (n : ℕ) (ds : List ℕ) → length ds ≤ length (replicate n 48 ++ ds)
zeros_length zero ds = omega arith
zeros_length (suc n) ds = omega (zeros_length n ds, arith)

pub six_numeral : (v : ℕ) → v < 2 ^ 32 → IsNumeral 16 (six_digits v) × (digits_value 16 (six_digits v) ≡ v)
six_numeral v small =
    let ds = digits 16 false v in
    let numeral = digits_is_IsNumeral 16 false (lit≤ tt) (lit≤ tt) v (wide v small) in
    let zeros = replicate (6 - length ds) 48 ++ ds in
    rw (six_shape ds) (
      (
        omega (zeros_length (6 - length ds) ds, numeral.0.0, arith),
        zeros_digits (6 - length ds) ds numeral.0.1,
      ),
      zeros_value (6 - length ds) ds ∙ numeral.1,
    )

pub six_read : (v : ℕ) → v < 2 ^ 32 → numeral_below (2 ^ 32) 16 (six_digits v) ≡ Some v
six_read v small =
    let numeral = six_numeral v small in
    number_read (2 ^ 32) 16 (six_digits v) (lit≤ tt) numeral.0 (rw numeral.1 small) ∙ ap Some numeral.1

pub six_value : (v : ℕ) → v < 2 ^ 32 → IsValue (six_digits v)
six_value v small = value_digits 16 (six_digits v) (lit≤ tt) (six_numeral v small).0
