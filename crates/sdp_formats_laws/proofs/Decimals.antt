-- Numbers as they are printed.
use Rattle.std.proofs.Common.{◌≡◌, ℕ, ◌^◌, ◌<◌, ◌≤◌, Bool, true, ◌&&◌, cond, List, [], ◌∷◌, length, drop, nat_lt}
use Rattle.std.proofs.Common.{decimal, Option, None, Some, refl, ◌∙◌, ap, arith}
use Rattle.std.specs.Char.{digit_value}
use Rattle.std.specs.Str.Parse.{AllDigits, digits_value, without_leading_plus}
use Rattle.std.proofs.lemmas.Bool.Decides.{nat_tests}
use Rattle.std.proofs.lemmas.Str.Parse.{IsNumeralModel, numerals_by_value, tells_digits, digit_from_value}
use Rattle.std.proofs.lemmas.Fmt.{digits_decimal, digits_value-decimal, decimal_nonempty}
use Rattle.sdp_formats_grammar.specs.Numbers.{all_digits, number_below}
use Rattle.sdp_formats_grammar.specs.Split.{Lacks}
use Rattle.sdp_formats_grammar.specs.Cuts.{other_byte}

pub own : IsNumeralModel (AllDigits 10) (digits_value 10)
own = numerals_by_value _ tells_digits

tested : (digit : ℕ) (others : Bool) → digit < 10 → others ≡ true → (nat_lt digit 10 && others) ≡ true
tested digit others d o = grind (arith, nat_tests)

all_digits-true : (ds : List ℕ) → AllDigits 10 ds → all_digits ds ≡ true
all_digits-true [] h = refl
all_digits-true (c ∷ cs) h = tested (digit_value c) (all_digits cs) h.0 (all_digits-true cs h.1)

accepted : (digits : Bool) (len value limit : ℕ) → digits ≡ true → 0 < len → value < limit
    → cond (nat_lt 0 len && digits && nat_lt value limit) (Some value) None ≡ Some value
accepted digits len value limit d l v = grind (arith, nat_tests)

no_plus : (ds : List ℕ) → AllDigits 10 ds → without_leading_plus ds ≡ ds
no_plus [] h = refl
no_plus (c ∷ cs) h = let range = digit_from_value c h.0 in ap (λ n. drop n (c ∷ cs))
    (other_byte c 43 1 0 (λ e. omega arith))

numbered : ℕ → List ℕ → Option ℕ
numbered limit ds = cond (nat_lt 0 (length ds) && all_digits ds && nat_lt (digits_value 10 ds) limit)
    (Some (digits_value 10 ds)) None

-- a printed number is read
pub number_below-decimal : (limit n : ℕ) → n < limit → limit ≤ 2 ^ 64 → number_below limit (decimal n) ≡ Some n
unfolding numbered
number_below-decimal limit n small wide =
    let fits : n < 2 ^ 64 = omega arith in
    let digits = digits_decimal own n fits in
    let value = digits_value-decimal own n fits in
    ap (numbered limit) (no_plus (decimal n) digits)
    ∙ accepted _ _ _ limit (all_digits-true (decimal n) digits) (decimal_nonempty n fits) (rw value small)
    ∙ ap Some value

Lacks-digits : (c : ℕ) (ds : List ℕ) → c < 48 → AllDigits 10 ds → Lacks c ds
Lacks-digits c [] low h = tt
Lacks-digits c (d ∷ ds) low h = let range = digit_from_value d h.0 in ((λ e. omega arith), Lacks-digits c ds low h.1)

pub Lacks-decimal : (c n : ℕ) → c < 48 → n < 2 ^ 64 → Lacks c (decimal n)
Lacks-decimal c n low small = Lacks-digits c (decimal n) low (digits_decimal own n small)
