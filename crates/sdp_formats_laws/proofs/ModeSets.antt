-- Sets of modes are read as they are printed (RFC 4867 8.2).
use Rattle.std.proofs.Common.{◌≡◌, ◌≢◌, ◌<◌, ◌≤◌, ◌^◌, ◌/◌, ◌%◌, ◌+◌, ◌*◌, ◌==◌, ℕ, Bool, true, false, ◌&&◌, cond}
use Rattle.std.proofs.Common.{List, [], ◌∷◌, ◌++◌, map, filter, nat_le, decimal, None, Some, refl, sym, ◌∙◌, ap}
use Rattle.std.proofs.Common.{arith, lit<, lit≤, append-nil, codes, subst, zero, suc, zero-add}
use Rattle.std.specs.Char.{digit_value}
use Rattle.std.specs.Prelude.{bit_or}
use Rattle.std.specs.Str.{trim, trim_start, trim_end, chars}
use lib.Utf8.{encode}
use Rattle.std.proofs.lemmas.Bool.Decides.{nat_tests}
use Rattle.std.proofs.lemmas.Fmt.{decimal_digit, decimal_is_IsNumeral}
use Rattle.std.proofs.lemmas.Nat.{or_comm, or_shifted, mod-pow-add, mod_below, pow_pos}
use Rattle.std.proofs.Math.Nat.{mod-eq_of_lt}
use Rattle.sdp_formats_grammar.specs.Cuts.{other_byte}
use Rattle.sdp_formats_grammar.specs.Joined.{joined, each_behind}
use Rattle.sdp_formats_grammar.specs.Split.{Lacks, parts}
use Rattle.sdp_formats_reader.specs.PairLemmas.{lacks-word}
use Rattle.sdp_formats_values.specs.Numbers.{modes_of, numeral_below, with_mode, with_modes}
use Rattle.sdp_formats_values.specs.PrintedParameters.{has_mode, modes_text}
use Rattle.sdp_formats_laws.proofs.Numerals.{IsValue, decimal_read, lacks_digits}
use Rattle.sdp_formats_laws.proofs.Trimmed.{AreGraphic, both_graphic, digits_graphic}
use Rattle.sdp_formats_rounds.specs.Ranges.{IsModes}

-- modes, each 0 to 8
abbrev pub AreLow : List ℕ → Type 0
AreLow [] = Unit {0}
AreLow (x ∷ xs) = (x ≤ 8) × AreLow xs

abbrev pub gathered : List ℕ → ℕ → ℕ
gathered [] modes = modes
gathered (x ∷ xs) modes = gathered xs (bit_or modes (2 ^ x))

abbrev pub list_text : List ℕ → List ℕ
list_text xs = joined (codes ",") (map decimal xs)

-- one digit, and no blank round it
trimmed : (x : ℕ) → x ≤ 8 → trim ((48 + x) ∷ []) ≡ (48 + x) ∷ []
unfolding trim_start trim_end chars encode
trimmed zero h = refl
trimmed (suc (suc (suc (suc (suc (suc (suc (suc (suc x))))))))) h = absurd (omega (h, arith))
trimmed _ h = refl

digit : (x : ℕ) → x ≤ 8 → numeral_below (2 ^ 8) 10 (trim ((48 + x) ∷ [])) ≡ Some x
digit x h =
    ap (numeral_below (2 ^ 8) 10) (trimmed x h ∙ sym (decimal_digit x (omega (h, arith))))
    ∙ decimal_read (2 ^ 8) x (omega (h, arith)) (lit≤ tt)

taken : (x modes : ℕ) (b : Bool) → nat_le x 8 ≡ b → x ≤ 8
    → cond b (Some (bit_or modes (2 ^ x))) None ≡ Some (bit_or modes (2 ^ x))
taken x modes true e h = refl
taken x modes false e h = absurd (grind (arith, nat_tests))

-- one mode, and those after it
pieces_last : (d : ℕ) → d ≢ 44 → parts 44 (d ∷ []) ≡ (d ∷ []) ∷ []
pieces_last d h = other_byte d 44 _ _ h

pieces_more : (d : ℕ) (rest : List ℕ) → d ≢ 44 → parts 44 (d ∷ 44 ∷ rest) ≡ (d ∷ []) ∷ parts 44 rest
pieces_more d rest h = other_byte d 44 _ _ h

no_comma : (x : ℕ) → 48 + x ≢ 44
no_comma x = λ e. omega (e, arith)

with_digit : (x modes : ℕ) → x ≤ 8
    → with_mode (numeral_below (2 ^ 8) 10 (trim ((48 + x) ∷ []))) modes ≡ Some (bit_or modes (2 ^ x))
with_digit x modes h = ap (λ o. with_mode o modes) (digit x h) ∙ taken x modes (nat_le x 8) refl h

list_read : (x : ℕ) (xs : List ℕ) (modes : ℕ) → AreLow (x ∷ xs)
    → with_modes (parts 44 (list_text (x ∷ xs))) (Some modes) ≡ Some (gathered (x ∷ xs) modes)
list_read x [] modes h =
    ap (λ t. with_modes (parts 44 t) (Some modes)) (append-nil (decimal x) ∙ decimal_digit x (omega (h.0, arith)))
    ∙ ap (λ ts. with_modes ts (Some modes)) (pieces_last (48 + x) (no_comma x))
    ∙ ap (with_modes []) (with_digit x modes h.0)
list_read x (y ∷ ys) modes h =
    ap (λ t. with_modes (parts 44 (t ++ 44 ∷ list_text (y ∷ ys))) (Some modes)) (decimal_digit x (omega (h.0, arith)))
    ∙ ap (λ ts. with_modes ts (Some modes)) (pieces_more (48 + x) (list_text (y ∷ ys)) (no_comma x))
    ∙ ap (with_modes (parts 44 (list_text (y ∷ ys)))) (with_digit x modes h.0)
    ∙ list_read y ys (bit_or modes (2 ^ x)) h.1

-- the modes whose bits are set, gathered
added : (m i : ℕ) (bit : ℕ) → m / 2 ^ i % 2 ≡ bit → m % 2 ^ (i + 1) ≡ bit * 2 ^ i + m % 2 ^ i
added m i bit e =
    ap (λ n. m % 2 ^ n) (omega arith) ∙ mod-pow-add m 1 i ∙ ap (λ n. n * 2 ^ i + m % 2 ^ i) e

below : (m i : ℕ) → m % 2 ^ i < 2 ^ i
below m i = mod_below m (2 ^ i) (pow_pos i)

below_nine : (i : ℕ) → i ≤ 8 → nat_le i 8 ≡ true
below_nine i h = grind (arith, nat_tests)

zero_bit : (n : ℕ) → (n % 2 == 1) ≡ false → n % 2 ≡ 0
zero_bit n e = let other : n % 2 ≢ 1 = (λ (h : n % 2 ≡ 1). grind (arith, nat_tests)) in zero_or (n % 2)
    (mod_below n 2 (lit< tt)) other
  where
    zero_or : (k : ℕ) → k < 2 → k ≢ 1 → k ≡ 0
    zero_or k small other = omega arith

lacks_both : (c : ℕ) (xs ys : List ℕ) → Lacks c xs → Lacks c ys → Lacks c (xs ++ ys)
lacks_both c [] ys h k = k
lacks_both c (x ∷ xs) ys h k = (h.0, lacks_both c xs ys h.1 k)

lacks_decimal : (c x : ℕ) → 10 ≤ digit_value c → x ≤ 8 → Lacks c (decimal x)
lacks_decimal c x far h = lacks_digits 10 c (decimal x) far (decimal_is_IsNumeral x (omega (h, arith))).0.1

set_bit : (m i : ℕ) → m / 2 ^ i % 2 ≡ 1 → bit_or (m % 2 ^ i) (2 ^ i) ≡ m % 2 ^ (i + 1)
set_bit m i e =
    or_comm (m % 2 ^ i) (2 ^ i)
    ∙ ap (λ n. bit_or n (m % 2 ^ i)) (omega arith)
    ∙ or_shifted 1 i (m % 2 ^ i) (below m i)
    ∙ sym (added m i 1 e)

nothing : (i : ℕ) → 0 * 2 ^ i ≡ 0
nothing i = omega arith

step : (m i : ℕ) (rest : List ℕ) (b : Bool) → i ≤ 8 → (m / 2 ^ i % 2 == 1) ≡ b
    → gathered (cond (nat_le i 8 && b) (i ∷ rest) rest) (m % 2 ^ i) ≡ gathered rest (m % 2 ^ (i + 1))
step m i rest true low e =
    let one : m / 2 ^ i % 2 ≡ 1 = grind (arith, nat_tests) in
    ap (λ t. gathered (cond (t && true) (i ∷ rest) rest) (m % 2 ^ i)) (below_nine i low)
    ∙ ap (gathered rest) (set_bit m i one)
step m i rest false low e =
    let none : m / 2 ^ i % 2 ≡ 0 = zero_bit (m / 2 ^ i) e in
    ap (λ t. gathered (cond (t && false) (i ∷ rest) rest) (m % 2 ^ i)) (below_nine i low)
    ∙ ap (gathered rest) (sym (added m i 0 none ∙ ap (λ n. n + m % 2 ^ i) (nothing i) ∙ zero-add (m % 2 ^ i)))

one_more : (m i : ℕ) (xs : List ℕ) → i ≤ 8
    → gathered (filter (has_mode m) (i ∷ xs)) (m % 2 ^ i) ≡ gathered (filter (has_mode m) xs) (m % 2 ^ (i + 1))
one_more m i xs low = step m i (filter (has_mode m) xs) (m / 2 ^ i % 2 == 1) low refl

all_gathered : (m : ℕ) → m < 2 ^ 9
    → gathered (filter (has_mode m) (0 ∷ 1 ∷ 2 ∷ 3 ∷ 4 ∷ 5 ∷ 6 ∷ 7 ∷ 8 ∷ [])) 0 ≡ m
all_gathered m small =
    let f = gathered (filter (has_mode m) (0 ∷ 1 ∷ 2 ∷ 3 ∷ 4 ∷ 5 ∷ 6 ∷ 7 ∷ 8 ∷ [])) in
    let none : m % 2 ^ 0 ≡ 0 = omega arith in
    let whole : m % 2 ^ 9 ≡ m = mod-eq_of_lt small in
    ap f (sym none)
    ∙ one_more m 0 (1 ∷ 2 ∷ 3 ∷ 4 ∷ 5 ∷ 6 ∷ 7 ∷ 8 ∷ []) (lit≤ tt)
    ∙ one_more m 1 (2 ∷ 3 ∷ 4 ∷ 5 ∷ 6 ∷ 7 ∷ 8 ∷ []) (lit≤ tt)
    ∙ one_more m 2 (3 ∷ 4 ∷ 5 ∷ 6 ∷ 7 ∷ 8 ∷ []) (lit≤ tt)
    ∙ one_more m 3 (4 ∷ 5 ∷ 6 ∷ 7 ∷ 8 ∷ []) (lit≤ tt)
    ∙ one_more m 4 (5 ∷ 6 ∷ 7 ∷ 8 ∷ []) (lit≤ tt)
    ∙ one_more m 5 (6 ∷ 7 ∷ 8 ∷ []) (lit≤ tt)
    ∙ one_more m 6 (7 ∷ 8 ∷ []) (lit≤ tt)
    ∙ one_more m 7 (8 ∷ []) (lit≤ tt)
    ∙ one_more m 8 [] (lit≤ tt)
    ∙ whole

low_cond : (b : Bool) (x : ℕ) (xs : List ℕ) → x ≤ 8 → AreLow xs → AreLow (cond b (x ∷ xs) xs)
low_cond true x xs h k = (h, k)
low_cond false x xs h k = k

low_left : (m : ℕ) (xs : List ℕ) → AreLow xs → AreLow (filter (has_mode m) xs)
low_left m [] h = tt
low_left m (x ∷ xs) h = low_cond (has_mode m x) x (filter (has_mode m) xs) h.0 (low_left m xs h.1)

abbrev pub set_of : ℕ → List ℕ
set_of m = filter (has_mode m) (0 ∷ 1 ∷ 2 ∷ 3 ∷ 4 ∷ 5 ∷ 6 ∷ 7 ∷ 8 ∷ [])

all_low : AreLow (0 ∷ 1 ∷ 2 ∷ 3 ∷ 4 ∷ 5 ∷ 6 ∷ 7 ∷ 8 ∷ [])
all_low =
    (lit≤ tt, (lit≤ tt, (lit≤ tt, (lit≤ tt, (lit≤ tt, (lit≤ tt, (lit≤ tt, (lit≤ tt, (lit≤ tt, tt)))))))))

lacks_list : (c x : ℕ) (xs : List ℕ) → 44 ≢ c → 10 ≤ digit_value c → AreLow (x ∷ xs) → Lacks c (list_text (x ∷ xs))
lacks_list c x [] other far h =
    lacks_both c (decimal x) [] (lacks_decimal c x far h.0) tt
lacks_list c x (y ∷ ys) other far h =
    lacks_both c (decimal x) (44 ∷ list_text (y ∷ ys)) (lacks_decimal c x far h.0)
    (other, lacks_list c y ys other far h.1)

list_some : (x : ℕ) (xs : List ℕ) → x ≤ 8 → list_text (x ∷ xs) ≢ []
list_some x xs h e = nothing (subst (λ t. t ++ each_behind (codes ",") (map decimal xs)
    ≡ []) (decimal_digit x (omega (h, arith))) e)
  where
    nothing : (48 + x) ∷ each_behind (codes ",") (map decimal xs) ≡ [] → ⊥
    nothing e = cc

list_value : (x : ℕ) (xs : List ℕ) → AreLow (x ∷ xs) → IsValue (list_text (x ∷ xs))
list_value x xs h = (
  (
    list_some x xs h.0,
    lacks-word (list_text (x ∷ xs)) (lacks_list 32 x xs (λ e. cc) (lit≤ tt) h) (lacks_list 9 x xs (λ e. cc)
        (lit≤ tt) h),
    lacks_list 59 x xs (λ e. cc) (lit≤ tt) h,
  ),
  lacks_list 10 x xs (λ e. cc) (lit≤ tt) h,
  lacks_list 13 x xs (λ e. cc) (lit≤ tt) h,
  lacks_list 61 x xs (λ e. cc) (lit≤ tt) h,
)

-- a set isn't empty
by_set : (m : ℕ) (xs : List ℕ) → 0 < m → AreLow xs → gathered xs 0 ≡ m
    → (with_modes (parts 44 (list_text xs)) (Some 0) ≡ Some m) × IsValue (list_text xs)
by_set m [] some h same = absurd (omega (some, same, arith))
by_set m (x ∷ xs) some h same = (list_read x xs 0 h ∙ ap Some same, list_value x xs h)

pub modes_back : (m : ℕ) → IsModes m → (modes_of (modes_text m) ≡ Some m) × IsValue (modes_text m)
modes_back m h = by_set m (set_of m) h.0 (low_left m (0 ∷ 1 ∷ 2 ∷ 3 ∷ 4 ∷ 5 ∷ 6 ∷ 7 ∷ 8 ∷ []) all_low)
    (all_gathered m h.1)

-- and has no blanks
list_graphic : (x : ℕ) (xs : List ℕ) → AreLow (x ∷ xs) → AreGraphic (list_text (x ∷ xs))
list_graphic x [] h =
    both_graphic (decimal x) [] (digits_graphic 10 (decimal x) (lit≤ tt) (decimal_is_IsNumeral x (omega
    (h.0, arith))).0.1)
    tt
list_graphic x (y ∷ ys) h =
    both_graphic (decimal x) (44 ∷ list_text (y ∷ ys))
    (digits_graphic 10 (decimal x) (lit≤ tt) (decimal_is_IsNumeral x (omega (h.0, arith))).0.1)
    (lit< tt, lit< tt, list_graphic y ys h.1)

set_graphic : (xs : List ℕ) → AreLow xs → AreGraphic (list_text xs)
set_graphic [] h = tt
set_graphic (x ∷ xs) h = list_graphic x xs h

pub modes_graphic : (m : ℕ) → IsModes m → AreGraphic (modes_text m)
modes_graphic m h = set_graphic (set_of m) (low_left m (0 ∷ 1 ∷ 2 ∷ 3 ∷ 4 ∷ 5 ∷ 6 ∷ 7 ∷ 8 ∷ []) all_low)
