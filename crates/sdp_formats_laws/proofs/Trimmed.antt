-- Texts of graphic ASCII have no blanks to drop at their ends.
use Rattle.std.proofs.Common.{◌≡◌, ◌<◌, ◌≤◌, ◌==◌, ℕ, Bool, true, false, ◌&&◌, cond, nat_lt, List, [], ◌∷◌, ◌++◌}
use Rattle.std.proofs.Common.{length}
use Rattle.std.proofs.Common.{refl, ◌∙◌, ap, arith}
use Rattle.std.specs.Char.{digit_value, is_whitespace}
use Rattle.std.specs.Str.{chars, chars_after, continuation_len, drop_trailing_whitespace, encode_utf8_all, lead_bits}
use Rattle.std.specs.Str.{skip_leading_whitespace, trim, trim_end, trim_start}
use Rattle.std.specs.Str.Parse.{AllDigits}
use Rattle.std.proofs.lemmas.Bool.Decides.{nat_tests}
use Rattle.std.proofs.lemmas.Str.{encode_ascii}

abbrev pub AreGraphic : List ℕ → Type 0
AreGraphic [] = Unit {0}
AreGraphic (b ∷ t) = (32 < b) × (b < 127) × AreGraphic t

abbrev pub is_graphic : List ℕ → Bool
is_graphic [] = true
is_graphic (b ∷ t) = nat_lt 32 b && (nat_lt b 127 && is_graphic t)

graphic_two : (b : ℕ) (more : Bool) → (nat_lt 32 b && (nat_lt b 127 && more)) ≡ true
    → (32 < b) × (b < 127) × (more ≡ true)
graphic_two b more h = (grind (arith, nat_tests), grind (arith, nat_tests), grind (arith, nat_tests))

pub graphic : (t : List ℕ) → is_graphic t ≡ true → AreGraphic t
graphic [] h = tt
graphic (b ∷ t) h = let two = graphic_two b (is_graphic t) h in (two.0, two.1, graphic t two.2)

pub both_graphic : (xs ys : List ℕ) → AreGraphic xs → AreGraphic ys → AreGraphic (xs ++ ys)
both_graphic [] ys h k = k
both_graphic (x ∷ xs) ys h k = (h.0, h.1, both_graphic xs ys h.2 k)

digit_within : (c radix : ℕ) → radix ≤ 16 → digit_value c < radix → (32 < c) × (c < 127)
digit_within c radix low h = (grind (arith, nat_tests), grind (arith, nat_tests))

pub digits_graphic : (radix : ℕ) (ds : List ℕ) → radix ≤ 16 → AllDigits radix ds → AreGraphic ds
digits_graphic radix [] low h = tt
digits_graphic radix (c ∷ cs) low h =
    let two = digit_within c radix low h.0 in (two.0, two.1, digits_graphic radix cs low h.1)

not_white : (b : ℕ) → 32 < b → b < 127 → is_whitespace b ≡ false
not_white b l h = grind (arith, nat_tests)

one_byte : (b : ℕ) → b < 127 → continuation_len b ≡ 0
one_byte b h = grind (arith, nat_tests)

own_bits : (b : ℕ) → b < 127 → lead_bits b ≡ b
own_bits b h = grind (arith, nat_tests)

chars_behind : (b : ℕ) (t : List ℕ) → b < 127 → AreGraphic t
    → chars_after (continuation_len b) (lead_bits b) t ≡ b ∷ t
chars_behind b [] h k = (λ i. chars_after (one_byte b h i) (own_bits b h i) [])
chars_behind b (c ∷ t) h k =
    (λ i. chars_after (one_byte b h i) (own_bits b h i) (c ∷ t)) ∙ ap (λ l. b ∷ l) (chars_behind c t k.1 k.2)

chars_same : (t : List ℕ) → AreGraphic t → chars t ≡ t
unfolding chars
chars_same [] h = refl
chars_same (b ∷ t) h = chars_behind b t h.1 h.2

none_leading : (t : List ℕ) → AreGraphic t → skip_leading_whitespace t ≡ t
none_leading [] h = refl
none_leading (b ∷ t) h = ap (λ w. cond w (skip_leading_whitespace t) (b ∷ t)) (not_white b h.0 h.1)

none_trailing : (t : List ℕ) → AreGraphic t → drop_trailing_whitespace t ≡ t
none_trailing [] h = refl
none_trailing (b ∷ t) h =
    ap (λ w. cond (w && length (drop_trailing_whitespace t) == 0) [] (b ∷ drop_trailing_whitespace t))
    (not_white b h.0 h.1)
    ∙ ap (λ l. b ∷ l) (none_trailing t h.2)

encoded : (t : List ℕ) → AreGraphic t → encode_utf8_all t ≡ t
encoded [] h = refl
encoded (b ∷ t) h = (λ i. encode_ascii b (omega (h.1, arith)) i ++ encoded t h.2 i)

start_same : (t : List ℕ) → AreGraphic t → trim_start t ≡ t
unfolding trim_start
start_same t h =
    ap (λ l. encode_utf8_all (skip_leading_whitespace l)) (chars_same t h)
    ∙ ap encode_utf8_all (none_leading t h) ∙ encoded t h

end_same : (t : List ℕ) → AreGraphic t → trim_end t ≡ t
unfolding trim_end
end_same t h =
    ap (λ l. encode_utf8_all (drop_trailing_whitespace l)) (chars_same t h)
    ∙ ap encode_utf8_all (none_trailing t h) ∙ encoded t h

pub trim_same : (t : List ℕ) → AreGraphic t → trim t ≡ t
trim_same t h = ap trim_end (start_same t h) ∙ end_same t h
