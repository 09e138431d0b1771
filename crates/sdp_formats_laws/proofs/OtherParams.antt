-- Ranges of telephone events, types of redundant audio and a parameter that isn't known are read as they are printed.
use Rattle.std.proofs.Common.{◌≡◌, ◌≢◌, ◌<◌, ◌≤◌, ◌^◌, ℕ, Bool, true, ◌&&◌, cond, nat_lt, List, [], ◌∷◌}
use Rattle.std.proofs.Common.{◌++◌, length, codes, decimal, Option, Some, None, refl, sym, ◌∙◌, ap, subst, arith, lit≤}
use Rattle.std.proofs.Common.{append-nil}
use Rattle.std.specs.Char.{digit_value, is_ascii_digit}
use Rattle.std.specs.List.{list_all}
use Rattle.std.specs.Option.{option_map, option_or}
use Rattle.std.specs.Str.Parse.{AllDigits, digits_value}
use Rattle.std.proofs.lemmas.Bool.Decides.{nat_tests}
use Rattle.std.proofs.lemmas.Fmt.{decimal_is_IsNumeral}
use Rattle.std.proofs.lemmas.Str.Parse.{digit_from_value}
use Rattle.sdp_formats_grammar.specs.Bind.{◌>>=◌}
use Rattle.sdp_formats_grammar.specs.Cuts.{parts-whole, split_first-at, split_first-nowhere}
use Rattle.sdp_formats_grammar.specs.Form.{Form, IsExact, both, cut, each, either, number, separated, told}
use Rattle.sdp_formats_grammar.specs.Numbers.{all_digits, number_below}
use Rattle.sdp_formats_grammar.specs.Split.{Lacks}
use Rattle.sdp_formats_grammar.specs.Steps.{none_if}
use Rattle.sdp_formats_reader.specs.PairsSay.{PairSays, PairsSay, pair_list}
use Rattle.sdp_formats_values.specs.Params.{params_of}
use Rattle.sdp_formats_values.specs.PrintedParameters.{param_text}
use Rattle.sdp_formats_values.specs.declared.pairs.Pair.{Pair}
use Rattle.sdp_formats_values.specs.declared.param.FormatParam.{FormatParam}
use Rattle.sdp_formats_values.specs.declared.param.FormatParam.TheVariants as param
use Rattle.sdp_formats_reader.specs.Parameters.{anything, key_values, parameters, plain_byte, range, slash_list}
use Rattle.sdp_formats_laws.proofs.Numerals.{accepted, decimal_value, lacks_digits, no_plus}
use Rattle.sdp_formats_laws.proofs.Numerals.{tested}
use Rattle.sdp_formats_laws.proofs.TextBack.{text_back}
use Rattle.sdp_formats_laws.specs.PrintedParameters.{IsReadBack}
use Rattle.sdp_formats_laws.specs.Printable.{IsText}

-- a number as it is read in a list
all_true : (ds : List ℕ) → AllDigits 10 ds → all_digits ds ≡ true
all_true [] h = refl
all_true (c ∷ cs) h = tested (digit_value c) 10 (all_digits cs) h.0 (all_true cs h.1)

abbrev pub number_of : ℕ → List ℕ → Option ℕ
number_of limit ds = cond (nat_lt 0 (length ds) && all_digits ds && nat_lt (digits_value 10 ds) limit)
    (Some (digits_value 10 ds)) None

number_back : (n : ℕ) → n < 2 ^ 8 → number_below (2 ^ 8) (decimal n) ≡ Some n
number_back n small =
    let numeral = decimal_is_IsNumeral n (omega (small, arith)) in
    ap (number_of (2 ^ 8)) (no_plus 10 (decimal n) (lit≤ tt) numeral.0.1)
    ∙ accepted _ _ _ (2 ^ 8) (all_true (decimal n) numeral.0.1) numeral.0.0 (rw numeral.1 small)
    ∙ ap Some numeral.1

-- a text without `=` holds no pair
lacks_back : (c : ℕ) (xs ys : List ℕ) → Lacks c (xs ++ ys) → Lacks c ys
lacks_back c [] ys h = h
lacks_back c (x ∷ xs) ys h = lacks_back c xs ys h.1

no_pair : (t : List ℕ) (p : Pair) (rest : List ℕ) → Lacks 61 t → PairSays t p rest → ⊥
no_pair t p rest h s =
    let back = (p.value ++ s.1) ++ s.2 in
    (lacks_back 61 p.key (61 ∷ back) (lacks_back 61 s.0 (p.key ++ 61 ∷ back) (subst (Lacks 61) s.3 h))).0 refl

no_list : (t : List ℕ) (ps : List Pair) → Lacks 61 t → PairsSay t ps → ⊥
no_list t [] h s = s.2 refl
no_list t (p ∷ ps) h s = no_pair t p s.1.0 h s.1.1

no_pairs : IsExact pair_list → (t : List ℕ) → Lacks 61 t → pair_list.reads t ≡ None
no_pairs exact t h = none_if (pair_list.reads t) (λ ps e. no_list t ps h (exact.sound t ps e))

or_other : {A : Type 0} (o other : Option A) → o ≡ None → option_or o other ≡ other
or_other o other e = ap (λ x. option_or x other) e

or_first : {A : Type 0} (o other : Option A) (x : A) → o ≡ Some x → option_or o other ≡ Some x
or_first o other x e = ap (λ y. option_or y other) e

pub lacks_of : (c n : ℕ) → 10 ≤ digit_value c → n < 2 ^ 8 → Lacks c (decimal n)
lacks_of c n far small = lacks_digits 10 c (decimal n) far (decimal_is_IsNumeral n (omega (small, arith))).0.1

-- a range of events, `0-15`
digit_test : (c : ℕ) (more : Bool) → 48 ≤ c → c ≤ 57 → more ≡ true → (is_ascii_digit c && more) ≡ true
digit_test c more low high h = grind (arith, nat_tests)

pub ascii_digits : (ds : List ℕ) → AllDigits 10 ds → list_all is_ascii_digit ds ≡ true
ascii_digits [] h = refl
ascii_digits (c ∷ cs) h = let r = digit_from_value c h.0 in
    digit_test c (list_all is_ascii_digit cs) (omega arith) (omega arith) (ascii_digits cs h.1)

plain_back : (n : ℕ) → n < 2 ^ 8 → plain_byte (decimal n) ≡ Some n
plain_back n small =
    let numeral = decimal_is_IsNumeral n (omega (small, arith)) in
    ap (λ b. cond b (number_below (2 ^ 8) (decimal n)) None) (ascii_digits (decimal n) numeral.0.1)
    ∙ number_back n small

range_read : IsExact pair_list → (n : ℕ) → n < 2 ^ 8
    → parameters.reads (codes "0-" ++ decimal n) ≡ Some (param.BareRange n ∷ [])
range_read exact n small =
    let t = codes "0-" ++ decimal n in
    let equals : Lacks 61 t = ((λ e. cc), ((λ e. cc), lacks_of 61 n (lit≤ tt) small)) in
    let slash : Lacks 47 t = ((λ e. cc), ((λ e. cc), lacks_of 47 n (lit≤ tt) small)) in
    or_other _ _ (ap (option_map params_of) (no_pairs exact t equals))
    ∙ or_other _ _ (ap (λ o. option_map (λ (x : ℕ × List ℕ). param.BarePtList x.0 ∷ [])
    (o >>= both (number (2 ^ 8)).reads (separated 47 (told (number_below (2 ^ 8)))).reads))
    (split_first-nowhere 47 t slash))
    ∙ or_first _ _ _ (ap (option_map (λ x. param.BareRange x ∷ [])) (plain_back n small))

range_on_line : (n : ℕ) → n < 2 ^ 8 → IsText ((codes "0-" ++ decimal n) ++ [])
range_on_line n small = subst IsText (sym (append-nil (codes "0-" ++ decimal n))) (
  (λ e. cc),
  ((λ e. cc), ((λ e. cc), lacks_of 10 n (lit≤ tt) small)),
  ((λ e. cc), ((λ e. cc), lacks_of 13 n (lit≤ tt) small)),
)

range_back : IsExact pair_list → (n : ℕ) → n < 2 ^ 8
    → parameters.reads ((codes "0-" ++ decimal n) ++ []) ≡ Some (param.BareRange n ∷ [])
range_back exact n small = ap parameters.reads (append-nil (codes "0-" ++ decimal n)) ∙ range_read exact n small

pub events_back : IsExact pair_list → (n : ℕ) → n < 2 ^ 8 → IsReadBack (param.TelephoneEvents n ∷ [])
unfolding param_text
events_back exact n small =
    text_back (param.TelephoneEvents n) [] (range_on_line n small) (range_back exact n small)

pub bare_range_back : IsExact pair_list → (n : ℕ) → n < 2 ^ 8 → IsReadBack (param.BareRange n ∷ [])
unfolding param_text
bare_range_back exact n small = text_back (param.BareRange n) [] (range_on_line n small) (range_back exact n small)

-- a list of redundant types, `111/111`
lacks_both : (c : ℕ) (xs ys : List ℕ) → Lacks c xs → Lacks c ys → Lacks c (xs ++ ys)
lacks_both c [] ys h k = k
lacks_both c (x ∷ xs) ys h k = (h.0, lacks_both c xs ys h.1 k)

cut_reads : {A B : Type 0} (c : ℕ) (f : Form A) (g : Form B) (front back : List ℕ) (a : A) (b : B) → Lacks c front
    → f.reads front ≡ Some a → g.reads back ≡ Some b → (cut c f g).reads (front ++ c ∷ back) ≡ Some (a, b)
cut_reads c f g front back a b lacks first second =
    ap (λ o. o >>= both f.reads g.reads) (split_first-at c front back lacks)
    ∙ ap (λ o. o >>= λ x. g.reads back >>= λ y. Some (x, y)) first
    ∙ ap (λ o. o >>= λ y. Some (a, y)) second

one_read : (n : ℕ) → n < 2 ^ 8 → (separated 47 (told (number_below (2 ^ 8)))).reads (decimal n) ≡ Some (n ∷ [])
one_read n small =
    ap (each (number_below (2 ^ 8))) (parts-whole 47 (decimal n) (lacks_of 47 n (lit≤ tt) small))
    ∙ ap (λ o. o >>= λ a. Some (a ∷ [])) (number_back n small)

slash_read : (n : ℕ) → n < 2 ^ 8 → slash_list.reads (decimal n ++ 47 ∷ decimal n) ≡ Some (param.BarePtList n ∷ [])
slash_read n small = ap (option_map (λ (x : ℕ × List ℕ). param.BarePtList x.0 ∷ []))
    (cut_reads 47 (number (2 ^ 8)) (separated 47 (told (number_below (2 ^ 8)))) (decimal n) (decimal n) n (n ∷ [])
    (lacks_of 47 n (lit≤ tt) small) (number_back n small) (one_read n small))

second_fits : (t : List ℕ) (ps : List FormatParam) → key_values.reads t ≡ None → slash_list.reads t ≡ Some ps
    → parameters.reads t ≡ Some ps
second_fits t ps none fits =
    or_other (key_values.reads t) (option_or (slash_list.reads t) ((either range anything).reads t)) none
    ∙ or_first (slash_list.reads t) ((either range anything).reads t) ps fits

list_read : IsExact pair_list → (n : ℕ) → n < 2 ^ 8
    → parameters.reads (decimal n ++ 47 ∷ decimal n) ≡ Some (param.BarePtList n ∷ [])
list_read exact n small =
    let t = decimal n ++ 47 ∷ decimal n in
    let equals = lacks_both 61 (decimal n) (47 ∷ decimal n) (lacks_of 61 n (lit≤ tt) small)
    ((λ e. cc), lacks_of 61 n (lit≤ tt) small) in
    second_fits t (param.BarePtList n ∷ []) (ap (option_map params_of) (no_pairs exact t equals)) (slash_read n small)

number_there : (n : ℕ) (more : List ℕ) → n < 2 ^ 8 → decimal n ++ more ≢ []
number_there n more small = some_front (decimal n) more (decimal_value n (omega (small, arith))).0.0
  where
    some_front : (xs ys : List ℕ) → xs ≢ [] → xs ++ ys ≢ []
    some_front [] ys some = absurd (some refl)
    some_front (x ∷ xs) ys some = λ e. cc

list_on_line : (n : ℕ) → n < 2 ^ 8 → IsText ((decimal n ++ 47 ∷ decimal n) ++ [])
list_on_line n small = subst IsText (sym (append-nil (decimal n ++ 47 ∷ decimal n))) (
  number_there n (47 ∷ decimal n) small,
  lacks_both 10 (decimal n) (47 ∷ decimal n) (lacks_of 10 n (lit≤ tt) small)
      ((λ e. cc), lacks_of 10 n (lit≤ tt) small),
  lacks_both 13 (decimal n) (47 ∷ decimal n) (lacks_of 13 n (lit≤ tt) small)
      ((λ e. cc), lacks_of 13 n (lit≤ tt) small),
)

list_back : IsExact pair_list → (n : ℕ) → n < 2 ^ 8
    → parameters.reads ((decimal n ++ 47 ∷ decimal n) ++ []) ≡ Some (param.BarePtList n ∷ [])
list_back exact n small = ap parameters.reads (append-nil (decimal n ++ 47 ∷ decimal n)) ∙ list_read exact n small

pub red_back : IsExact pair_list → (n : ℕ) → n < 2 ^ 8 → IsReadBack (param.Red n ∷ [])
unfolding param_text
red_back exact n small = text_back (param.Red n) [] (list_on_line n small) (list_back exact n small)

pub bare_list_back : IsExact pair_list → (n : ℕ) → n < 2 ^ 8 → IsReadBack (param.BarePtList n ∷ [])
unfolding param_text
bare_list_back exact n small = text_back (param.BarePtList n) [] (list_on_line n small) (list_back exact n small)

-- nothing after the blank
nothing_read : IsExact pair_list → parameters.reads [] ≡ Some (param.Unknown ∷ [])
nothing_read exact = or_other (key_values.reads []) ((either slash_list (either range anything)).reads [])
    (ap (option_map params_of) (no_pairs exact [] tt))

pub unknown_back : IsExact pair_list → IsReadBack (param.Unknown ∷ [])
unfolding param_text
unknown_back exact = ((tt, tt), (λ other. absurd (other refl)), nothing_read exact)
