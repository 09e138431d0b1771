-- Parameters without a profile, tier and level are read as they are printed.
use Rattle.std.proofs.Common.{◌≡◌, ◌≢◌, ℕ, false, ◌||◌, not, cond, List, [], ◌∷◌, ◌++◌, map, filter, codes}
use Rattle.std.proofs.Common.{Option, Some, refl, sym, ◌∙◌, ap, subst}
use Rattle.std.specs.List.{list_any}
use Rattle.std.specs.Option.{option_map, option_or}
use Rattle.sdp_formats_grammar.specs.Joined.{each_behind, joined}
use Rattle.sdp_formats_grammar.specs.Split.{Lacks}
use Rattle.sdp_formats_reader.specs.PrintedPairs.{ArePairs, PairsComeBack, pairs_text}
use Rattle.sdp_formats_values.specs.Params.{gives_level, level_params, pair_param, params_of}
use Rattle.sdp_formats_values.specs.PrintedParameters.{pair_text, param_text}
use Rattle.sdp_formats_values.specs.declared.pairs.Pair.{Pair}
use Rattle.sdp_formats_values.specs.declared.param.FormatParam.{FormatParam}
use Rattle.sdp_formats_values.specs.declared.param.FormatParam.TheVariants as param
use Rattle.sdp_formats_reader.specs.AsRead.{is_level, is_other, params_as_read, spelled_as}
use Rattle.sdp_formats_reader.specs.Parameters.{parameters}
use Rattle.sdp_formats_data.specs.PrintedMedia.{params_text}
use Rattle.sdp_formats_laws.proofs.KeyedParams.{key_is, no_level, param_back, text_is, value_is}
use Rattle.sdp_formats_laws.specs.Printable.{IsText}
use Rattle.sdp_formats_laws.specs.Keyed.{AreKeyed, IsKeyed, pair_of}

pub texts_are : (ps : List FormatParam) → AreKeyed ps → map param_text ps ≡ map pair_text (map pair_of ps)
texts_are [] h = refl
texts_are (p ∷ ps) h = (λ i. text_is p h.0 i ∷ texts_are ps h.1 i)

pub are_pairs : (ps : List FormatParam) → AreKeyed ps → ArePairs (map pair_of ps)
are_pairs [] h = tt
are_pairs (p ∷ ps) h = (((key_is p h.0).0, (value_is p h.0).0), are_pairs ps h.1)

params_back : (ps : List FormatParam) → AreKeyed ps → map pair_param (map pair_of ps) ≡ ps
params_back [] h = refl
params_back (p ∷ ps) h = (λ i. param_back p h.0 i ∷ params_back ps h.1 i)

pub none_level : (ps : List FormatParam) → AreKeyed ps → list_any gives_level (map pair_of ps) ≡ false
none_level [] h = refl
none_level (p ∷ ps) h = (λ i. no_level p h.0 i || none_level ps h.1 i)

-- each key and each value lacks this byte
abbrev pub AllLack : ℕ → List Pair → Type 0
AllLack c [] = Unit {0}
AllLack c (q ∷ qs) = Lacks c q.key × Lacks c q.value × AllLack c qs

lacks_both : (c : ℕ) (xs ys : List ℕ) → Lacks c xs → Lacks c ys → Lacks c (xs ++ ys)
lacks_both c [] ys h k = k
lacks_both c (x ∷ xs) ys h k = (h.0, lacks_both c xs ys h.1 k)

pub pairs_lack : (c : ℕ) (q : Pair) (qs : List Pair) → 61 ≢ c → 59 ≢ c → AllLack c (q ∷ qs)
    → Lacks c (pairs_text (q ∷ qs))
pairs_lack c q [] equals semi h =
    lacks_both c (pair_text q) [] (lacks_both c q.key (61 ∷ q.value) h.0 (equals, h.1)) tt
pairs_lack c q (r ∷ rs) equals semi h =
    lacks_both c (pair_text q) (59 ∷ pairs_text (r ∷ rs)) (lacks_both c q.key (61 ∷ q.value) h.0 (equals, h.1))
    (semi, pairs_lack c r rs equals semi h.2)

pub lack_feed : (ps : List FormatParam) → AreKeyed ps → AllLack 10 (map pair_of ps)
lack_feed [] h = tt
lack_feed (p ∷ ps) h = ((key_is p h.0).1, (value_is p h.0).1, lack_feed ps h.1)

pub lack_return : (ps : List FormatParam) → AreKeyed ps → AllLack 13 (map pair_of ps)
lack_return [] h = tt
lack_return (p ∷ ps) h = ((key_is p h.0).2, (value_is p h.0).2, lack_return ps h.1)

key_there : (key value more : List ℕ) → (key ++ 61 ∷ value) ++ more ≢ []
key_there [] value more = λ e. cc
key_there (b ∷ key) value more = λ e. cc

pub pairs_there : (q : Pair) (qs : List Pair) → pairs_text (q ∷ qs) ≢ []
pairs_there q qs = key_there q.key q.value (each_behind (codes ";") (map pair_text qs))

pub pairs_on_line : (q : Pair) (qs : List Pair) → AllLack 10 (q ∷ qs) → AllLack 13 (q ∷ qs)
    → IsText (pairs_text (q ∷ qs))
pairs_on_line q qs h k =
    (pairs_there q qs, pairs_lack 10 q qs (λ e. cc) (λ e. cc) h, pairs_lack 13 q qs (λ e. cc) (λ e. cc) k)

first_fits : {A : Type 0} (o other : Option A) (x : A) → o ≡ Some x → option_or o other ≡ Some x
first_fits o other x h = ap (λ p. option_or p other) h

pub pairs_read : PairsComeBack → (q : Pair) (qs : List Pair) → ArePairs (q ∷ qs)
    → parameters.reads (pairs_text (q ∷ qs)) ≡ Some (params_of (q ∷ qs))
pairs_read back q qs h = first_fits _ _ _ (ap (option_map params_of) (back q qs h))

-- they are as they are read
pub spelled_same : (p : FormatParam) → IsKeyed p → spelled_as p ≡ p
spelled_same (param.H265ProfileTierLevel v) h = absurd h
spelled_same (param.H266ProfileTierLevel v) h = absurd h
spelled_same (param.TelephoneEvents v) h = absurd h
spelled_same (param.BareRange v) h = absurd h
spelled_same (param.BarePtList v) h = absurd h
spelled_same param.AmrWbUnsupported h = absurd h
spelled_same (param.Red v) h = absurd h
spelled_same param.Unknown h = absurd h
spelled_same _ h = refl

pub not_level : (p : FormatParam) → IsKeyed p → is_level p ≡ false
not_level (param.H265ProfileTierLevel v) h = absurd h
not_level (param.H266ProfileTierLevel v) h = absurd h
not_level (param.TelephoneEvents v) h = absurd h
not_level (param.BareRange v) h = absurd h
not_level (param.BarePtList v) h = absurd h
not_level param.AmrWbUnsupported h = absurd h
not_level (param.Red v) h = absurd h
not_level param.Unknown h = absurd h
not_level _ h = refl

pub all_spelled : (ps : List FormatParam) → AreKeyed ps → map spelled_as ps ≡ ps
all_spelled [] h = refl
all_spelled (p ∷ ps) h = (λ i. spelled_same p h.0 i ∷ all_spelled ps h.1 i)

pub levels_none : (ps : List FormatParam) → AreKeyed ps → filter is_level ps ≡ []
levels_none [] h = refl
levels_none (p ∷ ps) h =
    ap (λ b. cond b (p ∷ filter is_level ps) (filter is_level ps)) (not_level p h.0) ∙ levels_none ps h.1

pub others_all : (ps : List FormatParam) → AreKeyed ps → filter is_other ps ≡ ps
others_all [] h = refl
others_all (p ∷ ps) h =
    ap (λ b. cond (not b) (p ∷ filter is_other ps) (filter is_other ps)) (not_level p h.0)
    ∙ ap (λ l. p ∷ l) (others_all ps h.1)

as_they_are : (ps : List FormatParam) → AreKeyed ps → params_as_read ps ≡ ps
as_they_are ps h =
    ap (λ l. filter is_level l ++ filter is_other l) (all_spelled ps h)
    ∙ (λ i. levels_none ps h i ++ others_all ps h i)

text_of : (p : FormatParam) (ps : List FormatParam) → AreKeyed (p ∷ ps)
    → params_text (p ∷ ps) ≡ pairs_text (map pair_of (p ∷ ps))
text_of p ps h = ap (joined (codes ";")) (texts_are (p ∷ ps) h)

pub keyed_read : PairsComeBack → (p : FormatParam) (ps : List FormatParam) → AreKeyed (p ∷ ps)
    → parameters.reads (params_text (p ∷ ps)) ≡ Some (params_as_read (p ∷ ps))
keyed_read back p ps h =
    ap parameters.reads (text_of p ps h)
    ∙ pairs_read back (pair_of p) (map pair_of ps) (are_pairs (p ∷ ps) h)
    ∙ ap (λ b. Some (cond b (level_params (map pair_of (p ∷ ps))) (map pair_param (map pair_of (p ∷ ps)))))
    (none_level (p ∷ ps) h)
    ∙ ap Some (params_back (p ∷ ps) h ∙ sym (as_they_are (p ∷ ps) h))

pub keyed_on_line : (p : FormatParam) (ps : List FormatParam) → AreKeyed (p ∷ ps) → IsText (params_text (p ∷ ps))
keyed_on_line p ps h = subst IsText (sym (text_of p ps h))
    (pairs_on_line (pair_of p) (map pair_of ps) (lack_feed (p ∷ ps) h) (lack_return (p ∷ ps) h))
