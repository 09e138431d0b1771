-- A profile, tier and level among parameters comes first when they are read.
use Rattle.std.proofs.Common.{◌≡◌, ◌<◌, ℕ, true, not, cond, List, [], ◌∷◌, ◌++◌, map}
use Rattle.std.proofs.Common.{filter, codes, decimal, Some, refl, sym, ◌∙◌, ap, subst}
use Rattle.std.proofs.Common.{append_assoc}
use Rattle.std.proofs.Common.{append-nil, arith}
use Rattle.std.proofs.lemmas.List.{map-append}
use Rattle.sdp_formats_grammar.specs.Joined.{each_behind, joined}
use Rattle.sdp_formats_reader.specs.PrintedPairs.{ArePairs, PairsComeBack, pairs_text}
use Rattle.sdp_formats_values.specs.Params.{levels_of}
use Rattle.sdp_formats_values.specs.Params.{params_of}
use Rattle.sdp_formats_values.specs.PrintedParameters.{levels_text, pair_text, param_text}
use Rattle.sdp_formats_values.specs.declared.pairs.Pair.{Pair}
use Rattle.sdp_formats_values.specs.declared.param.FormatParam.{FormatParam}
use Rattle.sdp_formats_reader.specs.AsRead.{is_level, is_other, params_as_read, spelled_as}
use Rattle.sdp_formats_reader.specs.Parameters.{parameters}
use Rattle.sdp_formats_data.specs.PrintedMedia.{params_text}
use Rattle.sdp_formats_laws.proofs.KeyedLists.{AllLack, all_spelled, are_pairs, lack_feed, lack_return}
use Rattle.sdp_formats_laws.proofs.KeyedLists.{levels_none, not_level, others_all, pairs_on_line}
use Rattle.sdp_formats_laws.proofs.KeyedLists.{pairs_read}
use Rattle.sdp_formats_laws.proofs.KeyedLists.{texts_are}
use Rattle.sdp_formats_laws.proofs.KeyedParams.{key_of}
use Rattle.sdp_formats_laws.proofs.Numerals.{decimal_value}
use Rattle.sdp_formats_laws.proofs.TextBack.{text_back}
use Rattle.sdp_formats_laws.specs.PrintedParameters.{IsReadBack}
use Rattle.sdp_formats_laws.specs.Printable.{IsText}
use Rattle.sdp_formats_laws.specs.Keyed.{AreKeyed, pair, pair_of}
use Rattle.sdp_formats_laws.specs.ParameterLists.{AreOrdinary}
use Rattle.sdp_formats_laws.proofs.LevelPairs.{all_pairs, level_pairs, level_read, level_shape, ordinary_keyed, split}

-- the text of such a list
nested : (sep : List ℕ) (xs : List (List ℕ)) (a b c : List ℕ) (ys : List (List ℕ))
    → each_behind sep (xs ++ joined sep (a ∷ b ∷ c ∷ []) ∷ ys) ≡ each_behind sep (xs ++ a ∷ b ∷ c ∷ ys)
nested sep [] a b c ys = simp (append_assoc, append-nil)
nested sep (x ∷ xs) a b c ys = ap (λ t. (sep ++ x) ++ t) (nested sep xs a b c ys)

pub all_nested : (sep : List ℕ) (xs : List (List ℕ)) (a b c : List ℕ) (ys : List (List ℕ))
    → joined sep (xs ++ joined sep (a ∷ b ∷ c ∷ []) ∷ ys) ≡ joined sep (xs ++ a ∷ b ∷ c ∷ ys)
all_nested sep [] a b c ys = simp (append_assoc, append-nil)
all_nested sep (x ∷ xs) a b c ys = ap (λ t. x ++ t) (nested sep xs a b c ys)

-- a parameter that is a profile, tier and level
pub record IsLevelOf (l : FormatParam) (id tier level : ℕ) : Type 0 where
  pub text : param_text l ≡ levels_text id tier level
  pub reads : levels_of (Some (decimal id)) (Some (decimal tier)) (Some (decimal level)) ≡ l ∷ []
  pub spelled : spelled_as l ≡ l
  pub is_one : is_level l ≡ true
  pub id_small : id < 256
  pub tier_small : tier < 256
  pub level_small : level < 256

list_text : (front back : List FormatParam) (l : FormatParam) (id tier level : ℕ) → IsLevelOf l id tier level
    → AreKeyed front → AreKeyed back
    → params_text (front ++ l ∷ back) ≡ pairs_text (all_pairs front id tier level back)
list_text front back l id tier level is f b =
    let a = pair_text (pair (codes "profile-id") (decimal id)) in
    let c = pair_text (pair (codes "tier-flag") (decimal tier)) in
    let e = pair_text (pair (codes "level-id") (decimal level)) in
    ap (joined (codes ";")) (map-append param_text front (l ∷ back)
    ∙ (λ i. texts_are front f i ++ (is.text ∙ level_shape id tier level) i ∷ texts_are back b i))
    ∙ all_nested (codes ";") (map pair_text (map pair_of front)) a c e (map pair_text (map pair_of back))
    ∙ ap (joined (codes ";")) (sym (map-append pair_text (map pair_of front)
    (level_pairs id tier level ++ map pair_of back)))

-- such a list as it is read
spelled_all : (front back : List FormatParam) (l : FormatParam) → spelled_as l ≡ l → AreKeyed front → AreKeyed back
    → map spelled_as (front ++ l ∷ back) ≡ front ++ l ∷ back
spelled_all front back l e f b =
    map-append spelled_as front (l ∷ back) ∙ (λ i. all_spelled front f i ++ e i ∷ all_spelled back b i)

one_level : (front back : List FormatParam) (l : FormatParam) → is_level l ≡ true → AreKeyed front → AreKeyed back
    → filter is_level (front ++ l ∷ back) ≡ l ∷ []
one_level [] back l e f b =
    ap (λ x. cond x (l ∷ filter is_level back) (filter is_level back)) e ∙ ap (λ t. l ∷ t) (levels_none back b)
one_level (p ∷ front) back l e f b =
    ap (λ x. cond x (p ∷ filter is_level (front ++ l ∷ back)) (filter is_level (front ++ l ∷ back))) (not_level p f.0)
    ∙ one_level front back l e f.1 b

the_others : (front back : List FormatParam) (l : FormatParam) → is_level l ≡ true → AreKeyed front → AreKeyed back
    → filter is_other (front ++ l ∷ back) ≡ front ++ back
the_others [] back l e f b =
    ap (λ x. cond (not x) (l ∷ filter is_other back) (filter is_other back)) e ∙ others_all back b
the_others (p ∷ front) back l e f b =
    ap (λ x. cond (not x) (p ∷ filter is_other (front ++ l ∷ back)) (filter is_other (front ++ l ∷ back)))
    (not_level p f.0) ∙ ap (λ t. p ∷ t) (the_others front back l e f.1 b)

level_first : (front back : List FormatParam) (l : FormatParam) (id tier level : ℕ) → IsLevelOf l id tier level
    → AreKeyed front → AreKeyed back → params_as_read (front ++ l ∷ back) ≡ l ∷ (front ++ back)
level_first front back l id tier level is f b =
    ap (λ t. filter is_level t ++ filter is_other t) (spelled_all front back l is.spelled f b)
    ∙ (λ i. one_level front back l is.is_one f b i ++ the_others front back l is.is_one f b i)

-- its pairs can be in a text
are_both : (ps qs : List Pair) → ArePairs ps → ArePairs qs → ArePairs (ps ++ qs)
are_both [] qs h k = k
are_both (p ∷ ps) qs h k = (h.0, are_both ps qs h.1 k)

lack_both : (c : ℕ) (ps qs : List Pair) → AllLack c ps → AllLack c qs → AllLack c (ps ++ qs)
lack_both c [] qs h k = k
lack_both c (p ∷ ps) qs h k = (h.0, h.1, lack_both c ps qs h.2 k)

level_words : (id tier level : ℕ) → id < 256 → tier < 256 → level < 256 → ArePairs (level_pairs id tier level)
level_words id tier level i t l = (
  ((key_of (codes "profile-id") (λ e. cc) refl).0, (decimal_value id (omega (i, arith))).0),
  (
    ((key_of (codes "tier-flag") (λ e. cc) refl).0, (decimal_value tier (omega (t, arith))).0),
    (((key_of (codes "level-id") (λ e. cc) refl).0, (decimal_value level (omega (l, arith))).0), tt),
  ),
)

level_feed : (id tier level : ℕ) → id < 256 → tier < 256 → level < 256 → AllLack 10 (level_pairs id tier level)
level_feed id tier level i t l = (
  (key_of (codes "profile-id") (λ e. cc) refl).1,
  (decimal_value id (omega (i, arith))).1,
  (
    (key_of (codes "tier-flag") (λ e. cc) refl).1,
    (decimal_value tier (omega (t, arith))).1,
    ((key_of (codes "level-id") (λ e. cc) refl).1, (decimal_value level (omega (l, arith))).1, tt),
  ),
)

level_return : (id tier level : ℕ) → id < 256 → tier < 256 → level < 256 → AllLack 13 (level_pairs id tier level)
level_return id tier level i t l = (
  (key_of (codes "profile-id") (λ e. cc) refl).2,
  (decimal_value id (omega (i, arith))).2,
  (
    (key_of (codes "tier-flag") (λ e. cc) refl).2,
    (decimal_value tier (omega (t, arith))).2,
    ((key_of (codes "level-id") (λ e. cc) refl).2, (decimal_value level (omega (l, arith))).2, tt),
  ),
)

-- what is read of some pairs, at least one
some_pairs : PairsComeBack → (qs : List Pair) (q : Pair) (rest : List Pair) → qs ≡ q ∷ rest → ArePairs qs
    → AllLack 10 qs → AllLack 13 qs → (parameters.reads (pairs_text qs) ≡ Some (params_of qs)) × IsText (pairs_text qs)
some_pairs back [] q rest e h k l = absurd (cc)
some_pairs back (p ∷ ps) q rest e h k l = (pairs_read back p ps h, pairs_on_line p ps k l)

there_are : (front : List FormatParam) (id tier level : ℕ) (back : List FormatParam)
    → (q : Pair) × (rest : List Pair) × (all_pairs front id tier level back ≡ q ∷ rest)
there_are [] id tier level back = (_, _, refl)
there_are (p ∷ front) id tier level back = (_, _, refl)

as_cons : (front back : List FormatParam) (l : FormatParam) → IsText (params_text (front ++ l ∷ back))
    → parameters.reads (params_text (front ++ l ∷ back)) ≡ Some (params_as_read (front ++ l ∷ back))
    → IsReadBack (front ++ l ∷ back)
as_cons [] back l h k = text_back l back h k
as_cons (p ∷ front) back l h k = text_back p (front ++ l ∷ back) h k

pub level_back : PairsComeBack → (front back : List FormatParam) (l : FormatParam) (id tier level : ℕ)
    → IsLevelOf l id tier level → AreOrdinary (front ++ back) → IsReadBack (front ++ l ∷ back)
level_back come front back l id tier level is h =
    let parts = split front back h in
    let fk = ordinary_keyed front parts.0 in
    let bk = ordinary_keyed back parts.1 in
    let qs = all_pairs front id tier level back in
    let text = list_text front back l id tier level is fk bk in
    let some = there_are front id tier level back in
    let words = are_both (map pair_of front) (level_pairs id tier level ++ map pair_of back) (are_pairs front fk)
    (are_both (level_pairs id tier level) (map pair_of back)
    (level_words id tier level is.id_small is.tier_small is.level_small) (are_pairs back bk)) in
    let feed = lack_both 10 (map pair_of front) (level_pairs id tier level ++ map pair_of back) (lack_feed front fk)
    (lack_both 10 (level_pairs id tier level) (map pair_of back)
    (level_feed id tier level is.id_small is.tier_small is.level_small) (lack_feed back bk)) in
    let return = lack_both 13 (map pair_of front) (level_pairs id tier level ++ map pair_of back) (lack_return front fk)
    (lack_both 13 (level_pairs id tier level) (map pair_of back)
    (level_return id tier level is.id_small is.tier_small is.level_small) (lack_return back bk)) in
    let all = some_pairs come qs some.0 some.1 some.2 words feed return in
    as_cons front back l (subst IsText (sym text) all.1)
    (ap parameters.reads text ∙ all.0 ∙ ap Some (level_read front back id tier level h
    ∙ ap (λ t. t ++ (front ++ back)) is.reads ∙ sym (level_first front back l id tier level is fk bk)))
