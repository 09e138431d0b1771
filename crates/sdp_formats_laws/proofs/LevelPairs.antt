-- What is read of pairs, three of which give a profile, tier and level.
use Rattle.std.proofs.Common.{◌≡◌, ◌≢◌, ℕ, Bool, true, false, ◌||◌, cond, List, [], ◌∷◌, ◌++◌, map}
use Rattle.std.proofs.Common.{codes, decimal, nat_eq, Option, Some, None, refl, sym, ◌∙◌, ap}
use Rattle.std.proofs.Common.{append_assoc}
use Rattle.std.proofs.Common.{append-nil}
use Rattle.std.specs.Cmp.Lexicographic.{pointwise, bytes_decides}
use Rattle.std.specs.List.{list_any}
use Rattle.std.specs.Str.{str_eq_ignore_ascii_case}
use Rattle.std.proofs.lemmas.List.{map-append}
use Rattle.indexmap.specs.IndexMap.{insert_entry}
use Rattle.sdp_formats_reader.specs.PrintedPairs.{pairs_text}
use Rattle.sdp_formats_values.specs.Keys.{key_named, is_name_of}
use Rattle.sdp_formats_values.specs.Params.{Entries, gives_level, is_level_name, last_value, level_params, levels_of}
use Rattle.sdp_formats_values.specs.Params.{or_before, others_of, pair_param, param_of, params_of}
use Rattle.sdp_formats_values.specs.Params.{with_pairs}
use Rattle.sdp_formats_values.specs.PrintedParameters.{levels_text}
use Rattle.sdp_formats_values.specs.declared.pairs.Pair.{Pair}
use Rattle.sdp_formats_values.specs.declared.param.FormatParam.{FormatParam}
use Rattle.sdp_formats_laws.proofs.KeyedParams.{no_level, param_back}
use Rattle.sdp_formats_laws.specs.Keyed.{AreKeyed, IsOrdinary, pair, pair_of}
use Rattle.sdp_formats_laws.specs.ParameterLists.{AreOrdinary, LackKeyOf}
use Rattle.sdp_formats_laws.proofs.KeyRanks.{lower, no_level_id, no_name, no_profile, no_tier, ordinary, same_lower}

pub ordinary_keyed : (ps : List FormatParam) → AreOrdinary ps → AreKeyed ps
ordinary_keyed [] h = tt
ordinary_keyed (p ∷ ps) h = (ordinary p h.0, ordinary_keyed ps h.2)

lack_split : (p : FormatParam) (front back : List FormatParam) → LackKeyOf p (front ++ back)
    → LackKeyOf p front × LackKeyOf p back
lack_split p [] back h = (tt, h)
lack_split p (q ∷ front) back h = let more = lack_split p front back h.1 in ((h.0, more.0), more.1)

pub split : (front back : List FormatParam) → AreOrdinary (front ++ back) → AreOrdinary front × AreOrdinary back
split [] back h = (tt, h)
split (p ∷ front) back h = let more = split front back h.2 in
    ((h.0, (lack_split p front back h.1).0, more.0), more.1)

-- pairs of distinct keys
abbrev pub LackKey : List ℕ → List Pair → Type 0
LackKey k [] = Unit {0}
LackKey k (q ∷ qs) = (k ≢ lower q) × LackKey k qs

abbrev pub AreDistinct : List Pair → Type 0
AreDistinct [] = Unit {0}
AreDistinct (q ∷ qs) = LackKey (lower q) qs × AreDistinct qs

-- the entries of such pairs are those pairs
abbrev pub entry : Pair → List ℕ × List ℕ
entry q = (lower q, q.value)

abbrev pub AreNew : Entries → List Pair → Type 0
AreNew [] qs = Unit {0}
AreNew (e ∷ es) qs = LackKey e.0 qs × AreNew es qs

other_key : (a b : List ℕ) → b ≢ a → (s : Bool) → pointwise nat_eq a b ≡ s → s ≡ false
other_key a b h true e = absurd (h (sym ((bytes_decides a b).0 e)))
other_key a b h false e = refl

inserted : (es : Entries) (q : Pair) (qs : List Pair) → AreNew es (q ∷ qs)
    → insert_entry (pointwise nat_eq) es (lower q) q.value ≡ es ++ entry q ∷ []
inserted [] q qs h = refl
inserted (e ∷ es) q qs h =
    ap (λ b. cond b ((e.0, q.value) ∷ es) (e ∷ insert_entry (pointwise nat_eq) es (lower q) q.value))
    (other_key (lower q) e.0 h.0.0 (pointwise nat_eq (lower q) e.0) refl)
    ∙ ap (λ l. e ∷ l) (inserted es q qs h.1)

new_behind : (es : Entries) (q : Pair) (qs : List Pair) → AreNew es (q ∷ qs) → LackKey (lower q) qs
    → AreNew (es ++ entry q ∷ []) qs
new_behind [] q qs h k = (k, tt)
new_behind (e ∷ es) q qs h k = (h.0.1, new_behind es q qs h.1 k)

all_entries : (es : Entries) (qs : List Pair) → AreNew es qs → AreDistinct qs → with_pairs es qs ≡ es ++ map entry qs
all_entries es [] h k = sym (append-nil es)
all_entries es (q ∷ qs) h k =
    ap (λ l. with_pairs l qs) (inserted es q qs h)
    ∙ all_entries (es ++ entry q ∷ []) qs (new_behind es q qs h k.0) k.1
    ∙ append_assoc es (entry q ∷ []) (map entry qs)

-- the others of them
own_param : (p : FormatParam) → IsOrdinary p → param_of (lower (pair_of p)) (pair_of p).value ≡ p
own_param p h = ap (λ k. param_of k (pair_of p).value) (same_lower p h) ∙ param_back p (ordinary p h)

others_front : (ps : List FormatParam) (es : Entries) → AreOrdinary ps
    → others_of (map entry (map pair_of ps) ++ es) ≡ ps ++ others_of es
others_front [] es h = refl
others_front (p ∷ ps) es h =
    ap (λ b. cond b (others_of (map entry (map pair_of ps) ++ es))
    (param_of (lower (pair_of p)) (pair_of p).value ∷ others_of (map entry (map pair_of ps) ++ es))) (no_name p h.0)
    ∙ (λ i. own_param p h.0 i ∷ others_front ps es h.2 i)

-- the value of a name that they lack
abbrev pub LacksName : List ℕ → List Pair → Type 0
LacksName name [] = Unit {0}
LacksName name (q ∷ qs) = (str_eq_ignore_ascii_case name q.key ≡ false) × LacksName name qs

no_value : (name : List ℕ) (before : Option (List ℕ)) (qs rest : List Pair) → LacksName name qs
    → last_value name before (qs ++ rest) ≡ last_value name before rest
no_value name before [] rest h = refl
no_value name before (q ∷ qs) rest h =
    ap (λ b. last_value name (or_before b q.value before) (qs ++ rest)) h.0 ∙ no_value name before qs rest h.1

no_value_last : (name : List ℕ) (before : Option (List ℕ)) (qs : List Pair) → LacksName name qs
    → last_value name before qs ≡ before
no_value_last name before qs h =
    ap (last_value name before) (sym (append-nil qs)) ∙ no_value name before qs [] h

profile_lacking : (ps : List FormatParam) → AreOrdinary ps → LacksName (codes "profile-id") (map pair_of ps)
profile_lacking [] h = tt
profile_lacking (p ∷ ps) h = (no_profile p h.0, profile_lacking ps h.2)

tier_lacking : (ps : List FormatParam) → AreOrdinary ps → LacksName (codes "tier-flag") (map pair_of ps)
tier_lacking [] h = tt
tier_lacking (p ∷ ps) h = (no_tier p h.0, tier_lacking ps h.2)

level_lacking : (ps : List FormatParam) → AreOrdinary ps → LacksName (codes "level-id") (map pair_of ps)
level_lacking [] h = tt
level_lacking (p ∷ ps) h = (no_level_id p h.0, level_lacking ps h.2)

-- a profile, tier and level as three pairs
abbrev pub level_pairs : ℕ → ℕ → ℕ → List Pair
level_pairs id tier level = pair (codes "profile-id") (decimal id) ∷ pair (codes "tier-flag") (decimal tier)
    ∷ pair (codes "level-id") (decimal level) ∷ []

pub level_shape : (id tier level : ℕ) → levels_text id tier level ≡ pairs_text (level_pairs id tier level)
level_shape id tier level =
    ap (λ t. codes "profile-id=" ++ (decimal id ++ (codes ";tier-flag=" ++ (decimal tier ++
    (codes ";level-id=" ++ t)))))
    (sym (append-nil (decimal level)))

any_front : (ps : List FormatParam) (qs : List Pair) → AreKeyed ps
    → list_any gives_level (map pair_of ps ++ qs) ≡ list_any gives_level qs
any_front [] qs h = refl
any_front (p ∷ ps) qs h = (λ i. no_level p h.0 i || any_front ps qs h.1 i)

level_there : (id tier level : ℕ) (qs : List Pair) → list_any gives_level (level_pairs id tier level ++ qs) ≡ true
unfolding key_named is_name_of
level_there id tier level qs = refl

-- the pairs of parameters with a profile, tier and level among them
abbrev pub all_pairs : List FormatParam → ℕ → ℕ → ℕ → List FormatParam → List Pair
all_pairs front id tier level back = map pair_of front ++ (level_pairs id tier level ++ map pair_of back)

-- their keys are distinct
not_named : (k : List ℕ) (p : FormatParam) → is_level_name k ≡ true → IsOrdinary p → lower (pair_of p) ≡ k → ⊥
not_named k p e h same = apart (sym (no_name p h) ∙ ap is_level_name same ∙ e)
  where
    apart : false ≡ true → ⊥
    apart e = cc

name_lacking : (k : List ℕ) (ps : List FormatParam) → is_level_name k ≡ true → AreOrdinary ps
    → LackKey k (map pair_of ps)
name_lacking k [] e h = tt
name_lacking k (p ∷ ps) e h = ((λ same. not_named k p e h.0 (sym same)), name_lacking k ps e h.2)

lack_pairs : (p : FormatParam) (ps : List FormatParam) → IsOrdinary p → AreOrdinary ps → LackKeyOf p ps
    → LackKey (lower (pair_of p)) (map pair_of ps)
lack_pairs p [] h k l = tt
lack_pairs p (q ∷ qs) h k l =
    ((λ e. l.0 (sym (same_lower p h) ∙ e ∙ same_lower q k.0)), lack_pairs p qs h k.2 l.1)

lack_all : (p : FormatParam) (front back : List FormatParam) (id tier level : ℕ) → IsOrdinary p
    → AreOrdinary (front ++ back) → LackKeyOf p (front ++ back)
    → LackKey (lower (pair_of p)) (all_pairs front id tier level back)
lack_all p [] back id tier level h k l = (
  not_named (codes "profile-id") p refl h,
  (
    not_named (codes "tier-flag") p refl h,
    (not_named (codes "level-id") p refl h, lack_pairs p back h k l),
  ),
)
lack_all p (q ∷ front) back id tier level h k l = (
  (λ e. l.0 (sym (same_lower p h) ∙ e ∙ same_lower q k.0)),
  lack_all p front back id tier level h k.2 l.1,
)

distinct_pairs : (ps : List FormatParam) → AreOrdinary ps → AreDistinct (map pair_of ps)
distinct_pairs [] h = tt
distinct_pairs (p ∷ ps) h = (lack_pairs p ps h.0 h.2 h.1, distinct_pairs ps h.2)

distinct_all : (front back : List FormatParam) (id tier level : ℕ) → AreOrdinary (front ++ back)
    → AreDistinct (all_pairs front id tier level back)
distinct_all [] back id tier level h = (
  ((λ e. cc), ((λ e. cc), name_lacking (codes "profile-id") back refl h)),
  (
    ((λ e. cc), name_lacking (codes "tier-flag") back refl h),
    (name_lacking (codes "level-id") back refl h, distinct_pairs back h),
  ),
)
distinct_all (p ∷ front) back id tier level h =
    (lack_all p front back id tier level h.0 h.2 h.1, distinct_all front back id tier level h.2)

pub level_read : (front back : List FormatParam) (id tier level : ℕ) → AreOrdinary (front ++ back)
    → params_of (all_pairs front id tier level back)
    ≡ levels_of (Some (decimal id)) (Some (decimal tier)) (Some (decimal level)) ++ (front ++ back)
level_read front back id tier level h =
    let parts = split front back h in
    let qs = all_pairs front id tier level back in
    let rest = level_pairs id tier level ++ map pair_of back in
    let one = any_front front rest (ordinary_keyed front parts.0) ∙ level_there id tier level (map pair_of back) in
    let profile = no_value (codes "profile-id") None (map pair_of front) rest (profile_lacking front parts.0)
    ∙ no_value_last (codes "profile-id") (Some (decimal id)) (map pair_of back) (profile_lacking back parts.1) in
    let flag = no_value (codes "tier-flag") None (map pair_of front) rest (tier_lacking front parts.0)
    ∙ no_value_last (codes "tier-flag") (Some (decimal tier)) (map pair_of back) (tier_lacking back parts.1) in
    let number = no_value (codes "level-id") None (map pair_of front) rest (level_lacking front parts.0)
    ∙ no_value_last (codes "level-id") (Some (decimal level)) (map pair_of back) (level_lacking back parts.1) in
    let entries = all_entries [] qs tt (distinct_all front back id tier level h) in
    let spread : map entry qs ≡ map entry (map pair_of front) ++ (map entry (level_pairs id tier level)
    ++ map entry (map pair_of back)) = map-append entry (map pair_of front) rest in
    let others = ap others_of (entries ∙ spread)
    ∙ others_front front (map entry (level_pairs id tier level) ++ map entry (map pair_of back)) parts.0
    ∙ ap (λ l. front ++ l) (ap others_of (sym (append-nil (map entry (map pair_of back))))
    ∙ others_front back [] parts.1 ∙ append-nil back) in
    ap (λ x. cond x (level_params qs) (map pair_param qs)) one
    ∙ (λ i. levels_of (profile i) (flag i) (number i) ++ others i)
