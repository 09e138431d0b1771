-- What is read of the text of parameters with a profile, tier and level among them.
use Rattle.std.proofs.Common.{◌≡◌, ◌<◌, ℕ, Bool, true, false, ◌||◌, cond, List, [], ◌∷◌, ◌++◌, map}
use Rattle.std.proofs.Common.{codes, decimal, Option, Some, None, refl, sym, ◌∙◌, ap, arith}
use Rattle.std.proofs.Common.{append-nil}
use Rattle.std.specs.Prelude.{fold}
use Rattle.std.specs.List.{list_any}
use Rattle.sdp_formats_grammar.specs.Joined.{joined}
use Rattle.sdp_formats_grammar.specs.Split.{Lacks, parts}
use Rattle.sdp_formats_rows.specs.Formats.{format_of}
use Rattle.sdp_formats_rows.specs.LineValues.{gives_level, is_key, last_value}
use Rattle.sdp_formats_rows.specs.Formats.{no_format, with_parts, with_values}
use Rattle.sdp_formats_rows.specs.declared.format.FormatParams.{FormatParams}
use Rattle.sdp_formats_values.specs.Keys.{key_named, is_name_of}
use Rattle.sdp_formats_values.specs.PrintedParameters.{pair_text, param_text}
use Rattle.sdp_formats_values.specs.declared.key.Key.{Key}
use Rattle.sdp_formats_values.specs.declared.key.Key.TheVariants as key
use Rattle.sdp_formats_values.specs.declared.pairs.Pair.{Pair}
use Rattle.sdp_formats_values.specs.declared.param.FormatParam.{FormatParam}
use Rattle.sdp_formats_laws.proofs.FormatFields.{IsField, IsPart, decimal_graphic, field_level, field_named, field_read}
use Rattle.sdp_formats_laws.proofs.FormatFields.{is_part_key, part_key, with_part}
use Rattle.sdp_formats_laws.proofs.FormatTexts.{IsPassed, any_past, each_part, each_passed, each_whole, level_past}
use Rattle.sdp_formats_laws.proofs.FormatTexts.{pair_part, parts_read, profile_past, tier_past, whole_format}
use Rattle.sdp_formats_laws.proofs.LevelPairs.{level_pairs}
use Rattle.sdp_formats_laws.proofs.Numerals.{decimal_value}
use Rattle.sdp_formats_laws.proofs.Printed.{lacks}
use Rattle.sdp_formats_laws.specs.Keyed.{pair}
use Rattle.sdp_formats_rounds.specs.Members.{IsEach}

-- a profile, tier and level of three parts
pub level_field : (name : List ℕ) (n : ℕ) → is_part_key name ≡ true → Lacks 61 name → n < 256
    → IsField (pair name (decimal n))
level_field name n plain equals small = record {
  key_graphic = (part_key name plain).0;
  value_graphic = decimal_graphic n (omega (small, arith));
  key_part = (part_key name plain).1;
  value_part = (decimal_value n (omega (small, arith))).0.2;
  key_field = equals;
  value_field = (decimal_value n (omega (small, arith))).3;
}

pub record Fields (id tier level : ℕ) : Type 0 where
  pub profile : IsField (pair (codes "profile-id") (decimal id))
  pub flag : IsField (pair (codes "tier-flag") (decimal tier))
  pub number : IsField (pair (codes "level-id") (decimal level))

pub fields_of : (id tier level : ℕ) → id < 256 → tier < 256 → level < 256 → Fields id tier level
fields_of id tier level i t l = record {
  profile = level_field (codes "profile-id") id refl (lacks 61 (codes "profile-id") refl) i;
  flag = level_field (codes "tier-flag") tier refl (lacks 61 (codes "tier-flag") refl) t;
  number = level_field (codes "level-id") level refl (lacks 61 (codes "level-id") refl) l;
}

abbrev pub value_or : Key → Pair → Option (List ℕ) → Option (List ℕ)
value_or k q before = cond (is_key k (key_named q.key)) (Some q.value) before

three_values : (k : Key) (a b c : Pair) (more : List (List ℕ)) (before : Option (List ℕ)) → IsField a → IsField b
    → IsField c → last_value k (pair_text a ∷ pair_text b ∷ pair_text c ∷ more) before
    ≡ last_value k more (value_or k c (value_or k b (value_or k a before)))
three_values k a b c more before x y z =
    ap (last_value k (pair_text b ∷ pair_text c ∷ more)) (field_named k a before x)
    ∙ ap (last_value k (pair_text c ∷ more)) (field_named k b (value_or k a before) y)
    ∙ ap (last_value k more) (field_named k c (value_or k b (value_or k a before)) z)

abbrev pub level_texts : ℕ → ℕ → ℕ → List (List ℕ)
level_texts id tier level = map pair_text (level_pairs id tier level)

record LevelSays (id tier level : ℕ) (ts : List (List ℕ)) : Type 0 where
  there : list_any gives_level ts ≡ true
  profile : last_value key.ProfileId ts None ≡ Some (decimal id)
  flag : last_value key.TierFlag ts None ≡ Some (decimal tier)
  number : last_value key.LevelId ts None ≡ Some (decimal level)

or_true : (a b c : Bool) → b ≡ true → (a || (b || c)) ≡ true
or_true true b c e = refl
or_true false b c e = ap (λ x. x || c) e

level_says : (id tier level : ℕ) (front back : List (List ℕ)) → Fields id tier level → IsEach (IsPassed true) front
    → IsEach (IsPassed true) back → LevelSays id tier level (front ++ (level_texts id tier level ++ back))
unfolding key_named is_name_of
level_says id tier level front back h f b =
    let p = pair (codes "profile-id") (decimal id) in
    let t = pair (codes "tier-flag") (decimal tier) in
    let l = pair (codes "level-id") (decimal level) in
    let more = level_texts id tier level ++ back in
    record {
      there = any_past true front more f
          ∙ or_true (gives_level (pair_text p)) (gives_level (pair_text t))
          (list_any gives_level (pair_text l ∷ back)) (field_level t h.flag);
      profile = profile_past front more None f
          ∙ three_values key.ProfileId p t l back None h.profile h.flag h.number
          ∙ ap (λ x. last_value key.ProfileId x (Some (decimal id))) (sym (append-nil back))
          ∙ profile_past back [] (Some (decimal id)) b;
      flag = tier_past front more None f
          ∙ three_values key.TierFlag p t l back None h.profile h.flag h.number
          ∙ ap (λ x. last_value key.TierFlag x (Some (decimal tier))) (sym (append-nil back))
          ∙ tier_past back [] (Some (decimal tier)) b;
      number = level_past front more None f
          ∙ three_values key.LevelId p t l back None h.profile h.flag h.number
          ∙ ap (λ x. last_value key.LevelId x (Some (decimal level))) (sym (append-nil back))
          ∙ level_past back [] (Some (decimal level)) b;
    }

level_parts : (id tier level : ℕ) (more : List (List ℕ)) (f : FormatParams) → Fields id tier level
    → with_parts true (level_texts id tier level ++ more) f ≡ with_parts true more f
unfolding key_named is_name_of
level_parts id tier level more f h =
    let p = pair (codes "profile-id") (decimal id) in
    let t = pair (codes "tier-flag") (decimal tier) in
    let l = pair (codes "level-id") (decimal level) in
    ap (with_parts true (pair_text t ∷ pair_text l ∷ more)) (field_read true p f h.profile)
    ∙ ap (with_parts true (pair_text l ∷ more)) (field_read true t f h.flag)
    ∙ ap (with_parts true more) (field_read true l f h.number)

each_joined : (P : List ℕ → Type 0) (xs ys : List (List ℕ)) → IsEach P xs → IsEach P ys → IsEach P (xs ++ ys)
each_joined P [] ys h k = k
each_joined P (x ∷ xs) ys h k = (h.0, each_joined P xs ys h.1 k)

parts_some : (front : List (List ℕ)) (t : List ℕ) (back : List (List ℕ)) → IsEach (Lacks 59) (front ++ t ∷ back)
    → parts 59 (joined (codes ";") (front ++ t ∷ back)) ≡ front ++ t ∷ back
parts_some [] t back h = each_part t back h
parts_some (x ∷ front) t back h = each_part x (front ++ t ∷ back) h

pub level_line : (front back : List FormatParam) (id tier level : ℕ) → Fields id tier level → IsEach (IsPart true) front
    → IsEach (IsPart true) back
    → format_of (joined (codes ";") (map param_text front ++ (level_texts id tier level ++ map param_text back)))
    ≡ fold with_part (fold with_part (with_values (Some (decimal id)) (Some (decimal tier)) (Some
    (decimal level))) front)
    back
unfolding format_of
level_line front back id tier level h f b =
    let ts = map param_text front ++ (level_texts id tier level ++ map param_text back) in
    let start = with_values (Some (decimal id)) (Some (decimal tier)) (Some (decimal level)) in
    let fronts = each_passed true front f in
    let backs = each_passed true back b in
    let says = level_says id tier level (map param_text front) (map param_text back) h fronts backs in
    let whole = each_joined (Lacks 59) (map param_text front) (level_texts id tier level ++ map param_text back)
    (each_whole true (map param_text front) fronts) (
      pair_part (pair (codes "profile-id") (decimal id)) h.profile,
      (
        pair_part (pair (codes "tier-flag") (decimal tier)) h.flag,
        (pair_part (pair (codes "level-id") (decimal level)) h.number, each_whole true (map param_text back) backs),
      ),
    ) in
    ap whole_format (parts_some (map param_text front) _ _ whole)
    ∙ (λ i. with_parts (says.there i) ts (cond (says.there i) (with_values (says.profile i) (says.flag i)
    (says.number i))
    no_format))
    ∙ parts_read true front (level_texts id tier level ++ map param_text back) start f
    ∙ level_parts id tier level (map param_text back) (fold with_part start front) h
    ∙ ap (λ l. with_parts true l (fold with_part start front)) (sym (append-nil (map param_text back)))
    ∙ parts_read true back [] (fold with_part start front) b
