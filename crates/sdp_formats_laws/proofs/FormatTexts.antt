-- What is read of the text of parameters.
use Rattle.std.proofs.Common.{◌≡◌, ◌<◌, ◌^◌, ℕ, Bool, true, false, ◌||◌, cond, List, [], ◌∷◌, ◌++◌, map}
use Rattle.std.proofs.Common.{codes, decimal, Option, Some, None, refl, sym, ◌∙◌, ap, arith}
use Rattle.std.proofs.Common.{append-nil}
use Rattle.std.specs.Prelude.{fold}
use Rattle.std.specs.List.{list_any}
use Rattle.std.specs.Str.{trim, trim_start, trim_end, chars}
use Rattle.sdp_formats_grammar.specs.Cuts.{parts-at, parts-whole}
use Rattle.sdp_formats_grammar.specs.Joined.{joined}
use Rattle.sdp_formats_grammar.specs.Split.{Lacks, parts}
use Rattle.sdp_formats_rows.specs.Formats.{format_of}
use Rattle.sdp_formats_rows.specs.LineValues.{field_value, gives_level, has_level, is_key, last_value}
use Rattle.sdp_formats_rows.specs.Formats.{level_format}
use Rattle.sdp_formats_rows.specs.Formats.{no_format, with_parts, with_values}
use Rattle.sdp_formats_rows.specs.declared.format.FormatParams.{FormatParams}
use Rattle.sdp_formats_values.specs.Keys.{key_named, is_name_of}
use Rattle.sdp_formats_values.specs.Params.{is_level}
use Rattle.sdp_formats_values.specs.PrintedParameters.{pair_text, param_text}
use Rattle.sdp_formats_values.specs.declared.key.Key.{Key}
use Rattle.sdp_formats_values.specs.declared.key.Key.TheVariants as key
use Rattle.sdp_formats_values.specs.declared.pairs.Pair.{Pair}
use Rattle.sdp_formats_values.specs.declared.param.FormatParam.{FormatParam}
use Rattle.sdp_formats_values.specs.declared.param.FormatParam.TheVariants as param
use Rattle.sdp_formats_laws.proofs.FormatFields.{IsField, IsPart, field_level, field_named}
use Rattle.sdp_formats_laws.proofs.FormatFields.{keyed_field, part_read, range_field, with_part}
use Rattle.sdp_formats_laws.proofs.Numerals.{decimal_value}
use Rattle.sdp_formats_laws.proofs.Printed.{lacks_both}
use Rattle.sdp_formats_laws.specs.Keyed.{pair_of}
use Rattle.sdp_formats_rounds.specs.Members.{IsEach}

-- parts with semicolons between
pub each_part : (t : List ℕ) (ts : List (List ℕ)) → IsEach (Lacks 59) (t ∷ ts)
    → parts 59 (joined (codes ";") (t ∷ ts)) ≡ t ∷ ts
each_part t [] h = ap (parts 59) (append-nil t) ∙ parts-whole 59 t h.0
each_part t (u ∷ ts) h =
    parts-at 59 t (joined (codes ";") (u ∷ ts)) h.0 ∙ ap (λ l. t ∷ l) (each_part u ts h.1)

-- parameters that give no level are passed over where a level is looked for
pub pair_part : (q : Pair) → IsField q → Lacks 59 (pair_text q)
pair_part q h = lacks_both 59 q.key (61 ∷ q.value) h.key_part ((λ e. cc), h.value_part)

same_level : (o : Option Key) → has_level o ≡ is_level o
same_level None = refl
same_level (Some k) = refl

-- what a part of a parameter is: its text has no semicolon, and gives no level
pub record IsPassed (last : Bool) (t : List ℕ) : Type 0 where
  pub whole : Lacks 59 t
  pub no_level : gives_level t ≡ false
  pub no_profile : last ≡ true → (before : Option (List ℕ)) → field_value key.ProfileId (parts 61 t) before ≡ before
  pub no_tier : (before : Option (List ℕ)) → field_value key.TierFlag (parts 61 t) before ≡ before
  pub no_level_id : (before : Option (List ℕ)) → field_value key.LevelId (parts 61 t) before ≡ before

other_key : (k : Key) (q : Pair) → IsField q → is_key k (key_named q.key) ≡ false → (before : Option (List ℕ))
    → field_value k (parts 61 (pair_text q)) before ≡ before
other_key k q h e before = field_named k q before h ∙ ap (λ b. cond b (Some q.value) before) e

passed_pair : (last : Bool) (q : Pair) → IsField q → is_level (key_named q.key) ≡ false
    → (last ≡ true → is_key key.ProfileId (key_named q.key) ≡ false)
    → is_key key.TierFlag (key_named q.key) ≡ false → is_key key.LevelId (key_named q.key) ≡ false
    → IsPassed last (pair_text q)
passed_pair last q h none profile tier level = record {
  whole = pair_part q h;
  no_level = field_level q h ∙ same_level (key_named q.key) ∙ none;
  no_profile = λ e. other_key key.ProfileId q h (profile e);
  no_tier = other_key key.TierFlag q h tier;
  no_level_id = other_key key.LevelId q h level;
}

apart_last : (last : Bool) → last ≡ false → last ≡ true → is_key key.ProfileId (Some key.ProfileId) ≡ false
apart_last true e k = absurd (cc)
apart_last false e k = absurd (cc)

range_passed : (last : Bool) (v : ℕ) → v < 2 ^ 8 → IsPassed last (codes "0-" ++ decimal v)
range_passed last v h = record {
  whole = ((λ e. cc), ((λ e. cc), (decimal_value v (omega (h, arith))).0.2));
  no_level = ap (λ (ps : List (List ℕ)). elim ps [
    | [] ↦ false
    | word ∷ more ↦ elim more [
      | [] ↦ false
      | value ∷ others
          ↦ has_level (key_named (trim word))
    ]
  ]) (range_field v h);
  no_profile = λ e before. ap (λ ps. field_value key.ProfileId ps before) (range_field v h);
  no_tier = λ before. ap (λ ps. field_value key.TierFlag ps before) (range_field v h);
  no_level_id = λ before. ap (λ ps. field_value key.LevelId ps before) (range_field v h);
}

pub part_passed : (last : Bool) (p : FormatParam) → IsPart last p → IsPassed last (param_text p)
unfolding param_text key_named is_name_of
part_passed last (param.MinPTime v) h = passed_pair last (pair_of (param.MinPTime v))
    (keyed_field (param.MinPTime v) h) refl (λ e. refl) refl refl
part_passed last (param.Stereo v) h = passed_pair last (pair_of (param.Stereo v))
    (keyed_field (param.Stereo v) tt) refl (λ e. refl) refl refl
part_passed last (param.SpropStereo v) h = passed_pair last (pair_of (param.SpropStereo v))
    (keyed_field (param.SpropStereo v) tt) refl (λ e. refl) refl refl
part_passed last (param.UseInbandFec v) h = passed_pair last (pair_of (param.UseInbandFec v))
    (keyed_field (param.UseInbandFec v) tt) refl (λ e. refl) refl refl
part_passed last (param.UseDtx v) h = passed_pair last (pair_of (param.UseDtx v))
    (keyed_field (param.UseDtx v) tt) refl (λ e. refl) refl refl
part_passed last (param.LevelAsymmetryAllowed v) h = passed_pair last (pair_of (param.LevelAsymmetryAllowed v))
    (keyed_field (param.LevelAsymmetryAllowed v) tt) refl (λ e. refl) refl refl
part_passed last (param.PacketizationMode v) h = passed_pair last (pair_of (param.PacketizationMode v))
    (keyed_field (param.PacketizationMode v) h) refl (λ e. refl) refl refl
part_passed last (param.ProfileLevelId v) h = passed_pair last (pair_of (param.ProfileLevelId v))
    (keyed_field (param.ProfileLevelId v) h) refl (λ e. refl) refl refl
part_passed last (param.ProfileId v) h = passed_pair last (pair_of (param.ProfileId v))
    (keyed_field (param.ProfileId v) h.0) refl (apart_last last h.1) refl refl
part_passed last (param.Profile v) h = passed_pair last (pair_of (param.Profile v))
    (keyed_field (param.Profile v) h) refl (λ e. refl) refl refl
part_passed last (param.LevelIdx v) h = passed_pair last (pair_of (param.LevelIdx v))
    (keyed_field (param.LevelIdx v) h) refl (λ e. refl) refl refl
part_passed last (param.Tier v) h = passed_pair last (pair_of (param.Tier v))
    (keyed_field (param.Tier v) h) refl (λ e. refl) refl refl
part_passed last (param.SpropMaxDonDiff v) h = passed_pair last (pair_of (param.SpropMaxDonDiff v))
    (keyed_field (param.SpropMaxDonDiff v) h) refl (λ e. refl) refl refl
part_passed last (param.OctetAlign v) h = passed_pair last (pair_of (param.OctetAlign v))
    (keyed_field (param.OctetAlign v) tt) refl (λ e. refl) refl refl
part_passed last (param.ModeSet v) h = passed_pair last (pair_of (param.ModeSet v))
    (keyed_field (param.ModeSet v) h) refl (λ e. refl) refl refl
part_passed last (param.TelephoneEvents v) h = range_passed last v h
part_passed last _ h = absurd h

-- a list of parameters in front of other parts
pub each_passed : (last : Bool) (ps : List FormatParam) → IsEach (IsPart last) ps
    → IsEach (IsPassed last) (map param_text ps)
each_passed last [] h = tt
each_passed last (p ∷ ps) h = (part_passed last p h.0, each_passed last ps h.1)

pub each_whole : (last : Bool) (ts : List (List ℕ)) → IsEach (IsPassed last) ts → IsEach (Lacks 59) ts
each_whole last [] h = tt
each_whole last (t ∷ ts) h = (h.0.whole, each_whole last ts h.1)

pub any_past : (last : Bool) (ts more : List (List ℕ)) → IsEach (IsPassed last) ts
    → list_any gives_level (ts ++ more) ≡ list_any gives_level more
any_past last [] more h = refl
any_past last (t ∷ ts) more h = ap (λ b. b || list_any gives_level (ts ++ more)) h.0.no_level
    ∙ any_past last ts more h.1

pub profile_past : (ts more : List (List ℕ)) (before : Option (List ℕ)) → IsEach (IsPassed true) ts
    → last_value key.ProfileId (ts ++ more) before ≡ last_value key.ProfileId more before
profile_past [] more before h = refl
profile_past (t ∷ ts) more before h =
    ap (last_value key.ProfileId (ts ++ more)) (h.0.no_profile refl before) ∙ profile_past ts more before h.1

pub tier_past : (ts more : List (List ℕ)) (before : Option (List ℕ)) → IsEach (IsPassed true) ts
    → last_value key.TierFlag (ts ++ more) before ≡ last_value key.TierFlag more before
tier_past [] more before h = refl
tier_past (t ∷ ts) more before h =
    ap (last_value key.TierFlag (ts ++ more)) (h.0.no_tier before) ∙ tier_past ts more before h.1

pub level_past : (ts more : List (List ℕ)) (before : Option (List ℕ)) → IsEach (IsPassed true) ts
    → last_value key.LevelId (ts ++ more) before ≡ last_value key.LevelId more before
level_past [] more before h = refl
level_past (t ∷ ts) more before h =
    ap (last_value key.LevelId (ts ++ more)) (h.0.no_level_id before) ∙ level_past ts more before h.1

pub parts_read : (last : Bool) (ps : List FormatParam) (more : List (List ℕ)) (f : FormatParams)
    → IsEach (IsPart last) ps
    → with_parts last (map param_text ps ++ more) f ≡ with_parts last more (fold with_part f ps)
parts_read last [] more f h = refl
parts_read last (p ∷ ps) more f h =
    ap (with_parts last (map param_text ps ++ more)) (part_read last p f h.0)
    ∙ parts_read last ps more (with_part f p) h.1

-- a line of such parameters alone
abbrev pub whole_format : List (List ℕ) → FormatParams
whole_format ps = with_parts (list_any gives_level ps) ps (level_format ps)

pub line_read : (ps : List FormatParam) → IsEach (IsPart false) ps
    → format_of (joined (codes ";") (map param_text ps)) ≡ fold with_part no_format ps
unfolding format_of trim_start trim_end chars
line_read [] h = refl
line_read (p ∷ ps) h =
    let ts = map param_text (p ∷ ps) in
    let each = each_passed false (p ∷ ps) h in
    let none : list_any gives_level ts ≡ false =
    ap (list_any gives_level) (sym (append-nil ts)) ∙ any_past false ts [] each in
    ap whole_format (each_part (param_text p) (map param_text ps) (each_whole false ts each))
    ∙ ap (λ b. with_parts b ts (cond b (with_values (last_value key.ProfileId ts None) (last_value key.TierFlag ts None)
    (last_value key.LevelId ts None)) no_format)) none
    ∙ ap (λ l. with_parts false l no_format) (sym (append-nil ts))
    ∙ parts_read false (p ∷ ps) [] no_format h
