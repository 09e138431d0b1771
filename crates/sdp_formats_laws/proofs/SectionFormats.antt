-- The format that a section gives a payload type.
use Rattle.std.proofs.Common.{◌≡◌, ◌≢◌, ◌⊎◌, inl, inr, ◌↔◌, ℕ, Bool, true, false, ◌||◌, ◌&&◌, ◌==◌, List, [], ◌∷◌}
use Rattle.std.proofs.Common.{◌++◌, Option, Some, None, if◌then◌else◌, refl, sym, ◌∙◌, ap, subst}
use Rattle.std.specs.Prelude.{fold}
use Rattle.std.specs.List.{cons_option, list_any}
use Rattle.std.specs.Option.{option_map}
use Rattle.std.proofs.lemmas.Bool.{cases_Bool, false≢true}
use Rattle.std.proofs.lemmas.List.Folds.{list_any-append}
use Rattle.std.proofs.lemmas.List.Sums.{fold-append}
use Rattle.media_types.specs.Codecs.{is_tele_codec}
use Rattle.media_types.specs.declared.codec.Codec.{Codec}
use Rattle.media_types.specs.declared.codec.Codec.TheVariants.{AmrWb, Tele}
use Rattle.sdp_formats_rows.specs.Formats.{no_format}
use Rattle.sdp_formats_rows.specs.declared.format.FormatParams.{FormatParams}
use Rattle.sdp_formats_values.specs.declared.param.FormatParam.{FormatParam}
use Rattle.sdp_formats_values.specs.declared.param.FormatParam.TheVariants as param
use Rattle.sdp_formats_rows.specs.Codecs.{is_codec}
use Rattle.sdp_formats_section_rows.specs.Given.{events_after, events_in, format_given, is_declined, is_unsupported}
use Rattle.sdp_formats_section_rows.specs.Given.{most_of, values_for, with_attribute, with_events}
use Rattle.sdp_formats_rows.specs.OneParam.{with_codec_param}
use Rattle.sdp_formats_section_rows.specs.Given.{with_line}
use Rattle.sdp_formats_data.specs.declared.media.MediaAttribute.{MediaAttribute}
use Rattle.sdp_formats_data.specs.declared.media.MediaAttribute.TheVariants as attribute
use Rattle.sdp_formats_laws.proofs.AnyMember.{any_in, both, in_any}
use Rattle.sdp_formats_laws.proofs.LastParameters.{all_last, one_format}
use Rattle.sdp_formats_rounds.specs.Members.{IsIn}
use Rattle.sdp_formats_laws.specs.SectionFormats.{FormatsAreOfSections, IsGiven, IsOneRangeTo}
use Rattle.sdp_formats_laws.specs.SectionFormats.{IsRangeTo, IsUnsupported, line_of, lines_of}
use Rattle.sdp_formats_laws.specs.SectionFormats.{parameters_in}

-- the parameters of the lines
line_values : (pt : ℕ) (a : MediaAttribute) (lines : List (List FormatParam))
    → parameters_in (cons_option (line_of pt a) lines) ≡ values_for pt a ++ parameters_in lines
line_values pt (attribute.Fmtp other values) lines = at (other == pt)
  where
    at : (b : Bool) → parameters_in (cons_option (if b then Some values else None) lines)
        ≡ (if b then values else []) ++ parameters_in lines
    at true = refl
    at false = refl
line_values pt _ lines = refl

put_in : (pt : ℕ) (f : FormatParams) (attrs : List MediaAttribute)
    → fold (with_attribute pt) f attrs ≡ fold with_codec_param f (parameters_in (lines_of pt attrs))
unfolding with_attribute
put_in pt f [] = refl
put_in pt f (a ∷ attrs) =
    put_in pt (fold with_codec_param f (values_for pt a)) attrs
    ∙ sym (fold-append with_codec_param f (values_for pt a) (parameters_in (lines_of pt attrs)))
    ∙ ap (fold with_codec_param f) (sym (line_values pt a (lines_of pt attrs)))

declined : (pt : ℕ) (attrs : List MediaAttribute)
    → list_any (is_declined pt) attrs ≡ list_any is_unsupported (parameters_in (lines_of pt attrs))
unfolding is_declined
declined pt [] = refl
declined pt (a ∷ attrs) =
    ap (λ b. list_any is_unsupported (values_for pt a) || b) (declined pt attrs)
    ∙ sym (list_any-append is_unsupported (values_for pt a) (parameters_in (lines_of pt attrs)))
    ∙ ap (list_any is_unsupported) (sym (line_values pt a (lines_of pt attrs)))

-- the range of a line
abbrev Ranges : List FormatParam → Type 0
Ranges line = ((most : ℕ) × (range : FormatParam) × (line ≡ range ∷ []) × IsRangeTo most range
    × (events_in line ≡ Some most))
    ⊎ (((most : ℕ) (range : FormatParam) → line ≡ range ∷ [] → IsRangeTo most range → ⊥) × (events_in line ≡ None))

ranges : (line : List FormatParam) → Ranges line
ranges (param.BareRange most ∷ []) = inl (most, param.BareRange most, refl, inl refl, refl)
ranges (param.TelephoneEvents most ∷ []) = inl (most, param.TelephoneEvents most, refl, inr refl, refl)
ranges _ = inr ((λ most range e i. elim i [ inl s ↦ cc | inr s ↦ cc ]), refl)

-- how far the lines' events go
abbrev most_in : List (List FormatParam) → Option ℕ
most_in [] = Some 16
most_in (line ∷ []) = events_in line
most_in (line ∷ more ∷ lines) = None

-- the lines one by one, from any start
module _ (pt : ℕ) where
  line_events : (e : _) (a : MediaAttribute) (lines : List (List FormatParam))
      → fold (λ e line. with_line e (events_in line)) (events_after pt e a) lines
      ≡ fold (λ e line. with_line e (events_in line)) e (cons_option (line_of pt a) lines)
  unfolding events_after
  line_events e (attribute.Fmtp other values) lines = at (other == pt)
    where
      at : (b : Bool)
          → fold (λ e line. with_line e (events_in line)) (if b then with_line e (events_in values) else e) lines
          ≡ fold (λ e line. with_line e (events_in line)) e (cons_option (if b then Some values else None) lines)
      at true = refl
      at false = refl
  line_events e _ lines = refl

  all_events : (e : _) (attrs : List MediaAttribute)
      → fold (events_after pt) e attrs ≡ fold (λ e line. with_line e (events_in line)) e (lines_of pt attrs)
  all_events e [] = refl
  all_events e (a ∷ attrs) = all_events (events_after pt e a) attrs ∙ line_events e a (lines_of pt attrs)

stays : (e : _) → ((o : Option ℕ) → with_line e o ≡ e) → (lines : List (List FormatParam))
    → fold (λ e line. with_line e (events_in line)) e lines ≡ e
stays e h [] = refl
stays e h (line ∷ lines) =
    ap (λ s. fold (λ e line. with_line e (events_in line)) s lines) (h (events_in line)) ∙ stays e h lines

events_most : (e : _) → most_of e ≡ Some 16 → most_of (with_line e None) ≡ None
    → ((most : ℕ) → most_of (with_line e (Some most)) ≡ Some most)
    → ((most : ℕ) (o : Option ℕ) → with_line (with_line e (Some most)) o ≡ with_line e None)
    → ((o : Option ℕ) → with_line (with_line e None) o ≡ with_line e None) → (lines : List (List FormatParam))
    → most_of (fold (λ e line. with_line e (events_in line)) e lines) ≡ most_in lines
events_most e first none one two last [] = first
events_most e first none one two last (line ∷ []) = at (events_in line)
  where
    at : (o : Option ℕ) → most_of (with_line e o) ≡ o
    at None = none
    at (Some most) = one most
events_most e first none one two last (line ∷ more ∷ lines) =
    ap (λ s. most_of (fold (λ e line. with_line e (events_in line)) s lines)) (at (events_in line))
    ∙ ap most_of (stays (with_line e None) last lines) ∙ none
  where
    at : (o : Option ℕ) → with_line (with_line e o) (events_in more) ≡ with_line e None
    at None = last (events_in more)
    at (Some most) = two most (events_in more)

tele_given : (pt : ℕ) (attrs : List MediaAttribute)
    → format_given Tele pt attrs ≡ option_map with_events (most_in (lines_of pt attrs))
tele_given pt attrs =
    ap (λ e. option_map with_events (most_of e)) (all_events pt _ attrs)
    ∙ ap (option_map with_events)
    (events_most _ refl refl (λ most. refl) (λ most o. refl) (λ o. refl) (lines_of pt attrs))

-- the lines are none, one range, or others
abbrev Kinds : List (List FormatParam) → Type 0
Kinds lines = ((lines ≡ []) × (most_in lines ≡ Some 16))
    ⊎ (((most : ℕ) × IsOneRangeTo most lines × (most_in lines ≡ Some most))
    ⊎ ((lines ≢ []) × ((most : ℕ) → IsOneRangeTo most lines → ⊥) × (most_in lines ≡ None)))

kinds : (lines : List (List FormatParam)) → Kinds lines
kinds [] = inl (refl, refl)
kinds (line ∷ []) = elim (ranges line) [
  | inl r ↦ inr (inl (r.0, (r.1, (λ i. r.2 i ∷ []), r.3), r.4))
  | inr n ↦ inr (inr ((λ e. cc), (λ most o. n.0 most o.0 (let e = o.1 in cc) o.2), n.1))
]
kinds (line ∷ more ∷ lines) = inr (inr ((λ e. cc), (λ most o. (let e = o.1 in cc)), refl))

same_end : (most other : ℕ) (p q : FormatParam) → p ≡ q → IsRangeTo most p → IsRangeTo other q → most ≡ other
same_end most other p q e (inl i) (inl j) = cc
same_end most other p q e (inl i) (inr j) = absurd cc
same_end most other p q e (inr i) (inl j) = absurd cc
same_end most other p q e (inr i) (inr j) = cc

same_param : (p q : FormatParam) → (p ∷ []) ∷ [] ≡ (q ∷ []) ∷ [] → p ≡ q
same_param p q e = cc

one_end : (lines : List (List FormatParam)) (most other : ℕ) → IsOneRangeTo most lines → IsOneRangeTo other lines
    → most ≡ other
one_end lines most other h k =
    same_end most other h.0 k.0 (same_param h.0 k.0 (sym h.1 ∙ k.1)) h.2 k.2

-- codecs
not_tele : (c : Codec) → c ≢ Tele → is_tele_codec c ≡ false
not_tele Tele n = absurd (n refl)
not_tele _ n = refl

which : (c : Codec) → (c ≡ Tele) ⊎ (c ≢ Tele)
which Tele = inl refl
which _ = inr (λ e. cc)

amr_is : (c : Codec) → is_codec c AmrWb ≡ true → c ≡ AmrWb
amr_is AmrWb e = refl
amr_is _ e = cc

param_is : (p : FormatParam) → is_unsupported p ≡ true → p ≡ param.AmrWbUnsupported
param_is param.AmrWbUnsupported e = refl
param_is _ e = absurd (false≢true e)

past : {A : Type 0} (b : Bool) (x y : A) → b ≡ false → (if b then x else y) ≡ y
past true x y e = absurd (false≢true (sym e))
past false x y e = refl

abbrev is_refused : Codec → List FormatParam → Bool
is_refused c params = is_codec c AmrWb && list_any is_unsupported params

refused : (c : Codec) (params : List FormatParam) → (is_refused c params ≡ true) ↔ IsUnsupported c params
refused c params = (
  (λ e. let b = both (is_codec c AmrWb) (list_any is_unsupported params) e in
      let m = any_in is_unsupported params b.1 in
      (amr_is c b.0, subst (λ p. IsIn p params) (param_is m.0 m.2) m.1)),
  λ u. ap (λ c. is_refused c params) u.0 ∙ in_any is_unsupported params param.AmrWbUnsupported u.1 refl,
)

module _ (pt : ℕ) (attrs : List MediaAttribute) where
  abbrev lines : List (List FormatParam)
  lines = lines_of pt attrs

  abbrev params : List FormatParam
  params = parameters_in lines

  other_given : (c : Codec) → c ≢ Tele → format_given c pt attrs
      ≡ (if is_refused c params then None else Some (fold with_codec_param no_format params))
  other_given c n =
      past (is_tele_codec c) _ _ (not_tele c n)
      ∙ (λ i. if is_codec c AmrWb && declined pt attrs i then None else Some (put_in pt no_format attrs i))

  tele_is : (given : Option FormatParams) → given ≡ option_map with_events (most_in lines)
      → IsGiven Tele lines given
  tele_is given e = record {
    no_line = λ _ n. e ∙ ap (λ l. option_map with_events (most_in l)) n;
    one_range = λ _ most o. e ∙ ap (option_map with_events) (at most o (kinds lines));
    other_lines = λ _ n m. e ∙ ap (option_map with_events) (none n m (kinds lines));
    unsupported = λ u. absurd (let same : Tele ≡ AmrWb = u.0 in cc);
    otherwise = λ n. absurd (n refl);
  }
    where
      at : (most : ℕ) → IsOneRangeTo most lines → Kinds lines → most_in lines ≡ Some most
      at most o (inl k) = absurd (let e = sym o.1 ∙ k.0 in cc)
      at most o (inr (inl k)) = k.2 ∙ ap Some (one_end lines k.0 most k.1 o)
      at most o (inr (inr k)) = absurd (k.1 most o)

      none : lines ≢ [] → ((most : ℕ) → IsOneRangeTo most lines → ⊥) → Kinds lines → most_in lines ≡ None
      none n m (inl k) = absurd (n k.0)
      none n m (inr (inl k)) = absurd (m k.0 k.1)
      none n m (inr (inr k)) = k.2

  other_is : (c : Codec) → c ≢ Tele → (given : Option FormatParams) → (b : Bool)
      → is_refused c params ≡ b
      → given ≡ (if b then None else Some (fold with_codec_param no_format params))
      → IsGiven c lines given
  other_is c n given true r e = record {
    no_line = λ t. absurd (n t);
    one_range = λ t. absurd (n t);
    other_lines = λ t. absurd (n t);
    unsupported = λ u. e;
    otherwise = λ _ s. absurd (s ((refused c params).0 r));
  }
  other_is c n given false r e = record {
    no_line = λ t. absurd (n t);
    one_range = λ t. absurd (n t);
    other_lines = λ t. absurd (n t);
    unsupported = λ u. absurd (false≢true (sym r ∙ (refused c params).1 u));
    otherwise = λ _ s. (fold with_codec_param no_format params, e, all_last params);
  }

  format_is : (c : Codec) → IsGiven c lines (format_given c pt attrs)
  format_is c = elim (which c) [
    | inl t ↦ subst (λ d. IsGiven d lines (format_given d pt attrs)) (sym t)
        (tele_is (format_given Tele pt attrs) (tele_given pt attrs))
    | inr n ↦ other_is c n (format_given c pt attrs) (is_refused c params) refl (other_given c n)
  ]

  -- there is one
  one_given : (c : Codec) (given other : Option FormatParams) → IsGiven c lines given → IsGiven c lines other
      → given ≡ other
  one_given c given other h k = elim (which c) [
    | inl t ↦ by_lines t (kinds lines)
    | inr n ↦ by_params n (cases_Bool (is_refused c params))
  ]
    where
      by_lines : c ≡ Tele → Kinds lines → given ≡ other
      by_lines t (inl e) = h.no_line t e.0 ∙ sym (k.no_line t e.0)
      by_lines t (inr (inl o)) = h.one_range t o.0 o.1 ∙ sym (k.one_range t o.0 o.1)
      by_lines t (inr (inr n)) = h.other_lines t n.0 n.1 ∙ sym (k.other_lines t n.0 n.1)

      by_params : c ≢ Tele → (is_refused c params ≡ true) ⊎ (is_refused c params ≡ false) → given ≡ other
      by_params n (inl e) = let u = (refused c params).0 e in h.unsupported u ∙ sym (k.unsupported u)
      by_params n (inr e) =
          let s : IsUnsupported c params → ⊥ = λ u. false≢true (sym e ∙ (refused c params).1 u) in
          let f = h.otherwise n s in let g = k.otherwise n s in
          f.1 ∙ ap Some (one_format params f.0 g.0 f.2 g.2) ∙ sym g.1

pub formats_of_sections : FormatsAreOfSections
formats_of_sections c pt attrs given = (
  (λ e. subst (IsGiven c (lines_of pt attrs)) (sym e) (format_is pt attrs c)),
  λ h. one_given pt attrs c given (format_given c pt attrs) h (format_is pt attrs c),
)
