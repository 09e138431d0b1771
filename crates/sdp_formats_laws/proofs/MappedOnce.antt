-- A section that lists plain rows maps each of their types once.
use Rattle.std.proofs.Common.{◌≡◌, ◌+◌, ℕ, Bool, true, false, not, cond, ◌&&◌, ◌||◌, ◌==◌, List, [], ◌∷◌, ◌++◌}
use Rattle.std.proofs.Common.{Option, Some, None, if◌then◌else◌, refl, sym, ◌∙◌, ap, arith}
use Rattle.std.proofs.Common.{subst}
use Rattle.std.specs.List.{count_by, list_all, list_any}
use Rattle.std.proofs.lemmas.Grind.{common_steps}
use Rattle.std.proofs.lemmas.List.Sums.{sum_by-append, sum_by-cons}
use Rattle.sdp_formats_values.specs.declared.param.FormatParam.{FormatParam}
use Rattle.sdp_formats_data.specs.Consistency.{are_mapped}
use Rattle.sdp_formats_data.specs.Consistency.{is_mapped, is_static, maps_type}
use Rattle.sdp_formats_rounds.specs.Laws.{is_among, is_distinct}
use Rattle.sdp_formats_rounds.specs.Types.{listed, types_of}
use Rattle.sdp_formats_rows.specs.Rows.{Row}
use Rattle.sdp_formats_section_rows.specs.Attributes.{all_feedback, attributes_of, feedback_line, feedback_lines}
use Rattle.sdp_formats_section_rows.specs.Attributes.{fmtp_of, is_used, params_in, red_lines, resend_lines}
use Rattle.sdp_formats_section_rows.specs.Attributes.{words_of}
use Rattle.sdp_formats_section_rows.specs.Maps.{map_of}
use Rattle.sdp_formats_data.specs.declared.media.MediaAttribute.{MediaAttribute}
use Rattle.sdp_formats_data.specs.declared.media.MediaAttribute.TheVariants as attribute
use Rattle.sdp_formats_laws.proofs.Lists.{any_past, both, neither, none_flat, or_yes}
use Rattle.sdp_formats_laws.proofs.MappedLemmas.{same_number}
use Rattle.sdp_formats_laws.proofs.Silent.{attributes_split}
use Rattle.sdp_formats_laws.specs.RowsBack.{attributes_in, names_type}
use Rattle.sdp_formats_rounds.specs.TypeLaws.{types_in}

-- how often a number is in a list
times : ℕ → List ℕ → ℕ
times t ts = count_by (λ u. u == t) ts

counted : {A : Type 0} (p : A → Bool) (x : A) (xs : List A) → count_by p (x ∷ xs) ≡ cond (p x) 1 0 + count_by p xs
counted p x xs = sum_by-cons (λ y. cond (p y) 1 0) x xs

counted_append : {A : Type 0} (p : A → Bool) (xs ys : List A) → count_by p (xs ++ ys) ≡ count_by p xs + count_by p ys
counted_append p xs ys = sum_by-append (λ y. cond (p y) 1 0) xs ys

none_counted : {A : Type 0} (p : A → Bool) (xs : List A) → list_any p xs ≡ false → count_by p xs ≡ 0
none_counted p [] e = refl
none_counted p (x ∷ xs) e =
    let s = neither (p x) (list_any p xs) e in
    counted p x xs ∙ (λ i. cond (s.0 i) 1 0 + none_counted p xs s.1 i)

-- a number of a list without repeats is there once
once : (ts : List ℕ) → is_distinct ts ≡ true → (t : ℕ) → is_among ts t ≡ true → times t ts ≡ 1
unfolding times
once [] d t h = cc
once (u ∷ ts) d t h =
    let s = both (not (is_among ts u)) (is_distinct ts) d in at s.0 (once ts s.1 t) (u == t) refl
  where
    at : not (is_among ts u) ≡ true → (is_among ts t ≡ true → times t ts ≡ 1) → (b : Bool) → (u == t) ≡ b
        → count_by (λ v. v == t) (u ∷ ts) ≡ 1
    at gone later true e =
        let none : is_among ts t ≡ false = grind (arith, common_steps) in
        counted (λ v. v == t) u ts ∙ (λ i. cond (e i) 1 0 + none_counted (λ v. v == t) ts none i)
    at gone later false e =
        let more : is_among ts t ≡ true = subst (λ b. (b || is_among ts t) ≡ true) e h in
        counted (λ v. v == t) u ts ∙ (λ i. cond (e i) 1 0 + later more i)

-- of the lines of a row one maps each of its types
line_maps_none : (row : Row) (t : ℕ) (f : _) → list_any (maps_type t) (feedback_line row f) ≡ false
unfolding feedback_line
line_maps_none row t f = at (is_used row f)
  where
    at : (b : Bool) → list_any (maps_type t) (if b then attribute.RtcpFb row.pt (words_of f) ∷ [] else []) ≡ false
    at true = refl
    at false = refl

format_maps_none : (pt t : ℕ) (ps : List FormatParam) → list_any (maps_type t) (fmtp_of pt ps) ≡ false
unfolding fmtp_of
format_maps_none pt t [] = refl
format_maps_none pt t (p ∷ ps) = refl

resend_maps : (row : Row) (t : ℕ) (o : Option ℕ) → count_by (maps_type t) (resend_lines row o) ≡ times t (listed o)
unfolding resend_lines times
resend_maps row t None = refl
resend_maps row t (Some u) = omega arith

red_maps : (row : Row) (t : ℕ) (o : Option ℕ) → count_by (maps_type t) (red_lines row o) ≡ times t (listed o)
unfolding red_lines times
red_maps row t None = refl
red_maps row t (Some u) = omega arith

row_maps : (row : Row) (t : ℕ) → count_by (maps_type t) (attributes_of row) ≡ times t (types_of row)
unfolding times
row_maps row t =
    let maps : MediaAttribute → Bool = maps_type t in
    let is : ℕ → Bool = λ u. u == t in
    let lines : List MediaAttribute = fmtp_of row.pt (params_in row.spec) in
    let resend : List MediaAttribute = resend_lines row row.resend in
    let red : List MediaAttribute = red_lines row row.red in
    let front = none_counted maps (feedback_lines row)
    (none_flat maps (feedback_line row) (line_maps_none row t) all_feedback) in
    let format = none_counted maps lines (format_maps_none row.pt t (params_in row.spec)) in
    let whole = ap (count_by maps) (attributes_split row)
    ∙ counted maps (attribute.RtpMap row.pt (map_of row.spec)) (feedback_lines row ++ (lines ++ (resend ++ red))) in
    omega (
      whole,
      counted_append maps (feedback_lines row) (lines ++ (resend ++ red)),
      front,
      counted_append maps lines (resend ++ red),
      format,
      counted_append maps resend red,
      resend_maps row t row.resend,
      red_maps row t row.red,
      counted is row.pt (listed row.resend ++ listed row.red),
      counted_append is (listed row.resend) (listed row.red),
      arith,
    )

rows_map : (rows : List Row) (t : ℕ) → count_by (maps_type t) (attributes_in rows) ≡ times t (types_in rows)
unfolding times
rows_map [] t = refl
rows_map (row ∷ rows) t = counted_append (maps_type t) (attributes_of row) (attributes_in rows)
    ∙ (λ i. row_maps row t i + rows_map rows t i)
    ∙ sym (counted_append (λ u. u == t) (types_of row) (types_in rows))

other_maps : (t : ℕ) (a : MediaAttribute) → names_type a ≡ false → maps_type t a ≡ false
other_maps t (attribute.RtpMap pt value) e = cc
other_maps t _ e = refl

all_among : (p : ℕ → Bool) (ts : List ℕ) → ((t : ℕ) → is_among ts t ≡ true → p t ≡ true) → list_all p ts ≡ true
all_among p [] h = refl
all_among p (t ∷ ts) h =
    ap (λ b. b && list_all p ts) (h t (ap (λ b. b || is_among ts t) (same_number t)))
    ∙ all_among p ts (λ u e. h u (ap (λ b. (t == u) || b) e ∙ or_yes (t == u)))

module _ (others : List MediaAttribute) (rows : List Row) (behind : List MediaAttribute)
    (silent : list_any names_type others ≡ false) (still : list_any names_type behind ≡ false)
    (distinct : is_distinct (types_in rows) ≡ true) where
  abbrev lines_of : List MediaAttribute
  lines_of = others ++ (attributes_in rows ++ behind)

  mapped_once : (t : ℕ) → is_among (types_in rows) t ≡ true → count_by (maps_type t) lines_of ≡ 1
  mapped_once t h =
      let maps : MediaAttribute → Bool = maps_type t in
      omega (
        counted_append maps others (attributes_in rows ++ behind),
        none_counted maps others (any_past names_type maps (other_maps t) others silent),
        counted_append maps (attributes_in rows) behind,
        none_counted maps behind (any_past names_type maps (other_maps t) behind still),
        rows_map rows t,
        once (types_in rows) distinct t h,
        arith,
      )

  pub all_mapped : are_mapped lines_of (types_in rows) ≡ true
  all_mapped = all_among (is_mapped lines_of) (types_in rows) (λ t h.
      (λ i. (mapped_once t h i == 1) || ((mapped_once t h i == 0) && is_static t)))
