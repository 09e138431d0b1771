-- In a section that lists plain rows each type retransmits one other at most.
use Rattle.std.proofs.Common.{◌≡◌, ℕ, Bool, true, false, not, ◌&&◌, ◌||◌, ◌==◌, List, [], ◌∷◌, ◌++◌}
use Rattle.std.proofs.Common.{Option, Some, None, if◌then◌else◌, refl, ◌∙◌, ap, arith}
use Rattle.std.specs.List.{list_all, list_any}
use Rattle.std.proofs.lemmas.Grind.{common_steps}
use Rattle.sdp_formats_values.specs.declared.param.FormatParam.{FormatParam}
use Rattle.sdp_formats_values.specs.declared.param.FormatParam.TheVariants as param
use Rattle.sdp_formats_data.specs.Consistency.{apt_differs, apts_agree, apts_agree_with}
use Rattle.sdp_formats_data.specs.Consistency.{attribute_agrees, gives_apt}
use Rattle.sdp_formats_data.specs.Consistency.{values_agree}
use Rattle.sdp_formats_rounds.specs.Laws.{is_among, is_distinct}
use Rattle.sdp_formats_rounds.specs.Types.{listed, types_of}
use Rattle.sdp_formats_rounds.proofs.Apart.{among_append}
use Rattle.sdp_formats_rows.specs.Rows.{Row}
use Rattle.sdp_formats_section_rows.specs.Attributes.{all_feedback, attributes_of, feedback_line, feedback_lines}
use Rattle.sdp_formats_section_rows.specs.Attributes.{fmtp_of, is_used, params_in, red_lines, resend_lines}
use Rattle.sdp_formats_section_rows.specs.Attributes.{words_of}
use Rattle.sdp_formats_data.specs.declared.media.MediaAttribute.{MediaAttribute}
use Rattle.sdp_formats_data.specs.declared.media.MediaAttribute.TheVariants as attribute
use Rattle.sdp_formats_laws.proofs.FormatsLemmas.{is_other}
use Rattle.sdp_formats_laws.proofs.Links.{params_other}
use Rattle.sdp_formats_laws.proofs.Lists.{all_append, all_flat, all_past, any_past, both, or_yes}
use Rattle.sdp_formats_laws.proofs.MappedLemmas.{same_number}
use Rattle.sdp_formats_laws.proofs.Silent.{attributes_split, others_silent, row_silent, rows_silent, tells}
use Rattle.sdp_formats_rounds.specs.Members.{IsEach}
use Rattle.sdp_formats_laws.specs.RowsBack.{attributes_in, names_type}
use Rattle.sdp_formats_rounds.specs.TypeLaws.{types_in}

each_as : {A : Type 0} {P Q : A → Type 0} → ((a : A) → P a → Q a) → (xs : List A) → IsEach P xs → IsEach Q xs
each_as f [] h = tt
each_as f (x ∷ xs) h = (f x h.0, each_as f xs h.1)

not_both : (b : Bool) → not b ≡ true → b ≡ true → ⊥
not_both true e f = cc
not_both false e f = cc

-- what is in the front of a list without repeats isn't in its back
apart : (xs ys : List ℕ) → is_distinct (xs ++ ys) ≡ true → (t : ℕ) → is_among xs t ≡ true → is_among ys t ≡ false
apart [] ys e t h = cc
apart (x ∷ xs) ys e t h =
    let s = both (not (is_among (xs ++ ys) x)) (is_distinct (xs ++ ys)) e in
    let a = among_append x xs ys in
    let ih : is_among xs t ≡ true → is_among ys t ≡ false = apart xs ys s.1 t in
    grind (arith, common_steps)

later_distinct : (xs ys : List ℕ) → is_distinct (xs ++ ys) ≡ true → is_distinct ys ≡ true
later_distinct [] ys e = e
later_distinct (x ∷ xs) ys e =
    later_distinct xs ys (both (not (is_among (xs ++ ys) x)) (is_distinct (xs ++ ys)) e).1

apart_back : (xs ys : List ℕ) → is_distinct (xs ++ ys) ≡ true → (t : ℕ) → is_among ys t ≡ true
    → is_among xs t ≡ false
apart_back xs ys e t h = at (is_among xs t) refl
  where
    at : (b : Bool) → is_among xs t ≡ b → is_among xs t ≡ false
    at true f = absurd (not_both (is_among ys t) (ap not (apart xs ys e t f)) h)
    at false f = f

-- lines that agree that a type retransmits this one
silent_agrees : (t apt : ℕ) (a : MediaAttribute) → tells t a ≡ false → attribute_agrees t apt a ≡ true
silent_agrees t apt (attribute.Fmtp other values) e = ap (λ b. not b || not (list_any (apt_differs apt) values)) e
silent_agrees t apt _ e = refl

line_agrees : (row : Row) (t apt : ℕ) (f : _) → list_all (attribute_agrees t apt) (feedback_line row f) ≡ true
unfolding feedback_line
line_agrees row t apt f = at (is_used row f)
  where
    at : (b : Bool) → list_all (attribute_agrees t apt) (if b then attribute.RtcpFb row.pt (words_of f) ∷ [] else [])
        ≡ true
    at true = refl
    at false = refl

other_same : (apt : ℕ) (p : FormatParam) → is_other p ≡ false → apt_differs apt p ≡ false
other_same apt (param.Apt other) e = cc
other_same apt _ e = refl

format_agrees : (pt t apt : ℕ) (ps : List FormatParam) → list_any is_other ps ≡ false
    → list_all (attribute_agrees t apt) (fmtp_of pt ps) ≡ true
unfolding fmtp_of
format_agrees pt t apt [] e = refl
format_agrees pt t apt (p ∷ ps) e =
    ap (λ b. (not (pt == t) || not b) && true) (any_past is_other (apt_differs apt) (other_same apt) (p ∷ ps) e)
    ∙ ap (λ b. b && true) (or_yes (not (pt == t)))

resend_agrees : (row : Row) (t : ℕ) (o : Option ℕ) → list_all (attribute_agrees t row.pt) (resend_lines row o) ≡ true
unfolding resend_lines
resend_agrees row t None = refl
resend_agrees row t (Some u) =
    ap (λ b. (not (u == t) || not (not b || false)) && true) (same_number row.pt)
    ∙ ap (λ b. b && true) (or_yes (not (u == t)))

red_agrees : (row : Row) (t apt : ℕ) (o : Option ℕ) → list_all (attribute_agrees t apt) (red_lines row o) ≡ true
unfolding red_lines
red_agrees row t apt None = refl
red_agrees row t apt (Some u) = ap (λ b. b && true) (or_yes (not (u == t)))

own_agrees : (row : Row) (t : ℕ) → list_all (attribute_agrees t row.pt) (attributes_of row) ≡ true
own_agrees row t =
    let agrees : MediaAttribute → Bool = attribute_agrees t row.pt in
    ap (list_all agrees) (attributes_split row)
    ∙ all_append agrees (feedback_lines row) _
    (all_flat agrees (feedback_line row) (line_agrees row t row.pt) all_feedback)
    (all_append agrees (fmtp_of row.pt (params_in row.spec)) _
    (format_agrees row.pt t row.pt (params_in row.spec) (params_other row.spec))
    (all_append agrees (resend_lines row row.resend) (red_lines row row.red)
    (resend_agrees row t row.resend) (red_agrees row t row.pt row.red)))

resends : (row : Row) (t : ℕ) → row.resend ≡ Some t → is_among (types_of row) t ≡ true
resends row t e =
    ap (λ o. (row.pt == t) || is_among (listed o ++ listed row.red) t) e
    ∙ ap (λ b. (row.pt == t) || (b || is_among (listed row.red) t)) (same_number t) ∙ or_yes (row.pt == t)

-- so do those of all rows, whose types are distinct
abbrev IsAgreed : List Row → Row → Type 0
IsAgreed rows row = (t : ℕ) → row.resend ≡ Some t
    → (is_among (types_in rows) t ≡ true) × (list_all (attribute_agrees t row.pt) (attributes_in rows) ≡ true)

rows_agree : (rows : List Row) → is_distinct (types_in rows) ≡ true → IsEach (IsAgreed rows) rows
rows_agree [] d = tt
rows_agree (row ∷ rows) d =
    let own : List ℕ = types_of row in
    let others : List ℕ = types_in rows in (
      λ t e.
          let here = resends row t e in (
            among_append t own others ∙ ap (λ b. b || is_among others t) here,
            all_append (attribute_agrees t row.pt) (attributes_of row) (attributes_in rows) (own_agrees row t)
                (all_past (tells t) (attribute_agrees t row.pt) (silent_agrees t row.pt) (attributes_in rows)
                (rows_silent rows t (apart own others d t here))),
          ),
      each_as {P = IsAgreed rows} {Q = IsAgreed (row ∷ rows)} (λ later h t e.
          let there = h t e in (
            among_append t own others ∙ ap (λ b. is_among own t || b) there.0 ∙ or_yes (is_among own t),
            all_append (attribute_agrees t later.pt) (attributes_of row) (attributes_in rows)
                (all_past (tells t) (attribute_agrees t later.pt) (silent_agrees t later.pt) (attributes_of row)
                (row_silent row t (apart_back own others d t there.0))) there.1,
          )) rows (rows_agree rows (later_distinct own others d)),
    )

-- and each line gives no other
module _ (attrs : List MediaAttribute) where
  abbrev AllAgree : Row → Type 0
  AllAgree row = (t : ℕ) → row.resend ≡ Some t → apts_agree_with attrs t row.pt ≡ true

  other_gives : (pt : ℕ) (p : FormatParam) → is_other p ≡ false → values_agree attrs pt p ≡ true
  other_gives pt (param.Apt apt) e = cc
  other_gives pt _ e = refl

  silent_gives : (a : MediaAttribute) → names_type a ≡ false → gives_apt attrs a ≡ true
  silent_gives (attribute.Fmtp pt values) e = cc
  silent_gives _ e = refl

  line_gives : (row : Row) (f : _) → list_all (gives_apt attrs) (feedback_line row f) ≡ true
  unfolding feedback_line
  line_gives row f = at (is_used row f)
    where
      at : (b : Bool) → list_all (gives_apt attrs) (if b then attribute.RtcpFb row.pt (words_of f) ∷ [] else [])
          ≡ true
      at true = refl
      at false = refl

  format_gives : (pt : ℕ) (ps : List FormatParam) → list_any is_other ps ≡ false
      → list_all (gives_apt attrs) (fmtp_of pt ps) ≡ true
  unfolding fmtp_of
  format_gives pt [] e = refl
  format_gives pt (p ∷ ps) e =
      ap (λ b. b && true) (all_past is_other (values_agree attrs pt) (other_gives pt) (p ∷ ps) e)

  resend_gives : (row : Row) (o : Option ℕ) → ((t : ℕ) → o ≡ Some t → apts_agree_with attrs t row.pt ≡ true)
      → list_all (gives_apt attrs) (resend_lines row o) ≡ true
  unfolding resend_lines
  resend_gives row None h = refl
  resend_gives row (Some u) h = ap (λ b. (b && true) && true) (h u refl)

  red_gives : (row : Row) (o : Option ℕ) → list_all (gives_apt attrs) (red_lines row o) ≡ true
  unfolding red_lines
  red_gives row None = refl
  red_gives row (Some u) = refl

  row_gives : (row : Row) → AllAgree row → list_all (gives_apt attrs) (attributes_of row) ≡ true
  row_gives row h =
      let gives : MediaAttribute → Bool = gives_apt attrs in
      ap (list_all gives) (attributes_split row)
      ∙ all_append gives (feedback_lines row) _ (all_flat gives (feedback_line row) (line_gives row) all_feedback)
      (all_append gives (fmtp_of row.pt (params_in row.spec)) _
      (format_gives row.pt (params_in row.spec) (params_other row.spec))
      (all_append gives (resend_lines row row.resend) (red_lines row row.red)
      (resend_gives row row.resend h) (red_gives row row.red)))

  rows_give : (rows : List Row) → IsEach AllAgree rows → list_all (gives_apt attrs) (attributes_in rows) ≡ true
  rows_give [] h = refl
  rows_give (row ∷ rows) h =
      all_append (gives_apt attrs) (attributes_of row) (attributes_in rows) (row_gives row h.0) (rows_give rows h.1)

module _ (others : List MediaAttribute) (rows : List Row) (behind : List MediaAttribute)
    (silent : list_any names_type others ≡ false) (still : list_any names_type behind ≡ false)
    (distinct : is_distinct (types_in rows) ≡ true) where
  abbrev lines_of : List MediaAttribute
  lines_of = others ++ (attributes_in rows ++ behind)

  silent_past : (t apt : ℕ) (xs : List MediaAttribute) → list_any names_type xs ≡ false
      → list_all (attribute_agrees t apt) xs ≡ true
  silent_past t apt xs e =
      all_past (tells t) (attribute_agrees t apt) (silent_agrees t apt) xs (others_silent t xs e)

  pub all_agreed : apts_agree lines_of ≡ true
  all_agreed =
      let gives : MediaAttribute → Bool = gives_apt lines_of in
      all_append gives others (attributes_in rows ++ behind)
      (all_past names_type gives (silent_gives lines_of) others silent)
      (all_append gives (attributes_in rows) behind
      (rows_give lines_of rows (each_as {P = IsAgreed rows} {Q = AllAgree lines_of} (λ row h t e.
      all_append (attribute_agrees t row.pt) others (attributes_in rows ++ behind) (silent_past t row.pt others silent)
      (all_append (attribute_agrees t row.pt) (attributes_in rows) behind (h t e).1
      (silent_past t row.pt behind still))) rows (rows_agree rows distinct)))
      (all_past names_type gives (silent_gives lines_of) behind still))
