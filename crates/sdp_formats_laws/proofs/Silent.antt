-- Attributes that say nothing of a type.
use Rattle.std.proofs.Common.{◌≡◌, ℕ, Bool, true, false, ◌||◌, ◌==◌, List, [], ◌∷◌, ◌++◌, refl, sym, ◌∙◌, ap}
use Rattle.std.proofs.Common.{append_assoc}
use Rattle.std.proofs.Common.{Option, Some, None}
use Rattle.std.proofs.Common.{if◌then◌else◌}
use Rattle.std.specs.Prelude.{fold}
use Rattle.std.specs.List.{list_any}
use Rattle.std.proofs.lemmas.List.Sums.{fold-append}
use Rattle.sdp_formats_values.specs.declared.param.FormatParam.{FormatParam}
use Rattle.sdp_formats_rows.specs.Rows.{Row}
use Rattle.sdp_formats_rounds.specs.Laws.{is_among}
use Rattle.sdp_formats_rounds.specs.Types.{listed, types_of}
use Rattle.sdp_formats_rounds.proofs.Apart.{among_append}
use Rattle.sdp_formats_section_rows.specs.Attributes.{all_feedback, attributes_of, feedback_line, feedback_lines}
use Rattle.sdp_formats_section_rows.specs.Attributes.{fmtp_of, is_used, params_in, red_lines, resend_lines}
use Rattle.sdp_formats_section_rows.specs.Attributes.{words_of}
use Rattle.sdp_formats_section_rows.specs.Maps.{map_of}
use Rattle.sdp_formats_data.specs.declared.media.MediaAttribute.{MediaAttribute}
use Rattle.sdp_formats_data.specs.declared.media.MediaAttribute.TheVariants as attribute
use Rattle.sdp_formats_data.specs.declared.media.RtpMap.{RtpMap}
use Rattle.sdp_formats_laws.specs.RowsBack.{attributes_in, names_type}
use Rattle.sdp_formats_rounds.specs.TypeLaws.{types_in}
use Rattle.sdp_formats_laws.proofs.Lists.{any_past, fold_past, neither, none_append, none_flat}

-- whether an attribute is of this type
abbrev pub tells : ℕ → MediaAttribute → Bool
tells t (attribute.RtpMap pt value) = pt == t
tells t (attribute.RtcpFb pt value) = pt == t
tells t (attribute.Fmtp pt values) = pt == t
tells t _ = false

other_silent : (t : ℕ) (a : MediaAttribute) → names_type a ≡ false → tells t a ≡ false
other_silent t (attribute.RtpMap pt value) e = cc
other_silent t (attribute.RtcpFb pt value) e = cc
other_silent t (attribute.Fmtp pt values) e = cc
other_silent t _ e = refl

pub others_silent : (t : ℕ) (others : List MediaAttribute) → list_any names_type others ≡ false
    → list_any (tells t) others ≡ false
others_silent t others e = any_past names_type (tells t) (other_silent t) others e

pub resend_silent : (row : Row) (t : ℕ) (resend : Option ℕ) → is_among (listed resend) t ≡ false
    → list_any (tells t) (resend_lines row resend) ≡ false
unfolding resend_lines
resend_silent row t None e = refl
resend_silent row t (Some u) e =
    let s = neither (u == t) false e in
    rw s.0 refl

pub red_silent : (row : Row) (t : ℕ) (red : Option ℕ) → is_among (listed red) t ≡ false
    → list_any (tells t) (red_lines row red) ≡ false
unfolding red_lines
red_silent row t None e = refl
red_silent row t (Some u) e =
    let s = neither (u == t) false e in
    rw s.0 refl

line_silent : (row : Row) (t : ℕ) → (row.pt == t) ≡ false → (f : _)
    → list_any (tells t) (feedback_line row f) ≡ false
unfolding feedback_line
line_silent row t e f = at (is_used row f)
  where
    at : (b : Bool) → list_any (tells t) (if b then attribute.RtcpFb row.pt (words_of f) ∷ [] else []) ≡ false
    at true = rw e refl
    at false = refl

format_silent : (pt t : ℕ) → (pt == t) ≡ false → (ps : List FormatParam)
    → list_any (tells t) (fmtp_of pt ps) ≡ false
unfolding fmtp_of
format_silent pt t e [] = refl
format_silent pt t e (p ∷ ps) = rw e refl

-- the types of retransmissions and redundant audio are other ones
links_silent : (row : Row) (t : ℕ) → is_among (listed row.resend ++ listed row.red) t ≡ false
    → list_any (tells t) (resend_lines row row.resend ++ red_lines row row.red) ≡ false
links_silent row t e =
    let s = neither (is_among (listed row.resend) t) (is_among (listed row.red) t)
    (sym (among_append t (listed row.resend) (listed row.red)) ∙ e) in
    none_append (tells t) (resend_lines row row.resend) (red_lines row row.red)
    (resend_silent row t row.resend s.0) (red_silent row t row.red s.1)

regroup : (a b c d : List MediaAttribute) → ((a ++ b) ++ c) ++ d ≡ a ++ (b ++ (c ++ d))
regroup a b c d = simp append_assoc

pub attributes_split : (row : Row) → attributes_of row ≡ attribute.RtpMap row.pt (map_of row.spec) ∷ (feedback_lines row
    ++ (fmtp_of row.pt (params_in row.spec) ++ (resend_lines row row.resend ++ red_lines row row.red)))
attributes_split row = ap (λ l. attribute.RtpMap row.pt (map_of row.spec) ∷ l)
    (regroup (feedback_lines row) (fmtp_of row.pt (params_in row.spec)) (resend_lines row row.resend)
    (red_lines row row.red))

pub row_silent : (row : Row) (t : ℕ) → is_among (types_of row) t ≡ false
    → list_any (tells t) (attributes_of row) ≡ false
row_silent row t e =
    let s = neither (row.pt == t) (is_among (listed row.resend ++ listed row.red) t) e in
    let more : list_any (tells t) (feedback_lines row ++ (fmtp_of row.pt (params_in row.spec)
    ++ (resend_lines row row.resend ++ red_lines row row.red))) ≡ false =
    none_append (tells t) (feedback_lines row) (fmtp_of row.pt (params_in row.spec)
    ++ (resend_lines row row.resend ++ red_lines row row.red))
    (none_flat (tells t) (feedback_line row) (line_silent row t s.0) all_feedback)
    (none_append (tells t) (fmtp_of row.pt (params_in row.spec)) (resend_lines row row.resend ++ red_lines row row.red)
    (format_silent row.pt t s.0 (params_in row.spec)) (links_silent row t s.1)) in
    ap (list_any (tells t)) (attributes_split row)
    ∙ ap (λ b. b || list_any (tells t) (feedback_lines row ++ (fmtp_of row.pt (params_in row.spec)
    ++ (resend_lines row row.resend ++ red_lines row row.red)))) s.0 ∙ more

pub rows_silent : (rows : List Row) (t : ℕ) → is_among (types_in rows) t ≡ false
    → list_any (tells t) (attributes_in rows) ≡ false
rows_silent [] t e = refl
rows_silent (row ∷ rows) t e =
    let s = neither (is_among (types_of row) t) (is_among (types_in rows) t)
    (sym (among_append t (types_of row) (types_in rows)) ∙ e) in
    none_append (tells t) (attributes_of row) (attributes_in rows) (row_silent row t s.0) (rows_silent rows t s.1)

-- what is read of a type
pub record Reads {B : Type 0} (t : ℕ) (f : B → MediaAttribute → B) : Type 0 where
  pub silent : (b : B) (a : MediaAttribute) → tells t a ≡ false → f b a ≡ b
  pub mapped : (b : B) (value : RtpMap) → f b (attribute.RtpMap t value) ≡ b

-- of all the attributes those of the row count
pub own_fold : {B : Type 0} (f : B → MediaAttribute → B) (row : Row) → Reads row.pt f
    → is_among (listed row.resend ++ listed row.red) row.pt ≡ false → (b : B)
    → fold f b (attributes_of row) ≡ fold f (fold f b (feedback_lines row)) (fmtp_of row.pt (params_in row.spec))
own_fold f row reads e b =
    let links : List MediaAttribute = resend_lines row row.resend ++ red_lines row row.red in
    let lines : List MediaAttribute = fmtp_of row.pt (params_in row.spec) in
    ap (fold f b) (attributes_split row)
    ∙ ap (λ c. fold f c (feedback_lines row ++ (lines ++ links))) (reads.mapped b (map_of row.spec))
    ∙ fold-append f b (feedback_lines row) (lines ++ links)
    ∙ fold-append f (fold f b (feedback_lines row)) lines links
    ∙ fold_past (tells row.pt) f reads.silent (fold f (fold f b (feedback_lines row)) lines) links
    (links_silent row row.pt e)

-- rows that are apart from one among them, and the other attributes
pub record Apart (others : List MediaAttribute) (before : List Row) (row : Row) (after : List Row)
    (behind : List MediaAttribute) : Type 0 where
  pub others_silent : list_any names_type others ≡ false
  pub behind_silent : list_any names_type behind ≡ false
  pub before_apart : is_among (types_in before) row.pt ≡ false
  pub own_apart : is_among (listed row.resend ++ listed row.red) row.pt ≡ false
  pub after_apart : is_among (types_in after) row.pt ≡ false

abbrev pub section_of : List MediaAttribute → List Row → Row → List Row → List MediaAttribute → List MediaAttribute
section_of others before row after behind = others ++
    (attributes_in before ++ (attributes_of row ++ (attributes_in after ++ behind)))

pub whole_fold : {B : Type 0} (f : B → MediaAttribute → B) (others : List MediaAttribute) (before : List Row)
    (row : Row) (after : List Row) (behind : List MediaAttribute) → Reads row.pt f
    → Apart others before row after behind → (b : B)
    → fold f b (section_of others before row after behind)
    ≡ fold f (fold f b (feedback_lines row)) (fmtp_of row.pt (params_in row.spec))
whole_fold f others before row after behind reads apart b =
    let last : List MediaAttribute = attributes_in after ++ behind in
    let own : List MediaAttribute = attributes_of row in
    fold-append f b others (attributes_in before ++ (own ++ last))
    ∙ ap (λ c. fold f c (attributes_in before ++ (own ++ last)))
    (fold_past (tells row.pt) f reads.silent b others (others_silent row.pt others apart.others_silent))
    ∙ fold-append f b (attributes_in before) (own ++ last)
    ∙ ap (λ c. fold f c (own ++ last))
    (fold_past (tells row.pt) f reads.silent b (attributes_in before) (rows_silent before row.pt apart.before_apart))
    ∙ fold-append f b own last
    ∙ fold_past (tells row.pt) f reads.silent (fold f b own) last
    (none_append (tells row.pt) (attributes_in after) behind (rows_silent after row.pt apart.after_apart)
    (others_silent row.pt behind apart.behind_silent))
    ∙ own_fold f row reads apart.own_apart b
