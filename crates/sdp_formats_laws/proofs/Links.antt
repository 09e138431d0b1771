-- The type of retransmissions and the RED type of a row, from the lines of rows.
use Rattle.std.proofs.Common.{◌≡◌, ℕ, Bool, true, false, ◌&&◌, ◌||◌, ◌==◌, List, [], ◌∷◌, ◌++◌, refl, sym, ◌∙◌, ap}
use Rattle.std.proofs.Common.{Option, Some, None, if◌then◌else◌}
use Rattle.std.specs.Prelude.{fold}
use Rattle.std.specs.List.{list_any}
use Rattle.std.proofs.lemmas.List.Sums.{fold-append}
use Rattle.media_types.specs.Codecs.{is_tele_codec}
use Rattle.media_types.specs.declared.codec.Codec.{Codec}
use Rattle.media_types.specs.declared.codec.Codec.TheVariants as codec
use Rattle.sdp_formats_values.specs.declared.param.FormatParam.{FormatParam}
use Rattle.sdp_formats_rows.specs.Rows.{Row}
use Rattle.sdp_formats_rows.specs.declared.spec.CodecSpec.{CodecSpec}
use Rattle.sdp_formats_section_rows.specs.Attributes.{all_feedback, attributes_of, feedback_line, feedback_lines}
use Rattle.sdp_formats_section_rows.specs.Attributes.{fmtp_of, is_used, params_in, red_lines, resend_lines}
use Rattle.sdp_formats_section_rows.specs.Attributes.{words_of}
use Rattle.sdp_formats_section_rows.specs.Mapped.{is_mapped_to}
use Rattle.sdp_formats_section_rows.specs.SectionRows.{linked, linked_after, names}
use Rattle.sdp_formats_data.specs.declared.media.MediaAttribute.{MediaAttribute}
use Rattle.sdp_formats_data.specs.declared.media.MediaAttribute.TheVariants as attribute
use Rattle.sdp_formats_laws.specs.RowsBack.{attributes_in, names_type}
use Rattle.sdp_formats_rounds.specs.TypeLaws.{types_in}
use Rattle.sdp_formats_rounds.specs.Laws.{is_among}
use Rattle.sdp_formats_rounds.specs.Types.{types_of}
use Rattle.sdp_formats_rounds.proofs.Apart.{among_append}
use Rattle.sdp_formats_laws.proofs.Lists.{any_past, fold_past, neither, none_append, none_flat}
use Rattle.sdp_formats_laws.proofs.FormatsLemmas.{is_other, none_other, other_red, other_resend}
use Rattle.sdp_formats_laws.proofs.Silent.{Apart, attributes_split, section_of}
use Rattle.sdp_formats_laws.proofs.MappedLemmas.{same_number}

-- whether an attribute names the type as the one that its own is of
abbrev pub links : Codec → ℕ → MediaAttribute → Bool
links role pt (attribute.Fmtp by values) = list_any (names role pt) values
links role pt _ = false

other_links : (role : Codec) (pt : ℕ) (a : MediaAttribute) → names_type a ≡ false → links role pt a ≡ false
other_links role pt (attribute.Fmtp by values) e = cc
other_links role pt _ e = refl

line_links : (role : Codec) (pt : ℕ) (row : Row) (f : _) → list_any (links role pt) (feedback_line row f) ≡ false
unfolding feedback_line
line_links role pt row f = at (is_used row f)
  where
    at : (b : Bool) → list_any (links role pt) (if b then attribute.RtcpFb row.pt (words_of f) ∷ [] else []) ≡ false
    at true = refl
    at false = refl

-- a format names no type
abbrev pub NamesNone : Codec → Type 0
NamesNone role = (pt : ℕ) (p : FormatParam) → is_other p ≡ false → names role pt p ≡ false

pub params_other : (spec : CodecSpec) → list_any is_other (params_in spec) ≡ false
params_other spec = at (is_tele_codec spec.codec) refl
  where
    at : (b : Bool) → is_tele_codec spec.codec ≡ b → list_any is_other (params_in spec) ≡ false
    at true e = rw e refl
    at false e = rw e (none_other spec.format)

format_links : (role : Codec) → NamesNone role → (pt by : ℕ) (ps : List FormatParam) → list_any is_other ps ≡ false
    → list_any (links role pt) (fmtp_of by ps) ≡ false
unfolding fmtp_of
format_links role none pt by [] e = refl
format_links role none pt by (p ∷ ps) e =
    ap (λ b. b || false) (any_past is_other (names role pt) (none pt) (p ∷ ps) e)

-- the lines of a type of retransmissions name the row's type in that role alone, and so do those of a RED type
resend_resend : (pt : ℕ) (row : Row) (o : Option ℕ) → (row.pt == pt) ≡ false
    → list_any (links codec.Rtx pt) (resend_lines row o) ≡ false
unfolding resend_lines
resend_resend pt row None e = refl
resend_resend pt row (Some t) e = rw e refl

red_resend : (pt : ℕ) (row : Row) (o : Option ℕ) → list_any (links codec.Rtx pt) (red_lines row o) ≡ false
unfolding red_lines
red_resend pt row None = refl
red_resend pt row (Some t) = refl

red_red : (pt : ℕ) (row : Row) (o : Option ℕ) → (row.pt == pt) ≡ false
    → list_any (links codec.Red pt) (red_lines row o) ≡ false
unfolding red_lines
red_red pt row None e = refl
red_red pt row (Some t) e = rw e refl

resend_red : (pt : ℕ) (row : Row) (o : Option ℕ) → list_any (links codec.Red pt) (resend_lines row o) ≡ false
unfolding resend_lines
resend_red pt row None = refl
resend_red pt row (Some t) = refl

-- the rows of other types
abbrev LinksNone : Codec → ℕ → Row → Type 0
LinksNone role pt row = list_any (links role pt) (resend_lines row row.resend ++ red_lines row row.red) ≡ false

row_links : (role : Codec) → NamesNone role → (pt : ℕ) (row : Row) → LinksNone role pt row
    → list_any (links role pt) (attributes_of row) ≡ false
row_links role none pt row e =
    ap (list_any (links role pt)) (attributes_split row)
    ∙ none_append (links role pt) (feedback_lines row) (fmtp_of row.pt (params_in row.spec)
    ++ (resend_lines row row.resend ++ red_lines row row.red))
    (none_flat (links role pt) (feedback_line row) (line_links role pt row) all_feedback)
    (none_append (links role pt) (fmtp_of row.pt (params_in row.spec))
    (resend_lines row row.resend ++ red_lines row row.red)
    (format_links role none pt row.pt (params_in row.spec) (params_other row.spec)) e)

rows_link : (role : Codec) → NamesNone role → (pt : ℕ)
    → ((row : Row) → (row.pt == pt) ≡ false → LinksNone role pt row) → (rows : List Row)
    → is_among (types_in rows) pt ≡ false → list_any (links role pt) (attributes_in rows) ≡ false
rows_link role none pt apart [] e = refl
rows_link role none pt apart (row ∷ rows) e =
    let s = neither (is_among (types_of row) pt) (is_among (types_in rows) pt)
    (sym (among_append pt (types_of row) (types_in rows)) ∙ e) in
    let own : (row.pt == pt) ≡ false = (neither (row.pt == pt) _ s.0).0 in
    none_append (links role pt) (attributes_of row) (attributes_in rows)
    (row_links role none pt row (apart row own)) (rows_link role none pt apart rows s.1)

-- an attribute that doesn't name the type changes nothing
past : (role : Codec) (maps : _) (pt : ℕ) (found : Option ℕ) (a : MediaAttribute) → links role pt a ≡ false
    → linked_after role maps pt found a ≡ found
unfolding linked_after
past role maps pt found (attribute.Fmtp by values) e =
    at (is_mapped_to role maps by) (list_any (names role pt) values) e
  where
    at : (b c : Bool) → c ≡ false → (if b && c then Some by else found) ≡ found
    at true c f = rw f refl
    at false c f = refl
past role maps pt found _ e = refl

-- what a row's own further lines say
resend_found : (maps : _) (row : Row) (o found : Option ℕ)
    → ((t : ℕ) → o ≡ Some t → is_mapped_to codec.Rtx maps t ≡ true) → found ≡ None
    → fold (linked_after codec.Rtx maps row.pt) found (resend_lines row o) ≡ o
unfolding resend_lines linked_after
resend_found maps row None found h e = e
resend_found maps row (Some t) found h e = rw (h t refl, same_number row.pt) refl

red_found : (maps : _) (row : Row) (o found : Option ℕ)
    → ((t : ℕ) → o ≡ Some t → is_mapped_to codec.Red maps t ≡ true) → found ≡ None
    → fold (linked_after codec.Red maps row.pt) found (red_lines row o) ≡ o
unfolding red_lines linked_after
red_found maps row None found h e = e
red_found maps row (Some t) found h e = rw (h t refl, same_number row.pt) refl

-- of all the attributes those of the row's further types count
whole_linked : (role : Codec) → NamesNone role → (maps : _) (others : List MediaAttribute) (before : List Row)
    (row : Row) (after : List Row) (behind : List MediaAttribute)
    → ((other : Row) → (other.pt == row.pt) ≡ false → LinksNone role row.pt other)
    → Apart others before row after behind
    → linked role (section_of others before row after behind) maps row.pt
    ≡ fold (linked_after role maps row.pt) None (resend_lines row row.resend ++ red_lines row row.red)
whole_linked role none maps others before row after behind other_rows apart =
    let f = linked_after role maps row.pt in
    let t = row.pt in
    let last : List MediaAttribute = attributes_in after ++ behind in
    let own : List MediaAttribute = attributes_of row in
    let lines : List MediaAttribute = fmtp_of row.pt (params_in row.spec) in
    let more : List MediaAttribute = resend_lines row row.resend ++ red_lines row row.red in
    fold-append f None others (attributes_in before ++ (own ++ last))
    ∙ ap (λ c. fold f c (attributes_in before ++ (own ++ last)))
    (fold_past (links role t) f (past role maps t) None others
    (any_past names_type (links role t) (other_links role t) others apart.others_silent))
    ∙ fold-append f None (attributes_in before) (own ++ last)
    ∙ ap (λ c. fold f c (own ++ last))
    (fold_past (links role t) f (past role maps t) None (attributes_in before)
    (rows_link role none t other_rows before apart.before_apart))
    ∙ fold-append f None own last
    ∙ fold_past (links role t) f (past role maps t) (fold f None own) last
    (none_append (links role t) (attributes_in after) behind (rows_link role none t other_rows after apart.after_apart)
    (any_past names_type (links role t) (other_links role t) behind apart.behind_silent))
    ∙ ap (fold f None) (attributes_split row)
    ∙ ap (λ c. fold f c (feedback_lines row ++ (lines ++ more)))
    (past role maps t None (attribute.RtpMap row.pt _) refl)
    ∙ fold-append f None (feedback_lines row) (lines ++ more)
    ∙ ap (λ c. fold f c (lines ++ more))
    (fold_past (links role t) f (past role maps t) None (feedback_lines row)
    (none_flat (links role t) (feedback_line row) (line_links role t row) all_feedback))
    ∙ fold-append f None lines more
    ∙ ap (λ c. fold f c more)
    (fold_past (links role t) f (past role maps t) None lines
    (format_links role none t row.pt (params_in row.spec) (params_other row.spec)))

pub whole_resend : (maps : _) (others : List MediaAttribute) (before : List Row) (row : Row) (after : List Row)
    (behind : List MediaAttribute)
    → ((t : ℕ) → row.resend ≡ Some t → is_mapped_to codec.Rtx maps t ≡ true)
    → Apart others before row after behind
    → linked codec.Rtx (section_of others before row after behind) maps row.pt
    ≡ row.resend
whole_resend maps others before row after behind h apart =
    let f = linked_after codec.Rtx maps row.pt in
    whole_linked codec.Rtx other_resend maps others before row after behind
    (λ other e. none_append (links codec.Rtx row.pt) (resend_lines other other.resend) (red_lines other other.red)
    (resend_resend row.pt other other.resend e) (red_resend row.pt other other.red)) apart
    ∙ fold-append f None (resend_lines row row.resend) (red_lines row row.red)
    ∙ fold_past (links codec.Rtx row.pt) f (past codec.Rtx maps row.pt) (fold f None (resend_lines row row.resend))
    (red_lines row row.red) (red_resend row.pt row row.red)
    ∙ resend_found maps row row.resend None h refl

pub whole_red : (maps : _) (others : List MediaAttribute) (before : List Row) (row : Row) (after : List Row)
    (behind : List MediaAttribute)
    → ((t : ℕ) → row.red ≡ Some t → is_mapped_to codec.Red maps t ≡ true)
    → Apart others before row after behind
    → linked codec.Red (section_of others before row after behind) maps row.pt
    ≡ row.red
whole_red maps others before row after behind h apart =
    let f = linked_after codec.Red maps row.pt in
    whole_linked codec.Red other_red maps others before row after behind
    (λ other e. none_append (links codec.Red row.pt) (resend_lines other other.resend) (red_lines other other.red)
    (resend_red row.pt other other.resend) (red_red row.pt other other.red e)) apart
    ∙ fold-append f None (resend_lines row row.resend) (red_lines row row.red)
    ∙ red_found maps row row.red (fold f None (resend_lines row row.resend)) h
    (fold_past (links codec.Red row.pt) f (past codec.Red maps row.pt) None
    (resend_lines row row.resend) (resend_red row.pt row row.resend))
