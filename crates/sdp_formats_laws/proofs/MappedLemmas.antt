-- The mapped types of a section that lists rows.
use Rattle.std.proofs.Common.{◌≡◌, ℕ, Bool, true, false, ◌||◌, ◌==◌, List, [], ◌∷◌, ◌++◌, refl, sym, ◌∙◌, ap}
use Rattle.std.proofs.Common.{append-nil}
use Rattle.std.proofs.Common.{Option, Some, None, arith, if◌then◌else◌}
use Rattle.std.specs.Prelude.{fold}
use Rattle.std.specs.List.{flat_map, list_any}
use Rattle.std.proofs.lemmas.Grind.{common_steps, flat_map-append}
use Rattle.std.proofs.lemmas.List.Folds.{list_any-append}
use Rattle.media_types.specs.declared.codec.Codec.TheVariants as codec
use Rattle.sdp_formats_values.specs.declared.param.FormatParam.{FormatParam}
use Rattle.sdp_formats_rows.specs.Rows.{Row}
use Rattle.sdp_formats_rows.specs.Codecs.{rtp_clock_rate}
use Rattle.sdp_formats_rounds.specs.Laws.{is_among}
use Rattle.sdp_formats_rounds.specs.Types.{listed, types_of}
use Rattle.sdp_formats_rounds.proofs.Apart.{among_append}
use Rattle.sdp_formats_section_rows.specs.Attributes.{all_feedback, attributes_of, feedback_line, feedback_lines}
use Rattle.sdp_formats_section_rows.specs.Attributes.{fmtp_of, is_used, params_in, red_lines, resend_lines}
use Rattle.sdp_formats_section_rows.specs.Attributes.{words_of}
use Rattle.sdp_formats_section_rows.specs.Maps.{map_of}
use Rattle.sdp_formats_section_rows.specs.Mapped.{is_mapped, mapping_in, mappings, mappings_in}
use Rattle.sdp_formats_section_rows.specs.Mapped.{with_static}
use Rattle.sdp_formats_data.specs.declared.media.MediaAttribute.{MediaAttribute}
use Rattle.sdp_formats_data.specs.declared.media.MediaAttribute.TheVariants as attribute
use Rattle.sdp_formats_data.specs.declared.media.RtpMap.{RtpMap}
use Rattle.sdp_formats_laws.specs.RowsBack.{attributes_in, names_type}
use Rattle.sdp_formats_rounds.specs.TypeLaws.{types_in}
use Rattle.sdp_formats_laws.proofs.Lists.{neither, or_yes}
use Rattle.sdp_formats_laws.proofs.Silent.{attributes_split}

-- the lines `a=rtpmap` of a row
abbrev pub resend_map : Row → RtpMap
resend_map row = record { codec = codec.Rtx; clock_rate = rtp_clock_rate row.spec; channels = None }

abbrev pub red_map : Row → RtpMap
red_map row = record { codec = codec.Red; clock_rate = rtp_clock_rate row.spec; channels = row.spec.channels }

abbrev pub map_line : RtpMap → Option ℕ → List MediaAttribute
map_line value None = []
map_line value (Some pt) = attribute.RtpMap pt value ∷ []

abbrev pub maps_of : Row → List MediaAttribute
maps_of row = attribute.RtpMap row.pt (map_of row.spec) ∷ (map_line (resend_map row) row.resend
    ++ map_line (red_map row) row.red)

abbrev pub maps_in : List Row → List MediaAttribute
maps_in rows = flat_map maps_of rows

none_mapped : (others : List MediaAttribute) → list_any names_type others ≡ false → mappings_in others ≡ []
none_mapped [] e = refl
none_mapped (a ∷ others) e =
    let s = neither (names_type a) (list_any names_type others) e in
    ap (λ l. l ++ mappings_in others) (at a s.0) ∙ none_mapped others s.1
  where
    at : (a : MediaAttribute) → names_type a ≡ false → mapping_in a ≡ []
    at (attribute.RtpMap pt value) e = cc
    at _ e = refl

line_mapped : (row : Row) (f : _) → mappings_in (feedback_line row f) ≡ []
unfolding feedback_line
line_mapped row f = at (is_used row f)
  where
    at : (b : Bool) → mappings_in (if b then attribute.RtcpFb row.pt (words_of f) ∷ [] else []) ≡ []
    at true = refl
    at false = refl

none_flat_mapped : {X : Type 0} (g : X → List MediaAttribute) → ((x : X) → mappings_in (g x) ≡ []) → (xs : List X)
    → mappings_in (flat_map g xs) ≡ []
none_flat_mapped g h [] = refl
none_flat_mapped g h (x ∷ xs) =
    flat_map-append mapping_in (g x) (flat_map g xs)
    ∙ ap (λ l. l ++ mappings_in (flat_map g xs)) (h x) ∙ none_flat_mapped g h xs

format_mapped : (pt : ℕ) (ps : List FormatParam) → mappings_in (fmtp_of pt ps) ≡ []
unfolding fmtp_of
format_mapped pt [] = refl
format_mapped pt (p ∷ ps) = refl

resend_mapped : (row : Row) (resend : Option ℕ)
    → mappings_in (resend_lines row resend) ≡ mappings_in (map_line (resend_map row) resend)
unfolding resend_lines
resend_mapped row None = refl
resend_mapped row (Some t) = refl

red_mapped : (row : Row) (red : Option ℕ)
    → mappings_in (red_lines row red) ≡ mappings_in (map_line (red_map row) red)
unfolding red_lines
red_mapped row None = refl
red_mapped row (Some t) = refl

pub row_mapped : (row : Row) → mappings_in (attributes_of row) ≡ mappings_in (maps_of row)
row_mapped row =
    let first = attribute.RtpMap row.pt (map_of row.spec) in
    let lines : List MediaAttribute = fmtp_of row.pt (params_in row.spec) in
    let resend : List MediaAttribute = resend_lines row row.resend in
    let red : List MediaAttribute = red_lines row row.red in
    let a = flat_map-append mapping_in (feedback_lines row) (lines ++ (resend ++ red)) in
    let b = flat_map-append mapping_in lines (resend ++ red) in
    let c = flat_map-append mapping_in resend red in
    let d = flat_map-append mapping_in (map_line (resend_map row) row.resend) (map_line (red_map row) row.red) in
    let u : mappings_in (feedback_lines row) ≡ [] =
    none_flat_mapped (feedback_line row) (line_mapped row) all_feedback in
    let v = format_mapped row.pt (params_in row.spec) in
    ap mappings_in (attributes_split row)
    ∙ ap (λ l. mapping_in first ++ l)
    (a ∙ ap (λ l. l ++ mappings_in (lines ++ (resend ++ red))) u
    ∙ b ∙ ap (λ l. l ++ mappings_in (resend ++ red)) v
    ∙ c ∙ ap (λ l. l ++ mappings_in red) (resend_mapped row row.resend)
    ∙ ap (λ l. mappings_in (map_line (resend_map row) row.resend) ++ l) (red_mapped row row.red)
    ∙ sym d)

pub rows_mapped : (rows : List Row) → mappings_in (attributes_in rows) ≡ mappings_in (maps_in rows)
rows_mapped [] = refl
rows_mapped (row ∷ rows) =
    flat_map-append mapping_in (attributes_of row) (attributes_in rows)
    ∙ ap (λ l. l ++ mappings_in (attributes_in rows)) (row_mapped row)
    ∙ ap (λ l. mappings_in (maps_of row) ++ l) (rows_mapped rows)
    ∙ sym (flat_map-append mapping_in (maps_of row) (maps_in rows))

-- each type of the rows is mapped
line_has : (value : RtpMap) (o : Option ℕ) (t : ℕ)
    → is_mapped (mappings_in (map_line value o)) t ≡ is_among (listed o) t
line_has value None t = refl
line_has value (Some u) t = refl

mapped_append : (xs ys : List MediaAttribute) (t : ℕ)
    → is_mapped (mappings_in (xs ++ ys)) t ≡ (is_mapped (mappings_in xs) t || is_mapped (mappings_in ys) t)
mapped_append xs ys t =
    ap (λ l. is_mapped l t) (flat_map-append mapping_in xs ys)
    ∙ list_any-append (λ m. m.pt == t) (mappings_in xs) (mappings_in ys)

row_has : (row : Row) (t : ℕ) → is_mapped (mappings_in (maps_of row)) t ≡ is_among (types_of row) t
row_has row t =
    ap (λ b. row.pt == t || b)
    (mapped_append (map_line (resend_map row) row.resend) (map_line (red_map row) row.red) t
    ∙ ap (λ b. b || is_mapped (mappings_in (map_line (red_map row) row.red)) t) (line_has (resend_map row) row.resend t)
    ∙ ap (λ b. is_among (listed row.resend) t || b) (line_has (red_map row) row.red t)
    ∙ sym (among_append t (listed row.resend) (listed row.red)))

rows_have : (rows : List Row) (t : ℕ) → is_mapped (mappings_in (maps_in rows)) t ≡ is_among (types_in rows) t
rows_have [] t = refl
rows_have (row ∷ rows) t =
    mapped_append (maps_of row) (maps_in rows) t
    ∙ ap (λ b. b || is_mapped (mappings_in (maps_in rows)) t) (row_has row t)
    ∙ ap (λ b. is_among (types_of row) t || b) (rows_have rows t)
    ∙ sym (among_append t (types_of row) (types_in rows))

pub same_number : (t : ℕ) → (t == t) ≡ true
same_number t = grind (arith, common_steps)

one : (lines : List MediaAttribute) (t : ℕ) → is_mapped (mappings_in lines) t ≡ true
    → with_static (mappings_in lines) t ≡ mappings_in lines
unfolding with_static
one lines t e = rw e refl

-- static types add nothing to types that are mapped
static_kept : (lines : List MediaAttribute) (ts : List ℕ)
    → ((t : ℕ) → is_among ts t ≡ true → is_mapped (mappings_in lines) t ≡ true)
    → fold with_static (mappings_in lines) ts ≡ mappings_in lines
static_kept lines [] h = refl
static_kept lines (t ∷ ts) h =
    ap (λ l. fold with_static l ts) (one lines t (h t (ap (λ b. b || is_among ts t) (same_number t))))
    ∙ static_kept lines ts (λ u e. h u (ap (λ b. (t == u) || b) e ∙ or_yes (t == u)))

-- the mapped types of a section that lists rows: those of the rows, in order
pub section_mapped : (rows : List Row) (others behind : List MediaAttribute) → list_any names_type others ≡ false
    → list_any names_type behind ≡ false
    → mappings (types_in rows) (others ++ (attributes_in rows ++ behind)) ≡ mappings_in (maps_in rows)
section_mapped rows others behind e f =
    ap (λ l. fold with_static l (types_in rows))
    (flat_map-append mapping_in others (attributes_in rows ++ behind)
    ∙ ap (λ l. l ++ mappings_in (attributes_in rows ++ behind)) (none_mapped others e)
    ∙ flat_map-append mapping_in (attributes_in rows) behind
    ∙ ap (λ l. mappings_in (attributes_in rows) ++ l) (none_mapped behind f)
    ∙ append-nil (mappings_in (attributes_in rows)) ∙ rows_mapped rows)
    ∙ static_kept (maps_in rows) (types_in rows) (λ t h. rows_have rows t ∙ h)
