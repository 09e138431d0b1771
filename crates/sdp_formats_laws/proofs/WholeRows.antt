-- Plain rows come back.
use Rattle.std.proofs.Common.{◌≡◌, ℕ, Bool, true, false, ◌&&◌, ◌||◌, ◌==◌, List, [], ◌∷◌, ◌++◌, refl, sym, ◌∙◌, ap}
use Rattle.std.proofs.Common.{Option, Some, None, append_assoc, map, subst}
use Rattle.std.specs.List.{flat_map, list_all, list_any}
use Rattle.std.proofs.lemmas.Grind.{flat_map-append}
use Rattle.std.proofs.lemmas.List.Folds.{list_any-append}
use Rattle.media_types.specs.declared.codec.Codec.{Codec}
use Rattle.media_types.specs.declared.codec.Codec.TheVariants as codec
use Rattle.sdp_formats_rows.specs.Codecs.{is_codec}
use Rattle.sdp_formats_rows.specs.Plain.{is_plain}
use Rattle.sdp_formats_rows.specs.Rows.{Row}
use Rattle.sdp_formats_section_rows.specs.Attributes.{attributes_of}
use Rattle.sdp_formats_section_rows.specs.Mapped.{is_mapped_to, mapping_in, mappings_in}
use Rattle.sdp_formats_section_rows.specs.SectionRows.{rows_given}
use Rattle.sdp_formats_data.specs.declared.media.MediaAttribute.{MediaAttribute}
use Rattle.sdp_formats_rounds.specs.Laws.{is_among, is_distinct}
use Rattle.sdp_formats_rounds.specs.Types.{listed, types_of}
use Rattle.sdp_formats_rounds.proofs.Apart.{among_append}
use Rattle.sdp_formats_laws.specs.RowsBack.{PlainRowsComeBack, attributes_in, names_type, unlocked}
use Rattle.sdp_formats_rounds.specs.TypeLaws.{types_in}
use Rattle.sdp_formats_laws.proofs.Lists.{both, neither, split_distinct}
use Rattle.sdp_formats_laws.proofs.Links.{whole_red, whole_resend}
use Rattle.sdp_formats_laws.proofs.MappedLemmas.{map_line, maps_in, maps_of, red_map, resend_map, same_number}
use Rattle.sdp_formats_laws.proofs.MappedLemmas.{section_mapped}
use Rattle.sdp_formats_laws.proofs.Silent.{Apart, section_of}
use Rattle.sdp_formats_laws.proofs.Own.{format_read, own_format}
use Rattle.sdp_formats_laws.proofs.Feedback.{feedback_back}
use Rattle.sdp_formats_laws.proofs.Back.{PlainParts, main_row, one_row, parts_of, row_back, rows_append}

or_true : (b c : Bool) → c ≡ true → (b || c) ≡ true
or_true true c e = refl
or_true false c e = e

-- the further types of a row are mapped as such
resend_is : (row : Row) (o : Option ℕ) (t : ℕ) → o ≡ Some t
    → is_mapped_to codec.Rtx (mappings_in (map_line (resend_map row) o)) t ≡ true
resend_is row None t e = cc
resend_is row (Some u) t e =
    let same : u ≡ t = (cc) in
    rw same (rw (same_number t) refl)

red_is : (row : Row) (o : Option ℕ) (t : ℕ) → o ≡ Some t
    → is_mapped_to codec.Red (mappings_in (map_line (red_map row) o)) t ≡ true
red_is row None t e = cc
red_is row (Some u) t e =
    let same : u ≡ t = (cc) in
    rw same (rw (same_number t) refl)

to_append : (role : Codec) (xs ys : List MediaAttribute) (t : ℕ) → is_mapped_to role (mappings_in (xs ++ ys)) t
    ≡ (is_mapped_to role (mappings_in xs) t || is_mapped_to role (mappings_in ys) t)
to_append role xs ys t =
    ap (λ l. is_mapped_to role l t) (flat_map-append mapping_in xs ys)
    ∙ list_any-append (λ m. m.pt == t && is_codec m.map.codec role) (mappings_in xs) (mappings_in ys)

left_of : (a b : Bool) → a ≡ true → (a || b) ≡ true
left_of true b e = refl
left_of false b e = cc

in_section : (role : Codec) (before : List Row) (row : Row) (after : List Row) (t : ℕ)
    → is_mapped_to role (mappings_in (map_line (resend_map row) row.resend ++ map_line (red_map row) row.red)) t ≡ true
    → is_mapped_to role (mappings_in (maps_in (before ++ row ∷ after))) t ≡ true
in_section role before row after t e =
    ap (λ l. is_mapped_to role (mappings_in l) t) (flat_map-append maps_of before (row ∷ after))
    ∙ to_append role (maps_in before) (maps_of row ++ maps_in after) t
    ∙ or_true _ _ (to_append role (maps_of row) (maps_in after) t ∙ left_of _ _ (or_true _ _ e))

resend_mapped : (before : List Row) (row : Row) (after : List Row) (t : ℕ) → row.resend ≡ Some t
    → is_mapped_to codec.Rtx (mappings_in (maps_in (before ++ row ∷ after))) t ≡ true
resend_mapped before row after t e =
    in_section codec.Rtx before row after t
    (to_append codec.Rtx (map_line (resend_map row) row.resend) (map_line (red_map row) row.red) t
    ∙ left_of _ _ (resend_is row row.resend t e))

red_mapped : (before : List Row) (row : Row) (after : List Row) (t : ℕ) → row.red ≡ Some t
    → is_mapped_to codec.Red (mappings_in (maps_in (before ++ row ∷ after))) t ≡ true
red_mapped before row after t e =
    in_section codec.Red before row after t
    (to_append codec.Red (map_line (resend_map row) row.resend) (map_line (red_map row) row.red) t
    ∙ or_true _ _ (red_is row row.red t e))

-- a row among distinct ones
apart_of : (others : List MediaAttribute) (before : List Row) (row : Row) (after : List Row)
    (behind : List MediaAttribute)
    → list_any names_type others ≡ false → list_any names_type behind ≡ false
    → is_distinct (types_in (before ++ row ∷ after)) ≡ true
    → Apart others before row after behind
apart_of others before row after behind o v d =
    let further : List ℕ = listed row.resend ++ listed row.red in
    let split : types_in (before ++ row ∷ after) ≡ types_in before ++ row.pt ∷ (further ++ types_in after) =
    flat_map-append types_of before (row ∷ after) in
    let s = split_distinct (types_in before) row.pt (further ++ types_in after) (sym (ap is_distinct split) ∙ d) in
    let t = neither (is_among further row.pt) (is_among (types_in after) row.pt)
    (sym (among_append row.pt further (types_in after)) ∙ s.1) in
    record {
      others_silent = o;
      behind_silent = v;
      before_apart = s.0;
      own_apart = t.0;
      after_apart = t.1;
    }

is_there : (before : List Row) (row : Row) (after : List Row)
    → is_among (types_in (before ++ row ∷ after)) row.pt ≡ true
is_there before row after =
    ap (λ l. is_among l row.pt) (flat_map-append types_of before (row ∷ after))
    ∙ among_append row.pt (types_in before) (types_of row ++ types_in after)
    ∙ or_true _ _ (among_append row.pt (types_of row) (types_in after)
    ∙ left_of _ _ (left_of _ _ (same_number row.pt)))

regroup : (a b c d : List MediaAttribute) → (a ++ (b ++ c)) ++ d ≡ a ++ (b ++ (c ++ d))
regroup a b c d = simp append_assoc

section_is : (others : List MediaAttribute) (before : List Row) (row : Row) (after : List Row)
    (behind : List MediaAttribute)
    → others ++ (attributes_in (before ++ row ∷ after) ++ behind) ≡ section_of others before row after behind
section_is others before row after behind =
    ap (λ l. others ++ (l ++ behind)) (flat_map-append attributes_of before (row ∷ after))
    ∙ ap (λ l. others ++ l) (regroup (attributes_in before) (attributes_of row) (attributes_in after) behind)

-- the rows that are read of some of the mapped types
abbrev ReadsBack : List MediaAttribute → List MediaAttribute → List Row → List Row → Type 0
ReadsBack others behind rows some =
    flat_map (rows_given (types_in rows) (others ++ (attributes_in rows ++ behind)) (mappings_in (maps_in rows)))
    (mappings_in (maps_in some)) ≡ map unlocked some

here : (others : List MediaAttribute) (before : List Row) (row : Row) (after : List Row) (behind : List MediaAttribute)
    → list_any names_type others ≡ false → list_any names_type behind ≡ false → PlainParts row
    → is_distinct (types_in (before ++ row ∷ after)) ≡ true
    → flat_map (rows_given (types_in (before ++ row ∷ after))
    (others ++ (attributes_in (before ++ row ∷ after) ++ behind)) (mappings_in (maps_in (before ++ row ∷ after))))
    (mappings_in (maps_of row)) ≡ unlocked row ∷ []
here others before row after behind o v plain d =
    let rows : List Row = before ++ row ∷ after in
    let section : List MediaAttribute = section_of others before row after behind in
    let maps = mappings_in (maps_in rows) in
    let apart = apart_of others before row after behind o v d in
    let resend = whole_resend maps others before row after behind (resend_mapped before row after) apart in
    let red = whole_red maps others before row after behind (red_mapped before row after) apart in
    let format = format_read others before row after behind apart ∙ own_format row.pt row.spec plain.events in
    let feedback = feedback_back others before row after behind apart in
    ap (λ l. flat_map (rows_given (types_in rows) l maps) (mappings_in (maps_of row)))
    (section_is others before row after behind)
    ∙ one_row (types_in rows) section maps row
    (main_row (types_in rows) section maps row plain (is_there before row after) format
    (row_back section maps row plain feedback resend red))

rows_back : (others behind : List MediaAttribute) (before rest : List Row) → list_any names_type others ≡ false
    → list_any names_type behind ≡ false
    → list_all is_plain rest ≡ true → is_distinct (types_in (before ++ rest)) ≡ true
    → ReadsBack others behind (before ++ rest) rest
rows_back others behind before [] o v p d = refl
rows_back others behind before (row ∷ after) o v p d =
    let rows : List Row = before ++ row ∷ after in
    let s = both (is_plain row) (list_all is_plain after) p in
    let regrouped = append_assoc before (row ∷ []) after in
    let more : ReadsBack others behind rows after =
    let P : List Row → Type 0 = λ l. ReadsBack others behind l after in
    subst P regrouped (rows_back others behind (before ++ row ∷ []) after o v s.1
    (ap (λ (l : List Row). is_distinct (types_in l)) regrouped ∙ d)) in
    let section : List MediaAttribute = others ++ (attributes_in rows ++ behind) in
    let read = flat_map (rows_given (types_in rows) section (mappings_in (maps_in rows))) in
    rows_append (types_in rows) section (mappings_in (maps_in rows)) (maps_of row) (maps_in after)
    ∙ ap (λ l. l ++ read (mappings_in (maps_in after))) (here others before row after behind o v (parts_of row s.0) d)
    ∙ ap (λ l. unlocked row ∷ l) more

pub plain_rows_come_back : PlainRowsComeBack
plain_rows_come_back rows others behind p d o v =
    ap (λ maps. flat_map (rows_given (types_in rows) (others ++ (attributes_in rows ++ behind)) maps) maps)
    (section_mapped rows others behind o v)
    ∙ rows_back others behind [] rows o v p d
