-- The rows of a section by what is said of each type are those that its lines give.
use Rattle.std.proofs.Common.{◌≡◌, ℕ, Bool, true, false, ◌&&◌, ◌||◌, ◌==◌, List, [], ◌∷◌, ◌++◌, refl, sym, ◌∙◌, ap}
use Rattle.std.proofs.Common.{cond, if◌then◌else◌, Option, Some, None}
use Rattle.std.specs.Prelude.{fold, map}
use Rattle.std.specs.List.{flat_map, list_any}
use Rattle.std.specs.Option.{option_and_then, option_map}
use Rattle.std.proofs.Math.Bool.{and_comm}
use Rattle.std.proofs.Math.Path.{fun_ext}
use Rattle.std.proofs.lemmas.Bool.{and_from, eq-eqb, eqb-true, or_left, or_right}
use Rattle.media_types.specs.Codecs.{is_audio_codec, is_tele_codec, is_video_codec}
use Rattle.media_types.specs.declared.codec.Codec.{Codec}
use Rattle.media_types.specs.declared.codec.Codec.TheVariants as codec
use Rattle.sdp_formats_data.specs.declared.media.MediaAttribute.{MediaAttribute}
use Rattle.sdp_formats_data.specs.declared.media.MediaAttribute.TheVariants.{Fmtp}
use Rattle.sdp_formats_rows.specs.Codecs.{is_codec}
use Rattle.sdp_formats_rows.specs.Plain.{is_media_codec}
use Rattle.sdp_formats_section_rows.specs.Facts.{facts_of, facts_with, find_facts, linked_by, linked_in}
use Rattle.sdp_formats_section_rows.specs.Facts.{format_by, row_by, row_found, row_with, rows_by}
use Rattle.sdp_formats_section_rows.specs.Mapped.{is_mapped_to}
use Rattle.sdp_formats_section_rows.specs.SectionRows.{linked, linked_after, listed, names, rows_given}
use Rattle.sdp_formats_section_rows.specs.TypeLists.{is_listed, media_types_in, types_to}
use Rattle.sdp_formats_section_rows.specs.declared.facts.TypeFacts.{TypeFacts}
use Rattle.sdp_formats_section_rows.specs.declared.mapped.Mapping.{Mapping}
use Rattle.sdp_formats_section_rows.proofs.TypeLists.{types_known}

-- on a list of what is said of each type, a type's own is found
found_own : (facts : ℕ → TypeFacts) → ((p : ℕ) → (facts p).pt ≡ p) → (types : List ℕ) (p : ℕ)
    → is_listed types p ≡ true → find_facts (map facts types) p ≡ Some (facts p)
found_own facts own [] p e = cc
found_own facts own (t ∷ types) p e = at (found_own facts own types p) (t == p) refl
  where
    own_head : (b : Bool) → (t == p) ≡ b → ((facts t).pt == p) ≡ b
    own_head b q = ap (λ n. n == p) (own t) ∙ q

    head : (b : Bool) → (t == p) ≡ b
        → find_facts (map facts (t ∷ types)) p ≡ cond b (Some (facts t)) (find_facts (map facts types) p)
    head b q = ap (λ h. cond h (Some (facts t)) (find_facts (map facts types) p)) (own_head b q)

    at : (is_listed types p ≡ true → find_facts (map facts types) p ≡ Some (facts p))
        → (b : Bool) → (t == p) ≡ b → find_facts (map facts (t ∷ types)) p ≡ Some (facts p)
    at rest true q = head true q ∙ ap (λ n. Some (facts n)) (eqb-true t p q)
    at rest false q = head false q ∙ rest (ap (λ b. b || is_listed types p) (sym q) ∙ e)

-- a mapping of another kind has no row
no_row : (m : Mapping) (f : TypeFacts) → is_media_codec m.map.codec ≡ false → row_by m f ≡ None
no_row m f e = at (is_audio_codec m.map.codec) (is_video_codec m.map.codec) (is_tele_codec m.map.codec) e
  where
    at : (a v t : Bool) → (a || v || t) ≡ false
        → (if a || v || (t && f.is_listed) then option_map (row_with m f) (format_by m.map.codec f) else None) ≡ None
    at false false false e = refl
    at true v t e = cc
    at false true t e = cc
    at false false true e = cc

row_of_one : (facts : ℕ → TypeFacts) → ((p : ℕ) → (facts p).pt ≡ p) → (types : List ℕ) (m : Mapping)
    → (is_media_codec m.map.codec ≡ true → is_listed types m.pt ≡ true)
    → row_found (map facts types) m ≡ row_by m (facts m.pt)
row_of_one facts own types m on = at (is_media_codec m.map.codec) refl
  where
    none : (o : Option TypeFacts) → is_media_codec m.map.codec ≡ false → option_and_then (row_by m) o ≡ None
    none None e = refl
    none (Some f) e = no_row m f e

    at : (b : Bool) → is_media_codec m.map.codec ≡ b → row_found (map facts types) m ≡ row_by m (facts m.pt)
    at true e = ap (option_and_then (row_by m)) (found_own facts own types m.pt (on e))
    at false e = none (find_facts (map facts types) m.pt) e ∙ sym (no_row m (facts m.pt) e)

-- each mapping gets the row of its type
row_of_each : (facts : ℕ → TypeFacts) → ((p : ℕ) → (facts p).pt ≡ p) → (types : List ℕ) (ms : List Mapping)
    → ((p : ℕ) → list_any (λ m. m.pt == p && is_media_codec m.map.codec) ms ≡ true → is_listed types p ≡ true)
    → flat_map (λ m. listed (row_found (map facts types) m)) ms ≡ flat_map (λ m. listed (row_by m (facts m.pt))) ms
row_of_each facts own types [] all = refl
row_of_each facts own types (m ∷ ms) all =
    ap (λ o. listed o ++ flat_map (λ x. listed (row_found (map facts types) x)) ms) (row_of_one facts own types m head)
    ∙ ap (λ rows. listed (row_by m (facts m.pt)) ++ rows) (row_of_each facts own types ms tail)
  where
    rest : ℕ → Bool
    rest p = list_any (λ x. x.pt == p && is_media_codec x.map.codec) ms

    head : is_media_codec m.map.codec ≡ true → is_listed types m.pt ≡ true
    head e = all m.pt (or_left (m.pt == m.pt && is_media_codec m.map.codec) (rest m.pt)
        (and_from (m.pt == m.pt) (is_media_codec m.map.codec) (eq-eqb m.pt m.pt refl) e))

    tail : (p : ℕ) → rest p ≡ true → is_listed types p ≡ true
    tail p e = all p (or_right (m.pt == p && is_media_codec m.map.codec) (rest p) e)

linked_step : (role : Codec) (maps : List Mapping) (pt : ℕ) (found : Option ℕ) (a : MediaAttribute)
    → linked_by role (types_to role maps) pt found a ≡ linked_after role maps pt found a
unfolding linked_by linked_after
linked_step role maps pt found (Fmtp by values) =
    ap (λ b. if b then Some by else found)
    (ap (λ b. list_any (names role pt) values && b) (types_known (λ m. is_codec m.map.codec role) maps by)
    ∙ and_comm (list_any (names role pt) values) (is_mapped_to role maps by))
linked_step role maps pt found _ = refl

linked_same : (role : Codec) (maps : List Mapping) (attrs : List MediaAttribute) (pt : ℕ)
    → linked_in role (types_to role maps) attrs pt ≡ linked role attrs maps pt
linked_same role maps attrs pt =
    ap (λ f. fold f None attrs) (fun_ext (λ found. fun_ext (λ a. linked_step role maps pt found a)))

row_same : (pts : List ℕ) (attrs : List MediaAttribute) (maps : List Mapping) (m : Mapping)
    → rows_by pts attrs (types_to codec.Rtx maps) (types_to codec.Red maps) m ≡ rows_given pts attrs maps m
unfolding rows_by facts_of rows_given
row_same pts attrs maps m =
    ap (λ o. listed (row_by m (facts_with pts attrs m.pt o (linked_in codec.Red (types_to codec.Red maps) attrs m.pt))))
    (linked_same codec.Rtx maps attrs m.pt)
    ∙ ap (λ o. listed (row_by m (facts_with pts attrs m.pt (linked codec.Rtx attrs maps m.pt) o)))
    (linked_same codec.Red maps attrs m.pt)

own_type : (pts : List ℕ) (attrs : List MediaAttribute) (resend red : List ℕ) (p : ℕ)
    → (facts_of pts attrs resend red p).pt ≡ p
unfolding facts_of
own_type pts attrs resend red p = refl

rows_each : (pts : List ℕ) (attrs : List MediaAttribute) (resend red : List ℕ) (m : Mapping)
    → listed (row_by m (facts_of pts attrs resend red m.pt)) ≡ rows_by pts attrs resend red m
unfolding rows_by
rows_each pts attrs resend red m = refl

pub rows_same : (pts : List ℕ) (attrs : List MediaAttribute) (maps : List Mapping)
    → flat_map (λ m. listed (row_found (map (facts_of pts attrs (types_to codec.Rtx maps) (types_to codec.Red maps))
    (media_types_in maps)) m)) maps ≡ flat_map (rows_given pts attrs maps) maps
rows_same pts attrs maps =
    row_of_each facts (own_type pts attrs (types_to codec.Rtx maps) (types_to codec.Red maps))
    (media_types_in maps) maps
    (λ p e. types_known (λ m. is_media_codec m.map.codec) maps p ∙ e)
    ∙ ap (λ f. flat_map f maps) (fun_ext (λ m.
    rows_each pts attrs (types_to codec.Rtx maps) (types_to codec.Red maps) m ∙ row_same pts attrs maps m))
  where
    facts : ℕ → TypeFacts
    facts = facts_of pts attrs (types_to codec.Rtx maps) (types_to codec.Red maps)
