-- A plain row comes back from what a section gives its type.
use Rattle.std.proofs.Common.{◌≡◌, ℕ, Bool, true, false, not, ◌&&◌, ◌||◌, ◌==◌, List, [], ◌∷◌, ◌++◌, refl, ◌∙◌, ap}
use Rattle.std.proofs.Common.{Option, Some, None, arith, if◌then◌else◌, is_none}
use Rattle.std.specs.List.{flat_map}
use Rattle.std.proofs.lemmas.Grind.{common_steps, flat_map-append}
use Rattle.media_types.specs.Codecs.{is_audio_codec, is_tele_codec, is_video_codec}
use Rattle.media_types.specs.declared.codec.Codec.TheVariants as codec
use Rattle.sdp_formats_rows.specs.Codecs.{is_codec}
use Rattle.sdp_formats_rows.specs.Plain.{comes_back, has_plain_events, has_plain_feedback, has_plain_level}
use Rattle.sdp_formats_rows.specs.Plain.{has_plain_red}
use Rattle.sdp_formats_rows.specs.Plain.{has_plain_types, is_media_codec, is_plain, is_plain_codec, is_plain_rate}
use Rattle.sdp_formats_rows.specs.Rows.{Row}
use Rattle.sdp_formats_rows.specs.Same.{same, same_bool}
use Rattle.sdp_formats_rows.specs.declared.spec.CodecSpec.{CodecSpec}
use Rattle.sdp_formats_section_rows.specs.Given.{format_given}
use Rattle.sdp_formats_section_rows.specs.Maps.{map_of, spec_of_map}
use Rattle.sdp_formats_section_rows.specs.Mapped.{mapping_in, mappings_in}
use Rattle.sdp_formats_section_rows.specs.Maps.{unless_one}
use Rattle.sdp_formats_section_rows.specs.SectionRows.{has_row, row_of, rows_given}
use Rattle.sdp_formats_section_rows.specs.SectionRows.{linked}
use Rattle.sdp_formats_data.specs.declared.media.MediaAttribute.{MediaAttribute}
use Rattle.sdp_formats_data.specs.declared.media.MediaAttribute.TheVariants as attribute
use Rattle.sdp_formats_rounds.specs.Laws.{is_among}
use Rattle.sdp_formats_laws.specs.RowsBack.{unlocked}
use Rattle.sdp_formats_laws.proofs.Lists.{both}
use Rattle.sdp_formats_laws.proofs.MappedLemmas.{map_line, maps_of, red_map, resend_map}
use Rattle.sdp_formats_laws.proofs.Feedback.{FeedbackBack}

-- what a plain row has
pub record PlainParts (row : Row) : Type 0 where
  pub media : is_media_codec row.spec.codec ≡ true
  pub rate : is_plain_rate row.spec ≡ true
  pub nack : same_bool row.nack (is_video_codec row.spec.codec) ≡ true
  pub pli : same_bool row.pli (is_video_codec row.spec.codec) ≡ true
  pub fir : same_bool row.fir (is_video_codec row.spec.codec) ≡ true
  pub remb : same_bool row.remb (is_video_codec row.spec.codec) ≡ true
  pub red : has_plain_red row ≡ true
  pub events : has_plain_events row.spec ≡ true

pub parts_of : (row : Row) → is_plain row ≡ true → PlainParts row
parts_of row e =
    let a = both _ (comes_back row.spec.format) e in
    let b = both _ (has_plain_level row.spec) a.0 in
    let c = both _ (has_plain_events row.spec) b.0 in
    let d = both _ (has_plain_red row) c.0 in
    let f = both _ (has_plain_feedback row) d.0 in
    let g = both (has_plain_types row) (is_plain_codec row.spec) f.0 in
    let h = both (is_media_codec row.spec.codec) (is_plain_rate row.spec) g.1 in
    let video : Bool = is_video_codec row.spec.codec in
    let k = both _ (same_bool row.remb video) f.1 in
    let l = both _ (same_bool row.fir video) k.0 in
    let m = both (same_bool row.nack video) (same_bool row.pli video) l.0 in
    record {
      media = h.0;
      rate = h.1;
      nack = m.0;
      pli = m.1;
      fir = l.1;
      remb = k.1;
      red = d.1;
      events = c.1;
    }

-- the codec is the one that its map means
not_one : (o : Option ℕ) → not (same o (Some 1)) ≡ true → unless_one o ≡ o
not_one None e = refl
not_one (Some n) e = at (n == 1) refl
  where
    at : (b : Bool) → (n == 1) ≡ b → (if n == 1 then None else Some n) ≡ Some n
    at true is = absurd (let no : not (n == 1) ≡ true = e in let bad : false ≡ true = rw is at no in cc)
    at false is = rw is refl

spec_back : (spec : CodecSpec) → is_plain_rate spec ≡ true → spec_of_map (map_of spec) spec.format ≡ spec
spec_back spec e = at (is_codec spec.codec codec.G722) refl
  where
    at : (b : Bool) → is_codec spec.codec codec.G722 ≡ b → spec_of_map (map_of spec) spec.format ≡ spec
    at false is = rw is refl
    at true is =
        let plain : (spec.clock_rate == 16000 && not (same spec.channels (Some 1))) ≡ true = rw is at e in
        let s = both (spec.clock_rate == 16000) (not (same spec.channels (Some 1))) plain in
        let rate : 16000 ≡ spec.clock_rate = grind (arith, common_steps) in
        let channels = not_one spec.channels s.1 in
        rw is (λ i. record {
          codec = spec.codec;
          clock_rate = rate i;
          channels = channels i;
          format = spec.format;
        })

used : (video n h : Bool) → h ≡ n → same_bool n video ≡ true → (video || h) ≡ n
used true true h e s = refl
used true false h e s = cc
used false n h e s = e

red_given : (audio : Bool) (found red : Option ℕ) → found ≡ red → (is_none red || audio) ≡ true
    → (if audio then found else None) ≡ red
red_given true found red e s = e
red_given false found None e s = refl
red_given false found (Some t) e s = cc

pub row_back : (attributes : List MediaAttribute) (maps : _) (row : Row) → PlainParts row → FeedbackBack attributes row
    → linked codec.Rtx attributes maps row.pt ≡ row.resend → linked codec.Red attributes maps row.pt ≡ row.red
    → row_of attributes maps (record { pt = row.pt; map = map_of row.spec }) row.spec.format ≡ unlocked row
row_back attributes maps row plain feedback resend red =
    let video : Bool = is_video_codec row.spec.codec in
    let spec = spec_back row.spec plain.rate in
    let nack = used video row.nack _ feedback.nack plain.nack in
    let pli = used video row.pli _ feedback.pli plain.pli in
    let fir = used video row.fir _ feedback.fir plain.fir in
    let remb = used video row.remb _ feedback.remb plain.remb in
    let under = red_given (is_audio_codec row.spec.codec) _ row.red red plain.red in
    λ i. record {
      pt = row.pt;
      resend = resend i;
      spec = spec i;
      transport_cc = feedback.transport_cc i;
      nack = nack i;
      pli = pli i;
      fir = fir i;
      remb = remb i;
      red = under i;
      locked = false;
    }

any_media : (audio video tele there : Bool) → ((audio || video) || tele) ≡ true → there ≡ true
    → ((audio || video) || (tele && there)) ≡ true
any_media true video tele there e t = refl
any_media false true tele there e t = refl
any_media false false tele true e t = grind (arith, common_steps)
any_media false false tele false e t = cc

pub main_row : (pts : List ℕ) (attributes : List MediaAttribute) (maps : _) (row : Row) → PlainParts row
    → is_among pts row.pt ≡ true → format_given row.spec.codec row.pt attributes ≡ Some row.spec.format
    → row_of attributes maps (record { pt = row.pt; map = map_of row.spec }) row.spec.format ≡ unlocked row
    → flat_map (rows_given pts attributes maps) (mapping_in (attribute.RtpMap row.pt (map_of row.spec)))
    ≡ unlocked row ∷ []
unfolding rows_given
main_row pts attributes maps row plain there format same =
    let has : has_row pts (record { pt = row.pt; map = map_of row.spec }) ≡ true =
    any_media (is_audio_codec row.spec.codec) (is_video_codec row.spec.codec) (is_tele_codec row.spec.codec)
    (is_among pts row.pt) plain.media there in
    rw (has, format) (ap (λ r. r ∷ []) same)

-- types of retransmissions and RED types have no row
resend_none : (pts : List ℕ) (attributes : List MediaAttribute) (maps : _) (row : Row) (o : Option ℕ)
    → flat_map (rows_given pts attributes maps) (mappings_in (map_line (resend_map row) o)) ≡ []
unfolding rows_given
resend_none pts attributes maps row None = refl
resend_none pts attributes maps row (Some t) = refl

red_none : (pts : List ℕ) (attributes : List MediaAttribute) (maps : _) (row : Row) (o : Option ℕ)
    → flat_map (rows_given pts attributes maps) (mappings_in (map_line (red_map row) o)) ≡ []
unfolding rows_given
red_none pts attributes maps row None = refl
red_none pts attributes maps row (Some t) = refl

pub rows_append : (pts : List ℕ) (attributes : List MediaAttribute) (maps : _) (xs ys : List MediaAttribute)
    → flat_map (rows_given pts attributes maps) (mappings_in (xs ++ ys))
    ≡ flat_map (rows_given pts attributes maps) (mappings_in xs)
    ++ flat_map (rows_given pts attributes maps) (mappings_in ys)
rows_append pts attributes maps xs ys =
    ap (flat_map (rows_given pts attributes maps)) (flat_map-append mapping_in xs ys)
    ∙ flat_map-append (rows_given pts attributes maps) (mappings_in xs) (mappings_in ys)

pub one_row : (pts : List ℕ) (attributes : List MediaAttribute) (maps : _) (row : Row)
    → flat_map (rows_given pts attributes maps) (mapping_in (attribute.RtpMap row.pt (map_of row.spec)))
    ≡ unlocked row ∷ []
    → flat_map (rows_given pts attributes maps) (mappings_in (maps_of row)) ≡ unlocked row ∷ []
one_row pts attributes maps row e =
    let resend : List MediaAttribute = map_line (resend_map row) row.resend in
    let red : List MediaAttribute = map_line (red_map row) row.red in
    rows_append pts attributes maps (attribute.RtpMap row.pt (map_of row.spec) ∷ []) (resend ++ red)
    ∙ ap (λ l. l ++ flat_map (rows_given pts attributes maps) (mappings_in (resend ++ red))) e
    ∙ ap (λ l. unlocked row ∷ l)
    (rows_append pts attributes maps resend red
    ∙ ap (λ l. l ++ flat_map (rows_given pts attributes maps) (mappings_in red))
    (resend_none pts attributes maps row row.resend)
    ∙ red_none pts attributes maps row row.red)
