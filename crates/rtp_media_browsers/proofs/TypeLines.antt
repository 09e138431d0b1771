-- The lines that say what the types of a section are, in an answer.
use Rattle.std.proofs.Common.{◌≡◌, ◌∙◌, ap, refl, ℕ, Bool, true, false, not, ◌&&◌, cond, List, [], ◌∷◌, ◌++◌, filter}
use Rattle.std.proofs.Common.{map}
use Rattle.std.proofs.Common.{append-nil}
use Rattle.std.specs.Prelude.{Option, None, Some, if◌then◌else◌}
use Rattle.std.specs.List.{flat_map, list_all}
use Rattle.std.proofs.lemmas.Bool.{and_from}
use Rattle.std.proofs.lemmas.List.Elements.{filter-append}
use Rattle.std.proofs.lemmas.List.Folds.{list_all-append, list_all-map}
use Rattle.rtp_media_sections.specs.Lines.{mid_of, row_lines}
use Rattle.rtp_wire.specs.Direction.{sends}
use Rattle.sdp_formats_data.specs.Lookups.{direction_of}
use Rattle.sdp_formats_data.specs.Media.{is_mid}
use Rattle.sdp_formats_data.specs.declared.media.MediaAttribute.{MediaAttribute}
use Rattle.sdp_formats_data.specs.declared.media.MediaAttribute.TheVariants as line
use Rattle.sdp_formats_data.specs.declared.media.MediaLine.{MediaLine}
use Rattle.sdp_formats_reader.specs.AsRead.{as_read}
use Rattle.sdp_formats_rows.specs.Rows.{Row}
use Rattle.sdp_formats_section_rows.specs.Attributes.{all_feedback, attributes_of, feedback_line, feedback_lines}
use Rattle.sdp_formats_section_rows.specs.Attributes.{fmtp_of, is_used, words_of}
use Rattle.sdp_formats_section_rows.specs.Attributes.{params_in, red_lines, resend_lines}
use Rattle.sdp_formats_section_rows.specs.Maps.{map_of}
use Rattle.sdp_formats_values.specs.declared.param.FormatParam.{FormatParam}
use Rattle.rtp_media_browsers.specs.Following.{is_of_type}
use Rattle.rtp_media_browsers.specs.Identities.{identified, is_track_of, named_line, track_line, tracks_sent}
use Rattle.rtp_media_browsers.specs.Listing.{is_of_source, is_other, with_rows}
use Rattle.rtp_media_browsers.specs.declared.identity.Identity.{Identity}
use Rattle.rtp_media_browsers.specs.declared.identity.Track.{Track}
use Rattle.rtp_media_browsers.proofs.Named.{not_true}
use Rattle.rtp_media_browsers.proofs.Returning.{all_kept, off}
use Rattle.rtp_media_browsers.proofs.WithTransport.{both_of}

-- lines each of which says what a type is, as they are read
said : MediaAttribute → Bool
said l = is_of_type (as_read l)

abbrev AreSaid : List MediaAttribute → Type 0
AreSaid ls = list_all said ls ≡ true

with_more : (xs ys : List MediaAttribute) → AreSaid xs → AreSaid ys → AreSaid (xs ++ ys)
with_more xs ys a b = list_all-append said xs ys ∙ and_from (list_all said xs) (list_all said ys) a b

each_of : {A : Type 0} (f : A → List MediaAttribute) → ((x : A) → AreSaid (f x)) → (xs : List A)
    → AreSaid (flat_map f xs)
each_of f are [] = refl
each_of f are (x ∷ xs) = with_more (f x) (flat_map f xs) (are x) (each_of f are xs)

line_if : (b : Bool) (l : MediaAttribute) → said l ≡ true → AreSaid (if b then l ∷ [] else [])
line_if true l is = ap (λ x. x && true) is
line_if false l is = refl

feedback_said : (row : Row) → AreSaid (feedback_lines row)
unfolding feedback_line is_of_type said
feedback_said row =
    each_of (feedback_line row) (λ f. line_if (is_used row f) (line.RtcpFb row.pt (words_of f)) refl) all_feedback

fmtp_said : (pt : ℕ) (ps : List FormatParam) → AreSaid (fmtp_of pt ps)
unfolding fmtp_of is_of_type said
fmtp_said pt [] = refl
fmtp_said pt (p ∷ ps) = refl

resend_said : (row : Row) (pt : Option ℕ) → AreSaid (resend_lines row pt)
unfolding resend_lines is_of_type said
resend_said row None = refl
resend_said row (Some pt) = refl

red_said : (row : Row) (pt : Option ℕ) → AreSaid (red_lines row pt)
unfolding red_lines is_of_type said
red_said row None = refl
red_said row (Some pt) = refl

module _ (row : Row) where
  abbrev map_line : List MediaAttribute
  map_line = line.RtpMap row.pt (map_of row.spec) ∷ []

  abbrev with_feedback : List MediaAttribute
  with_feedback = map_line ++ feedback_lines row

  abbrev with_format : List MediaAttribute
  with_format = with_feedback ++ fmtp_of row.pt (params_in row.spec)

  row_said : AreSaid (attributes_of row)
  unfolding is_of_type said
  row_said =
      with_more (with_format ++ resend_lines row row.resend) (red_lines row row.red)
      (with_more with_format (resend_lines row row.resend)
      (with_more with_feedback (fmtp_of row.pt (params_in row.spec))
      (with_more map_line (feedback_lines row) refl (feedback_said row)) (fmtp_said row.pt (params_in row.spec)))
      (resend_said row row.resend)) (red_said row row.red)

all_said : (rows : List Row) → list_all is_of_type (map as_read (row_lines rows)) ≡ true
unfolding said
all_said rows = list_all-map is_of_type as_read (row_lines rows) ∙ each_of attributes_of row_said rows

-- what one test excludes, a filter by the other leaves nothing of
none_by : (p : MediaAttribute → Bool) (x : MediaAttribute) (kept : List MediaAttribute) (b : Bool)
    → (b ≡ true → p x ≡ false) → filter p kept ≡ [] → filter p (cond b (x ∷ kept) kept) ≡ []
none_by p x kept true excludes rest = rw (excludes refl) rest
none_by p x kept false excludes rest = rest

none_left : (p q : MediaAttribute → Bool) → ((a : MediaAttribute) → q a ≡ true → p a ≡ false)
    → (xs : List MediaAttribute) → filter p (filter q xs) ≡ []
none_left p q excludes [] = refl
none_left p q excludes (x ∷ xs) = none_by p x (filter q xs) (q x) (excludes x) (none_left p q excludes xs)

other_says_none : (a : MediaAttribute) → is_other a ≡ true → is_of_type a ≡ false
other_says_none a h =
    off (is_of_type a) (both_of (not (is_of_type a)) (not (is_of_source a))
    (both_of (not (is_mid a)) (not (is_of_type a) && not (is_of_source a)) h).1).0

source_says_none : (a : MediaAttribute) → is_of_source a ≡ true → is_of_type a ≡ false
unfolding is_of_source is_of_type
source_says_none (line.Ssrc ssrc attr value) h = refl
source_says_none (line.SsrcGroup semantics ssrcs) h = refl
source_says_none _ h = not_true h

pub lines_with_rows : (order : List ℕ) (rows : List Row) (m : MediaLine)
    → filter is_of_type (with_rows order rows m).attrs ≡ map as_read (row_lines rows)
unfolding with_rows is_of_type
lines_with_rows order rows m =
    let sources = filter is_of_source m.attrs in
    let lines = map as_read (row_lines rows) in
    filter-append is_of_type (filter is_other m.attrs) (lines ++ sources)
    ∙ (λ i. none_left is_of_type is_other other_says_none m.attrs i ++ filter-append is_of_type lines sources i)
    ∙ (λ i. all_kept is_of_type lines (all_said rows) i
    ++ none_left is_of_type is_of_source source_says_none m.attrs i)
    ∙ append-nil lines

-- CNAMEs and tracks say nothing of types
named_step : (cname : List ℕ) (a : MediaAttribute) (as' ls : List MediaAttribute)
    → filter is_of_type (map (named_line cname) as' ++ ls) ≡ filter is_of_type as'
    → filter is_of_type (map (named_line cname) (a ∷ as') ++ ls) ≡ filter is_of_type (a ∷ as')
unfolding is_of_type named_line
named_step cname (line.Ssrc ssrc attr value) as' ls h = h
named_step cname (line.RtpMap pt value) as' ls h = ap (λ xs. line.RtpMap pt value ∷ xs) h
named_step cname (line.Fmtp pt values) as' ls h = ap (λ xs. line.Fmtp pt values ∷ xs) h
named_step cname (line.RtcpFb pt value) as' ls h = ap (λ xs. line.RtcpFb pt value ∷ xs) h
named_step cname _ as' ls h = h

named_lines : (cname : List ℕ) (as' ls : List MediaAttribute) → filter is_of_type ls ≡ []
    → filter is_of_type (map (named_line cname) as' ++ ls) ≡ filter is_of_type as'
named_lines cname [] ls none = none
named_lines cname (a ∷ as') ls none = named_step cname a as' ls (named_lines cname as' ls none)

no_types_of_tracks : (ts : List Track) → filter is_of_type (map track_line ts) ≡ []
unfolding is_of_type
no_types_of_tracks [] = refl
no_types_of_tracks (t ∷ ts) = no_types_of_tracks ts

no_types_sent : (b : Bool) (ts : List Track) (mid : List ℕ) → filter is_of_type (tracks_sent b ts mid) ≡ []
no_types_sent true ts mid = no_types_of_tracks (filter (is_track_of mid) ts)
no_types_sent false ts mid = refl

pub identified_lines : (o : Option Identity) (m : MediaLine)
    → filter is_of_type (identified o m).attrs ≡ filter is_of_type m.attrs
identified_lines None m = refl
identified_lines (Some i) m =
    named_lines i.cname m.attrs (tracks_sent (sends (direction_of m.attrs)) i.tracks (mid_of m))
    (no_types_sent (sends (direction_of m.attrs)) i.tracks (mid_of m))

pub identified_types : (o : Option Identity) (m : MediaLine) → (identified o m).pts ≡ m.pts
identified_types None m = refl
identified_types (Some i) m = refl
