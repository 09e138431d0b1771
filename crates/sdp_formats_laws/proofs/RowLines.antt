-- The attributes that list plain rows can be printed.
use Rattle.std.proofs.Common.{◌≡◌, ◌≢◌, ◌<◌, ◌≤◌, ◌^◌, ◌==◌, ℕ, Bool, true, false, not, ◌&&◌, cond, if◌then◌else◌}
use Rattle.std.proofs.Common.{nat_lt, List}
use Rattle.std.proofs.Common.{[], ◌∷◌, ◌++◌, Option, Some, None, IfSome, codes, refl, sym, subst, arith, inl, inr, lit<}
use Rattle.std.specs.List.{list_all}
use Rattle.std.proofs.lemmas.Bool.Decides.{nat_tests}
use Rattle.media_types.specs.Codecs.{codec_name, codec_named}
use Rattle.media_types.specs.declared.codec.Codec.{Codec}
use Rattle.media_types.specs.declared.codec.Codec.TheVariants as codec
use Rattle.sdp_formats_grammar.specs.Split.{Lacks}
use Rattle.sdp_formats_laws.specs.ParameterLists.{AreReadable}
use Rattle.sdp_formats_laws.specs.PrintedParameters.{PlainParametersAreReadable}
use Rattle.sdp_formats_laws.specs.Printable.{AreBelow, IsPrintable, IsPrintableMap, IsText, IsWord}
use Rattle.sdp_formats_laws.specs.PrintableTexts.{AreFormats, IsPrintableSection}
use Rattle.sdp_formats_rounds.specs.Members.{IsEach}
use Rattle.sdp_formats_values.specs.declared.FormatParam.{FormatParam}
use Rattle.sdp_formats_rounds.specs.Types.{listed, types_of}
use Rattle.sdp_formats_laws.specs.RowsBack.{attributes_in}
use Rattle.sdp_formats_rounds.specs.TypeLaws.{types_in}
use Rattle.sdp_formats_laws.specs.Rows.{IsMedia, ListsRows}
use Rattle.sdp_formats_rounds.specs.Ranges.{IsSized}
use Rattle.sdp_formats_rows.specs.Codecs.{is_codec, rtp_clock_rate}
use Rattle.sdp_formats_rows.specs.Plain.{comes_back, has_plain_events, has_plain_feedback, has_plain_level}
use Rattle.sdp_formats_rows.specs.Plain.{has_plain_red}
use Rattle.sdp_formats_rows.specs.Plain.{has_plain_types, is_media_codec, is_plain, is_plain_codec, is_plain_rate}
use Rattle.sdp_formats_rows.specs.Plain.{is_type}
use Rattle.sdp_formats_rows.specs.Rows.{Row}
use Rattle.sdp_formats_section_rows.specs.Attributes.{attributes_of, feedback_line, feedback_lines, fmtp_of}
use Rattle.sdp_formats_section_rows.specs.Attributes.{params_in, red_lines, resend_lines}
use Rattle.sdp_formats_section_rows.specs.Maps.{map_of}
use Rattle.sdp_formats_data.specs.declared.MediaAttribute.TheVariants as attribute
use Rattle.sdp_formats_data.specs.declared.MediaLine.{MediaLine}
use Rattle.sdp_formats_values.specs.declared.media_type.MediaType.{MediaType}
use Rattle.sdp_formats_values.specs.declared.media_type.MediaType.TheVariants.{Audio, Video, Application, Unknown}

two_true : (a b : Bool) → (a && b) ≡ true → (a ≡ true) × (b ≡ true)
two_true true b h = (refl, h)
two_true false b h = absurd (cc)

both_each : {A : Type 0} (P : A → Type 0) (xs ys : List A) → IsEach P xs → IsEach P ys → IsEach P (xs ++ ys)
both_each P [] ys h k = k
both_each P (x ∷ xs) ys h k = (h.0, both_each P xs ys h.1 k)

-- words that are on a line
abbrev pub is_word : List ℕ → Bool
is_word [] = true
is_word (b ∷ t) = nat_lt 32 b && (not (b == 47) && is_word t)

word_two : (b : ℕ) (more : Bool) → (nat_lt 32 b && (not (b == 47) && more)) ≡ true
    → (32 < b) × (b ≢ 47) × (more ≡ true)
word_two b more h = (grind (arith, nat_tests), (λ e. grind (arith, nat_tests)), grind (arith, nat_tests))

word_lacks : (c : ℕ) (t : List ℕ) → c ≤ 32 → is_word t ≡ true → Lacks c t
word_lacks c [] low h = tt
word_lacks c (b ∷ t) low h = let two = word_two b (is_word t) h in
    ((λ e. omega (e, two.0, low, arith)), word_lacks c t low two.2)

no_slash : (t : List ℕ) → is_word t ≡ true → Lacks 47 t
no_slash [] h = tt
no_slash (b ∷ t) h = let two = word_two b (is_word t) h in (two.1, no_slash t two.2)

word_of : (t : List ℕ) → t ≢ [] → is_word t ≡ true → IsWord t × Lacks 47 t
word_of t some h = (
  ((some, word_lacks 10 t (omega arith) h, word_lacks 13 t (omega arith) h), word_lacks 32 t (omega arith) h),
  no_slash t h,
)

abbrev pub IsNamed : Codec → Type 0
IsNamed c = (codec_named (codec_name c) ≡ c) × IsWord (codec_name c) × Lacks 47 (codec_name c)

named_if : (c : Codec) → codec_named (codec_name c) ≡ c → codec_name c ≢ [] → is_word (codec_name c) ≡ true → IsNamed c
named_if c e some h = let w = word_of (codec_name c) some h in (e, w.0, w.1)

media_named : (c : Codec) → is_media_codec c ≡ true → IsNamed c
unfolding codec_named
media_named codec.Opus h = named_if codec.Opus refl (λ e. cc) refl
media_named codec.PCMU h = named_if codec.PCMU refl (λ e. cc) refl
media_named codec.PCMA h = named_if codec.PCMA refl (λ e. cc) refl
media_named codec.G722 h = named_if codec.G722 refl (λ e. cc) refl
media_named codec.CN h = named_if codec.CN refl (λ e. cc) refl
media_named codec.AmrWb h = named_if codec.AmrWb refl (λ e. cc) refl
media_named codec.H264 h = named_if codec.H264 refl (λ e. cc) refl
media_named codec.H265 h = named_if codec.H265 refl (λ e. cc) refl
media_named codec.H266 h = named_if codec.H266 refl (λ e. cc) refl
media_named codec.Vp8 h = named_if codec.Vp8 refl (λ e. cc) refl
media_named codec.Vp9 h = named_if codec.Vp9 refl (λ e. cc) refl
media_named codec.Av1 h = named_if codec.Av1 refl (λ e. cc) refl
media_named codec.Tele h = named_if codec.Tele refl (λ e. cc) refl
media_named _ h = absurd (cc)

rtx_named : IsNamed codec.Rtx
unfolding codec_named
rtx_named = named_if codec.Rtx refl (λ e. cc) refl

red_named : IsNamed codec.Red
unfolding codec_named
red_named = named_if codec.Red refl (λ e. cc) refl

rate_cond : (b : Bool) (n : ℕ) → 0 < n → n < 2 ^ 32 → (0 < cond b 8000 n) × (cond b 8000 n < 2 ^ 32)
rate_cond true n some small = (lit< tt, lit< tt)
rate_cond false n some small = (some, small)

map_printable : (row : Row) (c : Codec) (channels : Option ℕ) → IsNamed c → IsSized row
    → IfSome channels (λ n. n < 2 ^ 8)
    → IsPrintableMap (record { codec = c; clock_rate = rtp_clock_rate row.spec; channels = channels })
map_printable row c channels h sized few =
    let rate = rate_cond (is_codec row.spec.codec codec.G722) row.spec.clock_rate sized.0 sized.1 in
    (h.0, h.1, h.2, rate.0, rate.1, few)

-- lines of parameters
fmtp_lines : (pt : ℕ) (ps : List FormatParam) → pt ≤ 127 → AreReadable ps → IsEach IsPrintable (fmtp_of pt ps)
unfolding fmtp_of
fmtp_lines pt [] low h = tt
fmtp_lines pt (p ∷ ps) low h = ((low, h), tt)

-- lines of feedback
abbrev pub is_line : List ℕ → Bool
is_line [] = true
is_line (b ∷ t) = nat_lt 31 b && is_line t

line_two : (b : ℕ) (more : Bool) → (nat_lt 31 b && more) ≡ true → (31 < b) × (more ≡ true)
line_two b more h = (grind (arith, nat_tests), grind (arith, nat_tests))

line_lacks : (c : ℕ) (t : List ℕ) → c ≤ 31 → is_line t ≡ true → Lacks c t
line_lacks c [] low h = tt
line_lacks c (b ∷ t) low h = let two = line_two b (is_line t) h in
    ((λ e. omega (e, two.0, low, arith)), line_lacks c t low two.1)

line_text : (t : List ℕ) → t ≢ [] → is_line t ≡ true → IsText t
line_text t some h = (some, line_lacks 10 t (omega arith) h, line_lacks 13 t (omega arith) h)

line_cond : (b : Bool) (pt : ℕ) (words : List ℕ) → pt ≤ 127 → IsText words
    → IsEach IsPrintable (if b then attribute.RtcpFb pt words ∷ [] else [])
line_cond true pt words low h = ((low, h), tt)
line_cond false pt words low h = tt

all_lines : (row : Row) → row.pt ≤ 127 → IsEach IsPrintable (feedback_lines row)
unfolding feedback_line
all_lines row low =
    let line = λ (b : Bool) (words : List ℕ). if b then attribute.RtcpFb row.pt words ∷ [] else [] in
    let five = both_each IsPrintable (line row.pli (codes "nack pli")) []
    (line_cond row.pli row.pt (codes "nack pli") low (line_text (codes "nack pli") (λ e. cc) refl)) tt in
    let four = both_each IsPrintable (line row.nack (codes "nack")) _
    (line_cond row.nack row.pt (codes "nack") low (line_text (codes "nack") (λ e. cc) refl)) five in
    let three = both_each IsPrintable (line row.fir (codes "ccm fir")) _
    (line_cond row.fir row.pt (codes "ccm fir") low (line_text (codes "ccm fir") (λ e. cc) refl)) four in
    let two = both_each IsPrintable (line row.remb (codes "goog-remb")) _
    (line_cond row.remb row.pt (codes "goog-remb") low (line_text (codes "goog-remb") (λ e. cc) refl)) three in
    both_each IsPrintable (line row.transport_cc (codes "transport-cc")) _
    (line_cond row.transport_cc row.pt (codes "transport-cc") low (line_text (codes "transport-cc") (λ e. cc) refl)) two

-- types of seven bits
type_low : (t : ℕ) → nat_lt t 128 ≡ true → t ≤ 127
type_low t h = grind (arith, nat_tests)

-- a type of retransmissions and one of redundant audio
resend_printable : (row : Row) (o : Option ℕ) → row.pt ≤ 127 → IsSized row → is_type o ≡ true
    → IsEach IsPrintable (resend_lines row o)
unfolding resend_lines
resend_printable row None low sized h = tt
resend_printable row (Some t) low sized h = (
  (type_low t h, map_printable row codec.Rtx None rtx_named sized tt),
  ((type_low t h, inl (omega (low, arith), tt)), tt),
)

red_printable : (row : Row) (o : Option ℕ) → row.pt ≤ 127 → IsSized row → is_type o ≡ true
    → IsEach IsPrintable (red_lines row o)
unfolding red_lines
red_printable row None low sized h = tt
red_printable row (Some t) low sized h = (
  (type_low t h, map_printable row codec.Red row.spec.channels red_named sized sized.2),
  ((type_low t h, inr (inr (omega (low, arith)))), tt),
)

-- what is plain of a row
record PlainTypes (row : Row) : Type 0 where
  own : row.pt ≤ 127
  resend : is_type row.resend ≡ true
  red : is_type row.red ≡ true
  media : is_media_codec row.spec.codec ≡ true

plain_types : (row : Row) → is_plain row ≡ true → PlainTypes row
plain_types row h =
    let types = has_plain_types row in
    let coded = is_plain_codec row.spec in
    let feedback = has_plain_feedback row in
    let red = has_plain_red row in
    let events = has_plain_events row.spec in
    let level = has_plain_level row.spec in
    let six = two_true (types && coded && feedback && red && events && level) (comes_back row.spec.format) h in
    let five = two_true (types && coded && feedback && red && events) level six.0 in
    let four = two_true (types && coded && feedback && red) events five.0 in
    let three = two_true (types && coded && feedback) red four.0 in
    let two = two_true (types && coded) feedback three.0 in
    let one = two_true types coded two.0 in
    let third = two_true (is_type (Some row.pt) && is_type row.resend) (is_type row.red) one.0 in
    let second = two_true (is_type (Some row.pt)) (is_type row.resend) third.0 in
    record {
      own = type_low row.pt second.0;
      resend = second.1;
      red = third.1;
      media = (two_true (is_media_codec row.spec.codec) (is_plain_rate row.spec) one.1).0;
    }

row_printable : PlainParametersAreReadable → (row : Row) → is_plain row ≡ true → IsSized row
    → IsEach IsPrintable (attributes_of row)
row_printable params row h sized =
    let p = plain_types row h in
    let map : IsEach IsPrintable (attribute.RtpMap row.pt (map_of row.spec) ∷ []) = (
      (
        p.own,
        map_printable row row.spec.codec row.spec.channels
            (media_named row.spec.codec p.media) sized sized.2,
      ),
      tt,
    ) in
    let own = (attribute.RtpMap row.pt (map_of row.spec) ∷ []) ++ feedback_lines row in
    let lines = own ++ fmtp_of row.pt (params_in row.spec) in
    both_each IsPrintable (lines ++ resend_lines row row.resend) (red_lines row row.red)
    (both_each IsPrintable lines (resend_lines row row.resend)
    (both_each IsPrintable own (fmtp_of row.pt (params_in row.spec))
    (both_each IsPrintable (attribute.RtpMap row.pt (map_of row.spec) ∷ []) (feedback_lines row) map
    (all_lines row p.own))
    (fmtp_lines row.pt (params_in row.spec) p.own (params row h).0))
    (resend_printable row row.resend p.own sized p.resend))
    (red_printable row row.red p.own sized p.red)

rows_printable : PlainParametersAreReadable → (rows : List Row) → list_all is_plain rows ≡ true
    → IsEach IsSized rows → IsEach IsPrintable (attributes_in rows)
rows_printable params [] h sized = tt
rows_printable params (row ∷ rows) h sized =
    let two = two_true (is_plain row) (list_all is_plain rows) h in
    both_each IsPrintable (attributes_of row) (attributes_in rows) (row_printable params row two.0 sized.0)
    (rows_printable params rows two.1 sized.1)

-- the list of types
both_below : (limit : ℕ) (xs ys : List ℕ) → AreBelow limit xs → AreBelow limit ys → AreBelow limit (xs ++ ys)
both_below limit [] ys h k = k
both_below limit (x ∷ xs) ys h k = (h.0, both_below limit xs ys h.1 k)

option_below : (o : Option ℕ) → is_type o ≡ true → AreBelow (2 ^ 8) (listed o)
option_below None h = tt
option_below (Some t) h = (omega (type_low t h, arith), tt)

types_below : (rows : List Row) → list_all is_plain rows ≡ true → AreBelow (2 ^ 8) (types_in rows)
types_below [] h = tt
types_below (row ∷ rows) h =
    let two = two_true (is_plain row) (list_all is_plain rows) h in
    let p = plain_types row two.0 in
    both_below (2 ^ 8) (types_of row) (types_in rows) (
      omega (p.own, arith),
      both_below (2 ^ 8) (listed row.resend) (listed row.red) (option_below row.resend p.resend)
          (option_below row.red p.red),
    ) (types_below rows two.1)

are_formats : (typ : MediaType) (pts : List ℕ) → IsMedia typ → pts ≢ [] → AreBelow (2 ^ 8) pts → AreFormats typ pts
are_formats Audio [] media some h = absurd (some refl)
are_formats Audio (pt ∷ pts) media some h = h
are_formats Video [] media some h = absurd (some refl)
are_formats Video (pt ∷ pts) media some h = h
are_formats Application pts media some h = absurd media
are_formats (Unknown word) pts media some h = absurd media

types_there : (rows : List Row) → rows ≢ [] → types_in rows ≢ []
types_there [] some = absurd (some refl)
types_there (row ∷ rows) some = λ e. cc

pub section_printable : PlainParametersAreReadable → (m : MediaLine) (rows : List Row)
    → ListsRows m rows → IsPrintableSection m
section_printable params m rows h = (
  subst (λ pts. AreFormats m.typ pts) (sym h.types)
      (are_formats m.typ (types_in rows) h.media (types_there rows h.some) (types_below rows h.plain)),
  h.bandwidth,
  subst (IsEach IsPrintable) (sym h.attributes)
      (both_each IsPrintable h.others (attributes_in rows ++ h.behind) h.others_printable
      (both_each IsPrintable (attributes_in rows) h.behind (rows_printable params rows h.plain h.sized)
      h.behind_printable)),
)
