-- What a section's lines are read as names the rows that they name.
use Rattle.std.proofs.Common.{◌≡◌, ◌≤◌, ◌+◌, ◌==◌, ℕ, Bool, true, false, not, ◌&&◌, ◌||◌, cond, List, [], ◌∷◌, ◌++◌}
use Rattle.std.proofs.Common.{length, map, filter, Option, Some, None, codes, refl, sym, ◌∙◌, ap, arith, if◌then◌else◌}
use Rattle.std.specs.List.{flat_map, fold, list_any}
use Rattle.std.specs.Option.{option_map}
use Rattle.media_types.specs.Codecs.{is_audio_codec, is_tele_codec, is_video_codec}
use Rattle.media_types.specs.declared.codec.Codec.{Codec}
use Rattle.media_types.specs.declared.codec.Codec.TheVariants as codec
use Rattle.sdp_formats_laws.specs.AsReadLemmas.{any_as_read, any_map}
use Rattle.sdp_formats_laws.specs.ReadTexts.{section_as_read}
use Rattle.sdp_formats_values.specs.declared.FormatParam.{FormatParam}
use Rattle.sdp_formats_values.specs.declared.FormatParam.TheVariants as param
use Rattle.sdp_formats_reader.specs.AsRead.{as_read, is_level, is_other, params_as_read, spelled_as}
use Rattle.sdp_formats_laws.specs.Rows.{section_rows}
use Rattle.sdp_formats_rows.specs.Codecs.{is_codec}
use Rattle.sdp_formats_rows.specs.Formats.{no_format}
use Rattle.sdp_formats_rows.specs.declared.format.FormatParams.{FormatParams}
use Rattle.sdp_formats_section_rows.specs.Given.{events_after, events_in, format_given, is_declined, is_unsupported}
use Rattle.sdp_formats_section_rows.specs.Given.{most_of, with_attribute, with_events, with_line}
use Rattle.sdp_formats_rows.specs.OneParam.{with_codec_param}
use Rattle.sdp_formats_section_rows.specs.Maps.{spec_of_map}
use Rattle.sdp_formats_section_rows.specs.Mapped.{is_mapped_to, mapping_in, mappings, with_static}
use Rattle.sdp_formats_section_rows.specs.SectionRows.{has_feedback, has_row, is_feedback, linked, linked_after, listed}
use Rattle.sdp_formats_section_rows.specs.SectionRows.{names, row_of, rows_given}
use Rattle.sdp_formats_data.specs.declared.MediaAttribute.{MediaAttribute}
use Rattle.sdp_formats_data.specs.declared.MediaAttribute.TheVariants.{Fmtp}
use Rattle.sdp_formats_data.specs.declared.MediaLine.{MediaLine}

fold_map : {A B : Type 0} (f : A → A) (g h : B → A → B) → ((b : B) (a : A) → g b (f a) ≡ h b a) → (b : B)
    (xs : List A) → fold g b (map f xs) ≡ fold h b xs
fold_map f g h e b [] = refl
fold_map f g h e b (x ∷ xs) = ap (λ c. fold g c (map f xs)) (e b x) ∙ fold_map f g h e (h b x) xs

flat_same : {A B : Type 0} (f : A → A) (g : A → List B) → ((a : A) → g (f a) ≡ g a) → (xs : List A)
    → flat_map g (map f xs) ≡ flat_map g xs
flat_same f g e [] = refl
flat_same f g e (x ∷ xs) = (λ i. e x i ++ flat_same f g e xs i)

-- which codecs are mapped
mapping_same : (a : MediaAttribute) → mapping_in (as_read a) ≡ mapping_in a
mapping_same (Fmtp pt values) = refl
mapping_same _ = refl

mappings_same : (pts : List ℕ) (attrs : List MediaAttribute) → mappings pts (map as_read attrs) ≡ mappings pts attrs
mappings_same pts attrs = ap (λ maps. fold with_static maps pts) (flat_same as_read mapping_in mapping_same attrs)

-- types that are of another
resend_named : (pt : ℕ) (p : FormatParam) → names codec.Rtx pt (spelled_as p) ≡ names codec.Rtx pt p
resend_named pt (param.TelephoneEvents most) = refl
resend_named pt (param.Red t) = refl
resend_named pt _ = refl

red_named : (pt : ℕ) (p : FormatParam) → names codec.Red pt (spelled_as p) ≡ names codec.Red pt p
red_named pt (param.TelephoneEvents most) = refl
red_named pt (param.Red t) = refl
red_named pt _ = refl

link_same : (role : Codec) (maps : _) (pt : ℕ)
    → ((p : FormatParam) → names role pt (spelled_as p) ≡ names role pt p) → (found : Option ℕ) (a : MediaAttribute)
    → linked_after role maps pt found (as_read a) ≡ linked_after role maps pt found a
unfolding linked_after
link_same role maps pt e found (Fmtp by values) =
    ap (λ b. cond (is_mapped_to role maps by && b) (Some by) found)
    (any_as_read (names role pt) (names role pt) e values)
link_same role maps pt e found _ = refl

linked_same : (role : Codec) (attrs : List MediaAttribute) (maps : _) (pt : ℕ)
    → ((p : FormatParam) → names role pt (spelled_as p) ≡ names role pt p)
    → linked role (map as_read attrs) maps pt ≡ linked role attrs maps pt
linked_same role attrs maps pt e =
    fold_map as_read (linked_after role maps pt) (linked_after role maps pt) (link_same role maps pt e) None attrs

-- feedback
feedback_line : (pt : ℕ) (text : List ℕ) (a : MediaAttribute) → is_feedback pt text (as_read a) ≡ is_feedback pt text a
unfolding is_feedback
feedback_line pt text (Fmtp t values) = refl
feedback_line pt text _ = refl

feedback_same : (attrs : List MediaAttribute) (pt : ℕ) (text : List ℕ)
    → has_feedback (map as_read attrs) pt text ≡ has_feedback attrs pt text
feedback_same attrs pt text =
    any_map as_read (is_feedback pt text) (is_feedback pt text) (feedback_line pt text) attrs

row_same : (attrs : List MediaAttribute) (maps : _) (m : _) (format : FormatParams)
    → row_of (map as_read attrs) maps m format ≡ row_of attrs maps m format
row_same attrs maps m format = (λ i. record {
  pt = m.pt;
  resend = linked_same codec.Rtx attrs maps m.pt (resend_named m.pt) i;
  spec = spec_of_map m.map format;
  transport_cc = feedback_same attrs m.pt (codes "transport-cc") i;
  nack = is_video_codec m.map.codec || feedback_same attrs m.pt (codes "nack") i;
  pli = is_video_codec m.map.codec || feedback_same attrs m.pt (codes "nack pli") i;
  fir = is_video_codec m.map.codec || feedback_same attrs m.pt (codes "ccm fir") i;
  remb = is_video_codec m.map.codec || feedback_same attrs m.pt (codes "goog-remb") i;
  red = if is_audio_codec m.map.codec then linked_same codec.Red attrs maps m.pt (red_named m.pt) i else None;
  locked = false;
})

-- the range of telephone events
one_event : (p : FormatParam) → events_in (params_as_read (p ∷ [])) ≡ events_in (p ∷ [])
one_event (param.TelephoneEvents most) = refl
one_event (param.Red pt) = refl
one_event (param.H265ProfileTierLevel v) = refl
one_event (param.H266ProfileTierLevel v) = refl
one_event _ = refl

long_none : (p q : FormatParam) (more : List FormatParam) → events_in (p ∷ q ∷ more) ≡ None
long_none (param.BareRange most) q more = refl
long_none (param.TelephoneEvents most) q more = refl
long_none _ q more = refl

two_none : (ps : List FormatParam) → 2 ≤ length ps → events_in ps ≡ None
two_none [] h = absurd (omega (h, arith))
two_none (p ∷ []) h = absurd (omega (h, arith))
two_none (p ∷ q ∷ more) h = long_none p q more

length_both : (xs ys : List FormatParam) → length (xs ++ ys) ≡ length xs + length ys
length_both [] ys = omega arith
length_both (x ∷ xs) ys = omega (length_both xs ys, arith)

length_step : (x : FormatParam) (front back : List FormatParam) (b : Bool)
    → length (cond b (x ∷ front) front ++ cond (not b) (x ∷ back) back) ≡ length (front ++ back) + 1
length_step x front back true = omega (length_both (x ∷ front) back, length_both front back, arith)
length_step x front back false = omega (length_both front (x ∷ back), length_both front back, arith)

length_parted : (xs : List FormatParam) → length (filter is_level xs ++ filter is_other xs) ≡ length xs
length_parted [] = refl
length_parted (x ∷ xs) =
    let s = length_step x (filter is_level xs) (filter is_other xs) (is_level x) in
    omega (s, length_parted xs, arith)

events_read : (ps : List FormatParam) → events_in (params_as_read ps) ≡ events_in ps
events_read [] = refl
events_read (p ∷ []) = one_event p
events_read (p ∷ q ∷ more) =
    two_none (params_as_read (p ∷ q ∷ more)) (omega (length_parted (map spelled_as (p ∷ q ∷ more)), arith))
    ∙ sym (long_none p q more)

events_line : (pt : ℕ) (e : _) (a : MediaAttribute) → events_after pt e (as_read a) ≡ events_after pt e a
unfolding events_after
events_line pt e (Fmtp t values) = ap (λ o. cond (t == pt) (with_line e o) e) (events_read values)
events_line pt e _ = refl

-- what AMR-WB isn't supported with
unsupported_same : (p : FormatParam) → is_unsupported (spelled_as p) ≡ is_unsupported p
unsupported_same (param.TelephoneEvents most) = refl
unsupported_same (param.Red pt) = refl
unsupported_same _ = refl

declined_cond : (b : Bool) (values : List FormatParam)
    → list_any is_unsupported (cond b (params_as_read values) []) ≡ list_any is_unsupported (cond b values [])
declined_cond true values = any_as_read is_unsupported is_unsupported unsupported_same values
declined_cond false values = refl

declined_line : (pt : ℕ) (a : MediaAttribute) → is_declined pt (as_read a) ≡ is_declined pt a
unfolding is_declined
declined_line pt (Fmtp t values) = declined_cond (t == pt) values
declined_line pt _ = refl

-- parameters, a profile, tier and level before the others
spelled_given : (f : FormatParams) (p : FormatParam) → with_codec_param f (spelled_as p) ≡ with_codec_param f p
spelled_given f (param.TelephoneEvents most) = refl
spelled_given f (param.Red pt) = refl
spelled_given f _ = refl

turned_265 : (f : FormatParams) (v : _) (x : FormatParam) → is_level x ≡ false
    → with_codec_param (with_codec_param f (param.H265ProfileTierLevel v)) x
    ≡ with_codec_param (with_codec_param f x) (param.H265ProfileTierLevel v)
turned_265 f v (param.H265ProfileTierLevel w) e = cc
turned_265 f v (param.H266ProfileTierLevel w) e = cc
turned_265 f v _ e = refl

turned_266 : (f : FormatParams) (v : _) (x : FormatParam) → is_level x ≡ false
    → with_codec_param (with_codec_param f (param.H266ProfileTierLevel v)) x
    ≡ with_codec_param (with_codec_param f x) (param.H266ProfileTierLevel v)
turned_266 f v (param.H265ProfileTierLevel w) e = cc
turned_266 f v (param.H266ProfileTierLevel w) e = cc
turned_266 f v _ e = refl

turned : (f : FormatParams) (l x : FormatParam) → is_level l ≡ true → is_level x ≡ false
    → with_codec_param (with_codec_param f l) x ≡ with_codec_param (with_codec_param f x) l
turned f (param.H265ProfileTierLevel v) x h e = turned_265 f v x e
turned f (param.H266ProfileTierLevel v) x h e = turned_266 f v x e
turned f _ x h e = cc

abbrev pub AreLevels : List FormatParam → Type 0
AreLevels [] = Unit {0}
AreLevels (p ∷ ps) = (is_level p ≡ true) × AreLevels ps

levels_cond : (x : FormatParam) (xs : List FormatParam) (b : Bool) → is_level x ≡ b → AreLevels xs
    → AreLevels (cond b (x ∷ xs) xs)
levels_cond x xs true e h = (e, h)
levels_cond x xs false e h = h

only_levels : (xs : List FormatParam) → AreLevels (filter is_level xs)
only_levels [] = tt
only_levels (x ∷ xs) = levels_cond x (filter is_level xs) (is_level x) refl (only_levels xs)

moved : (f : FormatParams) (front : List FormatParam) (x : FormatParam) (back : List FormatParam) → AreLevels front
    → is_level x ≡ false
    → fold with_codec_param f (front ++ x ∷ back) ≡ fold with_codec_param (with_codec_param f x) (front ++ back)
moved f [] x back h e = refl
moved f (l ∷ front) x back h e =
    moved (with_codec_param f l) front x back h.1 e
    ∙ ap (λ g. fold with_codec_param g (front ++ back)) (turned f l x h.0 e)

step : (f : FormatParams) (x : FormatParam) (front back : List FormatParam) (b : Bool) → is_level x ≡ b
    → AreLevels front → fold with_codec_param f (cond b (x ∷ front) front ++ cond (not b) (x ∷ back) back)
    ≡ fold with_codec_param (with_codec_param f x) (front ++ back)
step f x front back true e h = refl
step f x front back false e h = moved f front x back h e

parted : (f : FormatParams) (xs : List FormatParam)
    → fold with_codec_param f (filter is_level xs ++ filter is_other xs) ≡ fold with_codec_param f xs
parted f [] = refl
parted f (x ∷ xs) = step f x (filter is_level xs) (filter is_other xs) (is_level x) refl (only_levels xs)
    ∙ parted (with_codec_param f x) xs

params_given : (f : FormatParams) (ps : List FormatParam)
    → fold with_codec_param f (params_as_read ps) ≡ fold with_codec_param f ps
params_given f ps = parted f (map spelled_as ps) ∙ fold_spelled f ps
  where
    fold_spelled : (f : FormatParams) (ps : List FormatParam)
        → fold with_codec_param f (map spelled_as ps) ≡ fold with_codec_param f ps
    fold_spelled f [] = refl
    fold_spelled f (p ∷ ps) =
        ap (λ g. fold with_codec_param g (map spelled_as ps)) (spelled_given f p)
        ∙ fold_spelled (with_codec_param f p) ps

given_cond : (b : Bool) (f : FormatParams) (values : List FormatParam)
    → fold with_codec_param f (cond b (params_as_read values) []) ≡ fold with_codec_param f (cond b values [])
given_cond true f values = params_given f values
given_cond false f values = refl

given_line : (pt : ℕ) (f : FormatParams) (a : MediaAttribute)
    → with_attribute pt f (as_read a) ≡ with_attribute pt f a
unfolding with_attribute
given_line pt f (Fmtp t values) = given_cond (t == pt) f values
given_line pt f _ = refl

either_same : {A : Type 0} (b : Bool) (x y z w : A) → x ≡ y → z ≡ w → cond b x z ≡ cond b y w
either_same b x y z w e h = (λ i. cond b (e i) (h i))

format_same : (role : Codec) (pt : ℕ) (attrs : List MediaAttribute)
    → format_given role pt (map as_read attrs) ≡ format_given role pt attrs
format_same role pt attrs = either_same (is_tele_codec role) _ _ _ _
    (ap (λ e. option_map with_events (most_of e))
    (fold_map as_read (events_after pt) (events_after pt) (events_line pt) _ attrs))
    (λ i. if is_codec role codec.AmrWb && any_map as_read (is_declined pt) (is_declined pt) (declined_line pt) attrs i
    then None
    else Some (fold_map as_read (with_attribute pt) (with_attribute pt) (given_line pt) no_format attrs i))

given_same : (pts : List ℕ) (attrs : List MediaAttribute) (maps : _) (m : _)
    → rows_given pts (map as_read attrs) maps m ≡ rows_given pts attrs maps m
unfolding rows_given
given_same pts attrs maps m =
    (λ i. listed (if has_row pts m then option_map (row_of (map as_read attrs) maps m)
    (format_same m.map.codec m.pt attrs i) else None))
    ∙ (λ i. listed (if has_row pts m then option_map (λ f. row_same attrs maps m f i)
    (format_given m.map.codec m.pt attrs) else None))

flat_by : {A B : Type 0} (g h : A → List B) → ((a : A) → g a ≡ h a) → (xs : List A) → flat_map g xs ≡ flat_map h xs
flat_by g h e xs = ap (λ f. flat_map f xs) (λ i x. e x i)

pub rows_same : (m : MediaLine) → section_rows (section_as_read m) ≡ section_rows m
rows_same m =
    ap (λ maps. flat_map (rows_given m.pts (map as_read m.attrs) maps) maps) (mappings_same m.pts m.attrs)
    ∙ flat_by (rows_given m.pts (map as_read m.attrs) (mappings m.pts m.attrs))
    (rows_given m.pts m.attrs (mappings m.pts m.attrs))
    (given_same m.pts m.attrs (mappings m.pts m.attrs)) (mappings m.pts m.attrs)
