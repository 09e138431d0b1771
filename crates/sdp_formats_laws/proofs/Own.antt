-- What a section that lists a row gives its type: its format.
use Rattle.std.proofs.Common.{◌≡◌, ℕ, Bool, true, false, ◌&&◌, ◌||◌, List, [], ◌∷◌, refl, sym, ◌∙◌, ap}
use Rattle.std.proofs.Common.{Option, Some, None, if◌then◌else◌, is_none, is_some}
use Rattle.std.specs.Prelude.{fold, unwrap_or}
use Rattle.std.specs.List.{list_any}
use Rattle.std.specs.Option.{option_map}
use Rattle.media_types.specs.Codecs.{is_tele_codec}
use Rattle.media_types.specs.declared.codec.Codec.{Codec}
use Rattle.media_types.specs.declared.codec.Codec.TheVariants as codec
use Rattle.sdp_formats_values.specs.declared.param.FormatParam.{FormatParam}
use Rattle.sdp_formats_values.specs.declared.param.FormatParam.TheVariants as param
use Rattle.sdp_formats_rows.specs.Codecs.{is_codec}
use Rattle.sdp_formats_rows.specs.Formats.{no_format}
use Rattle.sdp_formats_rows.specs.Plain.{events_alone, has_plain_events}
use Rattle.sdp_formats_rows.specs.Rows.{Row}
use Rattle.sdp_formats_rows.specs.Same.{same, same_flag, same_format, same_h264, same_levels, same_numbers}
use Rattle.sdp_formats_rows.specs.Same.{same_opus, same_speech, same_video}
use Rattle.sdp_formats_rows.specs.Texts.{numbers_265, numbers_266}
use Rattle.sdp_formats_rows.specs.declared.format.FormatParams.{FormatParams}
use Rattle.sdp_formats_rows.specs.declared.spec.CodecSpec.{CodecSpec}
use Rattle.sdp_formats_section_rows.specs.Attributes.{all_feedback, feedback_line, feedback_lines}
use Rattle.sdp_formats_section_rows.specs.Attributes.{fmtp_of, is_used, params_in, words_of}
use Rattle.sdp_formats_rows.specs.Parameters.{params_of}
use Rattle.sdp_formats_section_rows.specs.Given.{events_after, format_given, is_declined, is_unsupported}
use Rattle.sdp_formats_section_rows.specs.Given.{most_of, with_attribute, with_events}
use Rattle.sdp_formats_rows.specs.OneParam.{with_codec_param}
use Rattle.sdp_formats_data.specs.declared.media.MediaAttribute.{MediaAttribute}
use Rattle.sdp_formats_data.specs.declared.media.MediaAttribute.TheVariants as attribute
use Rattle.sdp_formats_laws.proofs.Lists.{any_fold, any_past, both, fold_past, none_flat, or_same}
use Rattle.sdp_formats_laws.proofs.FormatsLemmas.{none_other, other_unsupported, params_back, is_other}
use Rattle.sdp_formats_laws.proofs.Silent.{Apart, Reads, section_of, tells, whole_fold}
use Rattle.sdp_formats_laws.proofs.MappedLemmas.{same_number}

-- formats don't come from feedback, nor feedback from formats
abbrev is_format : MediaAttribute → Bool
is_format (attribute.Fmtp pt values) = true
is_format _ = false

line_unformatted : (row : Row) (f : _) → list_any is_format (feedback_line row f) ≡ false
unfolding feedback_line
line_unformatted row f = at (is_used row f)
  where
    at : (b : Bool) → list_any is_format (if b then attribute.RtcpFb row.pt (words_of f) ∷ [] else []) ≡ false
    at true = refl
    at false = refl

format_alone : {B : Type 0} (f : B → MediaAttribute → B) (others : List MediaAttribute) (before : List Row) (row : Row)
    (after : List Row) (behind : List MediaAttribute) → Reads row.pt f
    → ((b : B) (a : MediaAttribute) → is_format a ≡ false → f b a ≡ b)
    → Apart others before row after behind → (b : B)
    → fold f b (section_of others before row after behind) ≡ fold f b (fmtp_of row.pt (params_in row.spec))
format_alone f others before row after behind reads h apart b =
    whole_fold f others before row after behind reads apart b
    ∙ ap (λ c. fold f c (fmtp_of row.pt (params_in row.spec)))
    (fold_past is_format f h b (feedback_lines row)
    (none_flat is_format (feedback_line row) (line_unformatted row) all_feedback))

-- what is read of a format
with_silent : (t : ℕ) (f : FormatParams) (a : MediaAttribute) → tells t a ≡ false → with_attribute t f a ≡ f
unfolding with_attribute
with_silent t f (attribute.Fmtp u values) e = rw e refl
with_silent t f _ e = refl

with_format : (t : ℕ) (f : FormatParams) (a : MediaAttribute) → is_format a ≡ false → with_attribute t f a ≡ f
unfolding with_attribute
with_format t f (attribute.Fmtp u values) e = cc
with_format t f _ e = refl

with_mapped : (t : ℕ) (f : FormatParams) (value : _) → with_attribute t f (attribute.RtpMap t value) ≡ f
unfolding with_attribute
with_mapped t f value = refl

events_silent : (t : ℕ) (f : _) (a : MediaAttribute) → tells t a ≡ false → events_after t f a ≡ f
unfolding events_after
events_silent t f (attribute.Fmtp u values) e = rw e refl
events_silent t f _ e = refl

events_format : (t : ℕ) (f : _) (a : MediaAttribute) → is_format a ≡ false → events_after t f a ≡ f
unfolding events_after
events_format t f (attribute.Fmtp u values) e = cc
events_format t f _ e = refl

events_mapped : (t : ℕ) (f : _) (value : _) → events_after t f (attribute.RtpMap t value) ≡ f
unfolding events_after
events_mapped t f value = refl

declined_silent : (t : ℕ) (a : MediaAttribute) → tells t a ≡ false → is_declined t a ≡ false
unfolding is_declined
declined_silent t (attribute.Fmtp u values) e = rw e refl
declined_silent t _ e = refl

declined_format : (t : ℕ) (a : MediaAttribute) → is_format a ≡ false → is_declined t a ≡ false
unfolding is_declined
declined_format t (attribute.Fmtp u values) e = cc
declined_format t _ e = refl

declined_mapped : (t : ℕ) (value : _) → is_declined t (attribute.RtpMap t value) ≡ false
unfolding is_declined
declined_mapped t value = refl

format_same : (of : Codec) (pt : ℕ) (xs ys : List MediaAttribute)
    → ((e : _) → fold (events_after pt) e xs ≡ fold (events_after pt) e ys)
    → list_any (is_declined pt) xs ≡ list_any (is_declined pt) ys
    → fold (with_attribute pt) no_format xs ≡ fold (with_attribute pt) no_format ys
    → format_given of pt xs ≡ format_given of pt ys
format_same codec.Tele pt xs ys h d w = ap (λ e. option_map with_events (most_of e)) (h _)
format_same codec.AmrWb pt xs ys h d w = rw (d, w) refl
format_same _ pt xs ys h d w = rw w refl

-- the lines of the row alone count
pub format_read : (others : List MediaAttribute) (before : List Row) (row : Row) (after : List Row)
    (behind : List MediaAttribute)
    → Apart others before row after behind → format_given row.spec.codec row.pt
    (section_of others before row after behind)
    ≡ format_given row.spec.codec row.pt (fmtp_of row.pt (params_in row.spec))
format_read others before row after behind apart =
    let t = row.pt in
    let whole : List MediaAttribute = section_of others before row after behind in
    let lines : List MediaAttribute = fmtp_of row.pt (params_in row.spec) in
    format_same row.spec.codec t whole lines
    (λ e. format_alone (events_after t) others before row after behind
    (record { silent = events_silent t; mapped = events_mapped t }) (events_format t) apart e)
    (sym (any_fold (is_declined t) whole)
    ∙ format_alone (λ b a. b || is_declined t a) others before row after behind
    (record {
      silent = λ b a e. or_same b (is_declined t a) (declined_silent t a e);
      mapped = λ b value. or_same b (is_declined t (attribute.RtpMap t value)) (declined_mapped t value);
    }) (λ b a e. or_same b (is_declined t a) (declined_format t a e)) apart false
    ∙ any_fold (is_declined t) lines)
    (format_alone (with_attribute t) others before row after behind
    (record { silent = with_silent t; mapped = with_mapped t }) (with_format t) apart no_format)

-- of others than telephone events
own_declined : (pt : ℕ) (ps : List FormatParam) → list_any is_other ps ≡ false
    → list_any (is_declined pt) (fmtp_of pt ps) ≡ false
unfolding is_declined fmtp_of
own_declined pt [] e = refl
own_declined pt (p ∷ ps) e =
    rw (same_number pt) (ap (λ b. b || false) (any_past is_other is_unsupported other_unsupported (p ∷ ps) e))

own_with : (pt : ℕ) (ps : List FormatParam) → fold (with_attribute pt) no_format (fmtp_of pt ps)
    ≡ fold with_codec_param no_format ps
unfolding with_attribute fmtp_of
own_with pt [] = refl
own_with pt (p ∷ ps) = rw (same_number pt) refl

is_nothing : (o : Option ℕ) → is_none o ≡ true → None ≡ o
is_nothing None e = refl
is_nothing (Some v) e = cc

other_format : (of : Codec) (pt : ℕ) (f : FormatParams) → is_tele_codec of ≡ false
    → is_none f.telephone_event_max ≡ true → format_given of pt (fmtp_of pt (params_of f)) ≡ Some f
other_format of pt f e none =
    rw (e, own_declined pt (params_of f) (none_other f)) (at (is_codec of codec.AmrWb))
  where
    back : fold (with_attribute pt) no_format (fmtp_of pt (params_of f)) ≡ f
    back =
        own_with pt (params_of f) ∙ params_back f
        ∙ λ i. record f { telephone_event_max = is_nothing f.telephone_event_max none i }

    at : (b : Bool)
        → (if b && false then None else Some (fold (with_attribute pt) no_format (fmtp_of pt (params_of f))))
        ≡ Some f
    at true = ap Some back
    at false = ap Some back

-- of telephone events
no_number : (o : Option ℕ) → same o None ≡ true → o ≡ None
no_number None e = refl
no_number (Some v) e = cc

no_flag : (o : Option Bool) → same_flag o None ≡ true → o ≡ None
no_flag None e = refl
no_flag (Some v) e = cc

no_265 : (o : _) → same_numbers (option_map numbers_265 o) None ≡ true → o ≡ None
no_265 None e = refl
no_265 (Some v) e = cc

no_266 : (o : _) → same_numbers (option_map numbers_266 o) None ≡ true → o ≡ None
no_266 None e = refl
no_266 (Some v) e = cc

events_back : (f : FormatParams) → same_format f (events_alone f) ≡ true → f ≡ events_alone f
events_back f e =
    let g : FormatParams = events_alone f in
    let l = both _ (same_levels f g) e in
    let v = both _ (same_video f g) l.0 in
    let h = both _ (same_h264 f g) v.0 in
    let s = both (same_opus f g) (same_speech f g) h.0 in
    let p1 = both _ _ s.0 in
    let p2 = both _ _ p1.0 in
    let p3 = both _ _ p2.0 in
    let p4 = both _ _ p3.0 in
    let p5 = both _ _ s.1 in
    let p6 = both _ _ p5.0 in
    let p7 = both _ _ h.1 in
    let p8 = both _ _ p7.0 in
    let p9 = both _ _ v.1 in
    let p10 = both _ _ p9.0 in
    let p11 = both _ _ p10.0 in
    let p12 = both _ _ p11.0 in
    let p13 = both _ _ l.1 in
    λ i. record {
      min_p_time = no_number f.min_p_time p4.0 i;
      stereo = no_flag f.stereo p4.1 i;
      sprop_stereo = no_flag f.sprop_stereo p3.1 i;
      use_inband_fec = no_flag f.use_inband_fec p2.1 i;
      use_dtx = no_flag f.use_dtx p1.1 i;
      level_asymmetry_allowed = no_flag f.level_asymmetry_allowed p8.0 i;
      packetization_mode = no_number f.packetization_mode p8.1 i;
      profile_level_id = no_number f.profile_level_id p7.1 i;
      profile_id = no_number f.profile_id p12.0 i;
      profile = no_number f.profile p12.1 i;
      level_idx = no_number f.level_idx p11.1 i;
      tier = no_number f.tier p10.1 i;
      h265_profile_tier_level = no_265 f.h265_profile_tier_level p13.0 i;
      h266_profile_tier_level = no_266 f.h266_profile_tier_level p13.1 i;
      sprop_max_don_diff = no_number f.sprop_max_don_diff p9.1 i;
      telephone_event_max = f.telephone_event_max;
      octet_align = no_flag f.octet_align p6.0 i;
      mode_set = no_number f.mode_set p6.1 i;
    }

known : (o : Option ℕ) → is_some o ≡ true → Some (unwrap_or o 16) ≡ o
known None e = cc
known (Some v) e = refl

events_format_back : (f : FormatParams) → is_some f.telephone_event_max ≡ true → same_format f (events_alone f) ≡ true
    → with_events (unwrap_or f.telephone_event_max 16) ≡ f
events_format_back f some e =
    (λ i. record no_format { telephone_event_max = known f.telephone_event_max some i }) ∙ sym (events_back f e)

events_given : (pt most : ℕ)
    → format_given codec.Tele pt (fmtp_of pt (param.TelephoneEvents most ∷ [])) ≡ Some (with_events most)
unfolding events_after fmtp_of
events_given pt most = rw (same_number pt) refl

tele_is : (of : Codec) → is_tele_codec of ≡ true → of ≡ codec.Tele
tele_is codec.Tele e = refl
tele_is _ e = cc

-- the format of a row is given by its own line
pub own_format : (pt : ℕ) (spec : CodecSpec) → has_plain_events spec ≡ true
    → format_given spec.codec pt (fmtp_of pt (params_in spec)) ≡ Some spec.format
own_format pt spec e = at (is_tele_codec spec.codec) refl
  where
    at : (b : Bool) → is_tele_codec spec.codec ≡ b
        → format_given spec.codec pt (fmtp_of pt (params_in spec)) ≡ Some spec.format
    at false is =
        let none : is_none spec.format.telephone_event_max ≡ true = rw is at e in
        let lines : params_in spec ≡ params_of spec.format = rw is refl in
        ap (λ ps. format_given spec.codec pt (fmtp_of pt ps)) lines ∙ other_format spec.codec pt spec.format is none
    at true is =
        let most : ℕ = unwrap_or spec.format.telephone_event_max 16 in
        let alone : Bool = same_format spec.format (events_alone spec.format) in
        let plain : (is_some spec.format.telephone_event_max && alone) ≡ true =
        rw is at e in
        let s = both (is_some spec.format.telephone_event_max) alone plain in
        let lines : params_in spec ≡ param.TelephoneEvents most ∷ [] = rw is refl in
        ap (λ ps. format_given spec.codec pt (fmtp_of pt ps)) lines
        ∙ ap (λ c. format_given c pt (fmtp_of pt (param.TelephoneEvents most ∷ []))) (tele_is spec.codec is)
        ∙ events_given pt most ∙ ap Some (events_format_back spec.format s.0 s.1)
