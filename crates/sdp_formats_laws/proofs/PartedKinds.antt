-- Kinds of lines of several parts are read as they are printed.
use Rattle.std.proofs.Common.{◌≡◌, ◌≤◌, ◌<◌, ◌^◌, ℕ, List, [], ◌∷◌, ◌++◌, Option, Some, None, IfSome, codes, decimal}
use Rattle.std.proofs.Common.{subst, refl, sym, ◌∙◌, ap, arith, append_assoc, cond, false, lit<, lit≤}
use Rattle.std.specs.Option.{option_map}
use Rattle.std.proofs.lemmas.Bool.Decides.{nat_tests}
use Rattle.media_types.specs.Codecs.{codec_name}
use Rattle.rtp_wire.specs.Kinds.{uri_of, extension_of}
use Rattle.rtp_wire.specs.declared.extension.Extension.{Extension}
use Rattle.std.proofs.lemmas.List.{append-nil}
use Rattle.sdp_formats_grammar.specs.Form.{any_text, number, cut, cut_maybe, separated, told}
use Rattle.sdp_formats_grammar.specs.Joined.{spelled, maybe_text}
use Rattle.sdp_formats_grammar.specs.Split.{Lacks}
use Rattle.sdp_formats_reader.specs.AttributesChoice.{attribute_line}
use Rattle.sdp_formats_reader.specs.AttributesChoice.{media_attribute}
use Rattle.sdp_formats_values.specs.declared.FormatParam.{FormatParam}
use Rattle.sdp_formats_reader.specs.Maps.{payload_type, clock_rate, make_map}
use Rattle.sdp_formats_reader.specs.AsRead.{params_as_read}
use Rattle.sdp_formats_reader.specs.Parameters.{parameters}
use Rattle.sdp_formats_reader.specs.Sources.{make_names, ssrc_number}
use Rattle.sdp_formats_reader.specs.Transport.{in_section}
use Rattle.sdp_formats_reader.specs.declared.transport.TransportAttribute.TheVariants as transport
use Rattle.sdp_formats_values.specs.PrintedValues.{is_empty, line_end}
use Rattle.sdp_formats_data.specs.PrintedMedia.{params_text}
use Rattle.sdp_formats_values.specs.Lists.{numbers_text, named}
use Rattle.sdp_formats_data.specs.PrintedMedia.{attribute_text, listed_text, rtp_map_text}
use Rattle.sdp_formats_values.specs.declared.streams.Msid as names
use Rattle.sdp_formats_data.specs.declared.media.RtpMap as map_of
use Rattle.sdp_formats_data.specs.declared.media.MediaAttribute.TheVariants.{ExtMap}
use Rattle.sdp_formats_data.specs.declared.media.MediaAttribute.TheVariants.{Msid}
use Rattle.sdp_formats_data.specs.declared.media.MediaAttribute.TheVariants.{RtpMap}
use Rattle.sdp_formats_data.specs.declared.media.MediaAttribute.TheVariants.{RtcpFb, Fmtp, SsrcGroup}
use Rattle.sdp_formats_data.specs.declared.media.MediaAttribute.TheVariants.{Ssrc, Unused}
use Rattle.sdp_formats_laws.proofs.Decimals.{number_below-decimal, Lacks-decimal}
use Rattle.sdp_formats_values.specs.Fingerprints.{make_fingerprint}
use Rattle.sdp_formats_values.specs.declared.fingerprint.Fingerprint as print_of
use Rattle.sdp_formats_data.specs.declared.media.MediaAttribute.TheVariants.{Fingerprint}
use Rattle.sdp_formats_laws.proofs.Fingerprints.{digest_text, lacks_digest, fingerprint_reads}
use Rattle.sdp_formats_laws.proofs.Printed.{IsPrintedAs, named_line, named_by, two_parts, at_text, text_some}
use Rattle.sdp_formats_laws.proofs.Printed.{lacks_both}
use Rattle.sdp_formats_laws.proofs.Readings.{cut_reads, cut_nowhere, cut_somewhere, type_reads, rate_reads}
use Rattle.sdp_formats_laws.proofs.Readings.{numbers_read}
use Rattle.sdp_formats_laws.proofs.PlainKinds.{first_fits, lacks_two, no_feed, no_return}
use Rattle.sdp_formats_laws.specs.Printable.{AreBelow, IsPrintableDigest, IsPrintableMap, IsText, IsWord}
use Rattle.sdp_formats_laws.specs.Printable.{LacksLineEnds}

pub rtcp_fb : (pt : ℕ) (v : List ℕ) → pt ≤ 127 → IsText v
    → IsPrintedAs attribute_line (attribute_text (RtcpFb pt v)) (RtcpFb pt v)
unfolding media_attribute attribute_text
rtcp_fb pt v low h = at_text attribute_line _ _ _ (two_parts (codes "a=rtcp-fb:") (decimal pt) v 32)
    (named_line attribute_line (codes "a=rtcp-fb:") (decimal pt ++ 32 ∷ v) (RtcpFb pt v)
    (named_by (codes "a=rtcp-fb:") refl)
    (lacks_two 10 32 (decimal pt) v (no_feed pt (omega arith)) (λ e. cc) h.1)
    (lacks_two 13 32 (decimal pt) v (no_return pt (omega arith)) (λ e. cc) h.2)
    (first_fits _ _ _ (ap (option_map (λ x. RtcpFb x.0 x.1)) (cut_reads 32 payload_type any_text (decimal pt) v pt v
    (Lacks-decimal 32 pt (lit< tt) (omega arith)) (type_reads pt low) (text_some v h.0)))))

pub msid : (m : names.Msid) → IsWord m.stream_id → IsText m.track_id
    → IsPrintedAs attribute_line (attribute_text (Msid m)) (Msid m)
unfolding media_attribute attribute_text
msid m stream track = named_line attribute_line (codes "a=msid:") (m.stream_id ++ 32 ∷ m.track_id) (Msid m)
    (named_by (codes "a=msid:") refl)
    (lacks_two 10 32 m.stream_id m.track_id stream.0.1 (λ e. cc) track.1)
    (lacks_two 13 32 m.stream_id m.track_id stream.0.2 (λ e. cc) track.2)
    (first_fits _ _ _ (ap (λ o. option_map Msid (option_map make_names o))
    (cut_reads 32 any_text any_text m.stream_id m.track_id m.stream_id m.track_id stream.1
    (text_some m.stream_id stream.0.0) (text_some m.track_id track.0))))

pub extmap_line : (id : ℕ) (ext : Extension) → id < 2 ^ 8 → IsWord (uri_of ext) → extension_of (uri_of ext) ≡ ext
    → IsPrintedAs attribute_line (attribute_text (ExtMap id ext)) (ExtMap id ext)
unfolding media_attribute attribute_text
extmap_line id ext small h same = at_text attribute_line _ _ _
    (two_parts (codes "a=extmap:") (decimal id) (uri_of ext) 32)
    (named_line attribute_line (codes "a=extmap:") (decimal id ++ 32 ∷ uri_of ext) (ExtMap id ext)
    (named_by (codes "a=extmap:") refl)
    (lacks_two 10 32 (decimal id) (uri_of ext) (no_feed id (omega arith)) (λ e. cc) h.0.1)
    (lacks_two 13 32 (decimal id) (uri_of ext) (no_return id (omega arith)) (λ e. cc) h.0.2)
    (first_fits _ _ _ (ap (option_map (λ x. ExtMap x.0.0 (extension_of x.1.0)))
    (cut_reads 32 (cut_maybe 47 (number (2 ^ 8)) any_text) (cut_maybe 32 any_text any_text) (decimal id) (uri_of ext)
    (id, None) (uri_of ext, None) (Lacks-decimal 32 id (lit< tt) (omega arith))
    (cut_nowhere 47 (number (2 ^ 8)) any_text (decimal id) id (Lacks-decimal 47 id (lit< tt) (omega arith))
    (number_below-decimal (2 ^ 8) id small (lit≤ tt)))
    (cut_nowhere 32 any_text any_text (uri_of ext) (uri_of ext) h.1 (text_some (uri_of ext) h.0.0)))
    ∙ ap (λ e. Some (ExtMap id e)) same)))

pub ssrc : (s : ℕ) (attr v : List ℕ) → s < 2 ^ 32 → IsText attr → Lacks 58 attr → IsText v
    → IsPrintedAs attribute_line (attribute_text (Ssrc s attr v)) (Ssrc s attr v)
unfolding media_attribute attribute_text
ssrc s attr v small h colon k = at_text attribute_line _ _ _
    (ap (λ t. codes "a=ssrc:" ++ (decimal s ++ 32 ∷ t)) (sym (append_assoc attr (58 ∷ v) line_end))
    ∙ two_parts (codes "a=ssrc:") (decimal s) (attr ++ 58 ∷ v) 32)
    (named_line attribute_line (codes "a=ssrc:") (decimal s ++ 32 ∷ (attr ++ 58 ∷ v)) (Ssrc s attr v)
    (named_by (codes "a=ssrc:") refl)
    (lacks_two 10 32 (decimal s) (attr ++ 58 ∷ v) (no_feed s (omega arith)) (λ e. cc)
    (lacks_two 10 58 attr v h.1 (λ e. cc) k.1))
    (lacks_two 13 32 (decimal s) (attr ++ 58 ∷ v) (no_return s (omega arith)) (λ e. cc)
    (lacks_two 13 58 attr v h.2 (λ e. cc) k.2))
    (first_fits _ _ _ (ap (option_map (λ x. Ssrc x.0 x.1.0 x.1.1))
    (cut_reads 32 (number (2 ^ 32)) (cut 58 any_text any_text) (decimal s) (attr ++ 58 ∷ v) s (attr, v)
    (Lacks-decimal 32 s (lit< tt) (omega arith)) (number_below-decimal (2 ^ 32) s small (lit≤ tt))
    (cut_reads 58 any_text any_text attr v attr v colon (text_some attr h.0) (text_some v k.0))))))

some_there : {A : Type 0} (x : A) (xs : List A) → is_empty (x ∷ xs) ≡ false
some_there x xs = grind (arith, nat_tests)

abbrev pub named_params : ℕ → List ℕ → List ℕ
named_params pt params = spelled (codes "a=fmtp:" ∷ decimal pt ∷ codes " " ∷ params ∷ line_end ∷ [])

pub fmtp_line : (pt : ℕ) (p : FormatParam) (ps : List FormatParam) → pt ≤ 127
    → LacksLineEnds (params_text (p ∷ ps)) → parameters.reads (params_text (p ∷ ps)) ≡ Some (params_as_read (p ∷ ps))
    → IsPrintedAs attribute_line (attribute_text (Fmtp pt (p ∷ ps))) (Fmtp pt (params_as_read (p ∷ ps)))
unfolding media_attribute attribute_text listed_text
fmtp_line pt p ps low h reads = at_text attribute_line _ _ _
    (ap (λ b. cond b [] (named_params pt (params_text (p ∷ ps)))) (some_there p ps)
    ∙ two_parts (codes "a=fmtp:") (decimal pt) (params_text (p ∷ ps)) 32)
    (named_line attribute_line (codes "a=fmtp:") (decimal pt ++ 32 ∷ params_text (p ∷ ps))
    (Fmtp pt (params_as_read (p ∷ ps)))
    (named_by (codes "a=fmtp:") refl)
    (lacks_two 10 32 (decimal pt) (params_text (p ∷ ps)) (no_feed pt (omega arith)) (λ e. cc) h.0)
    (lacks_two 13 32 (decimal pt) (params_text (p ∷ ps)) (no_return pt (omega arith)) (λ e. cc) h.1)
    (first_fits _ _ _ (first_fits _ _ _ (ap (option_map (λ x. Fmtp x.0 x.1))
    (cut_reads 32 payload_type parameters (decimal pt) (params_text (p ∷ ps)) pt
    (params_as_read (p ∷ ps))
    (Lacks-decimal 32 pt (lit< tt) (omega arith)) (type_reads pt low) reads)))))

pub lacks_numbers : (c limit s : ℕ) (ss : List ℕ) → c < 48 → (32 ≡ c → ⊥) → limit ≤ 2 ^ 64 → AreBelow limit (s ∷ ss)
    → Lacks c (numbers_text (codes " ") (s ∷ ss))
lacks_numbers c limit s [] low other wide below =
    lacks_both c (decimal s) [] (Lacks-decimal c s low (omega (below.0, wide, arith))) tt
lacks_numbers c limit s (n ∷ ss) low other wide below = lacks_two c 32 (decimal s) (numbers_text (codes " ") (n ∷ ss))
    (Lacks-decimal c s low (omega (below.0, wide, arith))) other (lacks_numbers c limit n ss low other wide below.1)

pub ssrc_group : (semantics : List ℕ) (s : ℕ) (ss : List ℕ) → IsWord semantics → AreBelow (2 ^ 32) (s ∷ ss)
    → IsPrintedAs attribute_line (attribute_text (SsrcGroup semantics (s ∷ ss))) (SsrcGroup semantics (s ∷ ss))
unfolding media_attribute attribute_text listed_text
ssrc_group semantics s ss h below = at_text attribute_line _ _ _
    (two_parts (codes "a=ssrc-group:") semantics (numbers_text (codes " ") (s ∷ ss)) 32)
    (named_line attribute_line (codes "a=ssrc-group:") (semantics ++ 32 ∷ numbers_text (codes " ") (s ∷ ss))
    (SsrcGroup semantics (s ∷ ss)) (named_by (codes "a=ssrc-group:") refl)
    (lacks_two 10 32 semantics (numbers_text (codes " ") (s ∷ ss)) h.0.1 (λ e. cc)
    (lacks_numbers 10 (2 ^ 32) s ss (lit< tt) (λ e. cc) (lit≤ tt) below))
    (lacks_two 13 32 semantics (numbers_text (codes " ") (s ∷ ss)) h.0.2 (λ e. cc)
    (lacks_numbers 13 (2 ^ 32) s ss (lit< tt) (λ e. cc) (lit≤ tt) below))
    (first_fits _ _ _ (ap (option_map (λ x. SsrcGroup x.0 x.1))
    (cut_reads 32 any_text (separated 32 (told ssrc_number)) semantics (numbers_text (codes " ") (s ∷ ss)) semantics
    (s ∷ ss) h.1 (text_some semantics h.0.0) (numbers_read s ss below)))))

-- the rate and the channels, if they are told
abbrev pub rates_text : ℕ → Option ℕ → List ℕ
rates_text rate channels = decimal rate ++ maybe_text (codes "/") (option_map decimal channels)

rates_read : (rate : ℕ) (channels : Option ℕ) → 0 < rate → rate < 2 ^ 32 → IfSome channels (λ n. n < 2 ^ 8)
    → (cut_maybe 47 clock_rate (number (2 ^ 8))).reads (rates_text rate channels) ≡ Some (rate, channels)
rates_read rate None some fits few =
    ap (cut_maybe 47 clock_rate (number (2 ^ 8))).reads (append-nil (decimal rate))
    ∙ cut_nowhere 47 clock_rate (number (2 ^ 8)) (decimal rate) rate (Lacks-decimal 47 rate (lit< tt) (omega arith))
    (rate_reads rate some fits)
rates_read rate (Some n) some fits few = cut_somewhere 47 clock_rate (number (2 ^ 8)) (decimal rate) (decimal n) rate n
    (Lacks-decimal 47 rate (lit< tt) (omega arith)) (rate_reads rate some fits)
    (number_below-decimal (2 ^ 8) n few (lit≤ tt))

lacks_rates : (c rate : ℕ) (channels : Option ℕ) → c < 47 → rate < 2 ^ 32 → IfSome channels (λ n. n < 2 ^ 8)
    → Lacks c (rates_text rate channels)
lacks_rates c rate None low fits few = lacks_both c (decimal rate) []
    (Lacks-decimal c rate (omega arith) (omega arith)) tt
lacks_rates c rate (Some n) low fits few = lacks_two c 47 (decimal rate) (decimal n)
    (Lacks-decimal c rate (omega arith) (omega arith)) (λ e. omega arith)
    (Lacks-decimal c n (omega arith) (omega arith))

pub rtpmap_line : (pt : ℕ) (m : map_of.RtpMap) → pt ≤ 127 → IsPrintableMap m
    → IsPrintedAs attribute_line (attribute_text (RtpMap pt m)) (RtpMap pt m)
unfolding media_attribute attribute_text
rtpmap_line pt m low h =
    let rates = rates_text m.clock_rate m.channels in
    let fits = h.4 in
    let shape : rtp_map_text m ≡ codec_name m.codec ++ 47 ∷ rates = refl in
    at_text attribute_line _ _ _ (two_parts (codes "a=rtpmap:") (decimal pt) (rtp_map_text m) 32)
    (named_line attribute_line (codes "a=rtpmap:") (decimal pt ++ 32 ∷ rtp_map_text m) (RtpMap pt m)
    (named_by (codes "a=rtpmap:") refl)
    (lacks_two 10 32 (decimal pt) (rtp_map_text m) (no_feed pt (omega arith)) (λ e. cc)
    (lacks_two 10 47 (codec_name m.codec) rates h.1.0.1 (λ e. cc)
    (lacks_rates 10 m.clock_rate m.channels (lit< tt) h.4 h.5)))
    (lacks_two 13 32 (decimal pt) (rtp_map_text m) (no_return pt (omega arith)) (λ e. cc)
    (lacks_two 13 47 (codec_name m.codec) rates h.1.0.2 (λ e. cc)
    (lacks_rates 13 m.clock_rate m.channels (lit< tt) h.4 h.5)))
    (first_fits _ _ _ (ap (option_map (λ x. RtpMap x.0 (make_map x.1)))
    (cut_reads 32 payload_type (cut 47 any_text (cut_maybe 47 clock_rate (number (2 ^ 8)))) (decimal pt)
    (rtp_map_text m) pt (codec_name m.codec, (m.clock_rate, m.channels))
    (Lacks-decimal 32 pt (lit< tt) (omega arith)) (type_reads pt low)
    (cut_reads 47 any_text (cut_maybe 47 clock_rate (number (2 ^ 8))) (codec_name m.codec) rates (codec_name m.codec)
    (m.clock_rate, m.channels) h.2 (text_some (codec_name m.codec) h.1.0.0)
    (rates_read m.clock_rate m.channels h.3 h.4 h.5)))
    ∙ (λ i. Some (RtpMap pt (record { codec = h.0 i; clock_rate = m.clock_rate; channels = m.channels }))))))

pub unused : (v : List ℕ) → IsText v → media_attribute.reads v ≡ Some (Unused v)
    → IsPrintedAs attribute_line (named (codes "a=") v) (Unused v)
unused v h reads = named_line attribute_line (codes "a=") v (Unused v) (named_by (codes "a=") refl) h.1 h.2 reads

pub fingerprint_line : (f : print_of.Fingerprint) → IsPrintableDigest f.hash_func f.bytes
    → IsPrintedAs attribute_line (attribute_text (Fingerprint f)) (Fingerprint f)
unfolding media_attribute attribute_text
fingerprint_line f h = by_bytes f f.bytes refl h
  where
    by_bytes : (f : print_of.Fingerprint) (bytes : List ℕ) → f.bytes ≡ bytes → IsPrintableDigest f.hash_func bytes
        → IsPrintedAs attribute_line (named (codes "a=fingerprint:") (f.hash_func ++ 32 ∷ digest_text f.bytes))
        (Fingerprint f)
    by_bytes f [] same h = absurd h
    by_bytes f (b ∷ bs) same h = subst (λ p. IsPrintedAs attribute_line
        (named (codes "a=fingerprint:") (f.hash_func ++ 32 ∷ digest_text p))
        (Fingerprint (make_fingerprint (f.hash_func, p)))) (sym same)
        (named_line attribute_line (codes "a=fingerprint:") (f.hash_func ++ 32 ∷ digest_text (b ∷ bs))
        (Fingerprint (make_fingerprint (f.hash_func, b ∷ bs))) (named_by (codes "a=fingerprint:") refl)
        (lacks_two 10 32 f.hash_func (digest_text (b ∷ bs)) h.0.0.1 (λ e. cc) (lacks_digest 10 b bs (lit< tt) h.1))
        (lacks_two 13 32 f.hash_func (digest_text (b ∷ bs)) h.0.0.2 (λ e. cc) (lacks_digest 13 b bs (lit< tt) h.1))
        (first_fits _ _ _ (ap (λ o. option_map in_section (option_map transport.Fingerprint o))
        (fingerprint_reads f.hash_func b bs h.0 h.1))))
