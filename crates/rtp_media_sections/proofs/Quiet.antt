-- What the lines of a printed section say beside its name and direction.
use Rattle.std.proofs.Common.{◌≡◌, ℕ, Bool, true, false, ◌||◌, List, [], ◌∷◌, ◌++◌, map, filter_map, Option, Some}
use Rattle.std.proofs.Common.{None, refl}
use Rattle.std.proofs.Common.{◌∙◌, ap, codes, if◌then◌else◌}
use Rattle.std.specs.List.{cons_option, list_all, list_any}
use Rattle.std.proofs.lemmas.Bool.{false≢true}
use Rattle.std.proofs.lemmas.List.Elements.{filter_map-append}
use Rattle.rtp_media_sections.specs.Extensions.{extmap_line}
use Rattle.rtp_media_sections.specs.Lines.{pair_line, row_lines, source_line, source_lines}
use Rattle.rtp_media_sections.specs.Repairs.{repairs_in}
use Rattle.rtp_media_sections.specs.declared.sections.Source.{Source}
use Rattle.rtp_wire.specs.declared.extension.Extension.{Extension}
use Rattle.sdp_formats_data.specs.declared.media.MediaAttribute.{MediaAttribute}
use Rattle.sdp_formats_data.specs.declared.media.MediaAttribute.TheVariants as line
use Rattle.sdp_formats_data.specs.declared.media.RtpMap.{RtpMap}
use Rattle.sdp_formats_laws.proofs.Lists.{all_append, all_flat, none_append}
use Rattle.sdp_formats_laws.specs.RowsBack.{names_type}
use Rattle.sdp_formats_rows.specs.Rows.{Row}
use Rattle.sdp_formats_section_rows.specs.Attributes.{all_feedback, attributes_of, feedback_line, feedback_lines}
use Rattle.sdp_formats_section_rows.specs.Attributes.{fmtp_of, is_used, params_in, red_lines, resend_lines, words_of}
use Rattle.sdp_formats_section_rows.specs.Maps.{map_of}
use Rattle.sdp_formats_values.specs.declared.param.FormatParam.{FormatParam}
use Rattle.rtp_media_sections.proofs.Lists.{no_values, none_of}

-- the lines of rows name types
feedback_named : (row : Row) (f : _) → list_all names_type (feedback_line row f) ≡ true
unfolding feedback_line
feedback_named row f = at (is_used row f)
  where
    at : (b : Bool) → list_all names_type (if b then line.RtcpFb row.pt (words_of f) ∷ [] else []) ≡ true
    at true = refl
    at false = refl

format_named : (pt : ℕ) (ps : List FormatParam) → list_all names_type (fmtp_of pt ps) ≡ true
unfolding fmtp_of
format_named pt [] = refl
format_named pt (p ∷ ps) = refl

resend_named : (row : Row) (o : Option ℕ) → list_all names_type (resend_lines row o) ≡ true
unfolding resend_lines
resend_named row None = refl
resend_named row (Some pt) = refl

red_named : (row : Row) (o : Option ℕ) → list_all names_type (red_lines row o) ≡ true
unfolding red_lines
red_named row None = refl
red_named row (Some pt) = refl

row_named : (row : Row) → list_all names_type (attributes_of row) ≡ true
row_named row =
    let one : List MediaAttribute = (line.RtpMap row.pt (map_of row.spec) ∷ []) ++ feedback_lines row in
    let two : List MediaAttribute = one ++ fmtp_of row.pt (params_in row.spec) in
    let three : List MediaAttribute = two ++ resend_lines row row.resend in
    all_append names_type three (red_lines row row.red)
    (all_append names_type two (resend_lines row row.resend)
    (all_append names_type one (fmtp_of row.pt (params_in row.spec))
    (all_append names_type (line.RtpMap row.pt (map_of row.spec) ∷ []) (feedback_lines row) refl
    (all_flat names_type (feedback_line row) (feedback_named row) all_feedback))
    (format_named row.pt (params_in row.spec)))
    (resend_named row row.resend))
    (red_named row row.red)

pub rows_named : (rows : List Row) → list_all names_type (row_lines rows) ≡ true
rows_named rows = all_flat names_type attributes_of row_named rows

-- a test that none of these lines passes
pub record IsQuiet (p : MediaAttribute → Bool) : Type 0 where
  pub extmap : (id : ℕ) (ext : Extension) → p (line.ExtMap id ext) ≡ false
  pub rtpmap : (pt : ℕ) (value : RtpMap) → p (line.RtpMap pt value) ≡ false
  pub rtcp_fb : (pt : ℕ) (value : List ℕ) → p (line.RtcpFb pt value) ≡ false
  pub fmtp : (pt : ℕ) (values : List FormatParam) → p (line.Fmtp pt values) ≡ false
  pub ssrc : (ssrc : ℕ) (attr value : List ℕ) → p (line.Ssrc ssrc attr value) ≡ false
  pub group : (semantics : List ℕ) (ssrcs : List ℕ) → p (line.SsrcGroup semantics ssrcs) ≡ false

quiet_type : (p : MediaAttribute → Bool) → IsQuiet p → (a : MediaAttribute) → names_type a ≡ true → p a ≡ false
quiet_type p q (line.RtpMap pt value) e = q.rtpmap pt value
quiet_type p q (line.RtcpFb pt value) e = q.rtcp_fb pt value
quiet_type p q (line.Fmtp pt values) e = q.fmtp pt values
quiet_type p q _ e = absurd (false≢true e)

pub quiet_extmaps : (p : MediaAttribute → Bool) → IsQuiet p → (exts : List (ℕ × Extension))
    → list_any p (map extmap_line exts) ≡ false
quiet_extmaps p q [] = refl
quiet_extmaps p q (e ∷ exts) = (λ i. q.extmap e.0 e.1 i || quiet_extmaps p q exts i)

pub quiet_sources : (p : MediaAttribute → Bool) → IsQuiet p → (sources : List Source)
    → list_any p (map source_line sources) ≡ false
quiet_sources p q [] = refl
quiet_sources p q (s ∷ sources) =
    (λ i. q.ssrc s.ssrc (codes "cname") (codes "str0m") i || quiet_sources p q sources i)

quiet_pairs : (p : MediaAttribute → Bool) → IsQuiet p → (pairs : List (ℕ × ℕ))
    → list_any p (map pair_line pairs) ≡ false
quiet_pairs p q [] = refl
quiet_pairs p q (pair ∷ pairs) =
    (λ i. q.group (codes "FID") (pair.0 ∷ pair.1 ∷ []) i || quiet_pairs p q pairs i)

pub quiet_rest : (p : MediaAttribute → Bool) → IsQuiet p → (exts : List (ℕ × Extension)) (rows : List Row)
    (sources : List Source)
    → list_any p (map extmap_line exts ++ (row_lines rows ++ source_lines sources)) ≡ false
quiet_rest p q exts rows sources =
    none_append p (map extmap_line exts) (row_lines rows ++ source_lines sources) (quiet_extmaps p q exts)
    (none_append p (row_lines rows) (source_lines sources)
    (none_of p names_type (quiet_type p q) (row_lines rows) (rows_named rows))
    (none_append p (map pair_line (repairs_in sources)) (map source_line sources)
    (quiet_pairs p q (repairs_in sources)) (quiet_sources p q sources)))

-- what only lines of sources give
pub record OfSources {B : Type 0} (f : MediaAttribute → Option B) : Type 0 where
  pub extmap : (id : ℕ) (ext : Extension) → f (line.ExtMap id ext) ≡ None
  pub rtpmap : (pt : ℕ) (value : RtpMap) → f (line.RtpMap pt value) ≡ None
  pub rtcp_fb : (pt : ℕ) (value : List ℕ) → f (line.RtcpFb pt value) ≡ None
  pub fmtp : (pt : ℕ) (values : List FormatParam) → f (line.Fmtp pt values) ≡ None

module _ {B : Type 0} (f : MediaAttribute → Option B) (q : OfSources f) where
  no_type : (a : MediaAttribute) → names_type a ≡ true → f a ≡ None
  no_type (line.RtpMap pt value) e = q.rtpmap pt value
  no_type (line.RtcpFb pt value) e = q.rtcp_fb pt value
  no_type (line.Fmtp pt values) e = q.fmtp pt values
  no_type _ e = absurd (false≢true e)

  no_extmaps : (exts : List (ℕ × Extension)) → filter_map f (map extmap_line exts) ≡ []
  no_extmaps [] = refl
  no_extmaps (e ∷ exts) = (λ i. cons_option (q.extmap e.0 e.1 i) (no_extmaps exts i))

  pub of_sources : (exts : List (ℕ × Extension)) (rows : List Row) (behind : List MediaAttribute)
      → filter_map f (map extmap_line exts ++ (row_lines rows ++ behind)) ≡ filter_map f behind
  of_sources exts rows behind =
      filter_map-append f (map extmap_line exts) (row_lines rows ++ behind)
      ∙ (λ i. no_extmaps exts i ++ filter_map-append f (row_lines rows) behind i)
      ∙ ap (λ l. l ++ filter_map f behind) (no_values f names_type no_type (row_lines rows) (rows_named rows))
