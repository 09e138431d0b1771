-- What a section that lists a row gives its type: its feedback.
use Rattle.std.proofs.Common.{◌≡◌, ℕ, Bool, true, false, ◌&&◌, ◌||◌, List, [], ◌∷◌, refl, sym, ◌∙◌, ap}
use Rattle.std.proofs.Common.{arith, if◌then◌else◌, codes}
use Rattle.std.specs.Prelude.{fold}
use Rattle.std.specs.List.{flat_map, list_any}
use Rattle.std.specs.Str.{bytes_eq}
use Rattle.std.proofs.lemmas.Grind.{common_steps}
use Rattle.std.proofs.lemmas.List.Folds.{list_any-append}
use Rattle.sdp_formats_values.specs.declared.param.FormatParam.{FormatParam}
use Rattle.sdp_formats_rows.specs.Rows.{Row}
use Rattle.sdp_formats_section_rows.specs.Attributes.{all_feedback, feedback_line, feedback_lines}
use Rattle.sdp_formats_section_rows.specs.Attributes.{fmtp_of, is_used, params_in, words_of}
use Rattle.sdp_formats_section_rows.specs.SectionRows.{has_feedback, is_feedback}
use Rattle.sdp_formats_data.specs.declared.media.MediaAttribute.{MediaAttribute}
use Rattle.sdp_formats_data.specs.declared.media.MediaAttribute.TheVariants as attribute
use Rattle.sdp_formats_laws.proofs.Lists.{any_fold, fold_past, or_none, or_same}
use Rattle.sdp_formats_laws.proofs.Silent.{Apart, section_of, tells, whole_fold}
use Rattle.sdp_formats_laws.proofs.MappedLemmas.{same_number}

feedback_silent : (t : ℕ) (text : List ℕ) (a : MediaAttribute) → tells t a ≡ false → is_feedback t text a ≡ false
unfolding is_feedback
feedback_silent t text (attribute.RtcpFb u value) e = rw e refl
feedback_silent t text _ e = refl

feedback_mapped : (t : ℕ) (text : List ℕ) (value : _) → is_feedback t text (attribute.RtpMap t value) ≡ false
unfolding is_feedback
feedback_mapped t text value = refl

format_feedback : (pt : ℕ) (text : List ℕ) (ps : List FormatParam)
    → list_any (is_feedback pt text) (fmtp_of pt ps) ≡ false
unfolding is_feedback fmtp_of
format_feedback pt text [] = refl
format_feedback pt text (p ∷ ps) = refl

feedback_read : (others : List MediaAttribute) (before : List Row) (row : Row) (after : List Row)
    (behind : List MediaAttribute) (text : List ℕ)
    → Apart others before row after behind → has_feedback (section_of others before row after behind) row.pt text
    ≡ list_any (is_feedback row.pt text) (feedback_lines row)
feedback_read others before row after behind text apart =
    let t = row.pt in
    let f : Bool → MediaAttribute → Bool = λ b a. b || is_feedback t text a in
    let lines : List MediaAttribute = fmtp_of row.pt (params_in row.spec) in
    sym (any_fold (is_feedback t text) (section_of others before row after behind))
    ∙ whole_fold f others before row after behind (record {
      silent = λ b a e. or_same b (is_feedback t text a) (feedback_silent t text a e);
      mapped = λ b value. or_same b (is_feedback t text (attribute.RtpMap t value)) (feedback_mapped t text value);
    }) apart false
    ∙ fold_past (is_feedback t text) f (λ b a e. or_same b (is_feedback t text a) e) (fold f false (feedback_lines row))
    lines (format_feedback t text (params_in row.spec))
    ∙ any_fold (is_feedback t text) (feedback_lines row)

line_feedback : (row : Row) (text : List ℕ) (f : _)
    → list_any (is_feedback row.pt text) (feedback_line row f) ≡ (is_used row f && bytes_eq (words_of f) text)
unfolding feedback_line is_feedback
line_feedback row text f = at (is_used row f)
  where
    at : (b : Bool) → list_any (is_feedback row.pt text) (if b then attribute.RtcpFb row.pt (words_of f) ∷ [] else [])
        ≡ (b && bytes_eq (words_of f) text)
    at true = rw (same_number row.pt) (or_none (bytes_eq (words_of f) text))
    at false = refl

any_flat : {X A : Type 0} (p : A → Bool) (q : X → Bool) (g : X → List A) → ((x : X) → list_any p (g x) ≡ q x)
    → (xs : List X) → list_any p (flat_map g xs) ≡ list_any q xs
any_flat p q g h [] = refl
any_flat p q g h (x ∷ xs) =
    list_any-append p (g x) (flat_map g xs) ∙ ap (λ b. b || list_any p (flat_map g xs)) (h x)
    ∙ ap (λ b. q x || b) (any_flat p q g h xs)

own_feedback : (row : Row) (text : List ℕ) → list_any (is_feedback row.pt text) (feedback_lines row)
    ≡ list_any (λ f. is_used row f && bytes_eq (words_of f) text) all_feedback
own_feedback row text =
    any_flat (is_feedback row.pt text) (λ f. is_used row f && bytes_eq (words_of f) text) (feedback_line row)
    (line_feedback row text) all_feedback

-- each word of feedback is that of one feedback alone
pub record FeedbackBack (attributes : List MediaAttribute) (row : Row) : Type 0 where
  pub transport_cc : has_feedback attributes row.pt (codes "transport-cc") ≡ row.transport_cc
  pub nack : has_feedback attributes row.pt (codes "nack") ≡ row.nack
  pub pli : has_feedback attributes row.pt (codes "nack pli") ≡ row.pli
  pub fir : has_feedback attributes row.pt (codes "ccm fir") ≡ row.fir
  pub remb : has_feedback attributes row.pt (codes "goog-remb") ≡ row.remb

only_transport_cc : (a b c d e : Bool)
    → ((a && true) || ((b && false) || ((c && false) || ((d && false) || ((e && false) || false))))) ≡ a
only_transport_cc a b c d e = grind (arith, common_steps)

only_remb : (a b c d e : Bool)
    → ((a && false) || ((b && true) || ((c && false) || ((d && false) || ((e && false) || false))))) ≡ b
only_remb a b c d e = grind (arith, common_steps)

only_fir : (a b c d e : Bool)
    → ((a && false) || ((b && false) || ((c && true) || ((d && false) || ((e && false) || false))))) ≡ c
only_fir a b c d e = grind (arith, common_steps)

only_nack : (a b c d e : Bool)
    → ((a && false) || ((b && false) || ((c && false) || ((d && true) || ((e && false) || false))))) ≡ d
only_nack a b c d e = grind (arith, common_steps)

only_pli : (a b c d e : Bool)
    → ((a && false) || ((b && false) || ((c && false) || ((d && false) || ((e && true) || false))))) ≡ e
only_pli a b c d e = grind (arith, common_steps)

pub feedback_back : (others : List MediaAttribute) (before : List Row) (row : Row) (after : List Row)
    (behind : List MediaAttribute)
    → Apart others before row after behind → FeedbackBack (section_of others before row after behind) row
feedback_back others before row after behind apart = record {
  transport_cc =
      feedback_read others before row after behind (codes "transport-cc") apart
      ∙ own_feedback row (codes "transport-cc")
      ∙ only_transport_cc row.transport_cc row.remb row.fir row.nack row.pli;
  nack =
      feedback_read others before row after behind (codes "nack") apart ∙ own_feedback row (codes "nack")
      ∙ only_nack row.transport_cc row.remb row.fir row.nack row.pli;
  pli =
      feedback_read others before row after behind (codes "nack pli") apart ∙ own_feedback row (codes "nack pli")
      ∙ only_pli row.transport_cc row.remb row.fir row.nack row.pli;
  fir =
      feedback_read others before row after behind (codes "ccm fir") apart ∙ own_feedback row (codes "ccm fir")
      ∙ only_fir row.transport_cc row.remb row.fir row.nack row.pli;
  remb =
      feedback_read others before row after behind (codes "goog-remb") apart ∙ own_feedback row (codes "goog-remb")
      ∙ only_remb row.transport_cc row.remb row.fir row.nack row.pli;
}
