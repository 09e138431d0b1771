-- Lines that begin with no known name are of no known kind.
use Rattle.std.proofs.Common.{◌≡◌, ◌≢◌, ℕ, Bool, true, false, cond, List, ◌++◌, Option, None, codes}
use Rattle.std.proofs.Common.{refl, ◌∙◌, ap}
use Rattle.std.specs.Option.{option_map, option_or}
use Rattle.std.specs.Str.{bytes_eq}
use Rattle.std.proofs.lemmas.Slice.Eq.{bytes_eq-Decides}
use Rattle.sdp_formats_grammar.specs.Bind.{◌>>=◌}
use Rattle.sdp_formats_grammar.specs.Split.{behind}
use Rattle.sdp_formats_grammar.specs.Steps.{none_if}
use Rattle.sdp_formats_grammar.specs.Words.{behind-sound}
use Rattle.sdp_formats_reader.specs.AttributesChoice.{media_attribute}
use Rattle.sdp_formats_reader.specs.ReaderChoice.{session_attribute}
use Rattle.sdp_formats_data.specs.declared.media.MediaAttribute.TheVariants as section
use Rattle.sdp_formats_data.specs.declared.session.SessionAttribute.TheVariants as session
use Rattle.sdp_formats_laws.proofs.Printed.{text_some}
use Rattle.sdp_formats_laws.specs.OtherLines.{OtherLinesStayInSections, OtherLinesStayInSessions}

-- a form whose name doesn't are there
not_there : {A : Type 0} (name : List ℕ) (read : List ℕ → Option A) (t : List ℕ) → ((rest : List ℕ) → t ≢ name ++ rest)
    → (behind name t >>= read) ≡ None
not_there name read t h = ap (λ o. o >>= read) (none_if (behind name t) (λ rest e. h rest (behind-sound name t rest e)))

or_other : {A : Type 0} (o other : Option A) → o ≡ None → option_or o other ≡ other
or_other o other e = ap (λ x. option_or x other) e

-- another word
not_word : (t w : List ℕ) → t ≢ w → bytes_eq t w ≡ false
not_word t w h = by_test (bytes_eq t w) refl
  where
    by_test : (b : Bool) → bytes_eq t w ≡ b → b ≡ false
    by_test true e = absurd (h ((bytes_eq-Decides t w).0 e))
    by_test false e = refl

past : {A : Type 0} (t w : List ℕ) (x y : A) → t ≢ w → cond (bytes_eq t w) x y ≡ y
past t w x y h = ap (λ b. cond b x y) (not_word t w h)

pub stays_in_sections : OtherLinesStayInSections
unfolding media_attribute
stays_in_sections t some h w =
    or_other _ _ (not_there (codes "ice-ufrag:") _ t h.0)
    ∙ or_other _ _ (not_there (codes "ice-pwd:") _ t h.1.0)
    ∙ or_other _ _ (not_there (codes "ice-options:") _ t h.1.1.0)
    ∙ or_other _ _ (not_there (codes "fingerprint:") _ t h.1.1.1.0)
    ∙ or_other _ _ (not_there (codes "setup:") _ t h.1.1.1.1.0)
    ∙ or_other _ _ (not_there (codes "mid:") _ t h.1.1.1.1.1.0)
    ∙ or_other _ _ (not_there (codes "sctp-port:") _ t h.1.1.1.1.1.1.0)
    ∙ or_other _ _ (not_there (codes "max-message-size:") _ t h.1.1.1.1.1.1.1.0)
    ∙ or_other _ _ (not_there (codes "sctp-init:") _ t h.1.1.1.1.1.1.1.1.0)
    ∙ or_other _ _ (not_there (codes "extmap:") _ t h.1.1.1.1.1.1.1.1.1.0)
    ∙ or_other _ _ (past t (codes "recvonly") _ _ w.0
    ∙ past t (codes "sendrecv") _ _ w.1.0
    ∙ past t (codes "sendonly") _ _ w.1.1.0
    ∙ past t (codes "inactive") _ _ w.1.1.1.0)
    ∙ or_other _ _ (not_there (codes "msid:") _ t h.1.1.1.1.1.1.1.1.1.1.0)
    ∙ or_other _ _ (not_there (codes "rtcp:") _ t h.1.1.1.1.1.1.1.1.1.1.1.0)
    ∙ or_other _ _ (past t (codes "rtcp-mux") _ _ w.1.1.1.1.0
    ∙ past t (codes "rtcp-mux-only") _ _ w.1.1.1.1.1.0
    ∙ past t (codes "rtcp-rsize") _ _ w.1.1.1.1.1.1.0)
    ∙ or_other _ _ (not_there (codes "candidate:") _ t h.1.1.1.1.1.1.1.1.1.1.1.1.0)
    ∙ or_other _ _ (past t (codes "end-of-candidates") _ _ w.1.1.1.1.1.1.1.0)
    ∙ or_other _ _ (not_there (codes "rtpmap:") _ t h.1.1.1.1.1.1.1.1.1.1.1.1.1.0)
    ∙ or_other _ _ (not_there (codes "rtcp-fb:") _ t h.1.1.1.1.1.1.1.1.1.1.1.1.1.1.0)
    ∙ or_other _ _ (not_there (codes "fmtp:") _ t h.1.1.1.1.1.1.1.1.1.1.1.1.1.1.1.0)
    ∙ or_other _ _ (not_there (codes "rid:") _ t h.1.1.1.1.1.1.1.1.1.1.1.1.1.1.1.1.0)
    ∙ or_other _ _ (not_there (codes "simulcast:") _ t h.1.1.1.1.1.1.1.1.1.1.1.1.1.1.1.1.1.0)
    ∙ or_other _ _ (not_there (codes "ssrc-group:") _ t h.1.1.1.1.1.1.1.1.1.1.1.1.1.1.1.1.1.1.0)
    ∙ or_other _ _ (not_there (codes "ssrc:") _ t h.1.1.1.1.1.1.1.1.1.1.1.1.1.1.1.1.1.1.1.0)
    ∙ ap (option_map section.Unused) (text_some t some)

pub stays_in_sessions : OtherLinesStayInSessions
unfolding session_attribute
stays_in_sessions t some h w =
    or_other _ _ (not_there (codes "group:") _ t h.0)
    ∙ or_other _ _ (not_there (codes "msid-semantic:") _ t h.1.0)
    ∙ or_other _ _ (past t (codes "ice-lite") _ _ w.0)
    ∙ or_other _ _ (not_there (codes "ice-ufrag:") _ t h.1.1.0)
    ∙ or_other _ _ (not_there (codes "ice-pwd:") _ t h.1.1.1.0)
    ∙ or_other _ _ (not_there (codes "ice-options:") _ t h.1.1.1.1.0)
    ∙ or_other _ _ (not_there (codes "fingerprint:") _ t h.1.1.1.1.1.0)
    ∙ or_other _ _ (not_there (codes "setup:") _ t h.1.1.1.1.1.1.0)
    ∙ or_other _ _ (not_there (codes "candidate:") _ t h.1.1.1.1.1.1.1.0)
    ∙ or_other _ _ (past t (codes "end-of-candidates") _ _ w.1.0)
    ∙ ap (option_map session.Unused) (text_some t some)
