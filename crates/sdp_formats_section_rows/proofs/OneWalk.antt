-- What a section says of a type is what one walk over its lines adds up.
use Rattle.std.proofs.Common.{◌≡◌, ℕ, Bool, true, false, ◌&&◌, ◌||◌, ◌==◌, List, [], ◌∷◌, ◌++◌, refl, sym, ◌∙◌, ap}
use Rattle.std.proofs.Common.{if◌then◌else◌, ◌<◌, suc, zero, set, take, drop, length, get_or, arith}
use Rattle.std.specs.Str.{bytes_eq}
use Rattle.std.specs.Prelude.{codes, fold, map}
use Rattle.std.specs.List.{list_any}
use Rattle.std.proofs.Math.Bool.{or-false, or_assoc}
use Rattle.std.proofs.Math.Path.{fun_ext}
use Rattle.media_types.specs.declared.codec.Codec.TheVariants.{Red, Rtx}
use Rattle.sdp_formats_rows.specs.OneParam.{with_codec_param}
use Rattle.sdp_formats_rows.specs.declared.format.FormatParams.{FormatParams}
use Rattle.sdp_formats_values.specs.declared.param.FormatParam.{FormatParam}
use Rattle.sdp_formats_data.specs.declared.media.MediaAttribute.{MediaAttribute}
use Rattle.sdp_formats_data.specs.declared.media.MediaAttribute.TheVariants.{Fmtp, RtcpFb}
use Rattle.sdp_formats_section_rows.specs.Facts.{all_after, facts_after, facts_of, feedback_after, linked_by}
use Rattle.sdp_formats_section_rows.specs.Facts.{feedback_of, is_about, no_facts, no_feedback}
use Rattle.sdp_formats_section_rows.specs.Given.{events_after, events_in, is_declined, is_unsupported, with_attribute}
use Rattle.sdp_formats_section_rows.specs.Given.{with_line}
use Rattle.sdp_formats_section_rows.specs.SectionRows.{has_feedback, is_feedback}
use Rattle.sdp_formats_section_rows.specs.declared.given.Events.{Events}
use Rattle.sdp_formats_section_rows.specs.declared.facts.FeedbackGiven.{FeedbackGiven}
use Rattle.sdp_formats_section_rows.specs.declared.facts.TypeFacts.{TypeFacts}

module _ (resend red : List ℕ) (f : TypeFacts) where
  -- the facts with other links, and the rest by what a line adds
  abbrev pub added : MediaAttribute → FormatParams → Bool → Events → FeedbackGiven → TypeFacts
  added a format declined events feedback = record {
    pt = f.pt;
    is_listed = f.is_listed;
    resend = linked_by Rtx resend f.pt f.resend a;
    red = linked_by Red red f.pt f.red a;
    format = format;
    is_declined = declined;
    events = events;
    feedback = feedback;
  }

  abbrev pub only_linked : MediaAttribute → TypeFacts
  only_linked a = added a f.format f.is_declined f.events f.feedback

  nothing_added : (a : MediaAttribute) → only_linked a ≡ added a f.format (f.is_declined || false) f.events (feedback_of
      (f.feedback.transport_cc || false) (f.feedback.nack || false) (f.feedback.pli || false)
      (f.feedback.fir || false) (f.feedback.remb || false))
  nothing_added a = λ i. added a f.format (sym (or-false f.is_declined) i) f.events (feedback_of
      (sym (or-false f.feedback.transport_cc) i) (sym (or-false f.feedback.nack) i) (sym (or-false f.feedback.pli) i)
      (sym (or-false f.feedback.fir) i) (sym (or-false f.feedback.remb) i))

  of_parameters : (a : MediaAttribute) (values : List FormatParam) (b : Bool) → b ≡ false
      → only_linked a ≡ added a (fold with_codec_param f.format (if b then values else []))
      (f.is_declined || list_any is_unsupported (if b then values else []))
      (if b then with_line f.events (events_in values) else f.events) (feedback_of
      (f.feedback.transport_cc || false) (f.feedback.nack || false) (f.feedback.pli || false)
      (f.feedback.fir || false) (f.feedback.remb || false))
  of_parameters a values true e = cc
  of_parameters a values false e = nothing_added a

  of_feedback : (a : MediaAttribute) (x y z u v b : Bool) → b ≡ false
      → only_linked a ≡ added a f.format (f.is_declined || false) f.events (feedback_of
      (f.feedback.transport_cc || (b && x)) (f.feedback.nack || (b && y)) (f.feedback.pli || (b && z))
      (f.feedback.fir || (b && u)) (f.feedback.remb || (b && v)))
  of_feedback a x y z u v true e = cc
  of_feedback a x y z u v false e = nothing_added a

  -- a line that isn't about a type only links it
  pub only_links : (a : MediaAttribute) → is_about f.pt a ≡ false → only_linked a ≡ facts_after resend red f a
  unfolding facts_after feedback_after with_attribute is_declined events_after is_feedback is_about
  only_links (Fmtp t values) e = of_parameters (Fmtp t values) values (t == f.pt) e
  only_links (RtcpFb t value) e =
      of_feedback (RtcpFb t value) (bytes_eq value (codes "transport-cc")) (bytes_eq value (codes "nack"))
      (bytes_eq value (codes "nack pli")) (bytes_eq value (codes "ccm fir")) (bytes_eq value (codes "goog-remb"))
      (t == f.pt) e
  only_links a e = nothing_added a

-- the walk over several types is a walk for each
pub walk_of_each : (resend red : List ℕ) (start : ℕ → TypeFacts) (types : List ℕ) (attrs : List MediaAttribute)
    → fold (all_after resend red) (map start types) attrs
    ≡ map (λ pt. fold (facts_after resend red) (start pt) attrs) types
walk_of_each resend red start types [] = refl
walk_of_each resend red start types (a ∷ attrs) =
    ap (λ fs. fold (all_after resend red) fs attrs) (map_twice types)
    ∙ walk_of_each resend red (λ pt. facts_after resend red (start pt) a) types attrs
  where
    map_twice : (ts : List ℕ) → all_after resend red (map start ts) a
        ≡ map (λ pt. facts_after resend red (start pt) a) ts
    map_twice [] = refl
    map_twice (t ∷ ts) = ap (λ xs. facts_after resend red (start t) a ∷ xs) (map_twice ts)

-- five facts of feedback, one by one
five : {a b c d e a' b' c' d' e' : Bool} → a ≡ a' → b ≡ b' → c ≡ c' → d ≡ d' → e ≡ e'
    → feedback_of a b c d e ≡ feedback_of a' b' c' d' e'
five p q r s t = λ i. feedback_of (p i) (q i) (r i) (s i) (t i)

feedback_walked : (pt : ℕ) (f : FeedbackGiven) (attrs : List MediaAttribute)
    → fold (feedback_after pt) f attrs ≡ feedback_of
    (f.transport_cc || has_feedback attrs pt (codes "transport-cc"))
    (f.nack || has_feedback attrs pt (codes "nack"))
    (f.pli || has_feedback attrs pt (codes "nack pli"))
    (f.fir || has_feedback attrs pt (codes "ccm fir"))
    (f.remb || has_feedback attrs pt (codes "goog-remb"))
unfolding feedback_after
feedback_walked pt f [] =
    five (sym (or-false f.transport_cc)) (sym (or-false f.nack)) (sym (or-false f.pli)) (sym (or-false f.fir))
    (sym (or-false f.remb))
feedback_walked pt f (a ∷ attrs) = feedback_walked pt (feedback_after pt f a) attrs ∙ five
    (or_assoc f.transport_cc (is_feedback pt (codes "transport-cc") a) (has_feedback attrs pt (codes "transport-cc")))
    (or_assoc f.nack (is_feedback pt (codes "nack") a) (has_feedback attrs pt (codes "nack")))
    (or_assoc f.pli (is_feedback pt (codes "nack pli") a) (has_feedback attrs pt (codes "nack pli")))
    (or_assoc f.fir (is_feedback pt (codes "ccm fir") a) (has_feedback attrs pt (codes "ccm fir")))
    (or_assoc f.remb (is_feedback pt (codes "goog-remb") a) (has_feedback attrs pt (codes "goog-remb")))

summed : List ℕ → List ℕ → TypeFacts → List MediaAttribute → Bool → TypeFacts
summed resend red f attrs declined = record {
  pt = f.pt;
  is_listed = f.is_listed;
  resend = fold (linked_by Rtx resend f.pt) f.resend attrs;
  red = fold (linked_by Red red f.pt) f.red attrs;
  format = fold (with_attribute f.pt) f.format attrs;
  is_declined = declined;
  events = fold (events_after f.pt) f.events attrs;
  feedback = fold (feedback_after f.pt) f.feedback attrs;
}

-- a walk adds up each of what is said
walked : (resend red : List ℕ) (f : TypeFacts) (attrs : List MediaAttribute)
    → fold (facts_after resend red) f attrs
    ≡ summed resend red f attrs (f.is_declined || list_any (is_declined f.pt) attrs)
unfolding facts_after summed
walked resend red f [] = ap (summed resend red f []) (sym (or-false f.is_declined))
walked resend red f (a ∷ attrs) =
    walked resend red (facts_after resend red f a) attrs
    ∙ ap (summed resend red f (a ∷ attrs))
    (or_assoc f.is_declined (is_declined f.pt a) (list_any (is_declined f.pt) attrs))

pub facts_walked : (pts : List ℕ) (attrs : List MediaAttribute) (resend red : List ℕ) (pt : ℕ)
    → fold (facts_after resend red) (no_facts pts pt) attrs ≡ facts_of pts attrs resend red pt
unfolding facts_of summed
facts_walked pts attrs resend red pt =
    walked resend red (no_facts pts pt) attrs
    ∙ ap (λ f. record (facts_of pts attrs resend red pt) { feedback = f }) (feedback_walked pt no_feedback attrs)

-- the walk over all types gives what is said of each
pub all_walked : (pts : List ℕ) (attrs : List MediaAttribute) (resend red types : List ℕ)
    → fold (all_after resend red) (map (no_facts pts) types) attrs ≡ map (facts_of pts attrs resend red) types
all_walked pts attrs resend red types =
    walk_of_each resend red (no_facts pts) types attrs
    ∙ ap (λ f. map f types) (fun_ext (facts_walked pts attrs resend red))

-- the member at an index gets the line, after those before it
pub one_more : (g : TypeFacts → TypeFacts) (xs : List TypeFacts) (i : ℕ) (d : TypeFacts) → i < length xs
    → set (map g (take i xs) ++ drop i xs) i (g (get_or (map g (take i xs) ++ drop i xs) i d))
    ≡ map g (take (suc i) xs) ++ drop (suc i) xs
one_more g [] i d h =
    let no : ⊥ = omega arith in
    elim no [ ]
one_more g (x ∷ xs) zero d h = refl
one_more g (x ∷ xs) (suc i) d h = ap (λ ys. g x ∷ ys) (one_more g xs i d (omega arith))
