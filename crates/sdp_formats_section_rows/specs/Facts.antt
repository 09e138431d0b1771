-- What a section says of a payload type, whatever its codec; and the row that results for a codec.
use Rattle.std.specs.Prelude.{ℕ, Bool, false, ◌&&◌, ◌||◌, ◌==◌, List, map, fold, codes, Option, Some, None}
use Rattle.std.specs.Prelude.{if◌then◌else◌}
use Rattle.std.specs.List.{list_any, find}
use Rattle.std.specs.Option.{option_and_then, option_map}
use Rattle.media_types.specs.Codecs.{is_audio_codec, is_tele_codec, is_video_codec}
use Rattle.media_types.specs.declared.codec.Codec.{Codec}
use Rattle.media_types.specs.declared.codec.Codec.TheVariants.{AmrWb, Red, Rtx}
use Rattle.sdp_formats_rows.specs.Formats.{no_format}
use Rattle.sdp_formats_rows.specs.declared.format.FormatParams.{FormatParams}
use Rattle.sdp_formats_rows.specs.Codecs.{is_codec}
use Rattle.sdp_formats_rows.specs.Rows.{Row}
use Rattle.sdp_formats_data.specs.declared.media.MediaAttribute.{MediaAttribute}
use Rattle.sdp_formats_data.specs.declared.media.MediaAttribute.TheVariants.{Fmtp, RtcpFb}
use Rattle.sdp_formats_section_rows.specs.Given.{events_after, is_declined, most_of, with_attribute, with_events}
use Rattle.sdp_formats_section_rows.specs.Maps.{spec_of_map}
use Rattle.sdp_formats_section_rows.specs.SectionRows.{has_feedback, is_feedback, listed, names}
use Rattle.sdp_formats_section_rows.specs.TypeLists.{is_listed}
use Rattle.sdp_formats_section_rows.specs.declared.facts.FeedbackGiven.{FeedbackGiven}
use Rattle.sdp_formats_section_rows.specs.declared.facts.TypeFacts.{TypeFacts}
use Rattle.sdp_formats_section_rows.specs.declared.given.Events.TheVariants as events
use Rattle.sdp_formats_section_rows.specs.declared.mapped.Mapping.{Mapping}

-- The RTX or RED type of a payload type, given the list of types in that role.
unfoldable pub linked_by : Codec → List ℕ → ℕ → Option ℕ → MediaAttribute → Option ℕ
linked_by role types pt found (Fmtp by values) =
    if list_any (names role pt) values && is_listed types by then Some by else found
linked_by role types pt found _ = found

abbrev pub linked_in : Codec → List ℕ → List MediaAttribute → ℕ → Option ℕ
linked_in role types attrs pt = fold (linked_by role types pt) None attrs

abbrev pub feedback_given : List MediaAttribute → ℕ → FeedbackGiven
feedback_given attrs pt = record {
  transport_cc = has_feedback attrs pt (codes "transport-cc");
  nack = has_feedback attrs pt (codes "nack");
  pli = has_feedback attrs pt (codes "nack pli");
  fir = has_feedback attrs pt (codes "ccm fir");
  remb = has_feedback attrs pt (codes "goog-remb");
}

abbrev pub feedback_of : Bool → Bool → Bool → Bool → Bool → FeedbackGiven
feedback_of transport_cc nack pli fir remb = record {
  transport_cc = transport_cc;
  nack = nack;
  pli = pli;
  fir = fir;
  remb = remb;
}

abbrev pub no_feedback : FeedbackGiven
no_feedback = feedback_of false false false false false

abbrev pub facts_with : List ℕ → List MediaAttribute → ℕ → Option ℕ → Option ℕ → TypeFacts
facts_with pts attrs pt resend red = record {
  pt = pt;
  is_listed = is_listed pts pt;
  resend = resend;
  red = red;
  format = fold (with_attribute pt) no_format attrs;
  is_declined = list_any (is_declined pt) attrs;
  events = fold (events_after pt) events.Default attrs;
  feedback = feedback_given attrs pt;
}

unfoldable pub facts_of : List ℕ → List MediaAttribute → List ℕ → List ℕ → ℕ → TypeFacts
facts_of pts attrs resend_types red_types pt =
    facts_with pts attrs pt (linked_in Rtx resend_types attrs pt) (linked_in Red red_types attrs pt)

-- What no line, and then one more line, says of a type.
abbrev pub no_facts : List ℕ → ℕ → TypeFacts
no_facts pts pt = record {
  pt = pt;
  is_listed = is_listed pts pt;
  resend = None;
  red = None;
  format = no_format;
  is_declined = false;
  events = events.Default;
  feedback = no_feedback;
}

unfoldable pub feedback_after : ℕ → FeedbackGiven → MediaAttribute → FeedbackGiven
feedback_after pt f a = record {
  transport_cc = f.transport_cc || is_feedback pt (codes "transport-cc") a;
  nack = f.nack || is_feedback pt (codes "nack") a;
  pli = f.pli || is_feedback pt (codes "nack pli") a;
  fir = f.fir || is_feedback pt (codes "ccm fir") a;
  remb = f.remb || is_feedback pt (codes "goog-remb") a;
}

unfoldable pub facts_after : List ℕ → List ℕ → TypeFacts → MediaAttribute → TypeFacts
facts_after resend_types red_types f a = record {
  pt = f.pt;
  is_listed = f.is_listed;
  resend = linked_by Rtx resend_types f.pt f.resend a;
  red = linked_by Red red_types f.pt f.red a;
  format = with_attribute f.pt f.format a;
  is_declined = f.is_declined || is_declined f.pt a;
  events = events_after f.pt f.events a;
  feedback = feedback_after f.pt f.feedback a;
}

-- Whether it is a line of parameters or of feedback of this type.
unfoldable pub is_about : ℕ → MediaAttribute → Bool
is_about pt (Fmtp t values) = t == pt
is_about pt (RtcpFb t value) = t == pt
is_about pt _ = false

-- Of several types.
abbrev pub all_after : List ℕ → List ℕ → List TypeFacts → MediaAttribute → List TypeFacts
all_after resend_types red_types facts a = map (λ f. facts_after resend_types red_types f a) facts

-- What is said of a type, by a list.
abbrev pub find_facts : List TypeFacts → ℕ → Option TypeFacts
find_facts all pt = find (λ facts. facts.pt == pt) all

-- The row of a mapping by what the section says of its type.
abbrev pub format_by : Codec → TypeFacts → Option FormatParams
format_by codec facts =
    if is_tele_codec codec then option_map with_events (most_of facts.events)
    else if is_codec codec AmrWb && facts.is_declined then None
    else Some facts.format

abbrev pub row_with : Mapping → TypeFacts → FormatParams → Row
row_with m facts format = record {
  pt = m.pt;
  resend = facts.resend;
  spec = spec_of_map m.map format;
  transport_cc = facts.feedback.transport_cc;
  nack = is_video_codec m.map.codec || facts.feedback.nack;
  pli = is_video_codec m.map.codec || facts.feedback.pli;
  fir = is_video_codec m.map.codec || facts.feedback.fir;
  remb = is_video_codec m.map.codec || facts.feedback.remb;
  red = if is_audio_codec m.map.codec then facts.red else None;
  locked = false;
}

abbrev pub has_row_by : Codec → TypeFacts → Bool
has_row_by codec facts = is_audio_codec codec || is_video_codec codec || (is_tele_codec codec && facts.is_listed)

abbrev pub row_by : Mapping → TypeFacts → Option Row
row_by m facts =
    if has_row_by m.map.codec facts then option_map (row_with m facts) (format_by m.map.codec facts) else None

abbrev pub row_found : List TypeFacts → Mapping → Option Row
row_found all m = option_and_then (row_by m) (find_facts all m.pt)

unfoldable pub rows_by : List ℕ → List MediaAttribute → List ℕ → List ℕ → Mapping → List Row
rows_by pts attrs resend_types red_types m = listed (row_by m (facts_of pts attrs resend_types red_types m.pt))
