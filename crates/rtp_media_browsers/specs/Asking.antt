-- Requests that name their sections.
use Rattle.std.specs.Prelude.{◌⊎◌}
use Rattle.std.specs.Prelude.{◌≡◌, ℕ, suc, Bool, true, false, not, ◌&&◌, ◌||◌, ◌==◌, length, List, [], ◌∷◌}
use Rattle.std.specs.Prelude.{Option, None, Some, slice_get, if◌then◌else◌}
use Rattle.std.specs.List.{list_any, remove}
use Rattle.std.specs.Option.{option_or}
use Rattle.media_types.specs.Codecs.{is_audio_kind}
use Rattle.media_types.specs.declared.codec.Codec.{Codec}
use Rattle.media_types.specs.declared.codec.Codec.TheVariants.{Rtx}
use Rattle.media_types.specs.declared.codec.MediaKind.TheVariants as kinds
use Rattle.rtp_media_sections.specs.Lines.{kind_of, mid_of}
use Rattle.sdp_formats_data.specs.WholeTexts.{is_name}
use Rattle.sdp_formats_data.specs.declared.media.MediaAttribute.{MediaAttribute}
use Rattle.sdp_formats_data.specs.declared.media.MediaAttribute.TheVariants as line
use Rattle.sdp_formats_data.specs.declared.media.MediaLine.{MediaLine}
use Rattle.sdp_formats_data.specs.declared.session.Sdp.{Sdp}
use Rattle.sdp_formats_values.specs.MediaTypes.{is_media}
use Rattle.rtp_media_browsers.specs.ForEnds.{bundled}
use Rattle.rtp_media_browsers.specs.Places.{is_bundled_only, is_outside}
use Rattle.rtp_media_browsers.specs.Reading.{IsUnread, SaysWhole}
use Rattle.rtp_media_browsers.specs.declared.asking.NamedRequest.{NamedRequest}
use Rattle.rtp_media_browsers.specs.declared.asking.Target.{Target}
use Rattle.rtp_media_browsers.specs.declared.asking.Target.TheVariants as target
use Rattle.rtp_media_browsers.specs.declared.asking.RequestError.{RequestError}
use Rattle.rtp_media_browsers.specs.declared.asking.RequestError.TheVariants as error
use Rattle.rtp_media_browsers.specs.declared.request.SectionRequest.{SectionRequest}
use Rattle.rtp_media_browsers.specs.declared.request.SectionRequest.TheVariants.{Accept, Receive, Reject}

-- Audio or video that is in use (RFC 9143 6), and has the transport that an end has.
abbrev pub is_open : List (List ℕ) → MediaLine → Bool
is_open bundle m = is_media m.typ && ((not m.disabled || is_bundled_only bundle m) && not (is_outside bundle m))

abbrev pub names_mid : List ℕ → Target → Bool
names_mid mid (target.Mid name) = is_name name mid
names_mid mid (target.Kind kind) = false

abbrev pub names_kind : Bool → Target → Bool
names_kind is_audio (target.Mid name) = false
names_kind is_audio (target.Kind kinds.Audio) = is_audio
names_kind is_audio (target.Kind kinds.Video) = not is_audio

unfoldable pub is_for_mid : List ℕ → NamedRequest → Bool
is_for_mid mid asked = names_mid mid asked.target

unfoldable pub is_for_kind : Bool → NamedRequest → Bool
is_for_kind is_audio asked = names_kind is_audio asked.target

-- The first request that names a section, counted from n on.
abbrev pub named_from : List ℕ → ℕ → List NamedRequest → Option ℕ
named_from mid n [] = None
named_from mid n (w ∷ ws) = if is_for_mid mid w then Some n else named_from mid (suc n) ws

-- The first request for a kind, counted from n on.
abbrev pub kind_from : Bool → ℕ → List NamedRequest → Option ℕ
kind_from is_audio n [] = None
kind_from is_audio n (w ∷ ws) = if is_for_kind is_audio w then Some n else kind_from is_audio (suc n) ws

abbrev pub place_asked : List NamedRequest → MediaLine → Option ℕ
place_asked asked m = option_or (named_from (mid_of m) 0 asked) (kind_from (is_audio_kind (kind_of m.typ)) 0 asked)

-- The request that a section takes of those that are left, if it is in use.
abbrev pub chosen : List (List ℕ) → List NamedRequest → MediaLine → Option ℕ
chosen bundle asked m = if is_open bundle m then place_asked asked m else None

abbrev pub request_of : Option NamedRequest → SectionRequest
request_of None = Reject
request_of (Some w) = w.request

abbrev pub request_given : List NamedRequest → Option ℕ → SectionRequest
request_given asked None = Reject
request_given asked (Some n) = request_of (slice_get asked n)

abbrev pub behind_choice : List NamedRequest → Option ℕ → List NamedRequest
behind_choice asked None = asked
behind_choice asked (Some n) = remove asked n

-- The request for each section, in order.
abbrev pub given : List (List ℕ) → List NamedRequest → List MediaLine → List SectionRequest
given bundle asked [] = []
given bundle asked (m ∷ ms) =
    request_given asked (chosen bundle asked m) ∷ given bundle (behind_choice asked (chosen bundle asked m)) ms

-- The requests that no section takes.
abbrev pub left_over : List (List ℕ) → List NamedRequest → List MediaLine → List NamedRequest
left_over bundle asked [] = asked
left_over bundle asked (m ∷ ms) = left_over bundle (behind_choice asked (chosen bundle asked m)) ms

abbrev pub is_rtx : Codec → Bool
is_rtx Rtx = true
is_rtx _ = false

-- A payload type of retransmissions (RFC 4588 8.1).
unfoldable pub maps_rtx : MediaAttribute → Bool
maps_rtx (line.RtpMap pt value) = is_rtx value.codec
maps_rtx _ = false

abbrev pub has_repairs : SectionRequest → Bool
has_repairs (Accept direction ssrcs repairs) = not (length repairs.items == 0)
has_repairs Receive = false
has_repairs Reject = false

-- A request has repairs, and its section has no payload type for them.
abbrev pub unrepaired : SectionRequest → MediaLine → Option RequestError
unrepaired w m =
    if has_repairs w && not (list_any maps_rtx m.attrs) then Some (error.NoRetransmission (mid_of m)) else None

abbrev pub first_unrepaired : List SectionRequest → List MediaLine → Option RequestError
first_unrepaired [] ms = None
first_unrepaired (w ∷ ws) [] = None
first_unrepaired (w ∷ ws) (m ∷ ms) = option_or (unrepaired w m) (first_unrepaired ws ms)

-- A request that no section takes.
abbrev pub left_refusal : List NamedRequest → Option RequestError
left_refusal [] = None
left_refusal (w ∷ ws) = Some (error.NoSection w.target)

-- Why there are no requests for an offer.
abbrev pub request_refusal : List NamedRequest → Sdp → Option RequestError
request_refusal asked sdp = option_or (left_refusal (left_over (bundled sdp) asked sdp.media_lines))
    (first_unrepaired (given (bundled sdp) asked sdp.media_lines) sdp.media_lines)

-- The requests for the sections of an offer.
pub record AreRequests (text : List ℕ) (asked : List NamedRequest) (requests : List SectionRequest) : Type 0 where
  pub sdp : Sdp
  pub says : SaysWhole text sdp
  pub passes : request_refusal asked sdp ≡ None
  pub given_are : requests ≡ given (bundled sdp) asked sdp.media_lines

abbrev pub IsUnreadOffer : List ℕ → RequestError → Type 0
IsUnreadOffer text (error.Text b) = IsUnread text b
IsUnreadOffer text _ = ⊥

-- Why there are none: the offer can't be read, or the requests don't fit it.
abbrev pub IsRefusedRequest : List ℕ → List NamedRequest → RequestError → Type 0
IsRefusedRequest text asked e =
    IsUnreadOffer text e ⊎ ((sdp : Sdp) × (SaysWhole text sdp × (request_refusal asked sdp ≡ Some e)))
