-- Results of the calls that exchange SDP with a browser.
use Rattle.std.specs.Prelude.{ℕ, ◌≡◌, ◌⊎◌, IsTrue, false, List}
use Rattle.rtp_media_browsers.specs.Calls.{AnswerPasses, IsRefused, OfferPasses}
use Rattle.rtp_media_browsers.specs.InCommon.{AreInCommon, RefusesInCommon}
use Rattle.rtp_media_browsers.specs.Refusals.{answer_refusal}
use Rattle.rtp_media_browsers.specs.Tidied.{tidied}
use Rattle.rtp_media_browsers.specs.Wanted.{wanted_of}
use Rattle.rtp_media_browsers.specs.declared.error.BrowserError.{BrowserError}
use Rattle.rtp_media_browsers.specs.declared.error.BrowserError.TheVariants as error
use Rattle.rtp_media_browsers.specs.declared.state.BrowserState.{BrowserState}
use Rattle.rtp_media_browsers.specs.declared.request.SectionRequest.{SectionRequest}
use Rattle.rtp_media_ends.specs.Ends.{EndState}
use Rattle.rtp_media_exchange.specs.Refusals.{RefusesAccept, RefusesAnswer}
use Rattle.rtp_media_exchange.specs.declared.errors.ExchangeError.{ExchangeError}
use Rattle.rtp_media_sections.specs.Sections.{Wanted, are_sound}
use Rattle.sdp_formats_data.specs.declared.session.Sdp.{Sdp}
use Rattle.sdp_formats_rows.specs.Rows.{Row}
use Rattle.std.specs.Prelude.{Option}
use Rattle.jilqamur.specs.Codes.{ok, memory, text_unreadable, rest_unread, mid_not_kept, mid_twice}
use Rattle.jilqamur.specs.Codes.{not_corresponding, section_rejected, several_bundles, outside_bundle}
use Rattle.jilqamur.specs.Codes.{nothing_left, keys_alone, ufrag_not_fit, password_not_fit, setup_not_fit}
use Rattle.jilqamur.specs.Codes.{not_writable, out_of_range}
use Rattle.jilqamur.specs.Exchanges.{Accepted, Answered, exchange_code}

-- The number of a refusal of a browser's text, or of one for a browser.
abbrev pub browser_code : BrowserError → ℕ
browser_code error.Unreadable = text_unreadable
browser_code error.RestUnread = rest_unread
browser_code (error.MidNotKept mid) = mid_not_kept
browser_code error.MidTwice = mid_twice
browser_code error.NotCorresponding = not_corresponding
browser_code (error.Rejected mid) = section_rejected
browser_code error.SeveralBundles = several_bundles
browser_code (error.OutsideBundle mid) = outside_bundle
browser_code error.NothingLeft = nothing_left
browser_code (error.KeysAlone mid) = keys_alone
browser_code error.UfragNotFit = ufrag_not_fit
browser_code error.PasswordNotFit = password_not_fit
browser_code error.SetupNotFit = setup_not_fit
browser_code error.NotWritable = not_writable
browser_code error.Memory = memory

-- A browser's text is refused before it reaches the end.
pub record IsHeldBack (text : List ℕ) (refusal : Sdp → Option BrowserError) (result : ℕ) : Type 0 where
  pub error : BrowserError
  pub refused : IsRefused text refusal error
  pub number : result ≡ browser_code error

-- What an end with these rows is given of a browser's offer, the sections it should answer with, and the state
-- remembered afterwards: by the requests, with those rejected whose sections have no row in common with it (RFC 3264
-- 6).
pub record IsHanded (state : BrowserState) (rows : List Row) (requests : List SectionRequest) (offer : List ℕ)
    (planned : BrowserState)
    (handed : List ℕ) (sections : List Wanted) : Type 0 where
  pub left : List SectionRequest
  pub in_common : AreInCommon (tidied offer) state rows requests left
  pub passes : OfferPasses (tidied offer) left state planned handed
  pub wanted : sections ≡ wanted_of planned left

-- A browser's offer is refused before it reaches the end.
pub record IsOfferHeldBack (state : BrowserState) (rows : List Row) (requests : List SectionRequest) (offer : List ℕ)
    (result : ℕ)
    : Type 0 where
  pub error : BrowserError
  pub refused : RefusesInCommon (tidied offer) state rows requests error
  pub number : result ≡ browser_code error

-- The end answers it.
pub record AnswersBrowser (e : EndState) (state : BrowserState) (requests : List SectionRequest) (offer text : List ℕ)
    (planned : BrowserState)
    (after : EndState) : Type 0 where
  pub handed : List ℕ
  pub sections : List Wanted
  pub is_handed : IsHanded state e.exchange.config.rows requests offer planned handed sections
  pub sound : IsTrue (are_sound sections)
  pub answered : Answered e handed sections text after

-- The RTX pairs of a request don't fit its SSRCs.
pub record IsUnsoundRequest (e : EndState) (state : BrowserState) (requests : List SectionRequest) (offer : List ℕ)
    (result : ℕ)
    : Type 0 where
  pub handed : List ℕ
  pub sections : List Wanted
  pub planned : BrowserState
  pub is_handed : IsHanded state e.exchange.config.rows requests offer planned handed sections
  pub unsound : are_sound sections ≡ false
  pub number : result ≡ out_of_range

-- The end refuses what it is handed.
pub record EndRefusesOffer (e : EndState) (state : BrowserState) (requests : List SectionRequest) (offer : List ℕ)
    (result : ℕ)
    : Type 0 where
  pub handed : List ℕ
  pub sections : List Wanted
  pub planned : BrowserState
  pub is_handed : IsHanded state e.exchange.config.rows requests offer planned handed sections
  pub error : ExchangeError
  pub refuses : RefusesAnswer e.exchange handed sections error
  pub number : result ≡ exchange_code error

-- Why a browser's offer isn't answered.
abbrev pub IsUnanswered : EndState → BrowserState → List SectionRequest → List ℕ → ℕ → Type 0
IsUnanswered e state requests offer result = IsOfferHeldBack state e.exchange.config.rows requests offer result
    ⊎ (IsUnsoundRequest e state requests offer result ⊎ EndRefusesOffer e state requests offer result)

-- The result of answering a browser's offer.
abbrev pub AnswersOffered : EndState → BrowserState → List SectionRequest → List ℕ → ℕ → List ℕ → BrowserState
    → EndState → Type 0
AnswersOffered e state requests offer result text planned after =
    ((result ≡ ok) × AnswersBrowser e state requests offer text planned after)
    ⊎ (IsUnanswered e state requests offer result × (after ≡ e))

-- The end takes what it is handed of a browser's answer.
pub record AcceptsBrowser (e : EndState) (state : BrowserState) (answer : List ℕ) (planned : BrowserState)
    (after : EndState)
    : Type 0 where
  pub handed : List ℕ
  pub passes : AnswerPasses (tidied answer) state planned handed
  pub accepted : Accepted e handed after

-- The end refuses it.
pub record EndRefusesAnswer (e : EndState) (state : BrowserState) (answer : List ℕ) (result : ℕ) : Type 0 where
  pub handed : List ℕ
  pub planned : BrowserState
  pub passes : AnswerPasses (tidied answer) state planned handed
  pub error : ExchangeError
  pub refuses : RefusesAccept e.exchange handed error
  pub number : result ≡ exchange_code error

-- Why a browser's answer isn't taken.
abbrev pub IsUntaken : EndState → BrowserState → List ℕ → ℕ → Type 0
IsUntaken e state answer result =
    IsHeldBack (tidied answer) (answer_refusal (tidied answer) state) result ⊎ EndRefusesAnswer e state answer result

-- The result of accepting a browser's answer.
abbrev pub AnswersTaken : EndState → BrowserState → List ℕ → ℕ → BrowserState → EndState → Type 0
AnswersTaken e state answer result planned after =
    ((result ≡ ok) × AcceptsBrowser e state answer planned after) ⊎ (IsUntaken e state answer result × (after ≡ e))
