-- Why texts don't pass between browsers and ends.
use Rattle.std.proofs.Common.{◌≡◌, inl, inr, refl, subst, ℕ, List, Option}
use Rattle.sdp_formats_data.specs.declared.session.Sdp.{Sdp}
use Rattle.sdp_formats_rows.specs.Rows.{Row}
use Rattle.rtp_media_browsers.specs.Calls.{AnswerPasses}
use Rattle.rtp_media_browsers.specs.Tidied.{tidied}
use Rattle.rtp_media_browsers.specs.declared.error.BrowserError.{BrowserError}
use Rattle.rtp_media_browsers.specs.declared.error.BrowserError.TheVariants as error
use Rattle.rtp_media_browsers.specs.declared.state.BrowserState.{BrowserState}
use Rattle.rtp_media_browsers.specs.declared.transport.Transport.{Transport}
use Rattle.rtp_media_browsers.specs.declared.request.SectionRequest.{SectionRequest}
use Rattle.rtp_media_ends.specs.Ends.{EndState}
use Rattle.rtp_media_exchange.specs.Refusals.{RefusesAccept, RefusesAnswer}
use Rattle.rtp_media_exchange.specs.declared.errors.ExchangeError.{ExchangeError}
use Rattle.rtp_media_sections.specs.Sections.{Wanted}
use Rattle.jilqamur.specs.Codes.{memory}
use Rattle.jilqamur.specs.Browsers.{IsHanded, IsHeldBack, IsOfferHeldBack, IsUnanswered, IsUntaken}
use Rattle.jilqamur.specs.WithTransport.{StaysBare}
use Rattle.jilqamur.specs.Exchanges.{exchange_code}

pub want : (text : List ℕ) (state : BrowserState) (t : Transport) → StaysBare text state t memory
want text state t = record { error = error.Memory; refused = inl (inl tt); number = refl }

pub want_of_text : (text : List ℕ) (refusal : Sdp → Option BrowserError) → IsHeldBack text refusal memory
want_of_text text refusal = record { error = error.Memory; refused = inl tt; number = refl }

-- The end refuses what it is shown, which is what was handed to it.
pub refused_offer : (e : EndState) (state : BrowserState) (requests : List SectionRequest) (offer : List ℕ)
    (planned : BrowserState)
    (handed : List ℕ) (sections : List Wanted) (rows : List Row) → rows ≡ e.exchange.config.rows
    → IsHanded state rows requests offer planned handed sections
    → (shown : List ℕ) (why : ExchangeError) (code : ℕ) → shown ≡ handed
    → RefusesAnswer e.exchange shown sections why → code ≡ exchange_code why
    → IsUnanswered e state requests offer code
refused_offer e state requests offer planned handed sections rows own is shown why code same refuses number =
    inr (inr (record {
      handed = handed;
      sections = sections;
      planned = planned;
      is_handed = subst (λ r. IsHanded state r requests offer planned handed sections) own is;
      error = why;
      refuses = subst (λ t. RefusesAnswer e.exchange t sections why) same refuses;
      number = number;
    }))

pub want_of_offer : (state : BrowserState) (rows : List Row) (requests : List SectionRequest) (offer : List ℕ)
    → IsOfferHeldBack state rows requests offer memory
want_of_offer state rows requests offer = record {
  error = error.Memory;
  refused = record { times = 0; left = requests; rejects = refl; refused = inl tt };
  number = refl;
}

pub refused_answer : (e : EndState) (state : BrowserState) (answer : List ℕ) (planned : BrowserState)
    (handed shown : List ℕ)
    → AnswerPasses (tidied answer) state planned handed → shown ≡ handed → (why : ExchangeError) (code : ℕ)
    → RefusesAccept e.exchange shown why → code ≡ exchange_code why → IsUntaken e state answer code
refused_answer e state answer planned handed shown passes same why code refuses number = inr (record {
  handed = handed;
  planned = planned;
  passes = passes;
  error = why;
  refuses = subst (λ t. RefusesAccept e.exchange t why) same refuses;
  number = number;
})
