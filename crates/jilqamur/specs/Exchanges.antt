-- What calls answer that exchange texts.
use Rattle.std.specs.Prelude.{ℕ, ◌≡◌, ◌⊎◌, List, Some, None, is_some, if◌then◌else◌}
use Rattle.sdp_formats_data.specs.PrintedSession.{sdp_text}
use Rattle.rtp_media_exchange.specs.Reading.{IsUnread}
use Rattle.rtp_media_exchange.specs.TakenTypes.{TakesTypes}
use Rattle.rtp_media_exchange.specs.declared.errors.ExchangeError.{ExchangeError}
use Rattle.rtp_media_exchange.specs.declared.errors.ExchangeError.TheVariants as error
use Rattle.rtp_media_exchange.specs.Exchanges.{with_offer}
use Rattle.rtp_media_exchange.specs.Offers.{Accepts, Answers, offer_of}
use Rattle.rtp_media_exchange.specs.Refusals.{MayAccept, MayAnswer, Refuses, RefusesAccept, RefusesAnswer}
use Rattle.rtp_media_exchange.specs.Refusals.{refusal_of_offer}
use Rattle.rtp_media_ends.specs.Stops.{Where}
use Rattle.rtp_media_sections.specs.Sections.{Wanted, are_sound}
use Rattle.rtp_media_ends.specs.Ends.{EndState, with_exchange}
use Rattle.jilqamur.specs.Codes.{ok, memory, text_unreadable, out_of_turn, not_media}
use Rattle.jilqamur.specs.Codes.{not_corresponding}
use Rattle.jilqamur.specs.Codes.{round, no_common_row, not_writable, nothing, out_of_range}

-- The number of a refused exchange.
abbrev pub exchange_code : ExchangeError → ℕ
exchange_code (error.Unreadable e) = text_unreadable
exchange_code error.OutOfTurn = out_of_turn
exchange_code (error.NotMedia mid) = not_media
exchange_code error.NotCorresponding = not_corresponding
exchange_code (error.Round e) = round
exchange_code (error.NoCommonRow mid) = no_common_row
exchange_code error.NotWritable = not_writable
exchange_code error.Memory = memory

-- The offer's text is left for the caller, if nothing refuses it.
pub record Offered (e : EndState) (sections : List Wanted) (text : List ℕ) (after : EndState) : Type 0 where
  pub may_offer : refusal_of_offer e.exchange sections ≡ None
  pub text_is : text ≡ sdp_text (offer_of e.exchange sections)
  pub is_pending : after ≡ with_exchange e (with_offer e.exchange (Some sections))

-- A refusal returns its number and leaves the end as it was.
pub record IsRefusedAs (e : EndState) (names : ExchangeError → Type 0) (result : ℕ) (after : EndState) : Type 0 where
  pub error : ExchangeError
  pub named : names error
  pub number : result ≡ exchange_code error
  pub stays : after ≡ e

-- Sections whose RTX pairs don't fit their SSRCs are refused first.
abbrev pub AreUnsound : EndState → ℕ → EndState → Type 0
AreUnsound e result after = (result ≡ out_of_range) × (after ≡ e)

-- The result of an offer of these sections.
abbrev pub AnswersOffer : EndState → List Wanted → ℕ → List ℕ → EndState → Type 0
AnswersOffer e sections result text after = Where (are_sound sections)
    (((result ≡ ok) × Offered e sections text after)
    ⊎ IsRefusedAs e (λ error. Refuses error (refusal_of_offer e.exchange sections)) result after)
    (AreUnsound e result after)

-- An answer's text is left, if nothing refuses it.
pub record Answered (e : EndState) (offer : List ℕ) (sections : List Wanted) (text : List ℕ) (after : EndState)
    : Type 0 where
  pub may_answer : MayAnswer e.exchange offer sections
  pub answers : Answers e.exchange offer sections text after.exchange
  pub streams : after ≡ with_exchange e after.exchange

-- What answering this offer's text answers.
abbrev pub AnswersAnswer : EndState → List ℕ → List Wanted → ℕ → List ℕ → EndState → Type 0
AnswersAnswer e offer sections result text after = Where (are_sound sections)
    (((result ≡ ok) × Answered e offer sections text after)
    ⊎ IsRefusedAs e (RefusesAnswer e.exchange offer sections) result after)
    (AreUnsound e result after)

-- An answer's text is taken, if nothing refuses it.
pub record Accepted (e : EndState) (answer : List ℕ) (after : EndState) : Type 0 where
  pub may_accept : MayAccept e.exchange answer
  pub accepts : Accepts e.exchange answer after.exchange
  pub streams : after ≡ with_exchange e after.exchange

-- What taking this answer's text answers.
abbrev pub AnswersAccept : EndState → List ℕ → ℕ → EndState → Type 0
AnswersAccept e answer result after =
    ((result ≡ ok) × Accepted e answer after) ⊎ IsRefusedAs e (RefusesAccept e.exchange answer) result after

-- The agreed sections take their types from a text.
pub record TypesTaken (e : EndState) (text : List ℕ) (after : EndState) : Type 0 where
  pub takes : TakesTypes e.exchange text after.exchange
  pub streams : after ≡ with_exchange e after.exchange

abbrev pub AnswersTypes : EndState → List ℕ → ℕ → EndState → Type 0
AnswersTypes e text result after = ((result ≡ ok) × TypesTaken e text after) ⊎ IsRefusedAs e (IsUnread text) result after

-- A pending offer is given up.
abbrev pub AnswersWithdraw : EndState → ℕ → EndState → Type 0
AnswersWithdraw e result after =
    (result ≡ (if is_some e.exchange.pending then ok else nothing))
    × (after ≡ with_exchange e (with_offer e.exchange None))
