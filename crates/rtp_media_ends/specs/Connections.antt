-- Two ends that exchange an offer and an answer.
use Rattle.std.specs.Prelude.{◌≡◌, ℕ, List, Some, None}
use Rattle.sdp_formats_data.specs.PrintedSession.{sdp_text}
use Rattle.rtp_media_exchange.specs.Exchanges.{with_offer}
use Rattle.rtp_media_exchange.specs.Offers.{Accepts, Answers, offer_of}
use Rattle.rtp_media_exchange.specs.Refusals.{MayAccept, MayAnswer, Refuses, RefusesAccept, RefusesAnswer}
use Rattle.rtp_media_exchange.specs.Refusals.{refusal_of_offer}
use Rattle.rtp_media_exchange.specs.Says.{AgreesOnText}
use Rattle.rtp_media_exchange.specs.Requests.{SaysOffer}
use Rattle.rtp_media_exchange.specs.declared.ExchangeError.{ExchangeError}
use Rattle.rtp_media_sections.specs.Agreement.{Agreed, agreed_map_of, agreed_row_of, own_repairs_of, remote_repairs_of}
use Rattle.rtp_media_sections.specs.Sections.{Wanted}
use Rattle.rtp_media_ends.specs.Ends.{EndState, with_exchange}

-- The offering end, with its offer pending.
abbrev pub offering : EndState → List Wanted → EndState
offering a sections = with_exchange a (with_offer a.exchange (Some sections))

-- The text of its offer.
abbrev pub offer_text : EndState → List Wanted → List ℕ
offer_text a sections = sdp_text (offer_of a.exchange sections)

-- One end offered, the other answered that offer, and the first accepted the answer, none of these calls being refused;
-- their streams don't change.
pub record Connects (a b : EndState) (sections_a sections_b : List Wanted) (offer answer : List ℕ)
    (after_a after_b : EndState) : Type 0 where
  pub may_offer : refusal_of_offer a.exchange sections_a ≡ None
  pub offers : offer ≡ offer_text a sections_a
  pub may_answer : MayAnswer b.exchange offer sections_b
  pub answers : Answers b.exchange offer sections_b answer after_b.exchange
  pub may_accept : MayAccept (with_offer a.exchange (Some sections_a)) answer
  pub accepts : Accepts (with_offer a.exchange (Some sections_a)) answer after_a.exchange
  pub streams_a : after_a ≡ with_exchange a after_a.exchange
  pub streams_b : after_b ≡ with_exchange b after_b.exchange

-- Two ends have exchanged texts: each agreed on what the answer says, and each takes the RTX pairs that the other
-- names.
pub record HaveExchanged (answer : List ℕ) (a b : EndState) : Type 0 where
  pub first : AgreesOnText answer a.exchange.agreed
  pub second : AgreesOnText answer b.exchange.agreed
  pub repairs_to : (mid : List ℕ) → own_repairs_of a.exchange.agreed mid ≡ remote_repairs_of b.exchange.agreed mid
  pub repairs_from : (mid : List ℕ) → own_repairs_of b.exchange.agreed mid ≡ remote_repairs_of a.exchange.agreed mid

-- What the three calls of an exchange say, on whichever machines they are made: `offer` of the offering end, `answer`
-- of the other one with the text that the first made, and `accept` with the answer's text.
pub record HaveCalled (offer answer : List ℕ) (sections_a sections_b : List Wanted) (a b after_a after_b : EndState)
    : Type 0 where
  pub offers : SaysOffer offer sections_a
  pub pending : a.exchange.pending ≡ Some sections_a
  pub answers : Answers b.exchange offer sections_b answer after_b.exchange
  pub accepts : Accepts a.exchange answer after_a.exchange
  pub answered : AgreesOnText answer after_b.exchange.agreed
  pub accepted : AgreesOnText answer after_a.exchange.agreed

-- Then they have exchanged texts.
abbrev pub CallsExchange : Type 0
CallsExchange = (offer answer : List ℕ) (sections_a sections_b : List Wanted) (a b after_a after_b : EndState)
    → HaveCalled offer answer sections_a sections_b a b after_a after_b → HaveExchanged answer after_a after_b

-- In each section both have the same row for every payload type, and the same map of header extensions.
pub record HaveOneAgreement (a b : List Agreed) : Type 0 where
  pub rows : (mid : List ℕ) (pt : ℕ) → agreed_row_of a mid pt ≡ agreed_row_of b mid pt
  pub maps : (mid : List ℕ) → agreed_map_of a mid ≡ agreed_map_of b mid

-- Which call is refused.
pub data Stage : Type 0 where
  AtOffer : Stage
  AtAnswer : (offer : List ℕ) → Stage
  AtAccept : (offer answer : List ℕ) → Stage

-- After a refused offer nothing has changed; after a refused answer the offer is still pending; after a refused accept
-- the answering end has agreed. The calls before were accepted.
abbrev pub RefusedAt : Stage → EndState → EndState → List Wanted → List Wanted → ExchangeError
    → EndState → EndState → Type 0
RefusedAt AtOffer a b sections_a sections_b e after_a after_b =
    Refuses e (refusal_of_offer a.exchange sections_a) × (after_a ≡ a) × (after_b ≡ b)
RefusedAt (AtAnswer offer) a b sections_a sections_b e after_a after_b =
    (refusal_of_offer a.exchange sections_a ≡ None) × (offer ≡ offer_text a sections_a)
    × RefusesAnswer b.exchange offer sections_b e
    × (after_a ≡ offering a sections_a) × (after_b ≡ b)
RefusedAt (AtAccept offer answer) a b sections_a sections_b e after_a after_b =
    (refusal_of_offer a.exchange sections_a ≡ None) × (offer ≡ offer_text a sections_a)
    × MayAnswer b.exchange offer sections_b
    × Answers b.exchange offer sections_b answer after_b.exchange
    × RefusesAccept (with_offer a.exchange (Some sections_a)) answer e
    × (after_a ≡ offering a sections_a) × (after_b ≡ with_exchange b after_b.exchange)

abbrev pub IsRefused : EndState → EndState → List Wanted → List Wanted → ExchangeError → EndState → EndState → Type 0
IsRefused a b sections_a sections_b e after_a after_b =
    (stage : Stage) × RefusedAt stage a b sections_a sections_b e after_a after_b
