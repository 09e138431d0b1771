-- What texts say of the sections that ends want (RFC 3264 5 and 6).
use Rattle.std.specs.Prelude.{◌≡◌, ℕ, List, [], ◌∷◌}
use Rattle.rtp_media_exchange.specs.Says.{SaysSections}
use Rattle.rtp_media_sections.specs.WantedSections.{NamesWanted}
use Rattle.rtp_media_sections.specs.Answered.{answered_direction}
use Rattle.rtp_media_sections.specs.Sections.{Section, Wanted}

-- The offered section states the wanted one, including its direction.
pub record IsOfferOf (s : Section) (w : Wanted) : Type 0 where
  pub names : NamesWanted s w
  pub dir : s.dir ≡ w.dir

abbrev pub AreOffers : List Section → List Wanted → Type 0
AreOffers [] [] = Unit {0}
AreOffers (s ∷ ss) (w ∷ ws) = IsOfferOf s w × AreOffers ss ws
AreOffers _ _ = ⊥

-- The text of an offer states exactly the wanted sections, in order.
pub record SaysOffer (text : List ℕ) (wanted : List Wanted) : Type 0 where
  pub sections : List Section
  pub says : SaysSections text sections
  pub are_offers : AreOffers sections wanted

-- The section states a wanted one and answers the offered one with its mid: it sends if its end wants to and the offer
-- receives, and receives if its end wants to and the offer sends.
pub record IsAnswerOf (s : Section) (w : Wanted) (offer : Section) : Type 0 where
  pub names : NamesWanted s w
  pub dir : s.dir ≡ answered_direction offer.dir w.dir
  pub offer_mid : offer.mid ≡ w.mid

abbrev pub AreAnswers : List Section → List Wanted → List Section → Type 0
AreAnswers [] [] [] = Unit {0}
AreAnswers (s ∷ ss) (w ∷ ws) (o ∷ os) = IsAnswerOf s w o × AreAnswers ss ws os
AreAnswers _ _ _ = ⊥
