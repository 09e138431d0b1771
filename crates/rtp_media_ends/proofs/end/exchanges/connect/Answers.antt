use Rattle.std.proofs.Common.{◌≡◌, ◌∙◌, sym, subst, arith}
use Rattle.std.proofs.Common.{ℕ, List, ap}
use Rattle.rtp_media_exchange.specs.Offers.{Answers}
use Rattle.rtp_media_exchange.specs.Says.{AgreesOnText}
use Rattle.rtp_media_exchange.specs.Requests.{SaysOffer}
use Rattle.rtp_media_ends.specs.Ends.{EndState}
use Rattle.rtp_media_ends.specs.Connections.{AtAnswer, AtAccept, offer_text}
use Rattle.std.proofs.lemmas.Grind.{common_steps}
use Rattle.rtp_media_ends.proofs.end.exchanges.connect.Goals as goal

pub returns-in-Err-clause-refused : goal.returns-in-Err-clause-refused
returns-in-Err-clause-refused c =
    let offers : c.as_str.result.now ≡ offer_text c.args.a.now c.args.sections_a.items =
    c.as_str.ensures.value ∙ c.in_ok-offer.ensures.text in (
      AtAnswer c.as_str.result.now,
      (
        c.in_ok-offer.ensures.accepted,
        offers,
        c.in-Err.ensures.refused,
        c.in_ok-offer.ensures.after,
        c.in-Err.ensures.unchanged,
      ),
    )

pub returns-in-Err-accept-clause-refused : goal.returns-in-Err-accept-clause-refused
returns-in-Err-accept-clause-refused c =
    let offers : c.as_str.result.now ≡ offer_text c.args.a.now c.args.sections_a.items =
    c.as_str.ensures.value ∙ c.in_ok-offer.ensures.text in
    let answers = subst
    (λ text. Answers c.args.b.now.exchange c.as_str.result.now c.args.sections_b.items text
    c.answer.new.self.exchange)
    (sym c.as_str-2.ensures.value) c.in-Ok.ensures.text in
    let refused = rw c.in_ok-offer.ensures.after at c.in-Err-accept.ensures.refused in (
      AtAccept c.as_str.result.now c.as_str-2.result.now,
      (
        c.in_ok-offer.ensures.accepted,
        offers,
        c.in-Ok.ensures.accepted,
        answers,
        refused,
        c.in-Err-accept.ensures.unchanged ∙ c.in_ok-offer.ensures.after,
        c.in-Ok.ensures.streams,
      ),
    )

pub returns-in_err-offer-clause-texts : goal.returns-in_err-offer-clause-texts
returns-in_err-offer-clause-texts c = grind (arith, common_steps)

pub returns-in_err-offer-clause-exchanged : goal.returns-in_err-offer-clause-exchanged
returns-in_err-offer-clause-exchanged c = grind (arith, common_steps)

pub returns-in_err-offer-clause-agree : goal.returns-in_err-offer-clause-agree
returns-in_err-offer-clause-agree c = grind (arith, common_steps)

pub returns-in_err-offer-clause-refused : goal.returns-in_err-offer-clause-refused
returns-in_err-offer-clause-refused c = grind (arith, common_steps)

pub returns-in-Err-clause-texts : goal.returns-in-Err-clause-texts
returns-in-Err-clause-texts c = grind (arith, common_steps)

pub returns-in-Err-clause-exchanged : goal.returns-in-Err-clause-exchanged
returns-in-Err-clause-exchanged c = grind (arith, common_steps)

pub returns-in-Err-clause-agree : goal.returns-in-Err-clause-agree
returns-in-Err-clause-agree c = grind (arith, common_steps)

pub returns-in-Ok-accept-clause-texts : goal.returns-in-Ok-accept-clause-texts
returns-in-Ok-accept-clause-texts c = grind (arith, common_steps)

pub returns-in-Ok-accept-clause-exchanged : goal.returns-in-Ok-accept-clause-exchanged
returns-in-Ok-accept-clause-exchanged c =
    let offer : List ℕ = c.as_str.result.now in
    let answer : List ℕ = c.as_str-2.result.now in
    let says : SaysOffer offer c.args.sections_a.items =
    subst (λ (text : List ℕ). SaysOffer text c.args.sections_a.items) (sym c.as_str.ensures.value)
    c.in_ok-offer.ensures.says in
    let answers : Answers c.args.b.now.exchange offer c.args.sections_b.items answer c.answer.new.self.exchange =
    subst (λ (text : List ℕ). Answers c.args.b.now.exchange offer c.args.sections_b.items text
    c.answer.new.self.exchange) (sym c.as_str-2.ensures.value) c.in-Ok.ensures.text in
    let pairs = c.mutual_law.ensures.repairs offer answer c.args.sections_a.items c.args.sections_b.items
    c.offer.new.self.exchange c.args.b.now.exchange c.accept.new.self.exchange c.answer.new.self.exchange (record {
      offers = says;
      pending = ap (λ (e : EndState). e.exchange.pending) c.in_ok-offer.ensures.after;
      answers = answers;
      accepts = c.in-Ok-accept.ensures.after;
    }) in
    record {
      first = subst (λ (text : List ℕ). AgreesOnText text c.accept.new.self.exchange.agreed) c.as_str-2.ensures.value
          c.in-Ok-accept.ensures.agreed;
      second = c.in-Ok.ensures.agreed;
      repairs_to = λ mid. (pairs mid).0;
      repairs_from = λ mid. (pairs mid).1;
    }

pub returns-in-Ok-accept-clause-agree : goal.returns-in-Ok-accept-clause-agree
returns-in-Ok-accept-clause-agree c = grind (arith, common_steps)

pub returns-in-Ok-accept-clause-refused : goal.returns-in-Ok-accept-clause-refused
returns-in-Ok-accept-clause-refused c = grind (arith, common_steps)

pub returns-in-Err-accept-clause-texts : goal.returns-in-Err-accept-clause-texts
returns-in-Err-accept-clause-texts c = grind (arith, common_steps)

pub returns-in-Err-accept-clause-exchanged : goal.returns-in-Err-accept-clause-exchanged
returns-in-Err-accept-clause-exchanged c = grind (arith, common_steps)

pub returns-in-Err-accept-clause-agree : goal.returns-in-Err-accept-clause-agree
returns-in-Err-accept-clause-agree c = grind (arith, common_steps)
