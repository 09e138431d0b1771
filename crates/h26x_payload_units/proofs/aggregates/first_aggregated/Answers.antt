use Rattle.std.proofs.Common.{ℕ, List, ◌∷◌, length, sym, ap, ◌∙◌, arith}
use Rattle.std.proofs.lemmas.List.{length-drop}
use Rattle.h26x_payload_units.proofs.AggregateLemmas.{first_is, past_is, short_is}
use Rattle.h26x_payload_units.proofs.aggregates.first_aggregated.Goals as goal

abbrev length_of : List ℕ → ℕ
length_of text = length text

pub returns-then-body-lead-clause-fault : goal.returns-then-body-lead-clause-fault
returns-then-body-lead-clause-fault c = λ some later. short_is c.args.lead later c.args.body.now some
    (omega (arith, c.if-body-lead.true))

pub returns-in_default-clause-fault : goal.returns-in_default-clause-fault
returns-in_default-clause-fault c =
    let none = c.in_default.ensures.cases in
    let back = ap length_of c.split_at.ensures.back in
    λ some later. short_is c.args.lead later c.args.body.now some
    (omega (arith, none, back, c.if-body-lead.false, length-drop c.args.lead c.args.body.now))

pub returns-in_default-split_first-clause-fault : goal.returns-in_default-split_first-clause-fault
returns-in_default-split_first-clause-fault c =
    let none = c.in_default-split_first.ensures.cases in
    let back = ap length_of c.split_at.ensures.back in
    let one = ap length_of c.in-Some.ensures.cases.0 in
    λ some later. short_is c.args.lead later c.args.body.now some
    (omega (arith, none, one, back, c.if-body-lead.false, length-drop c.args.lead c.args.body.now))

pub returns-then-size-rest-clause-fault : goal.returns-then-size-rest-clause-fault
returns-then-size-rest-clause-fault c =
    let text = sym c.split_at.ensures.back ∙ c.in-Some.ensures.cases.0
    ∙ ap (λ t. c.in-Some.high.now ∷ t) c.in-Some-split_first.ensures.cases.0 in
    λ some later. past_is c.args.lead later c.args.body.now c.in-Some-split_first.rest.now c.in-Some.high.now
    c.in-Some-split_first.low.now text c.if-size-rest.true

pub returns-clause-unit : goal.returns-clause-unit
returns-clause-unit c =
    let text = sym c.split_at.ensures.back ∙ c.in-Some.ensures.cases.0
    ∙ ap (λ t. c.in-Some.high.now ∷ t) c.in-Some-split_first.ensures.cases.0 in
    λ later. first_is c.args.lead later c.args.body.now c.in-Some-split_first.rest.now c.split_at-2.result.0.now
    c.split_at-2.result.1.now c.in-Some.high.now c.in-Some-split_first.low.now text c.if-size-rest.false
    c.split_at-2.ensures.front c.split_at-2.ensures.back
