use Rattle.std.proofs.Common.{◌≡◌, ◌∙◌, arith}
use Rattle.jilqamur.specs.Codes.{ok}
use Rattle.jilqamur.proofs.Asked.{is-ok}
use Rattle.jilqamur.proofs.requesters.jilqamur_requester_ask.Goals as goal

pub returns-in-Ok-clause-too_small : goal.returns-in-Ok-clause-too_small
returns-in-Ok-clause-too_small c = λ t.
    let done : c.copy_numbers.result ≡ ok =
    is-ok c.in-Requester.held c.args.now c.args.round_trip c.args.missing.now c.as_slice.result.now
    c.args.numbers.now c.copy_numbers.result (c.as_slice.ensures.value ∙ c.in-Ok.ensures.due)
    c.if-numbers-missing.false c.copy_numbers.ensures.outcome in
    absurd (omega (arith, t, done))

pub returns-in-Ok-clause-unchanged : goal.returns-in-Ok-clause-unchanged
returns-in-Ok-clause-unchanged c = λ no.
    let done : c.copy_numbers.result ≡ ok =
    is-ok c.in-Requester.held c.args.now c.args.round_trip c.args.missing.now c.as_slice.result.now
    c.args.numbers.now c.copy_numbers.result (c.as_slice.ensures.value ∙ c.in-Ok.ensures.due)
    c.if-numbers-missing.false c.copy_numbers.ensures.outcome in
    absurd (no done)

pub returns-in-Ok-clause-kept : goal.returns-in-Ok-clause-kept
returns-in-Ok-clause-kept c = λ no.
    let done : c.copy_numbers.result ≡ ok =
    is-ok c.in-Requester.held c.args.now c.args.round_trip c.args.missing.now c.as_slice.result.now
    c.args.numbers.now c.copy_numbers.result (c.as_slice.ensures.value ∙ c.in-Ok.ensures.due)
    c.if-numbers-missing.false c.copy_numbers.ensures.outcome in
    absurd (no done)
