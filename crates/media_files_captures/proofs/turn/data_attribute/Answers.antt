use Rattle.std.proofs.Common.{◌≡◌, ◌+◌, ◌-◌, ◌≤◌, ℕ, List, Some, length, take, drop, arith, ◌∙◌, sym, ap, subst}
use Rattle.media_files_captures.specs.Numbers.{u16_be}
use Rattle.media_files_captures.specs.Pcapng.{padded}
use Rattle.media_files_captures.specs.Turn.{data_attribute}
use Rattle.media_files_captures.proofs.TurnLemmas.{data_attribute-more, data_attribute-found}
use Rattle.media_files_captures.proofs.turn.data_attribute.Goals as goal

pub returns-then-u16_be-eq-DATA_ATTRIBUTE : goal.returns-then-u16_be-eq-DATA_ATTRIBUTE
returns-then-u16_be-eq-DATA_ATTRIBUTE c =
    let end : c.padded-end.result ≡ padded (u16_be c.loop-passed.rest.now 2) =
    c.padded-end.ensures.value ∙ ap (λ (n : ℕ). padded n) c.u16_be-len.ensures in
    let len : (4 + c.u16_be-len.result) - 4 ≡ u16_be c.loop-passed.rest.now 2 =
    omega (arith, c.u16_be-len.ensures) in
    ap (λ (n : ℕ). Some (take n (drop 4 c.loop-passed.rest.now))) len
    ∙ sym (data_attribute-found c.args.most c.loop-passed._passed c.loop-passed.rest.now c.loop-passed-test.true
    c.if-rest-lt4.false
    (subst (λ (n : ℕ). 4 + n ≤ length c.loop-passed.rest.now) end c.if-rest-end.false)
    (sym c.u16_be.ensures ∙ c.if-u16_be-eq-DATA_ATTRIBUTE.true))
    ∙ c.loop-passed.invariant

pub loop-passed-preserved : goal.loop-passed-preserved
loop-passed-preserved c =
    let end : c.padded-end.result ≡ padded (u16_be c.loop-passed.rest.now 2) =
    c.padded-end.ensures.value ∙ ap (λ (n : ℕ). padded n) c.u16_be-len.ensures in
    let rest : c.rest_from-rest.result.now
    ≡ drop (4 + padded (u16_be c.loop-passed.rest.now 2)) c.loop-passed.rest.now =
    c.rest_from-rest.ensures ∙ ap (λ (n : ℕ). drop (4 + n) c.loop-passed.rest.now) end in
    ap (λ (xs : List ℕ). data_attribute (c.args.most - (c.loop-passed._passed + 1)) xs) rest
    ∙ sym (data_attribute-more c.args.most c.loop-passed._passed c.loop-passed.rest.now c.loop-passed-test.true
    c.if-rest-lt4.false
    (subst (λ (n : ℕ). 4 + n ≤ length c.loop-passed.rest.now) end c.if-rest-end.false)
    (λ z. c.if-u16_be-eq-DATA_ATTRIBUTE.false (c.u16_be.ensures ∙ z)))
    ∙ c.loop-passed.invariant
