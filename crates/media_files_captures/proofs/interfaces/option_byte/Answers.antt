use Rattle.std.proofs.Common.{◌≡◌, ◌+◌, ◌-◌, ◌≤◌, ℕ, List, length, drop, ◌∙◌, sym, ap, subst}
use Rattle.media_files_captures.specs.Pcapng.{option_byte, padded}
use Rattle.media_files_captures.specs.Numbers.{u16_at}
use Rattle.media_files_captures.proofs.PcapngLemmas.{option_byte-more, option_byte-found}
use Rattle.media_files_captures.proofs.interfaces.option_byte.Goals as goal

pub returns-then-is_wanted : goal.returns-then-is_wanted
returns-then-is_wanted c =
    let end : c.padded-end.result ≡ padded (u16_at c.args.order c.loop-passed.rest.now 2) =
    c.padded-end.ensures.value ∙ ap (λ (n : ℕ). padded n) c.u16_at-in-loop-passed.ensures in
    sym (option_byte-found c.args.most c.loop-passed._passed c.args.order c.args.code c.loop-passed.rest.now
    c.loop-passed-test.true c.if-rest-lt4.false (λ z. c.if-u16_at-eq0.false (c.u16_at.ensures ∙ z))
    (subst (λ (n : ℕ). 4 + n ≤ length c.loop-passed.rest.now) end c.if-rest-end.false) (sym c.if-is_wanted.ensures))
    ∙ c.loop-passed.invariant

pub loop-passed-preserved : goal.loop-passed-preserved
loop-passed-preserved c =
    let end : c.padded-end.result ≡ padded (u16_at c.args.order c.loop-passed.rest.now 2) =
    c.padded-end.ensures.value ∙ ap (λ (n : ℕ). padded n) c.u16_at-in-loop-passed.ensures in
    let rest : c.rest_from-rest.result.now
    ≡ drop (4 + padded (u16_at c.args.order c.loop-passed.rest.now 2)) c.loop-passed.rest.now =
    c.rest_from-rest.ensures ∙ ap (λ (n : ℕ). drop (4 + n) c.loop-passed.rest.now) end in
    ap (λ (xs : List ℕ). option_byte (c.args.most - (c.loop-passed._passed + 1)) c.args.order c.args.code xs) rest
    ∙ sym (option_byte-more c.args.most c.loop-passed._passed c.args.order c.args.code c.loop-passed.rest.now
    c.loop-passed-test.true c.if-rest-lt4.false (λ z. c.if-u16_at-eq0.false (c.u16_at.ensures ∙ z))
    (subst (λ (n : ℕ). 4 + n ≤ length c.loop-passed.rest.now) end c.if-rest-end.false) (sym c.if-is_wanted.ensures))
    ∙ c.loop-passed.invariant
