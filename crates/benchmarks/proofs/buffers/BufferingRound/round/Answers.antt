use Rattle.std.proofs.Common.{◌≡◌, ◌<◌, ◌∙◌, [], ap, arith, get_or, length, map, refl, rules, subst, sym}
use Rattle.std.proofs.lemmas.List.{get_or-map}
use Rattle.benchmarks.specs.Buffered.{PushesFirst}
use Rattle.benchmarks.proofs.BufferLemmas.{either, packet_is, pushes_more, stays}
use Rattle.benchmarks.proofs.buffers.BufferingRound.round.Goals as goal

pub loop-i-preserved : goal.loop-i-preserved
loop-i-preserved g c =
    let b = c.args.self.now in
    let i = c.loop-i.i in
    let so_far = c.loop-i.invariant in
    let item = c.index-packets-i.result in
    let in_range : i < length b.packets.now = omega arith in
    let payload : c.deref.result.now ≡ get_or (map (λ p. p.items) b.packets.now) i [] =
    c.deref.ensures.value ∙ ap (λ p. p.items) c.index-packets-i.is
    ∙ sym (get_or-map (λ p. p.items) b.packets.now i item [] in_range) in
    let mid = c.loop-i.self.buffer in
    let new = c.push.new.self in
    let packet = packet_is b c.args.time i c.from.result c.absent.result c.deref.result.now
    (c.from.ensures ∙ so_far.number) c.absent.ensures payload in
    let outcome = either c.push.result c.push.ensures.kept c.push.ensures.unchanged in
    record {
      pushes = pushes_more b c.args.time i b.buffer mid new _ packet so_far.pushes outcome;
      number = search rules;
      step_stays = so_far.step_stays;
      packets_stay = so_far.packets_stay;
      format_stays =
          stays mid new _ (λ b. g.D.Depacketizer.format b.depacketizer) refl outcome
          ∙ so_far.format_stays;
      holding_stays =
          stays mid new _ (λ b. b.holding) refl outcome ∙ so_far.holding_stays;
    }

pub returns : goal.returns
returns g c =
    let b = c.args.self.now in
    let whole : c.loop-i.i ≡ length b.packets.now = omega arith in
    record {
      full = c.loop-i.self.buffer;
      pushes = subst (λ n. PushesFirst b c.args.time n b.buffer c.loop-i.self.buffer) whole c.loop-i.invariant.pushes;
      answer = c.pop.result;
      pops = c.pop.ensures.pops.answers;
      counted = c.count_unit.ensures;
      number = search rules;
      format_stays = c.pop.ensures.pops.same_format ∙ c.loop-i.invariant.format_stays;
      holding_stays = c.pop.ensures.pops.same_holding ∙ c.loop-i.invariant.holding_stays;
      step_stays = c.loop-i.invariant.step_stays;
      packets_stay = c.loop-i.invariant.packets_stay;
    }
