use Rattle.std.proofs.Common.{◌≡◌, ◌<◌, ◌⊎◌, ◌++◌, ◌∙◌, [], add-one, ap, get_or, length, map, sym, arith}
use Rattle.std.proofs.lemmas.List.{get_or-map}
use Rattle.benchmarks.proofs.ReadLemmas.{either}
use Rattle.benchmarks.proofs.formats.CopyingRound.round.Goals as goal

pub loop-packet-preserved : goal.loop-packet-preserved
loop-packet-preserved c =
    let packets = c.args.self.now.packets.now in
    let i = c.loop-packet.packet-index in
    let item = c.packet-item.result in
    let front = c.loop-packet.self.fragment.items in
    let text = c.extend_from_slice.new.self.items in
    let step : (text ≡ front ++ c.deref.result.now) ⊎ (text ≡ front) =
    either c.extend_from_slice.result (front ++ c.deref.result.now) front text c.extend_from_slice.ensures.items in
    let in_range : i < length packets = omega arith in
    let same : get_or (map (λ p. p.items) packets) i [] ≡ c.deref.result.now =
    get_or-map (λ p. p.items) packets i item [] in_range ∙ ap (λ p. p.items) (sym c.packet-item.is)
    ∙ sym c.deref.ensures.value in
    record {
      joined = rw add-one (front, c.loop-packet.invariant.joined, rw same step);
      packets_stay = c.loop-packet.invariant.packets_stay;
    }
