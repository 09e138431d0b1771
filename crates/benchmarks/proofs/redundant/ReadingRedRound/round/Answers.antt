use Rattle.std.proofs.Common.{◌∙◌, List, ℕ, ap, map, refl, sym}
use Rattle.std.proofs.lemmas.Simd.{map-map}
use Rattle.benchmarks.specs.Tallies.{tally_with_all}
use Rattle.payload_core_audio.specs.RedReading.{Item}
use Rattle.payload_core_audio.specs.declared.block.RedBlock.{RedBlock}
use Rattle.benchmarks.proofs.HandedOut.{all_of_first}
use Rattle.benchmarks.proofs.redundant.ReadingRedRound.round.Goals as goal

item_of : RedBlock → Item
item_of b = record { pt = b.pt; timestamp_offset = b.timestamp_offset; payload = b.payload.now; primary = b.primary }

pub returns-in-None : goal.returns-in-None
unfolding item_of
returns-in-None c =
    let payload : Item → List ℕ = λ item. item.payload in
    let all = all_of_first item_of _ c.into_iter-block-iterator.result c.loop-block.yielded
    c.loop-block.block-iterator c.next.new.self c.loop-block.yielded_by c.in-None.ensures.steps in
    let given = rw c.into_iter-block-iterator.ensures.into_iter_gives at all in (
      refl,
      rw c.in-Ok.ensures.read
          (c.loop-block.invariant
          ∙ ap (tally_with_all c.args.tally.now)
          (sym (map-map payload item_of c.loop-block.yielded) ∙ ap (map payload) given)),
    )
