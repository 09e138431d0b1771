use Rattle.std.proofs.Common.{◌≡◌, suc, ◌+◌, drop, ap, arith}
use Rattle.payload_core_audio.specs.RedReading.{size_at, size_of_blocks}
use Rattle.payload_core_audio.proofs.decoder.size_of_blocks.Goals as goal

pub loop-preserved : goal.loop-preserved
loop-preserved c = record {
  few = omega arith;
  whole = λ n e.
      let next : c.loop.counter + suc n ≡ c.args.count = omega arith in
      let rest : size_of_blocks n c.parted.result.1.now ≡ size_of_blocks n (drop 4 c.loop.headers.now) =
      ap (size_of_blocks n) c.parted.ensures.behind in
      let whole : c.loop.size + (size_at c.loop.headers.now + size_of_blocks n (drop 4 c.loop.headers.now))
      ≡ size_of_blocks c.args.count c.args.packet.now = c.loop.invariant.whole (suc n) next in
      omega (arith, rest, whole, c.size_at-size.ensures.value);
}

pub returns-clause-value : goal.returns-clause-value
returns-clause-value c =
    let none : c.loop.size + 0 ≡ size_of_blocks c.args.count c.args.packet.now =
    c.loop.invariant.whole 0 (omega arith) in
    omega (arith, none)
