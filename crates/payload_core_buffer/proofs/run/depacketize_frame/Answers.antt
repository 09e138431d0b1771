use Rattle.std.proofs.Common.{◌+◌, [], ◌∷◌, drop, length, take, ◌∙◌, arith}
use Rattle.std.specs.Prelude.{slice_range}
use Rattle.std.proofs.lemmas.List.{length-append, take_all}
use Rattle.std.proofs.lemmas.Iterator.Consumers.{YieldsList-end, YieldsList-turn}
use Rattle.payload_core_buffer.specs.Packets.{packets_of, payloads_of}
use Rattle.payload_core_buffer.specs.Pops.{no_extra}
use Rattle.payload_core_buffer.proofs.FrameLemmas.{length_packets}
use Rattle.payload_core_buffer.proofs.RunLemmas.{frame_road, payloads_around, payloads_more, take_packets, read_fault}
use Rattle.payload_core_buffer.proofs.RunLemmas.{read_more}
use Rattle.payload_core_buffer.proofs.run.depacketize_frame.Goals as goal

pub loop-held-preserved : goal.loop-held-preserved
loop-held-preserved g c =
    let d = g.D.Depacketizer in
    let hs = slice_range c.args.held.now.items c.args.frame.start c.args.frame.end in
    let xs = c.loop-held.yielded in
    let road = frame_road c.into_iter-held-iterator.ensures.into_iter_gives c.take-held-items.ensures.source
    c.take-held-items.ensures.count c.skip.ensures.source c.skip.ensures.count c.iter.ensures.rest in
    let turn = YieldsList-turn road xs c.loop-held.held-iterator c.loop-held.yielded_by c.next.result c.next.new.self
    c.in-Some.held c.in-Some.is c.next.ensures.steps in
    let format = d.format c.args.depacketizer.now in
    let so_far = c.loop-held.invariant in
    record {
      format = c.in_default.ensures.format ∙ so_far.format;
      read = rw (length-append xs (c.in-Some.held ∷ []), payloads_more hs (length xs) c.in-Some.held.now turn.0 turn.1)
          (read_more format (d.fragment c.args.depacketizer.now) no_extra
          (payloads_of (packets_of (take (length xs) hs))) c.in-Some.held.now.payload
          c.loop-held.bytes.items c.depacketize.new.out.items c.loop-held.extra c.depacketize.new.extra
          (d.fragment c.loop-held.depacketizer) (d.fragment c.depacketize.new.self)
          so_far.read (rw (so_far.format, c.bytes.ensures) at c.in_default.ensures.read));
    }

pub returns-in-Err-clause-fault : goal.returns-in-Err-clause-fault
returns-in-Err-clause-fault g c =
    let d = g.D.Depacketizer in
    let hs = slice_range c.args.held.now.items c.args.frame.start c.args.frame.end in
    let xs = c.loop-held.yielded in
    let i = length xs in
    let road = frame_road c.into_iter-held-iterator.ensures.into_iter_gives c.take-held-items.ensures.source
    c.take-held-items.ensures.count c.skip.ensures.source c.skip.ensures.count c.iter.ensures.rest in
    let turn = YieldsList-turn road xs c.loop-held.held-iterator c.loop-held.yielded_by c.next.result c.next.new.self
    c.in-Some.held c.in-Some.is c.next.ensures.steps in
    let format = d.format c.args.depacketizer.now in
    let so_far = c.loop-held.invariant in
    λ other. rw (payloads_around hs i c.in-Some.held.now turn.0 turn.1)
    (read_fault format (d.fragment c.args.depacketizer.now) no_extra (payloads_of (packets_of (take i hs)))
    (payloads_of (packets_of (drop (i + 1) hs))) c.in-Some.held.now.payload
    c.loop-held.bytes.items c.loop-held.extra (d.fragment c.loop-held.depacketizer) c.in-Err.e
    (d.fragment c.depacketize.new.self)
    so_far.read (rw (so_far.format, c.bytes.ensures) at (c.in-Err.ensures.refused other))
    c.in-Err.ensures.unchanged.0)

pub returns-in-Err-clause-memory : goal.returns-in-Err-clause-memory
returns-in-Err-clause-memory g c =
    let hs = slice_range c.args.held.now.items c.args.frame.start c.args.frame.end in
    let xs = c.loop-held.yielded in
    let road = frame_road c.into_iter-held-iterator.ensures.into_iter_gives c.take-held-items.ensures.source
    c.take-held-items.ensures.count c.skip.ensures.source c.skip.ensures.count c.iter.ensures.rest in
    let turn = YieldsList-turn road xs c.loop-held.held-iterator c.loop-held.yielded_by c.next.result c.next.new.self
    c.in-Some.held c.in-Some.is c.next.ensures.steps in
    let so_far = c.loop-held.invariant in
    λ is. record {
      count = length xs;
      stopped = omega (arith, turn.0, length_packets hs);
      no_fault = rw (take_packets (length xs) hs) so_far.read.no_fault;
      fragment = rw (take_packets (length xs) hs) (c.in-Err.ensures.unchanged.0 ∙ so_far.read.fragment);
    }

pub returns-clause-read : goal.returns-clause-read
returns-clause-read g c =
    let hs = slice_range c.args.held.now.items c.args.frame.start c.args.frame.end in
    let xs = c.loop-held.yielded in
    let road = frame_road c.into_iter-held-iterator.ensures.into_iter_gives c.take-held-items.ensures.source
    c.take-held-items.ensures.count c.skip.ensures.source c.skip.ensures.count c.iter.ensures.rest in
    let whole = YieldsList-end road xs c.loop-held.held-iterator c.loop-held.yielded_by c.next.result c.next.new.self
    c.in-None.is c.next.ensures.steps in
    rw (take_all (length xs) hs (omega (arith, whole.1))) at c.loop-held.invariant.read
