use Rattle.words_and_replies.proofs.Repeats.{repeated-more}
use Rattle.words_and_replies.proofs.bytes.repeated.Goals as goal

pub loop-preserved : goal.loop-preserved
loop-preserved c = repeated-more c.args.count c.loop.counter c.loop.bytes.items c.extend_from_slice.new.self.items
    c.args.once.now c.loop-test.true c.in_ok-extend_from_slice.ensures.items c.loop.invariant
