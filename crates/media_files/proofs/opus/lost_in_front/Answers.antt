use Rattle.std.proofs.Common.{◌∙◌, sym}
use Rattle.media_files.proofs.OpusLemmas.{lost-more, lost-found}
use Rattle.media_files.proofs.opus.lost_in_front.Goals as goal

pub returns-then-is_some-clause-value : goal.returns-then-is_some-clause-value
returns-then-is_some-clause-value c =
    sym (lost-found c.args.packets.now c.loop-i.i _ c.sound.result c.loop-i-test.true c.sound.ensures
    (sym c.if-is_some.ensures)) ∙ c.loop-i.invariant

pub loop-i-preserved : goal.loop-i-preserved
loop-i-preserved c =
    sym (lost-more c.args.packets.now c.loop-i.i _ c.sound.result c.loop-i-test.true c.sound.ensures
    (sym c.if-is_some.ensures)) ∙ c.loop-i.invariant
