use Rattle.std.proofs.Common.{arith}
use Rattle.std.proofs.lemmas.Result.{err_from_is_err_and}
use Rattle.media_files.proofs.OpusLemmas.{long-among, pages-more}
use Rattle.media_files.proofs.opus.push_sounds.Goals as goal

pub returns-in_err-push_heard-clause-refused : goal.returns-in_err-push_heard-clause-refused
returns-in_err-push_heard-clause-refused c =
    let p = err_from_is_err_and c.from_residual.result c.from_residual.ensures.1 in rw (p.1, p.2)
    (λ other. let h = c.in_err-push_heard.ensures.refused other in
    (h.0, long-among c.args.packets.now c.loop-i.i _ c.sound-found.result c.loop-i-test.true c.sound-found.ensures h.1))

pub loop-i-preserved : goal.loop-i-preserved
loop-i-preserved c = record {
  number = omega (arith, c.loop-i.invariant.number);
  early = omega (arith, c.loop-i.invariant.early, c.opus_duration.ensures.few);
  written = pages-more c.args.serial c.loop-i.granule c.loop-i.sequence c.opus_duration.result c.args.packets.now
      c.loop-i.i _ c.sound-found.result c.loop-i.previous c.unwrap_or-kept.result c.loop-i.out.items
      c.push_heard.new.out.items _ c.loop-i-test.true c.sound-found.ensures c.unwrap_or-kept.ensures
      c.opus_duration.ensures.value (cc (c.in_ok-push_heard.ensures.value, c.last_flag.ensures))
      c.loop-i.invariant.written;
}
