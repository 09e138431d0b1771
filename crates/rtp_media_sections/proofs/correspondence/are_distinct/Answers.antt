use Rattle.std.proofs.Common.{◌≡◌, arith}
use Rattle.std.proofs.lemmas.Grind.{common_steps}
use Rattle.rtp_media_sections.proofs.SectionNames.{one_more, still_distinct}
use Rattle.rtp_media_sections.proofs.correspondence.are_distinct.Goals as goal

pub loop-section-preserved : goal.loop-section-preserved
loop-section-preserved c =
    let section = c.section-item.result in
    let loop = c.loop-section in
    let named : c.as_str.result.now ≡ section.mid = grind (arith, common_steps) in
    record {
      set = one_more c.as_str.result loop.names c.insert.new.self c.in_ok-insert.ensures.updates.0 c.args.wanted.now
          loop.section-index section c.loop-section-test.true c.section-item.is named loop.invariant.set;
      rest = still_distinct c.as_str.result loop.names c.in_ok-insert.field-0 c.in_ok-insert.ensures.added
          c.if-not-branch.false c.args.wanted.now loop.section-index section c.loop-section-test.true c.section-item.is
          named loop.invariant.set _ loop.invariant.rest;
    }
