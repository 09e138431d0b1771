use Rattle.std.proofs.Common.{◌∙◌}
use Rattle.rtp_media_sections.proofs.Named.{one-more}
use Rattle.rtp_media_sections.proofs.ssrc_list.SsrcList.of.Goals as goal

-- src/ssrc_list.rt:39:9
pub loop-ssrc-preserved : goal.loop-ssrc-preserved
loop-ssrc-preserved c n =
    one-more c.deref-ssrc-items.result.now c.loop-ssrc.ssrc-index n c.get.result c.ssrc-item.result _ _
    c.loop-ssrc-test.true (c.get.ensures ∙ c.ssrc-item.is) (c.in_ok-insert.ensures.updates.0 n)
    ∙ c.loop-ssrc.invariant n
