use Rattle.std.proofs.Common.{◌≡◌, ◌∙◌, sym, true, arith}
use Rattle.std.proofs.lemmas.Grind.{common_steps}
use Rattle.rtp_media_nack.specs.Histories.{fits}
use Rattle.rtp_media_nack.proofs.Fitting.{fitting-fits, gone-fits}
use Rattle.rtp_media_nack.proofs.history.trim.Goals as goal

pub returns-clause-packets : goal.returns-clause-packets
returns-clause-packets c =
    let h : fits c.args.most c.args.most_bytes c.loop-packets.packets.entries ≡ true = grind (arith, common_steps) in
    sym (fitting-fits c.args.most c.args.most_bytes c.loop-packets.packets.entries h) ∙ c.loop-packets.invariant.packets

pub returns-clause-gone : goal.returns-clause-gone
returns-clause-gone c =
    let h : fits c.args.most c.args.most_bytes c.loop-packets.packets.entries ≡ true = grind (arith, common_steps) in
    sym (gone-fits c.args.most c.args.most_bytes c.loop-packets.gone c.loop-packets.packets.entries h) ∙
    c.loop-packets.invariant.gone
