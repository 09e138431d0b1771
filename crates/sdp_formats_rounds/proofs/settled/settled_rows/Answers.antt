use Rattle.std.proofs.Common.{sym, ◌∙◌, arith}
use Rattle.sdp_formats_rounds.specs.Rounds.{settled_row}
use Rattle.sdp_formats_rounds.proofs.Turned.{turned}
use Rattle.sdp_formats_rounds.proofs.settled.settled_rows.Goals as goal

pub loop-i-preserved : goal.loop-i-preserved
loop-i-preserved c =
    turned (settled_row c.args.before.now) c.loop-i.rows c.loop-i.i c.index-rows-i.result c.in_ok-rows.field-0
    (omega arith) c.index-rows-i.is (sym c.settled_row.ensures ∙ c.in_ok-rows.was)
    ∙ c.loop-i.invariant
