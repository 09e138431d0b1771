use Rattle.std.proofs.Common.{sym, ◌∙◌, arith}
use Rattle.sdp_formats_rounds.specs.Rounds.{agreed_row}
use Rattle.sdp_formats_rounds.proofs.Turned.{turned}
use Rattle.std.proofs.lemmas.Grind.{common_steps}
use Rattle.sdp_formats_rounds.proofs.agreed.agreed_rows.Goals as goal

pub loop-i-preserved : goal.loop-i-preserved
loop-i-preserved c =
    turned (agreed_row c.args.dictated c.args.remote.now c.args.before.now) c.loop-i.rows c.loop-i.i
    c.index-rows-i.result c.in_ok-rows.field-0 (omega arith) c.index-rows-i.is
    (sym c.agreed_row.ensures ∙ c.in_ok-rows.was)
    ∙ c.loop-i.invariant

pub returns-in_err-rows-clause-ok : goal.returns-in_err-rows-clause-ok
returns-in_err-rows-clause-ok c = grind (arith, common_steps)

pub returns-in_err-rows-clause-err : goal.returns-in_err-rows-clause-err
returns-in_err-rows-clause-err c = grind (arith, common_steps)

pub returns-clause-ok : goal.returns-clause-ok
returns-clause-ok c = grind (arith, common_steps)

pub returns-clause-err : goal.returns-clause-err
returns-clause-err c = grind (arith, common_steps)
