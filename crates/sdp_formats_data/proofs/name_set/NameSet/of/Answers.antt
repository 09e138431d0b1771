use Rattle.std.proofs.Common.{arith}
use Rattle.sdp_formats_data.proofs.OneName.{one_name}
use Rattle.sdp_formats_data.proofs.name_set.NameSet.of.Goals as goal

pub loop-place-preserved : goal.loop-place-preserved
loop-place-preserved c =
    one_name c.as_str.result c.loop-place.set c.insert.new.self c.loop-place.apart c.in_ok-apart.field-0
    c.in_ok-apart.ensures.added c.in_ok-apart.ensures.updates.0
    c.args.listed.now c.loop-place.place c.index-listed-place.result (omega (arith, c.loop-place-test.true))
    (omega (arith, c.loop-place-test.true, c.loop-place.auto.place)) c.index-listed-place.is c.as_str.ensures.text
    c.loop-place.invariant
