use Rattle.rtp_wire.proofs.BlockLaws.{values_from-on}
use Rattle.rtp_wire.proofs.map.ExtensionMap.read_elements.Goals as goal

pub loop-id-preserved : goal.loop-id-preserved
loop-id-preserved c = values_from-on c.args.one_byte c.args.self.now c.loop-id.rest.now c.loop-id.values _ _ _
    c.in-Some.ensures c.set_element.ensures c.loop-id.invariant
