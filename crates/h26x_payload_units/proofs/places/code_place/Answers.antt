use Rattle.h26x_payload_units.proofs.BlockLemmas.{found_behind}
use Rattle.h26x_payload_units.proofs.places.code_place.Goals as goal

pub returns : goal.returns
returns c =
    found_behind c.args.text.now c.loop-i.i c.saturating_sub-end.result c.place_between-2.result c.loop-i.invariant.1
    c.saturating_sub-end.ensures c.place_between-2.ensures
