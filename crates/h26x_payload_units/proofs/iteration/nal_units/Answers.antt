use Rattle.std.proofs.Common.{◌+◌, sym, ap, ◌∙◌}
use Rattle.std.proofs.lemmas.List.{take_rest}
use Rattle.h26x_payload_units.specs.Units.{units_behind}
use Rattle.h26x_payload_units.proofs.PlaceLemmas.{units_of-alone, units_of-first}
use Rattle.h26x_payload_units.proofs.iteration.nal_units.Goals as goal

pub returns-in-Some : goal.returns-in-Some
returns-in-Some c =
    let stream = c.args.stream.now in
    ap units_behind (take_rest stream (c.in-Some.place + 3))
    ∙ sym (units_of-first c.in-Some.place stream c.in-Some.ensures.0 c.in-Some.ensures.1)

pub returns-in-None : goal.returns-in-None
returns-in-None c = sym (units_of-alone c.args.stream.now c.in-None.ensures)
