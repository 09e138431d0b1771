use Rattle.std.proofs.Common.{◌≡◌, length, arith}
use Rattle.rtp_wire.specs.Maps.{empty_map}
use Rattle.rtp_wire.proofs.MapLaws.{copied_start, copied_end, copied_to}
use Rattle.rtp_wire.proofs.map.ExtensionMap.clone.Goals as goal

pub loop-place-init : goal.loop-place-init
loop-place-init c =
    let l : length c.self.inside.entries ≡ 16 = c.self.invariant in
    let start : empty_map ≡ copied_to c.self.inside.entries 0 = copied_start c.self.inside.entries l in
    cc

pub returns : goal.returns
returns c =
    let l : length c.self.inside.entries ≡ 16 = c.self.invariant in
    let all : c.loop-place.place ≡ 16 = omega arith in
    let end : copied_to c.self.inside.entries 16 ≡ c.self.inside.entries = copied_end c.self.inside.entries 16 l in
    let done = c.loop-place.invariant in
    cc
