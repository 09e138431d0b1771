use Rattle.std.proofs.Common.{◌≡◌, ◌+◌, ◌-◌, take, drop, ap, ◌∙◌, arith}
use Rattle.payload_core_audio.specs.BitPlaces.{place_of}
use Rattle.payload_core_audio.proofs.BitLemmas.{octet-small, octets}
use Rattle.payload_core_audio.proofs.bits.BitPlace.octets.Goals as goal

pub returns-clause-octets : goal.returns-clause-octets
returns-clause-octets c =
    let p = c.args.self.now in
    let e : p.octet + c.args.count - p.octet ≡ c.args.count = omega arith in
    ap (λ n. take n (drop p.octet c.args.bytes.now)) e
    ∙ octets c.args.bytes.now (place_of p) p.octet c.args.count (omega arith) (omega arith)
    (octet-small c.args.bytes.now c.type_inv.bytes)
