use Rattle.std.proofs.Common.{◌+◌, ◌*◌, ◌/◌, ◌^◌, ◌-◌, ◌%◌, get_or, refl, ap, sym, ◌∙◌}
use Rattle.payload_core_audio.specs.BitPlaces.{place_of}
use Rattle.payload_core_audio.proofs.BitLemmas.{byte-here, octet-small}
use Rattle.payload_core_audio.proofs.bits.BitPlace.byte.Goals as goal

pub returns : goal.returns
returns c =
    let p = c.args.self.now in
    ap (λ b. (get_or c.args.bytes.now p.octet 0 * 256 + b) / 2 ^ (8 - p.bit) % 256) c.octet_at-low.ensures
    ∙ sym (byte-here c.args.bytes.now (place_of p) p.octet p.bit refl p.in_octet
    (octet-small c.args.bytes.now c.type_inv.bytes p.octet)
    (octet-small c.args.bytes.now c.type_inv.bytes (p.octet + 1)))
