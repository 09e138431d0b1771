-- Collected packets.
use Rattle.std.specs.Coded.{Coded, code_by, coded×, coded_ℕ, coded_bool, coded_list}
use Rattle.std.specs.Prelude.{ℕ, Bool, List, refl}
use Rattle.payload_core_base.specs.Outgoing.{Outgoing, outgoing}
use Rattle.payload_core_base.specs.ValueCodes.{values_code}
use Rattle.payload_core_base.specs.declared.packet_list.SentPacket.{SentPacket}
use Rattle.rtp_wire.specs.declared.values.ExtensionValues.{ExtensionValues}

-- What was sent.
abbrev pub outgoing_of : SentPacket → Outgoing
outgoing_of p = outgoing p.payload.items p.marker p.time p.values

-- Its encoding for the logic.
abbrev pub outgoing_code : Coded Outgoing
outgoing_code = code_by (List ℕ × (Bool × (ℕ × ExtensionValues)))
    (coded× (coded_list coded_ℕ) (coded× coded_bool (coded× coded_ℕ values_code)))
    (λ o. (o.payload, (o.marker, (o.time, o.values))))
    (λ t. record { payload = t.0; marker = t.1.0; time = t.1.1.0; values = t.1.1.1 }) (λ _. refl)
