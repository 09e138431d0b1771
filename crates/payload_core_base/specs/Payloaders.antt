use Rattle.payload_core_base.specs.declared.payloader.Payloader.{Payloader}

-- The packetizer of a payloader.
abbrev pub packetizer_of : {P : Type 0} → Payloader P → P
packetizer_of p = p.packetizer
