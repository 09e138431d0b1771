use Rattle.std.proofs.Common.{ap, sym, ◌∙◌, ◌%◌, ◌/◌, ◌*◌}
use Rattle.payload_core_audio.specs.BitPlaces.{place_of}
use Rattle.payload_core_audio.proofs.BitLemmas.{header-byte}
use Rattle.payload_core_audio.proofs.field.header_at.Goals as goal

pub returns-clause-value : goal.returns-clause-value
returns-clause-value c = ap (λ b. b % 128 / 4 * 4) c.byte.ensures
    ∙ sym (header-byte c.args.bytes.now (place_of c.args.place))
