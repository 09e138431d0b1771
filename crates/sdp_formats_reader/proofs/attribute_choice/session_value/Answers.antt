use Rattle.std.proofs.Common.{codes, subst, sym}
use Rattle.sdp_formats_grammar.specs.Refusals.{Gives}
use Rattle.sdp_formats_reader.specs.Transport.{in_session, transport_kinds}
use Rattle.sdp_formats_reader.proofs.OtherNames.{made-value, past}
use Rattle.sdp_formats_reader.proofs.attribute_choice.session_value.Goals as goal

pub returns-in_default : goal.returns-in_default
returns-in_default c =
    let name = c.args.name.now in
    subst (Gives c.session_transport.result)
    (sym (past name (codes "group") _ _ _ c.in_default.not-group
    (past name (codes "msid-semantic") _ _ _ c.in_default.not-text
    (made-value in_session transport_kinds name c.args.value.now))))
    c.session_transport.ensures
