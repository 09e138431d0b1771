use Rattle.std.proofs.Common.{codes}
use Rattle.std.specs.Fmt.{◌++?◌}
use Rattle.sdp_formats_grammar.specs.Joined.{maybe_some, maybe_same, writes_same}
use Rattle.sdp_formats_values.specs.PrintedCandidates.{related_text, tcp_type_text}
use Rattle.sdp_formats_values.proofs.candidate.CandidatePartsDisplay.fmt.Goals as goal

pub returns-clause-writes : goal.returns-clause-writes
returns-clause-writes g c = writes_same _ _ _ _ _ _
    (λ i. maybe_some (codes " raddr ") related_text c.args.self.now.0.now.related i
    ++? (maybe_some (codes " tcptype ") tcp_type_text c.args.self.now.0.now.tcptype i
    ++? maybe_same (codes " ufrag ") c.args.self.now.0.now.ufrag i)) c.write.ensures.writes
