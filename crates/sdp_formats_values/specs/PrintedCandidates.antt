-- Candidates as they are printed (RFC 8839 5.1).
use Rattle.std.specs.Prelude.{ℕ, List, [], ◌∷◌, codes}
use Rattle.std.specs.Fmt.{decimal}
use Rattle.std.specs.Option.{option_map}
use Rattle.sdp_formats_grammar.specs.Joined.{spelled, maybe_text}
use Rattle.sdp_formats_values.specs.declared.candidate.Candidate.{Candidate}
use Rattle.sdp_formats_values.specs.declared.candidate.RelatedAddress.{RelatedAddress}
use Rattle.sdp_formats_values.specs.declared.candidate.Protocol.{Protocol}
use Rattle.sdp_formats_values.specs.declared.candidate.Protocol.TheVariants.{Udp, Tcp, SslTcp, Tls}
use Rattle.sdp_formats_values.specs.declared.candidate.CandidateKind.{CandidateKind}
use Rattle.sdp_formats_values.specs.declared.candidate.CandidateKind.TheVariants.{Host, PeerReflexive}
use Rattle.sdp_formats_values.specs.declared.candidate.CandidateKind.TheVariants.{ServerReflexive, Relayed}
use Rattle.sdp_formats_values.specs.declared.candidate.TcpType.{TcpType}
use Rattle.sdp_formats_values.specs.declared.candidate.TcpType.TheVariants.{Active, Passive, So}

abbrev pub protocol_text : Protocol → List ℕ
protocol_text Udp = codes "udp"
protocol_text Tcp = codes "tcp"
protocol_text SslTcp = codes "ssltcp"
protocol_text Tls = codes "tls"

abbrev pub kind_text : CandidateKind → List ℕ
kind_text Host = codes "host"
kind_text PeerReflexive = codes "prflx"
kind_text ServerReflexive = codes "srflx"
kind_text Relayed = codes "relay"

abbrev pub tcp_type_text : TcpType → List ℕ
tcp_type_text Active = codes "active"
tcp_type_text Passive = codes "passive"
tcp_type_text So = codes "so"

abbrev pub related_text : RelatedAddress → List ℕ
related_text r = spelled (r.addr ∷ codes " rport " ∷ decimal r.port ∷ [])

-- What follows the kind, each part if given.
abbrev pub parts_text : Candidate → List ℕ
parts_text c = spelled (maybe_text (codes " raddr ") (option_map related_text c.related)
    ∷ maybe_text (codes " tcptype ") (option_map tcp_type_text c.tcptype) ∷ maybe_text (codes " ufrag ") c.ufrag ∷ [])

unfoldable pub candidate_text : Candidate → List ℕ
candidate_text c = spelled (codes "candidate:" ∷ c.foundation ∷ codes " " ∷ decimal c.component_id ∷ codes " "
    ∷ protocol_text c.proto ∷ codes " " ∷ decimal c.prio ∷ codes " " ∷ c.addr ∷ codes " " ∷ decimal c.port
    ∷ codes " typ " ∷ kind_text c.kind ∷ parts_text c ∷ [])
