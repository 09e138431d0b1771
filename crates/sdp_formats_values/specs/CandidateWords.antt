-- Words of candidates that stand for a choice.
use Rattle.std.specs.Prelude.{ℕ, List, codes, Option, Some, None, if◌then◌else◌}
use Rattle.std.specs.Str.{bytes_eq, str_eq_ignore_ascii_case}
use Rattle.sdp_formats_values.specs.declared.candidate.Protocol.{Protocol}
use Rattle.sdp_formats_values.specs.declared.candidate.Protocol.TheVariants.{Udp, Tcp, SslTcp, Tls}
use Rattle.sdp_formats_values.specs.declared.candidate.CandidateKind.{CandidateKind}
use Rattle.sdp_formats_values.specs.declared.candidate.CandidateKind.TheVariants.{Host, PeerReflexive, ServerReflexive}
use Rattle.sdp_formats_values.specs.declared.candidate.CandidateKind.TheVariants.{Relayed}
use Rattle.sdp_formats_values.specs.declared.candidate.TcpType.{TcpType}
use Rattle.sdp_formats_values.specs.declared.candidate.TcpType.TheVariants as tcp

-- The transport of a candidate, in any ASCII case (RFC 8839 5.1).
abbrev pub protocol_word : List ℕ → Option Protocol
protocol_word t =
    if str_eq_ignore_ascii_case (codes "udp") t then Some Udp
    else if str_eq_ignore_ascii_case (codes "tcp") t then Some Tcp
    else if str_eq_ignore_ascii_case (codes "ssltcp") t then Some SslTcp
    else if str_eq_ignore_ascii_case (codes "tls") t then Some Tls
    else None

-- The kind of a candidate (RFC 8839 5.1).
abbrev pub kind_word : List ℕ → Option CandidateKind
kind_word t =
    if bytes_eq t (codes "host") then Some Host
    else if bytes_eq t (codes "prflx") then Some PeerReflexive
    else if bytes_eq t (codes "srflx") then Some ServerReflexive
    else if bytes_eq t (codes "relay") then Some Relayed
    else None

-- Which end opens the connection of a TCP candidate (RFC 6544 4.5).
abbrev pub tcptype_word : List ℕ → Option TcpType
tcptype_word t =
    if bytes_eq t (codes "active") then Some tcp.Active
    else if bytes_eq t (codes "passive") then Some tcp.Passive
    else if bytes_eq t (codes "so") then Some tcp.So
    else None
