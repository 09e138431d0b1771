-- The candidates of a text, each once.
use Rattle.std.proofs.Common.{◌≡◌, ℕ, List, Option, zero, suc, refl}
use Rattle.sdp_formats_values.specs.declared.candidate.Candidate.{Candidate}
use Rattle.sdp_formats_values.specs.declared.candidate.CandidateKind.{CandidateKind}
use Rattle.sdp_formats_values.specs.declared.candidate.CandidateKind.TheVariants as kind
use Rattle.sdp_formats_values.specs.declared.candidate.Protocol.{Protocol}
use Rattle.sdp_formats_values.specs.declared.candidate.Protocol.TheVariants as protocol
use Rattle.sdp_formats_values.specs.declared.candidate.RelatedAddress.{RelatedAddress}
use Rattle.sdp_formats_values.specs.declared.candidate.TcpType.{TcpType}
use Rattle.sdp_formats_values.specs.declared.candidate.TcpType.TheVariants as tcp
use Rattle.sdp_formats_laws.proofs.Decided.{Decided, numbers, options, pairs, texts, through}
use Rattle.sdp_formats_laws.specs.Candidates.{AddedAreEachOnce, OneListIsEachOnce}
use Rattle.sdp_formats_laws.proofs.EachOnce.{each_once, one_of_each, put_together}

same_protocols : Decided Protocol
same_protocols = through to from back numbers
  where
    to : Protocol → ℕ
    to protocol.Udp = 0
    to protocol.Tcp = 1
    to protocol.SslTcp = 2
    to protocol.Tls = 3

    from : ℕ → Protocol
    from zero = protocol.Udp
    from (suc zero) = protocol.Tcp
    from (suc (suc zero)) = protocol.SslTcp
    from (suc (suc (suc n))) = protocol.Tls

    back : (p : Protocol) → from (to p) ≡ p
    back protocol.Udp = refl
    back protocol.Tcp = refl
    back protocol.SslTcp = refl
    back protocol.Tls = refl

same_kinds : Decided CandidateKind
same_kinds = through to from back numbers
  where
    to : CandidateKind → ℕ
    to kind.Host = 0
    to kind.PeerReflexive = 1
    to kind.ServerReflexive = 2
    to kind.Relayed = 3

    from : ℕ → CandidateKind
    from zero = kind.Host
    from (suc zero) = kind.PeerReflexive
    from (suc (suc zero)) = kind.ServerReflexive
    from (suc (suc (suc n))) = kind.Relayed

    back : (k : CandidateKind) → from (to k) ≡ k
    back kind.Host = refl
    back kind.PeerReflexive = refl
    back kind.ServerReflexive = refl
    back kind.Relayed = refl

same_tcp_types : Decided TcpType
same_tcp_types = through to from back numbers
  where
    to : TcpType → ℕ
    to tcp.Active = 0
    to tcp.Passive = 1
    to tcp.So = 2

    from : ℕ → TcpType
    from zero = tcp.Active
    from (suc zero) = tcp.Passive
    from (suc (suc n)) = tcp.So

    back : (t : TcpType) → from (to t) ≡ t
    back tcp.Active = refl
    back tcp.Passive = refl
    back tcp.So = refl

same_addresses : Decided RelatedAddress
same_addresses = through (λ (r : RelatedAddress). (r.addr, r.port)) (λ (x : List ℕ × ℕ). record {
  addr = x.0;
  port = x.1;
}) (λ r. refl) (pairs texts numbers)

-- the fields of a candidate, one beside the other
abbrev Fields : Type 0
Fields = (List ℕ × (ℕ × (Protocol × (ℕ × List ℕ))))
    × (ℕ × (CandidateKind × (Option RelatedAddress × (Option TcpType × Option (List ℕ)))))

abbrev fields : Candidate → Fields
fields c = (
  (c.foundation, (c.component_id, (c.proto, (c.prio, c.addr)))),
  (c.port, (c.kind, (c.related, (c.tcptype, c.ufrag)))),
)

same_candidates : Decided Candidate
same_candidates = through fields of (λ c. refl)
    (pairs (pairs texts (pairs numbers (pairs same_protocols (pairs numbers texts))))
    (pairs numbers (pairs same_kinds (pairs (options same_addresses)
    (pairs (options same_tcp_types) (options texts))))))
  where
    of : Fields → Candidate
    of x = record {
      foundation = x.0.0;
      component_id = x.0.1.0;
      proto = x.0.1.1.0;
      prio = x.0.1.1.1.0;
      addr = x.0.1.1.1.1;
      port = x.1.0;
      kind = x.1.1.0;
      related = x.1.1.1.0;
      tcptype = x.1.1.1.1.0;
      ufrag = x.1.1.1.1.1;
    }

pub added_once : AddedAreEachOnce
added_once all once = (each_once all once, put_together same_candidates all once)

pub one_once : OneListIsEachOnce
one_once all = one_of_each same_candidates all
