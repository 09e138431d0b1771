-- ICE candidates as keys of a set.
use Rattle.std.specs.Prelude.{◌≡◌, ℕ, List}
use Rattle.std.specs.BTreeSet.{BTreeSet, contains}
use Rattle.std.specs.Borrow.{Bor}
use Rattle.std.specs.Cmp.Lexicographic.{slice_cmp}
use Rattle.std.specs.List.{list_any}
use Rattle.std.specs.Option.{option_cmp, option_copied, option_map}
use Rattle.std.specs.Ordering.{is_eq, nat_cmp, ordering_then}
use Rattle.std.specs.declared.cmp.Ordering.{Ordering}
use Rattle.sdp_formats_values.specs.PrintedCandidates.{protocol_text, kind_text, tcp_type_text}
use Rattle.sdp_formats_values.specs.declared.candidate.Candidate.{Candidate}
use Rattle.sdp_formats_values.specs.declared.candidate.RelatedAddress.{RelatedAddress}
use Rattle.sdp_formats_data.specs.declared.candidate_keys.CandidateKey.{CandidateKey}

abbrev pub text_cmp : List ℕ → List ℕ → Ordering
text_cmp a b = slice_cmp nat_cmp a b

abbrev pub shown : Bor (List ℕ) × ℕ → List ℕ × ℕ
shown address = (address.0.now, address.1)

abbrev pub related_of : RelatedAddress → List ℕ × ℕ
related_of related = (related.addr, related.port)

-- The key has the candidate's fields; enums are written as their words.
pub record IsKeyOf (key : CandidateKey) (candidate : Candidate) : Type 0 where
  pub foundation : key.foundation.now ≡ candidate.foundation
  pub component_id : key.component_id ≡ candidate.component_id
  pub proto : key.proto.now ≡ protocol_text candidate.proto
  pub prio : key.prio ≡ candidate.prio
  pub addr : key.addr.now ≡ candidate.addr
  pub port : key.port ≡ candidate.port
  pub kind : key.kind.now ≡ kind_text candidate.kind
  pub related : option_map shown key.related ≡ option_map related_of candidate.related
  pub tcptype : option_copied key.tcptype ≡ option_map tcp_type_text candidate.tcptype
  pub ufrag : option_copied key.ufrag ≡ candidate.ufrag

abbrev pub address_cmp : List ℕ × ℕ → List ℕ × ℕ → Ordering
address_cmp a b = ordering_then (text_cmp a.0 b.0) (nat_cmp a.1 b.1)

-- How keys compare: field by field.
abbrev pub key_cmp : CandidateKey → CandidateKey → Ordering
key_cmp a b = ordering_then (text_cmp a.foundation.now b.foundation.now)
    (ordering_then (nat_cmp a.component_id b.component_id)
    (ordering_then (text_cmp a.proto.now b.proto.now)
    (ordering_then (nat_cmp a.prio b.prio)
    (ordering_then (text_cmp a.addr.now b.addr.now)
    (ordering_then (nat_cmp a.port b.port)
    (ordering_then (text_cmp a.kind.now b.kind.now)
    (ordering_then (option_cmp (λ x y. address_cmp (shown x) (shown y)) a.related b.related)
    (ordering_then (option_cmp (λ x y. text_cmp x.now y.now) a.tcptype b.tcptype)
    (option_cmp (λ x y. text_cmp x.now y.now) a.ufrag b.ufrag)))))))))

-- How candidates do.
abbrev pub candidate_cmp : Candidate → Candidate → Ordering
candidate_cmp a b = ordering_then (text_cmp a.foundation b.foundation)
    (ordering_then (nat_cmp a.component_id b.component_id)
    (ordering_then (text_cmp (protocol_text a.proto) (protocol_text b.proto))
    (ordering_then (nat_cmp a.prio b.prio)
    (ordering_then (text_cmp a.addr b.addr)
    (ordering_then (nat_cmp a.port b.port)
    (ordering_then (text_cmp (kind_text a.kind) (kind_text b.kind))
    (ordering_then (option_cmp address_cmp (option_map related_of a.related) (option_map related_of b.related))
    (ordering_then
    (option_cmp text_cmp (option_map tcp_type_text a.tcptype) (option_map tcp_type_text b.tcptype))
    (option_cmp text_cmp a.ufrag b.ufrag)))))))))

-- The set has the keys of these candidates.
abbrev pub HasKeysOf : BTreeSet CandidateKey → List Candidate → Type 0
HasKeysOf keys candidates = (key : CandidateKey) (candidate : Candidate) → IsKeyOf key candidate
    → contains key_cmp keys key ≡ list_any (λ other. is_eq (candidate_cmp other candidate)) candidates
