-- Candidates (RFC 8839 5.1).
use Rattle.std.specs.Prelude.{ℕ, ◌^◌, List, Option, Some, None, codes}
use Rattle.std.specs.Borrow.{Bor}
use Rattle.std.specs.Option.{option_copied}
use Rattle.sdp_formats_grammar.specs.Bind.{◌>>=◌}
use Rattle.sdp_formats_grammar.specs.Form.{some_text, field, maybe}
use Rattle.sdp_formats_grammar.specs.Numbers.{number_below}
use Rattle.sdp_formats_grammar.specs.Split.{split_first, halves, behind}
use Rattle.sdp_formats_values.specs.declared.candidate.Candidate.{Candidate}
use Rattle.sdp_formats_values.specs.declared.candidate.Protocol.{Protocol}
use Rattle.sdp_formats_values.specs.declared.candidate.TcpType.{TcpType}
use Rattle.sdp_formats_values.specs.declared.candidate.RelatedAddress.{RelatedAddress}
use Rattle.sdp_formats_values.specs.declared.candidate_reader.Fields.{Fields}
use Rattle.sdp_formats_values.specs.CandidateWords.{protocol_word, kind_word, tcptype_word}

-- What is read, and a text that may be left.
abbrev pub with_rest : RelatedAddress × Option (Bor (List ℕ)) → RelatedAddress × Option (List ℕ)
with_rest p = (p.0, option_copied p.1)

abbrev pub related_rest : Option RelatedAddress × Option (Bor (List ℕ)) → Option RelatedAddress × Option (List ℕ)
related_rest p = (p.0, option_copied p.1)

-- An address, `rport ` and a port, and what is left after a blank.
unfoldable pub related_in : List ℕ → Option (RelatedAddress × Option (List ℕ))
related_in t = do
  cut ← split_first 32 t
  addr ← some_text cut.0
  rest ← behind (codes "rport ") cut.1
  port ← number_below (2 ^ 16) (halves 32 rest).0
  Some (record { addr = addr; port = port }, (halves 32 rest).1)

-- The address that a candidate was derived from, if the text begins with `raddr `.
abbrev pub related_behind : List ℕ → Option (List ℕ) → Option (Option RelatedAddress × Option (List ℕ))
related_behind t None = Some (None, Some t)
related_behind t (Some v) = related_in v >>= λ r. Some (Some r.0, r.1)

abbrev pub related_field : Option (List ℕ) → Option (Option RelatedAddress × Option (List ℕ))
related_field None = Some (None, None)
related_field (Some t) = related_behind t (behind (codes "raddr ") t)

-- No text is left.
abbrev pub ended : {A : Type 0} → A → Option (List ℕ) → Option A
ended a None = Some a
ended a (Some t) = None

abbrev pub tcptype_rest : Option TcpType × Option (Bor (List ℕ)) → Option TcpType × Option (List ℕ)
tcptype_rest p = (p.0, option_copied p.1)

unfoldable pub tcptype_field : Option (List ℕ) → Option (Option TcpType × Option (List ℕ))
tcptype_field t = do
  word ← field (codes "tcptype ") t
  tcptype ← maybe tcptype_word word.0
  Some (tcptype, word.1)

-- The ufrag, among fields that are ignored, up to the end.
unfoldable pub ufrag_field : Option (List ℕ) → Option (Option (List ℕ))
ufrag_field t = do
  generation ← field (codes "generation ") t
  network ← field (codes "network-id ") generation.1
  ufrag ← field (codes "ufrag ") network.1
  cost ← field (codes "network-cost ") ufrag.1
  ended ufrag.0 cost.1

-- The optional fields after the kind, each after its name, in this order.
unfoldable pub candidate_fields : Option (List ℕ) → Option Fields
candidate_fields t = do
  related ← related_field t
  tcptype ← tcptype_field related.1
  ufrag ← ufrag_field tcptype.1
  Some (record { related = related.0; tcptype = tcptype.0; ufrag = ufrag })

-- Two texts with a number between.
abbrev pub placed : Bor (List ℕ) × ℕ × Bor (List ℕ) → List ℕ × ℕ × List ℕ
placed p = (p.0.now, p.1, p.2.now)

abbrev pub carried : Protocol × ℕ × Bor (List ℕ) → Protocol × ℕ × List ℕ
carried p = (p.0, p.1, p.2.now)

-- The foundation, the component and what follows them.
unfoldable pub candidate_base : List ℕ → Option (List ℕ × ℕ × List ℕ)
candidate_base t = do
  first ← split_first 32 t
  foundation ← some_text first.0
  second ← split_first 32 first.1
  component ← number_below (2 ^ 16) second.0
  Some (foundation, component, second.1)

-- The protocol, the priority and what follows them.
unfoldable pub candidate_carrier : List ℕ → Option (Protocol × ℕ × List ℕ)
candidate_carrier t = do
  first ← split_first 32 t
  protocol ← protocol_word first.0
  second ← split_first 32 first.1
  priority ← number_below (2 ^ 32) second.0
  Some (protocol, priority, second.1)

-- The address, the port and what follows `typ `.
unfoldable pub candidate_place : List ℕ → Option (List ℕ × ℕ × List ℕ)
candidate_place t = do
  first ← split_first 32 t
  address ← some_text first.0
  second ← split_first 32 first.1
  port ← number_below (2 ^ 16) second.0
  rest ← behind (codes "typ ") second.1
  Some (address, port, rest)

-- `FOUNDATION COMPONENT PROTOCOL PRIORITY ADDRESS PORT typ KIND` and its fields (RFC 8839 5.1)
unfoldable pub candidate : List ℕ → Option Candidate
candidate t = do
  base ← candidate_base t
  carrier ← candidate_carrier base.2
  place ← candidate_place carrier.2
  kind ← kind_word (halves 32 place.2).0
  fields ← candidate_fields (halves 32 place.2).1
  Some (record {
    foundation = base.0;
    component_id = base.1;
    proto = carrier.0;
    prio = carrier.1;
    addr = place.0;
    port = place.1;
    kind = kind;
    related = fields.related;
    tcptype = fields.tcptype;
    ufrag = fields.ufrag;
  })
