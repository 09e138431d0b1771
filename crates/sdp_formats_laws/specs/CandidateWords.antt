-- The text of a candidate: words separated by single blanks (RFC 8839 5.1).
use Rattle.std.specs.Prelude.{◌≡◌, ◌≢◌, ◌↔◌, ◌^◌, ℕ, List, [], ◌∷◌, ◌++◌, codes, Option, Some, None, IfSome}
use Rattle.sdp_formats_grammar.specs.Form.{maybe}
use Rattle.sdp_formats_grammar.specs.Joined.{joined}
use Rattle.sdp_formats_grammar.specs.Numbers.{number_below}
use Rattle.sdp_formats_grammar.specs.Split.{Lacks}
use Rattle.sdp_formats_values.specs.Candidates.{candidate}
use Rattle.sdp_formats_values.specs.CandidateWords.{kind_word, protocol_word, tcptype_word}
use Rattle.sdp_formats_values.specs.declared.candidate.Candidate.{Candidate}
use Rattle.sdp_formats_values.specs.declared.candidate.RelatedAddress.{RelatedAddress}
use Rattle.sdp_formats_rounds.specs.Members.{IsEach}

-- The words for a candidate's numbers and choices, and the words that are ignored.
pub record Spelling : Type 0 where
  pub component : List ℕ
  pub protocol : List ℕ
  pub priority : List ℕ
  pub port : List ℕ
  pub kind : List ℕ
  pub related_port : List ℕ
  pub tcptype : Option (List ℕ)
  pub generation : Option (List ℕ)
  pub network_id : Option (List ℕ)
  pub network_cost : Option (List ℕ)

-- The words stand for this candidate's values.
pub record Spells (c : Candidate) (s : Spelling) : Type 0 where
  pub component : number_below (2 ^ 16) s.component ≡ Some c.component_id
  pub protocol : protocol_word s.protocol ≡ Some c.proto
  pub priority : number_below (2 ^ 32) s.priority ≡ Some c.prio
  pub port : number_below (2 ^ 16) s.port ≡ Some c.port
  pub kind : kind_word s.kind ≡ Some c.kind
  pub related_port : IfSome c.related (λ r. number_below (2 ^ 16) s.related_port ≡ Some r.port)
  pub tcptype : maybe tcptype_word s.tcptype ≡ Some c.tcptype

-- A name and its word, if there is one.
abbrev pub named_words : List ℕ → Option (List ℕ) → List (List ℕ)
named_words name None = []
named_words name (Some word) = name ∷ word ∷ []

abbrev pub related_words : Option RelatedAddress → List ℕ → List (List ℕ)
related_words None port = []
related_words (Some r) port = codes "raddr" ∷ r.addr ∷ codes "rport" ∷ port ∷ []

-- All words, in their order.
abbrev pub words_of : Candidate → Spelling → List (List ℕ)
words_of c s = c.foundation ∷ s.component ∷ s.protocol ∷ s.priority ∷ c.addr ∷ s.port ∷ codes "typ" ∷ s.kind
    ∷ (related_words c.related s.related_port ++ (named_words (codes "tcptype") s.tcptype
    ++ (named_words (codes "generation") s.generation ++ (named_words (codes "network-id") s.network_id
    ++ (named_words (codes "ufrag") c.ufrag ++ named_words (codes "network-cost") s.network_cost)))))

-- A word isn't empty and has no blank.
abbrev pub IsOneWord : List ℕ → Type 0
IsOneWord word = (word ≢ []) × Lacks 32 word

-- A text is read as a candidate if and only if it consists of words for it.
abbrev pub CandidatesAreTheirWords : Type 0
CandidatesAreTheirWords = (text : List ℕ) (c : Candidate) → candidate text ≡ Some c
    ↔ ((s : Spelling) × Spells c s × IsEach IsOneWord (words_of c s) × (text ≡ joined (codes " ") (words_of c s)))
