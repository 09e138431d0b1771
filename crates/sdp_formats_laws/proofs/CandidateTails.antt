-- The words of a candidate as a text.
use Rattle.std.proofs.Common.{◌≡◌, ◌^◌, ℕ, List, [], ◌∷◌, ◌++◌, codes, Option, Some, None, IfSome, refl, sym, ◌∙◌}
use Rattle.std.proofs.Common.{ap, append_assoc}
use Rattle.sdp_formats_grammar.specs.Joined.{each_behind, joined}
use Rattle.sdp_formats_grammar.specs.Numbers.{number_below}
use Rattle.sdp_formats_grammar.specs.Split.{Lacks}
use Rattle.sdp_formats_values.specs.declared.candidate.Candidate.{Candidate}
use Rattle.sdp_formats_values.specs.declared.candidate.RelatedAddress.{RelatedAddress}
use Rattle.sdp_formats_laws.proofs.CandidatesLemmas.{behind_blank}
use Rattle.sdp_formats_laws.specs.CandidateWords.{IsOneWord, Spelling, Spells, named_words}
use Rattle.sdp_formats_laws.specs.CandidateWords.{related_words, words_of}

-- what follows the kind, from the last field on: a name and its word, if there is one
abbrev pub named_tail : List ℕ → Option (List ℕ) → Option (List ℕ) → Option (List ℕ)
named_tail name None more = more
named_tail name (Some w) more = Some (name ++ (w ++ behind_blank more))

abbrev pub address_tail : Option RelatedAddress → List ℕ → Option (List ℕ) → Option (List ℕ)
address_tail None port more = more
address_tail (Some r) port more =
    Some (codes "raddr " ++ (r.addr ++ 32 ∷ (codes "rport " ++ (port ++ behind_blank more))))

abbrev pub cost_tail : Option (List ℕ) → Option (List ℕ)
cost_tail cost = named_tail (codes "network-cost ") cost None

abbrev pub ufrag_tail : Option (List ℕ) → Option (List ℕ) → Option (List ℕ)
ufrag_tail ufrag cost = named_tail (codes "ufrag ") ufrag (cost_tail cost)

abbrev pub network_tail : Option (List ℕ) → Option (List ℕ) → Option (List ℕ) → Option (List ℕ)
network_tail network ufrag cost = named_tail (codes "network-id ") network (ufrag_tail ufrag cost)

abbrev pub generation_tail : Option (List ℕ) → Option (List ℕ) → Option (List ℕ) → Option (List ℕ) → Option (List ℕ)
generation_tail generation network ufrag cost =
    named_tail (codes "generation ") generation (network_tail network ufrag cost)

abbrev pub tcptype_tail : Option (List ℕ) → Option (List ℕ) → Option (List ℕ) → Option (List ℕ) → Option (List ℕ)
    → Option (List ℕ)
tcptype_tail tcptype generation network ufrag cost =
    named_tail (codes "tcptype ") tcptype (generation_tail generation network ufrag cost)

-- the words of a field, each after a blank
pub blanked : List (List ℕ) → List ℕ
blanked words = each_behind (codes " ") words

pub named_shape : (name : List ℕ) (o : Option (List ℕ)) (words : List (List ℕ)) (more : Option (List ℕ))
    → blanked words ≡ behind_blank more
    → blanked (named_words name o ++ words) ≡ behind_blank (named_tail (name ++ 32 ∷ []) o more)
unfolding blanked
named_shape name None words more h = h
named_shape name (Some w) words more h =
    ap (λ t. 32 ∷ (name ++ 32 ∷ (w ++ t))) h
    ∙ ap (λ t. 32 ∷ t) (sym (append_assoc name (32 ∷ []) (w ++ behind_blank more)))

pub address_shape : (r : Option RelatedAddress) (port : List ℕ) (words : List (List ℕ)) (more : Option (List ℕ))
    → blanked words ≡ behind_blank more
    → blanked (related_words r port ++ words) ≡ behind_blank (address_tail r port more)
unfolding blanked
address_shape None port words more h = h
address_shape (Some r) port words more h =
    ap (λ t. 32 ∷ (codes "raddr " ++ (r.addr ++ 32 ∷ (codes "rport " ++ (port ++ t))))) h

pub last_shape : (name : List ℕ) (o : Option (List ℕ))
    → blanked (named_words name o) ≡ behind_blank (named_tail (name ++ 32 ∷ []) o None)
unfolding blanked
last_shape name None = refl
last_shape name (Some w) = ap (λ t. 32 ∷ t) (sym (append_assoc name (32 ∷ []) (w ++ [])))

-- which words of a candidate are where it may have none
pub record AreWords (c : Candidate) (s : Spelling) : Type 0 where
  pub spells : Spells c s
  pub address : IfSome c.related (λ r. IsOneWord r.addr × Lacks 32 s.related_port
      × (number_below (2 ^ 16) s.related_port ≡ Some r.port))
  pub foundation : IsOneWord c.foundation
  pub addr : IsOneWord c.addr
  pub component : Lacks 32 s.component
  pub protocol : Lacks 32 s.protocol
  pub priority : Lacks 32 s.priority
  pub port : Lacks 32 s.port
  pub kind : Lacks 32 s.kind
  pub tcptype : IfSome s.tcptype IsOneWord
  pub generation : IfSome s.generation IsOneWord
  pub network_id : IfSome s.network_id IsOneWord
  pub ufrag : IfSome c.ufrag IsOneWord
  pub network_cost : IfSome s.network_cost IsOneWord

-- all words, and the text that they make
unfoldable pub words_text : (c : Candidate) (s : Spelling) → List ℕ
words_text c s = c.foundation ++ 32 ∷ (s.component ++ 32 ∷ (s.protocol ++ 32 ∷ (s.priority ++ 32 ∷ (c.addr
    ++ 32 ∷ (s.port ++ 32 ∷ (codes "typ " ++ (s.kind ++ behind_blank (address_tail c.related s.related_port
    (tcptype_tail s.tcptype s.generation s.network_id c.ufrag s.network_cost)))))))))

pub words_shape : (c : Candidate) (s : Spelling) → joined (codes " ") (words_of c s) ≡ words_text c s
unfolding words_text blanked
words_shape c s =
    let tail = address_shape c.related s.related_port _ _
    (named_shape (codes "tcptype") s.tcptype _ _
    (named_shape (codes "generation") s.generation _ _
    (named_shape (codes "network-id") s.network_id _ _
    (named_shape (codes "ufrag") c.ufrag _ _ (last_shape (codes "network-cost") s.network_cost))))) in
    ap (λ t. c.foundation ++ 32 ∷ (s.component ++ 32 ∷ (s.protocol ++ 32 ∷ (s.priority ++ 32 ∷ (c.addr
    ++ 32 ∷ (s.port ++ 32 ∷ (codes "typ " ++ (s.kind ++ t)))))))) tail
