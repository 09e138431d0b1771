-- Words for a candidate are read as it.
use Rattle.std.proofs.Common.{◌≡◌, ◌^◌, ℕ, List, ◌∷◌, ◌++◌, codes, Option, Some, None, IfSome, refl, ◌∙◌}
use Rattle.std.proofs.Common.{ap}
use Rattle.sdp_formats_grammar.specs.Cuts.{split_first-at}
use Rattle.sdp_formats_grammar.specs.Form.{field}
use Rattle.sdp_formats_grammar.specs.Numbers.{number_below}
use Rattle.sdp_formats_grammar.specs.Split.{Lacks}
use Rattle.sdp_formats_values.specs.Candidates.{candidate, candidate_base, candidate_carrier, candidate_fields}
use Rattle.sdp_formats_values.specs.Candidates.{candidate_place, related_field, related_in}
use Rattle.sdp_formats_values.specs.Candidates.{tcptype_field, ufrag_field}
use Rattle.sdp_formats_values.specs.CandidateWords.{kind_word}
use Rattle.sdp_formats_values.specs.declared.candidate.Candidate.{Candidate}
use Rattle.sdp_formats_values.specs.declared.candidate.RelatedAddress.{RelatedAddress}
use Rattle.sdp_formats_laws.proofs.CandidatesLemmas.{behind_blank, field_there, halves-blank, then}
use Rattle.sdp_formats_laws.proofs.Printed.{lacks, text_some}
use Rattle.sdp_formats_laws.specs.CandidateWords.{IsOneWord, Spelling}
use Rattle.sdp_formats_laws.proofs.CandidateTails.{AreWords, address_tail, cost_tail, generation_tail, named_tail}
use Rattle.sdp_formats_laws.proofs.CandidateTails.{network_tail}
use Rattle.sdp_formats_laws.proofs.CandidateTails.{tcptype_tail, ufrag_tail, words_text}

-- words are read as what they are for
no_ufrag : (cost : Option (List ℕ)) → field (codes "ufrag ") (cost_tail cost) ≡ Some (None, cost_tail cost)
no_ufrag None = refl
no_ufrag (Some c) = refl

no_network : (ufrag cost : Option (List ℕ))
    → field (codes "network-id ") (ufrag_tail ufrag cost) ≡ Some (None, ufrag_tail ufrag cost)
no_network None None = refl
no_network None (Some c) = refl
no_network (Some u) cost = refl

no_generation : (network ufrag cost : Option (List ℕ))
    → field (codes "generation ") (network_tail network ufrag cost) ≡ Some (None, network_tail network ufrag cost)
no_generation None None None = refl
no_generation None None (Some c) = refl
no_generation None (Some u) cost = refl
no_generation (Some n) ufrag cost = refl

no_tcptype : (generation network ufrag cost : Option (List ℕ))
    → field (codes "tcptype ") (generation_tail generation network ufrag cost)
    ≡ Some (None, generation_tail generation network ufrag cost)
no_tcptype None None None None = refl
no_tcptype None None None (Some c) = refl
no_tcptype None None (Some u) cost = refl
no_tcptype None (Some n) ufrag cost = refl
no_tcptype (Some g) network ufrag cost = refl

no_address : (tcptype generation network ufrag cost : Option (List ℕ))
    → related_field (tcptype_tail tcptype generation network ufrag cost)
    ≡ Some (None, tcptype_tail tcptype generation network ufrag cost)
no_address None None None None None = refl
no_address None None None None (Some c) = refl
no_address None None None (Some u) cost = refl
no_address None None (Some n) ufrag cost = refl
no_address None (Some g) network ufrag cost = refl
no_address (Some t) generation network ufrag cost = refl

named_read : (name : List ℕ) (o more : Option (List ℕ)) → IfSome o IsOneWord → field name more ≡ Some (None, more)
    → field name (named_tail name o more) ≡ Some (o, more)
named_read name None more h absent = absent
named_read name (Some w) more h absent = field_there name w more h.0 h.1

address_there : (r : RelatedAddress) (port : List ℕ) (more : Option (List ℕ)) → IsOneWord r.addr → Lacks 32 port
    → number_below (2 ^ 16) port ≡ Some r.port
    → related_in (r.addr ++ 32 ∷ (codes "rport " ++ (port ++ behind_blank more))) ≡ Some (r, more)
unfolding related_in
address_there r port more h lacks is =
    let cut = halves-blank port more lacks in
    then _ _ _ _ (split_first-at 32 r.addr (codes "rport " ++ (port ++ behind_blank more)) h.1)
    (then _ _ _ _ (text_some r.addr h.0)
    (then _ _ _ _ (ap (λ x. number_below (2 ^ 16) x.0) cut ∙ is)
    (ap (λ (x : List ℕ × Option (List ℕ)). Some (record { addr = r.addr; port = r.port }, x.1)) cut)))

address_read : (r : Option RelatedAddress) (port : List ℕ) (tcptype generation network ufrag cost : Option (List ℕ))
    → IfSome r (λ a. IsOneWord a.addr × Lacks 32 port × (number_below (2 ^ 16) port ≡ Some a.port))
    → related_field (address_tail r port (tcptype_tail tcptype generation network ufrag cost))
    ≡ Some (r, tcptype_tail tcptype generation network ufrag cost)
address_read None port tcptype generation network ufrag cost h =
    no_address tcptype generation network ufrag cost
address_read (Some r) port tcptype generation network ufrag cost h = then _ _ _ _
    (address_there r port (tcptype_tail tcptype generation network ufrag cost) h.0 h.1 h.2) refl

fields_read : (c : Candidate) (s : Spelling) → AreWords c s
    → candidate_fields (address_tail c.related s.related_port
    (tcptype_tail s.tcptype s.generation s.network_id c.ufrag s.network_cost))
    ≡ Some (record { related = c.related; tcptype = c.tcptype; ufrag = c.ufrag })
unfolding candidate_fields tcptype_field ufrag_field
fields_read c s h =
    let tail = generation_tail s.generation s.network_id c.ufrag s.network_cost in
    let tcptype = named_read (codes "tcptype ") s.tcptype tail h.tcptype
    (no_tcptype s.generation s.network_id c.ufrag s.network_cost) in
    then _ _ _ _ (address_read c.related s.related_port s.tcptype s.generation s.network_id c.ufrag s.network_cost
    h.address)
    (then _ _ _ _ (then _ _ _ _ tcptype (then _ _ _ _ h.spells.tcptype refl))
    (then _ _ _ _
    (then _ _ _ _ (named_read (codes "generation ") s.generation (network_tail s.network_id c.ufrag s.network_cost)
    h.generation
    (no_generation s.network_id c.ufrag s.network_cost))
    (then _ _ _ _ (named_read (codes "network-id ") s.network_id (ufrag_tail c.ufrag s.network_cost) h.network_id
    (no_network c.ufrag s.network_cost))
    (then _ _ _ _ (named_read (codes "ufrag ") c.ufrag (cost_tail s.network_cost) h.ufrag (no_ufrag s.network_cost))
    (then _ _ _ _ (named_read (codes "network-cost ") s.network_cost None h.network_cost refl) refl)))) refl))

pub words_read : (c : Candidate) (s : Spelling) → AreWords c s → candidate (words_text c s) ≡ Some c
unfolding candidate candidate_base candidate_carrier candidate_place words_text
words_read c s h =
    let tail = address_tail c.related s.related_port
    (tcptype_tail s.tcptype s.generation s.network_id c.ufrag s.network_cost) in
    let kind = halves-blank s.kind tail h.kind in
    then _ _ _ _ (then _ _ _ _ (split_first-at 32 c.foundation _ h.foundation.1)
    (then _ _ _ _ (text_some c.foundation h.foundation.0)
    (then _ _ _ _ (split_first-at 32 s.component _ h.component) (then _ _ _ _ h.spells.component refl))))
    (then _ _ _ _ (then _ _ _ _ (split_first-at 32 s.protocol _ h.protocol)
    (then _ _ _ _ h.spells.protocol
    (then _ _ _ _ (split_first-at 32 s.priority _ h.priority) (then _ _ _ _ h.spells.priority refl))))
    (then _ _ _ _ (then _ _ _ _ (split_first-at 32 c.addr _ h.addr.1)
    (then _ _ _ _ (text_some c.addr h.addr.0)
    (then _ _ _ _ (split_first-at 32 s.port _ h.port) (then _ _ _ _ h.spells.port refl))))
    (then _ _ _ _ (ap (λ (x : List ℕ × Option (List ℕ)). kind_word x.0) kind ∙ h.spells.kind)
    (then _ _ _ _ (ap (λ (x : List ℕ × Option (List ℕ)). candidate_fields x.1) kind ∙ fields_read c s h) refl))))
