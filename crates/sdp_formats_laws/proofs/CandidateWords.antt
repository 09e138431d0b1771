-- The text of a candidate is its words.
use Rattle.std.proofs.Common.{◌≡◌, ◌≢◌, ◌^◌, ℕ, List, [], ◌∷◌, ◌++◌, codes, Option, Some, None, IfSome, refl, sym, ◌∙◌}
use Rattle.std.proofs.Common.{ap}
use Rattle.sdp_formats_grammar.specs.Numbers.{number_below}
use Rattle.sdp_formats_grammar.specs.Split.{Lacks}
use Rattle.sdp_formats_values.specs.Candidates.{candidate}
use Rattle.sdp_formats_values.specs.CandidateWords.{kind_word, protocol_word}
use Rattle.sdp_formats_values.specs.declared.candidate.Candidate.{Candidate}
use Rattle.sdp_formats_values.specs.declared.candidate.CandidateKind.{CandidateKind}
use Rattle.sdp_formats_values.specs.declared.candidate.Protocol.{Protocol}
use Rattle.sdp_formats_values.specs.declared.candidate.RelatedAddress.{RelatedAddress}
use Rattle.sdp_formats_laws.proofs.Printed.{lacks}
use Rattle.sdp_formats_laws.specs.CandidateWords.{CandidatesAreTheirWords, IsOneWord, Spelling, Spells, named_words}
use Rattle.sdp_formats_laws.specs.CandidateWords.{related_words, words_of}
use Rattle.sdp_formats_rounds.specs.Members.{IsEach}
use Rattle.sdp_formats_laws.proofs.CandidateTails.{AreWords}
use Rattle.sdp_formats_laws.proofs.CandidateTails.{words_shape}
use Rattle.sdp_formats_laws.proofs.CandidateFound.{words_found}
use Rattle.sdp_formats_laws.proofs.CandidateSpelled.{words_read}

-- words that aren't empty and have no blank
each_append : {A : Type 0} (P : A → Type 0) (xs ys : List A) → IsEach P xs → IsEach P ys → IsEach P (xs ++ ys)
each_append P [] ys h g = g
each_append P (x ∷ xs) ys h g = (h.0, each_append P xs ys h.1 g)

each_front : {A : Type 0} (P : A → Type 0) (xs ys : List A) → IsEach P (xs ++ ys) → IsEach P xs × IsEach P ys
each_front P [] ys h = (tt, h)
each_front P (x ∷ xs) ys h = let more = each_front P xs ys h.1 in ((h.0, more.0), more.1)

some_number : (limit n : ℕ) (w : List ℕ) → number_below limit w ≡ Some n → w ≢ []
some_number limit n [] h = cc
some_number limit n (b ∷ w) h = λ e. cc

some_protocol : (p : Protocol) (w : List ℕ) → protocol_word w ≡ Some p → w ≢ []
some_protocol p [] h = cc
some_protocol p (b ∷ w) h = λ e. cc

some_kind : (k : CandidateKind) (w : List ℕ) → kind_word w ≡ Some k → w ≢ []
some_kind k [] h = cc
some_kind k (b ∷ w) h = λ e. cc

named_each : (name : List ℕ) (o : Option (List ℕ)) → IsOneWord name → IfSome o IsOneWord
    → IsEach IsOneWord (named_words name o)
named_each name None is h = tt
named_each name (Some w) is h = (is, (h, tt))

each_named : (name : List ℕ) (o : Option (List ℕ)) → IsEach IsOneWord (named_words name o) → IfSome o IsOneWord
each_named name None h = tt
each_named name (Some w) h = h.1.0

address_each : (r : Option RelatedAddress) (port : List ℕ)
    → IfSome r (λ a. IsOneWord a.addr × Lacks 32 port × (number_below (2 ^ 16) port ≡ Some a.port))
    → IsEach IsOneWord (related_words r port)
address_each None port h = tt
address_each (Some r) port h = (
  ((λ e. cc), lacks 32 (codes "raddr") refl),
  (h.0, (((λ e. cc), lacks 32 (codes "rport") refl), ((some_number (2 ^ 16) r.port port h.2, h.1), tt))),
)

each_address : (r : Option RelatedAddress) (port : List ℕ) → IsEach IsOneWord (related_words r port)
    → IfSome r (λ a. number_below (2 ^ 16) port ≡ Some a.port)
    → IfSome r (λ a. IsOneWord a.addr × Lacks 32 port × (number_below (2 ^ 16) port ≡ Some a.port))
each_address None port h is = tt
each_address (Some r) port h is = (h.1.0, h.1.1.1.0.1, is)

words_each : (c : Candidate) (s : Spelling) → AreWords c s → IsEach IsOneWord (words_of c s)
words_each c s h =
    let component : IsOneWord s.component =
    (some_number (2 ^ 16) c.component_id s.component h.spells.component, h.component) in
    let protocol : IsOneWord s.protocol = (some_protocol c.proto s.protocol h.spells.protocol, h.protocol) in
    let priority : IsOneWord s.priority = (some_number (2 ^ 32) c.prio s.priority h.spells.priority, h.priority) in
    let port : IsOneWord s.port = (some_number (2 ^ 16) c.port s.port h.spells.port, h.port) in
    let kind : IsOneWord s.kind = (some_kind c.kind s.kind h.spells.kind, h.kind) in
    let fields = each_append IsOneWord (related_words c.related s.related_port) _
    (address_each c.related s.related_port h.address)
    (each_append IsOneWord (named_words (codes "tcptype") s.tcptype) _
    (named_each (codes "tcptype") s.tcptype ((λ e. cc), lacks 32 (codes "tcptype") refl) h.tcptype)
    (each_append IsOneWord (named_words (codes "generation") s.generation) _
    (named_each (codes "generation") s.generation ((λ e. cc), lacks 32 (codes "generation") refl) h.generation)
    (each_append IsOneWord (named_words (codes "network-id") s.network_id) _
    (named_each (codes "network-id") s.network_id ((λ e. cc), lacks 32 (codes "network-id") refl) h.network_id)
    (each_append IsOneWord (named_words (codes "ufrag") c.ufrag) _
    (named_each (codes "ufrag") c.ufrag ((λ e. cc), lacks 32 (codes "ufrag") refl) h.ufrag)
    (named_each (codes "network-cost") s.network_cost ((λ e. cc), lacks 32 (codes "network-cost") refl)
    h.network_cost))))) in (
      h.foundation,
      (
        component,
        (
          protocol,
          (
            priority,
            (
              h.addr,
              (
                port,
                (
                  ((λ e. cc), lacks 32 (codes "typ") refl),
                  (
                    kind,
                    fields,
                  ),
                ),
              ),
            ),
          ),
        ),
      ),
    )

each_words : (c : Candidate) (s : Spelling) → Spells c s → IsEach IsOneWord (words_of c s) → AreWords c s
each_words c s is h =
    let component = h.1 in
    let protocol = component.1 in
    let priority = protocol.1 in
    let addr = priority.1 in
    let port = addr.1 in
    let kind = port.1.1 in
    let one = each_front IsOneWord (related_words c.related s.related_port) _ kind.1 in
    let two = each_front IsOneWord (named_words (codes "tcptype") s.tcptype) _ one.1 in
    let three = each_front IsOneWord (named_words (codes "generation") s.generation) _ two.1 in
    let four = each_front IsOneWord (named_words (codes "network-id") s.network_id) _ three.1 in
    let five = each_front IsOneWord (named_words (codes "ufrag") c.ufrag) _ four.1 in
    record {
      spells = is;
      address = each_address c.related s.related_port one.0 is.related_port;
      foundation = h.0;
      addr = addr.0;
      component = component.0.1;
      protocol = protocol.0.1;
      priority = priority.0.1;
      port = port.0.1;
      kind = kind.0.1;
      tcptype = each_named (codes "tcptype") s.tcptype two.0;
      generation = each_named (codes "generation") s.generation three.0;
      network_id = each_named (codes "network-id") s.network_id four.0;
      ufrag = each_named (codes "ufrag") c.ufrag five.0;
      network_cost = each_named (codes "network-cost") s.network_cost five.1;
    }

pub candidates_are_their_words : CandidatesAreTheirWords
candidates_are_their_words text c = (
  λ h.
      let found = words_found text c h in
      (found.0, found.1.spells, words_each c found.0 found.1, found.2 ∙ sym (words_shape c found.0)),
  λ w. ap candidate (w.3 ∙ words_shape c w.0) ∙ words_read c w.0 (each_words c w.0 w.1 w.2),
)
