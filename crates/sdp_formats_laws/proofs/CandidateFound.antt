-- What is read as a candidate is words for it.
use Rattle.std.proofs.Common.{◌≡◌, ◌≢◌, ◌^◌, ℕ, List, [], ◌∷◌, ◌++◌, codes, Option, Some, None, IfSome, refl, sym, ◌∙◌}
use Rattle.std.proofs.Common.{ap, subst}
use Rattle.std.proofs.lemmas.List.{append-nil}
use Rattle.sdp_formats_grammar.specs.Bind.{◌>>=◌}
use Rattle.sdp_formats_grammar.specs.Cuts.{IsCut, somewhere, nowhere, cut_of, split_first-at, split_first-cuts}
use Rattle.sdp_formats_grammar.specs.Cuts.{split_first-nowhere}
use Rattle.sdp_formats_grammar.specs.Form.{field, field_in, maybe, some_text}
use Rattle.sdp_formats_grammar.specs.Numbers.{number_below}
use Rattle.sdp_formats_grammar.specs.Split.{Lacks, behind, halves, halves_of, split_first}
use Rattle.sdp_formats_grammar.specs.Words.{behind-sound}
use Rattle.sdp_formats_values.specs.Candidates.{candidate, candidate_base, candidate_carrier, candidate_fields}
use Rattle.sdp_formats_values.specs.Candidates.{candidate_place, ended, related_behind, related_field, related_in}
use Rattle.sdp_formats_values.specs.Candidates.{tcptype_field, ufrag_field}
use Rattle.sdp_formats_values.specs.CandidateWords.{kind_word, protocol_word, tcptype_word}
use Rattle.sdp_formats_values.specs.declared.candidate.Candidate.{Candidate}
use Rattle.sdp_formats_values.specs.declared.candidate.Protocol.{Protocol}
use Rattle.sdp_formats_values.specs.declared.candidate.RelatedAddress.{RelatedAddress}
use Rattle.sdp_formats_values.specs.declared.candidate.TcpType.{TcpType}
use Rattle.sdp_formats_laws.proofs.CandidatesLemmas.{behind_blank}
use Rattle.sdp_formats_laws.proofs.Printed.{lacks}
use Rattle.sdp_formats_laws.specs.CandidateWords.{IsOneWord, Spelling}
use Rattle.sdp_formats_laws.proofs.CandidateTails.{AreWords, address_tail, generation_tail, named_tail}
use Rattle.sdp_formats_laws.proofs.CandidateTails.{words_text}

-- what a reader that takes one step after the other has found
pub unbind : {A B : Type 0} (o : Option A) (f : A → Option B) (b : B) → (o >>= f) ≡ Some b
    → (a : A) × (o ≡ Some a) × (f a ≡ Some b)
unbind (Some a) f b h = (a, refl, h)
unbind None f b h = cc

the_same : {A : Type 0} (a b : A) → Some a ≡ Some b → a ≡ b
the_same a b h = cc

some_single : (w v : List ℕ) → some_text w ≡ Some v → (w ≡ v) × (w ≢ [])
some_single [] v h = cc
some_single (b ∷ w) v h = (cc, λ e. cc)

base_words : (t : List ℕ) (x : List ℕ × ℕ × List ℕ) → candidate_base t ≡ Some x
    → (w : List ℕ) × (t ≡ x.0 ++ 32 ∷ (w ++ 32 ∷ x.2)) × IsOneWord x.0 × Lacks 32 w
    × (number_below (2 ^ 16) w ≡ Some x.1)
unfolding candidate_base
base_words t x h =
    let a = unbind (split_first 32 t) _ x h in
    let b = unbind (some_text a.0.0) _ x a.2 in
    let c = unbind (split_first 32 a.0.1) _ x b.2 in
    let d = unbind (number_below (2 ^ 16) c.0.0) _ x c.2 in
    let first = split_first-cuts 32 t a.0.0 a.0.1 a.1 in
    let second = split_first-cuts 32 a.0.1 c.0.0 c.0.1 c.1 in
    let word = some_single a.0.0 b.0 b.1 in
    subst (λ (y : List ℕ × ℕ × List ℕ). (w : List ℕ) × (t ≡ y.0 ++ 32 ∷ (w ++ 32 ∷ y.2)) × IsOneWord y.0 × Lacks 32 w
    × (number_below (2 ^ 16) w ≡ Some y.1)) (the_same (b.0, d.0, c.0.1) x d.2) (
      c.0.0,
      first.0 ∙ (λ i. word.0 i ++ 32 ∷ second.0 i),
      (subst (λ v. v ≢ []) word.0 word.1, subst (Lacks 32) word.0 first.1),
      second.1,
      d.1,
    )

carrier_words : (t : List ℕ) (x : Protocol × ℕ × List ℕ) → candidate_carrier t ≡ Some x
    → (v w : List ℕ) × (t ≡ v ++ 32 ∷ (w ++ 32 ∷ x.2)) × Lacks 32 v × (protocol_word v ≡ Some x.0) × Lacks 32 w
    × (number_below (2 ^ 32) w ≡ Some x.1)
unfolding candidate_carrier
carrier_words t x h =
    let a = unbind (split_first 32 t) _ x h in
    let b = unbind (protocol_word a.0.0) _ x a.2 in
    let c = unbind (split_first 32 a.0.1) _ x b.2 in
    let d = unbind (number_below (2 ^ 32) c.0.0) _ x c.2 in
    let first = split_first-cuts 32 t a.0.0 a.0.1 a.1 in
    let second = split_first-cuts 32 a.0.1 c.0.0 c.0.1 c.1 in
    subst (λ (y : Protocol × ℕ × List ℕ). (v w : List ℕ) × (t ≡ v ++ 32 ∷ (w ++ 32 ∷ y.2)) × Lacks 32 v
    × (protocol_word v ≡ Some y.0) × Lacks 32 w × (number_below (2 ^ 32) w ≡ Some y.1))
    (the_same (b.0, d.0, c.0.1) x d.2)
    (a.0.0, c.0.0, first.0 ∙ ap (λ r. a.0.0 ++ 32 ∷ r) second.0, first.1, b.1, second.1, d.1)

place_words : (t : List ℕ) (x : List ℕ × ℕ × List ℕ) → candidate_place t ≡ Some x
    → (w : List ℕ) × (t ≡ x.0 ++ 32 ∷ (w ++ 32 ∷ (codes "typ " ++ x.2))) × IsOneWord x.0 × Lacks 32 w
    × (number_below (2 ^ 16) w ≡ Some x.1)
unfolding candidate_place
place_words t x h =
    let a = unbind (split_first 32 t) _ x h in
    let b = unbind (some_text a.0.0) _ x a.2 in
    let c = unbind (split_first 32 a.0.1) _ x b.2 in
    let d = unbind (number_below (2 ^ 16) c.0.0) _ x c.2 in
    let e = unbind (behind (codes "typ ") c.0.1) _ x d.2 in
    let first = split_first-cuts 32 t a.0.0 a.0.1 a.1 in
    let second = split_first-cuts 32 a.0.1 c.0.0 c.0.1 c.1 in
    let word = some_single a.0.0 b.0 b.1 in
    let typ = behind-sound (codes "typ ") c.0.1 e.0 e.1 in
    subst (λ (y : List ℕ × ℕ × List ℕ). (w : List ℕ) × (t ≡ y.0 ++ 32 ∷ (w ++ 32 ∷ (codes "typ " ++ y.2)))
    × IsOneWord y.0 × Lacks 32 w × (number_below (2 ^ 16) w ≡ Some y.1)) (the_same (b.0, d.0, e.0) x e.2) (
      c.0.0,
      first.0 ∙ (λ i. word.0 i ++ 32 ∷ second.0 i) ∙ ap (λ r. b.0 ++ 32 ∷ (c.0.0 ++ 32 ∷ r)) typ,
      (subst (λ v. v ≢ []) word.0 word.1, subst (Lacks 32) word.0 first.1),
      second.1,
      d.1,
    )

-- a word up to a blank, or to the end
halves_words : (t : List ℕ) → IsCut 32 t → (t ≡ (halves 32 t).0 ++ behind_blank (halves 32 t).1)
    × Lacks 32 (halves 32 t).0
halves_words t (somewhere front back whole lacks) =
    let cut = ap (halves_of t) (ap (split_first 32) whole ∙ split_first-at 32 front back lacks) in (
      subst (λ (h : List ℕ × Option (List ℕ)). t ≡ h.0 ++ behind_blank h.1) (sym cut) whole,
      subst (λ (h : List ℕ × Option (List ℕ)). Lacks 32 h.0) (sym cut) lacks,
    )
halves_words t (nowhere lacks) =
    let cut = ap (halves_of t) (split_first-nowhere 32 t lacks) in (
      subst (λ (h : List ℕ × Option (List ℕ)). t ≡ h.0 ++ behind_blank h.1) (sym cut) (sym (append-nil t)),
      subst (λ (h : List ℕ × Option (List ℕ)). Lacks 32 h.0) (sym cut) lacks,
    )

abbrev IsTail : List ℕ → Option (List ℕ) → Option (List ℕ) × Option (List ℕ) → Type 0
IsTail name t x = (t ≡ named_tail name x.0 x.1) × IfSome x.0 IsOneWord

field_words : (name : List ℕ) (t : Option (List ℕ)) (x : Option (List ℕ) × Option (List ℕ)) → field name t ≡ Some x
    → IsTail name t x
field_words name None x h = subst (IsTail name None) (the_same (None, None) x h) (refl, tt)
field_words name (Some t) x h = at (behind name t) refl h
  where
    at : (o : Option (List ℕ)) → behind name t ≡ o → field_in t o ≡ Some x → IsTail name (Some t) x
    at None e h = subst (IsTail name (Some t)) (the_same (None, Some t) x h) (refl, tt)
    at (Some v) e h =
        let cut = halves_words v (cut_of 32 v) in
        let a = unbind (some_text (halves 32 v).0) _ x h in
        let word = some_single (halves 32 v).0 a.0 a.1 in
        subst (IsTail name (Some t)) (the_same (Some a.0, (halves 32 v).1) x a.2) (
          ap Some (behind-sound name t v e ∙ ap (λ r. name ++ r) (cut.0
              ∙ ap (λ w. w ++ behind_blank (halves 32 v).1) word.0)),
          (subst (λ w. w ≢ []) word.0 word.1, subst (Lacks 32) word.0 cut.1),
        )

-- the address that a candidate was derived from
abbrev IsAddressTail : Option (List ℕ) → Option RelatedAddress × Option (List ℕ) → Type 0
IsAddressTail t x = (port : List ℕ) × (t ≡ address_tail x.0 port x.1)
    × IfSome x.0 (λ r. IsOneWord r.addr × Lacks 32 port × (number_below (2 ^ 16) port ≡ Some r.port))

related_in_words : (t : List ℕ) (x : RelatedAddress × Option (List ℕ)) → related_in t ≡ Some x
    → (port : List ℕ) × (t ≡ x.0.addr ++ 32 ∷ (codes "rport " ++ (port ++ behind_blank x.1)))
    × IsOneWord x.0.addr × Lacks 32 port × (number_below (2 ^ 16) port ≡ Some x.0.port)
unfolding related_in
related_in_words t x h =
    let a = unbind (split_first 32 t) _ x h in
    let b = unbind (some_text a.0.0) _ x a.2 in
    let c = unbind (behind (codes "rport ") a.0.1) _ x b.2 in
    let d = unbind (number_below (2 ^ 16) (halves 32 c.0).0) _ x c.2 in
    let first = split_first-cuts 32 t a.0.0 a.0.1 a.1 in
    let word = some_single a.0.0 b.0 b.1 in
    let name = behind-sound (codes "rport ") a.0.1 c.0 c.1 in
    let cut = halves_words c.0 (cut_of 32 c.0) in
    subst (λ (y : RelatedAddress × Option (List ℕ)). (port : List ℕ)
    × (t ≡ y.0.addr ++ 32 ∷ (codes "rport " ++ (port ++ behind_blank y.1)))
    × IsOneWord y.0.addr × Lacks 32 port × (number_below (2 ^ 16) port ≡ Some y.0.port))
    (the_same (record { addr = b.0; port = d.0 }, (halves 32 c.0).1) x d.2) (
      (halves 32 c.0).0,
      first.0 ∙ (λ i. word.0 i ++ 32 ∷ name i) ∙ ap (λ r. b.0 ++ 32 ∷ (codes "rport " ++ r)) cut.0,
      (subst (λ w. w ≢ []) word.0 word.1, subst (Lacks 32) word.0 first.1),
      cut.1,
      d.1,
    )

related_words_of : (t : Option (List ℕ)) (x : Option RelatedAddress × Option (List ℕ)) → related_field t ≡ Some x
    → IsAddressTail t x
related_words_of None x h = subst (IsAddressTail None) (the_same (None, None) x h) ([], refl, tt)
related_words_of (Some t) x h = at (behind (codes "raddr ") t) refl h
  where
    at : (o : Option (List ℕ)) → behind (codes "raddr ") t ≡ o → related_behind t o ≡ Some x
        → IsAddressTail (Some t) x
    at None e h = subst (IsAddressTail (Some t)) (the_same (None, Some t) x h) ([], refl, tt)
    at (Some v) e h =
        let a = unbind (related_in v) _ x h in
        let one = related_in_words v a.0 a.1 in
        subst (IsAddressTail (Some t)) (the_same (Some a.0.0, a.0.1) x a.2) (
          one.0,
          ap Some (behind-sound (codes "raddr ") t v e ∙ ap (λ r. codes "raddr " ++ r) one.1),
          (one.2, one.3, one.4),
        )

-- the fields after the kind, from the first on
tcptype_words : (t : Option (List ℕ)) (x : Option TcpType × Option (List ℕ)) → tcptype_field t ≡ Some x
    → (w : Option (List ℕ)) × (t ≡ named_tail (codes "tcptype ") w x.1) × IfSome w IsOneWord
    × (maybe tcptype_word w ≡ Some x.0)
unfolding tcptype_field
tcptype_words t x h =
    let a = unbind (field (codes "tcptype ") t) _ x h in
    let b = unbind (maybe tcptype_word a.0.0) _ x a.2 in
    let one = field_words (codes "tcptype ") t a.0 a.1 in
    subst (λ (y : Option TcpType × Option (List ℕ)). (w : Option (List ℕ))
    × (t ≡ named_tail (codes "tcptype ") w y.1) × IfSome w IsOneWord × (maybe tcptype_word w ≡ Some y.0))
    (the_same (b.0, a.0.1) x b.2) (a.0.0, one.0, one.1, b.1)

all_read : {A : Type 0} (a b : A) (t : Option (List ℕ)) → ended a t ≡ Some b → (t ≡ None) × (a ≡ b)
all_read a b None h = (refl, the_same a b h)
all_read a b (Some t) h = cc

ufrag_words : (t : Option (List ℕ)) (u : Option (List ℕ)) → ufrag_field t ≡ Some u
    → (generation network cost : Option (List ℕ)) × (t ≡ generation_tail generation network u cost)
    × IfSome generation IsOneWord × IfSome network IsOneWord × IfSome u IsOneWord × IfSome cost IsOneWord
unfolding ufrag_field
ufrag_words t u h =
    let a = unbind (field (codes "generation ") t) _ u h in
    let b = unbind (field (codes "network-id ") a.0.1) _ u a.2 in
    let c = unbind (field (codes "ufrag ") b.0.1) _ u b.2 in
    let d = unbind (field (codes "network-cost ") c.0.1) _ u c.2 in
    let generation = field_words (codes "generation ") t a.0 a.1 in
    let network = field_words (codes "network-id ") a.0.1 b.0 b.1 in
    let ufrag = field_words (codes "ufrag ") b.0.1 c.0 c.1 in
    let cost = field_words (codes "network-cost ") c.0.1 d.0 d.1 in
    let last = all_read c.0.0 u d.0.1 d.2 in
    subst (λ (v : Option (List ℕ)). (generation network cost : Option (List ℕ))
    × (t ≡ generation_tail generation network v cost)
    × IfSome generation IsOneWord × IfSome network IsOneWord × IfSome v IsOneWord × IfSome cost IsOneWord) last.1 (
      a.0.0,
      b.0.0,
      d.0.0,
      generation.0 ∙ ap (λ (r : Option (List ℕ)). named_tail (codes "generation ") a.0.0 r) (network.0
          ∙ ap (λ (r : Option (List ℕ)). named_tail (codes "network-id ") b.0.0 r) (ufrag.0
          ∙ ap (λ (r : Option (List ℕ)). named_tail (codes "ufrag ") c.0.0 r) (cost.0
          ∙ ap (λ (r : Option (List ℕ)). named_tail (codes "network-cost ") d.0.0 r) last.0))),
      generation.1,
      network.1,
      ufrag.1,
      cost.1,
    )

-- what is read is words for it
each_port : (r : Option RelatedAddress) (port : List ℕ)
    → IfSome r (λ a. IsOneWord a.addr × Lacks 32 port × (number_below (2 ^ 16) port ≡ Some a.port))
    → IfSome r (λ a. number_below (2 ^ 16) port ≡ Some a.port)
each_port None port h = tt
each_port (Some r) port h = h.2

pub words_found : (t : List ℕ) (c : Candidate) → candidate t ≡ Some c
    → (s : Spelling) × AreWords c s × (t ≡ words_text c s)
unfolding candidate candidate_fields words_text
words_found t c h =
    let a = unbind (candidate_base t) _ c h in
    let b = unbind (candidate_carrier a.0.2) _ c a.2 in
    let d = unbind (candidate_place b.0.2) _ c b.2 in
    let e = unbind (kind_word (halves 32 d.0.2).0) _ c d.2 in
    let f = unbind (candidate_fields (halves 32 d.0.2).1) _ c e.2 in
    let base = base_words t a.0 a.1 in
    let carrier = carrier_words a.0.2 b.0 b.1 in
    let place = place_words b.0.2 d.0 d.1 in
    let cut = halves_words d.0.2 (cut_of 32 d.0.2) in
    let r = unbind (related_field (halves 32 d.0.2).1) _ f.0 f.1 in
    let k = unbind (tcptype_field r.0.1) _ f.0 r.2 in
    let u = unbind (ufrag_field k.0.1) _ f.0 k.2 in
    let fields = the_same _ f.0 u.2 in
    let address = related_words_of (halves 32 d.0.2).1 r.0 r.1 in
    let tcptype = tcptype_words r.0.1 k.0 k.1 in
    let ufrag = ufrag_words k.0.1 u.0 u.1 in
    let tail = address.1 ∙ ap (λ (o : Option (List ℕ)). address_tail r.0.0 address.0 o) (tcptype.1
    ∙ ap (λ (o : Option (List ℕ)). named_tail (codes "tcptype ") tcptype.0 o) ufrag.3) in
    let read : Candidate = record {
      foundation = a.0.0;
      component_id = a.0.1;
      proto = b.0.0;
      prio = b.0.1;
      addr = d.0.0;
      port = d.0.1;
      kind = e.0;
      related = r.0.0;
      tcptype = k.0.0;
      ufrag = u.0;
    } in
    let same : read ≡ c = (λ i. record {
      foundation = a.0.0;
      component_id = a.0.1;
      proto = b.0.0;
      prio = b.0.1;
      addr = d.0.0;
      port = d.0.1;
      kind = e.0;
      related = (fields i).related;
      tcptype = (fields i).tcptype;
      ufrag = (fields i).ufrag;
    }) ∙ the_same _ c f.2 in
    let s : Spelling = record {
      component = base.0;
      protocol = carrier.0;
      priority = carrier.1;
      port = place.0;
      kind = (halves 32 d.0.2).0;
      related_port = address.0;
      tcptype = tcptype.0;
      generation = ufrag.0;
      network_id = ufrag.1;
      network_cost = ufrag.2;
    } in
    let words : AreWords read s = record {
      spells = record {
        component = base.4;
        protocol = carrier.4;
        priority = carrier.6;
        port = place.4;
        kind = e.1;
        related_port = each_port r.0.0 address.0 address.2;
        tcptype = tcptype.3;
      };
      address = address.2;
      foundation = base.2;
      addr = place.2;
      component = base.3;
      protocol = carrier.3;
      priority = carrier.5;
      port = place.3;
      kind = cut.1;
      tcptype = tcptype.2;
      generation = ufrag.4;
      network_id = ufrag.5;
      ufrag = ufrag.6;
      network_cost = ufrag.7;
    } in
    let whole = base.1 ∙ ap (λ r. a.0.0 ++ 32 ∷ (base.0 ++ 32 ∷ r)) (carrier.2
    ∙ ap (λ r. carrier.0 ++ 32 ∷ (carrier.1 ++ 32 ∷ r)) (place.1
    ∙ ap (λ r. d.0.0 ++ 32 ∷ (place.0 ++ 32 ∷ (codes "typ " ++ r))) (cut.0
    ∙ ap (λ o. (halves 32 d.0.2).0 ++ behind_blank o) tail))) in
    subst (λ (x : Candidate). (s : Spelling) × AreWords x s × (t ≡ words_text x s)) same
    (s, words, whole)
