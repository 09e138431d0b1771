-- Keys compare as their candidates do, and candidates that compare alike are the same.
use Rattle.std.proofs.Common.{◌≡◌, ◌∙◌, ℕ, Bool, true, false, ◌||◌, List, [], ◌∷◌, Option, Some, None, Decides, ◌⊎◌}
use Rattle.std.proofs.Common.{Ordering, Less, Equal, Greater, ap, refl, sym, inl, inr, true≢false, if◌then◌else◌}
use Rattle.std.proofs.Common.{Bor, codes, nat_cmp, nat_eq, is_eq, is_lt, is_gt}
use Rattle.std.proofs.lemmas.Map.Lookups.{CmpEqualImpliesEq, exact_bytes, exact_pairs, exact_unsigned}
use Rattle.std.specs.Cmp.{Equal-is, IsTotalOrder, nat_cmp_total, on_total, then_total, tied_itself}
use Rattle.std.specs.Cmp.Lexicographic.{nat_list_cmp_total, options_total, pointwise}
use Rattle.std.specs.List.{list_any}
use Rattle.std.specs.Option.{option_cmp, option_copied, option_map}
use Rattle.std.specs.Ordering.{ordering_then}
use Rattle.sdp_formats_values.specs.PrintedCandidates.{protocol_text, kind_text, tcp_type_text}
use Rattle.sdp_formats_values.specs.declared.candidate.Candidate.{Candidate}
use Rattle.sdp_formats_values.specs.declared.candidate.CandidateKind.{CandidateKind}
use Rattle.sdp_formats_values.specs.declared.candidate.CandidateKind.TheVariants.{Host, PeerReflexive}
use Rattle.sdp_formats_values.specs.declared.candidate.CandidateKind.TheVariants.{ServerReflexive, Relayed}
use Rattle.sdp_formats_values.specs.declared.candidate.Protocol.{Protocol}
use Rattle.sdp_formats_values.specs.declared.candidate.Protocol.TheVariants.{Udp, Tcp, SslTcp, Tls}
use Rattle.sdp_formats_values.specs.declared.candidate.RelatedAddress.{RelatedAddress}
use Rattle.sdp_formats_values.specs.declared.candidate.TcpType.{TcpType}
use Rattle.sdp_formats_values.specs.declared.candidate.TcpType.TheVariants.{Active, Passive, So}
use Rattle.sdp_formats_data.specs.Candidates.{IsAmong}
use Rattle.sdp_formats_data.specs.Keys.{IsKeyOf, address_cmp, candidate_cmp, key_cmp, related_of, shown, text_cmp}
use Rattle.sdp_formats_data.specs.declared.candidate_keys.CandidateKey.{CandidateKey}

both : (a b : Ordering) → ordering_then a b ≡ Equal → (a ≡ Equal) × (b ≡ Equal)
both Less b e = absurd (true≢false (ap is_lt e))
both Equal b e = (refl, e)
both Greater b e = absurd (true≢false (ap is_gt e))

exact_options : {A : Type 0} {R : A → A → Ordering} → CmpEqualImpliesEq R → CmpEqualImpliesEq (option_cmp R)
exact_options exact None None e = refl
exact_options exact None (Some y) e = absurd (true≢false (ap is_lt e))
exact_options exact (Some x) None e = absurd (true≢false (ap is_gt e))
exact_options exact (Some x) (Some y) e = ap Some (exact x y e)

exact_addresses : CmpEqualImpliesEq address_cmp
exact_addresses = exact_pairs text_cmp nat_cmp exact_bytes exact_unsigned

-- What has a way back is one to one.
back : {A B : Type 0} (f : A → B) (g : B → A) → ((x : A) → g (f x) ≡ x) → (x y : A) → f x ≡ f y → x ≡ y
back f g same x y e = sym (same x) ∙ ap g e ∙ same y

options_back : {A B : Type 0} (f : A → B) (g : B → A) → ((x : A) → g (f x) ≡ x)
    → (x : Option A) → option_map g (option_map f x) ≡ x
options_back f g same None = refl
options_back f g same (Some x) = ap Some (same x)

abbrev is_word : List ℕ → List ℕ → Bool
is_word text word = pointwise nat_eq text word

abbrev protocol_at : List ℕ → Protocol
protocol_at text = if is_word text (codes "udp") then Udp else (if is_word text (codes "tcp") then Tcp
    else (if is_word text (codes "tls") then Tls else SslTcp))

protocol_back : (p : Protocol) → protocol_at (protocol_text p) ≡ p
protocol_back Udp = refl
protocol_back Tcp = refl
protocol_back SslTcp = refl
protocol_back Tls = refl

abbrev kind_at : List ℕ → CandidateKind
kind_at text = if is_word text (codes "host") then Host else (if is_word text (codes "prflx") then PeerReflexive
    else (if is_word text (codes "srflx") then ServerReflexive else Relayed))

kind_back : (k : CandidateKind) → kind_at (kind_text k) ≡ k
kind_back Host = refl
kind_back PeerReflexive = refl
kind_back ServerReflexive = refl
kind_back Relayed = refl

abbrev tcp_type_at : List ℕ → TcpType
tcp_type_at text = if is_word text (codes "active") then Active
    else (if is_word text (codes "passive") then Passive else So)

tcp_type_back : (t : TcpType) → tcp_type_at (tcp_type_text t) ≡ t
tcp_type_back Active = refl
tcp_type_back Passive = refl
tcp_type_back So = refl

abbrev related_at : List ℕ × ℕ → RelatedAddress
related_at address = record { addr = address.0; port = address.1 }

exact_candidates : CmpEqualImpliesEq candidate_cmp
exact_candidates a b e =
    let foundation = both _ _ e in
    let component = both _ _ foundation.1 in
    let proto = both _ _ component.1 in
    let prio = both _ _ proto.1 in
    let addr = both _ _ prio.1 in
    let port = both _ _ addr.1 in
    let kind = both _ _ port.1 in
    let related = both _ _ kind.1 in
    let tcptype = both _ _ related.1 in
    λ i. record {
      foundation = exact_bytes a.foundation b.foundation foundation.0 i;
      component_id = exact_unsigned a.component_id b.component_id component.0 i;
      proto = back protocol_text protocol_at protocol_back a.proto b.proto (exact_bytes _ _ proto.0) i;
      prio = exact_unsigned a.prio b.prio prio.0 i;
      addr = exact_bytes a.addr b.addr addr.0 i;
      port = exact_unsigned a.port b.port port.0 i;
      kind = back kind_text kind_at kind_back a.kind b.kind (exact_bytes _ _ kind.0) i;
      related = back (option_map related_of) (option_map related_at)
          (options_back related_of related_at (λ r. refl)) a.related b.related
          (exact_options exact_addresses _ _ related.0) i;
      tcptype = back (option_map tcp_type_text) (option_map tcp_type_at)
          (options_back tcp_type_text tcp_type_at tcp_type_back) a.tcptype b.tcptype
          (exact_options exact_bytes _ _ tcptype.0) i;
      ufrag = exact_options exact_bytes a.ufrag b.ufrag tcptype.1 i;
    }

addresses_total : IsTotalOrder address_cmp
addresses_total = then_total (on_total (λ (p : List ℕ × ℕ). p.0) nat_list_cmp_total)
    (on_total (λ (p : List ℕ × ℕ). p.1) nat_cmp_total)

candidates_tied : (c : Candidate) → candidate_cmp c c ≡ Equal
candidates_tied c = λ i. ordering_then (tied_itself nat_list_cmp_total c.foundation i)
    (ordering_then (tied_itself nat_cmp_total c.component_id i)
    (ordering_then (tied_itself nat_list_cmp_total (protocol_text c.proto) i)
    (ordering_then (tied_itself nat_cmp_total c.prio i)
    (ordering_then (tied_itself nat_list_cmp_total c.addr i)
    (ordering_then (tied_itself nat_cmp_total c.port i)
    (ordering_then (tied_itself nat_list_cmp_total (kind_text c.kind) i)
    (ordering_then (tied_itself (options_total addresses_total) (option_map related_of c.related) i)
    (ordering_then (tied_itself (options_total nat_list_cmp_total) (option_map tcp_type_text c.tcptype) i)
    (tied_itself (options_total nat_list_cmp_total) c.ufrag i)))))))))

same_candidates : (a b : Candidate) → Decides (is_eq (candidate_cmp a b)) (a ≡ b)
same_candidates a b = (
  (λ h. exact_candidates a b ((Equal-is (candidate_cmp a b)).0 h)),
  λ e. ap is_eq (ap (λ (c : Candidate). candidate_cmp a c) (sym e) ∙ candidates_tied a),
)

either : {A B : Type 0} (a b : Bool) → Decides a A → Decides b B → Decides (a || b) (A ⊎ B)
either true b f g = ((λ _. inl (f.0 refl)), λ _. refl)
either false b f g = ((λ e. inr (g.0 e)), elim [ inl x ↦ absurd (true≢false (sym (f.1 x))) | inr y ↦ g.1 y ])

-- A candidate is among others if one of them compares alike.
pub among : (c : Candidate) (others : List Candidate)
    → Decides (list_any (λ o. is_eq (candidate_cmp o c)) others) (IsAmong c others)
among c [] = ((λ e. absurd (true≢false (sym e))), λ h. absurd h)
among c (o ∷ others) = either _ _ (same_candidates o c) (among c others)

options_through : {A B : Type 0} (f : A → B) (R : B → B → Ordering) (x y : Option A)
    → option_cmp (λ a b. R (f a) (f b)) x y ≡ option_cmp R (option_map f x) (option_map f y)
options_through f R None None = refl
options_through f R None (Some y) = refl
options_through f R (Some x) None = refl
options_through f R (Some x) (Some y) = refl

pub key_order : (k q : CandidateKey) (c d : Candidate) → IsKeyOf k c → IsKeyOf q d
    → key_cmp k q ≡ candidate_cmp c d
key_order k q c d h g =
    let text : (x y : Option (Bor (List ℕ))) (v w : Option (List ℕ)) → option_copied x ≡ v → option_copied y ≡ w
    → option_cmp (λ x y. text_cmp x.now y.now) x y ≡ option_cmp text_cmp v w
    = λ x y v w e f. options_through (λ (b : Bor (List ℕ)). b.now) text_cmp x y
    ∙ (λ i. option_cmp text_cmp (e i) (f i)) in
    λ i. ordering_then (text_cmp (h.foundation i) (g.foundation i))
    (ordering_then (nat_cmp (h.component_id i) (g.component_id i))
    (ordering_then (text_cmp (h.proto i) (g.proto i))
    (ordering_then (nat_cmp (h.prio i) (g.prio i))
    (ordering_then (text_cmp (h.addr i) (g.addr i))
    (ordering_then (nat_cmp (h.port i) (g.port i))
    (ordering_then (text_cmp (h.kind i) (g.kind i))
    (ordering_then ((options_through shown address_cmp k.related q.related
    ∙ (λ j. option_cmp address_cmp (h.related j) (g.related j))) i)
    (ordering_then (text k.tcptype q.tcptype _ _ h.tcptype g.tcptype i)
    (text k.ufrag q.ufrag _ _ h.ufrag g.ufrag i)))))))))
