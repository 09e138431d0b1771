-- Candidates are read as they are printed (RFC 8839 5.1).
use Rattle.std.proofs.Common.{◌≡◌, ◌≢◌, ◌<◌, ◌^◌, ℕ, List, [], ◌∷◌, ◌++◌, Option, Some, None, codes, decimal}
use Rattle.std.proofs.Common.{Bool, true, ◌&&◌, nat_lt, IfSome, refl, sym, ◌∙◌, ap, append_assoc, arith, lit<, lit≤}
use Rattle.std.specs.Option.{option_map}
use Rattle.std.proofs.lemmas.Bool.Decides.{nat_tests}
use Rattle.std.proofs.lemmas.List.{append-nil}
use Rattle.sdp_formats_grammar.specs.Bind.{◌>>=◌}
use Rattle.sdp_formats_grammar.specs.Cuts.{split_first-at, split_first-nowhere}
use Rattle.sdp_formats_grammar.specs.Form.{field, field_in, field_word, maybe}
use Rattle.sdp_formats_grammar.specs.Joined.{maybe_text}
use Rattle.sdp_formats_grammar.specs.Numbers.{number_below}
use Rattle.sdp_formats_grammar.specs.Split.{Lacks, halves, halves_of}
use Rattle.sdp_formats_grammar.specs.Words.{behind-append}
use Rattle.sdp_formats_values.specs.Candidates.{candidate, candidate_base, candidate_carrier, candidate_fields}
use Rattle.sdp_formats_values.specs.Candidates.{candidate_place, related_field, related_in, tcptype_field}
use Rattle.sdp_formats_values.specs.Candidates.{ufrag_field}
use Rattle.sdp_formats_values.specs.CandidateWords.{kind_word, protocol_word, tcptype_word}
use Rattle.sdp_formats_values.specs.PrintedCandidates.{candidate_text, kind_text, parts_text, protocol_text}
use Rattle.sdp_formats_values.specs.PrintedCandidates.{related_text}
use Rattle.sdp_formats_values.specs.PrintedCandidates.{tcp_type_text}
use Rattle.sdp_formats_values.specs.Lists.{named}
use Rattle.sdp_formats_values.specs.declared.candidate.Candidate.{Candidate}
use Rattle.sdp_formats_values.specs.declared.candidate.CandidateKind.{CandidateKind}
use Rattle.sdp_formats_values.specs.declared.candidate.CandidateKind.TheVariants.{Host, PeerReflexive}
use Rattle.sdp_formats_values.specs.declared.candidate.CandidateKind.TheVariants.{ServerReflexive, Relayed}
use Rattle.sdp_formats_values.specs.declared.candidate.Protocol.{Protocol}
use Rattle.sdp_formats_values.specs.declared.candidate.Protocol.TheVariants.{Udp, Tcp, SslTcp, Tls}
use Rattle.sdp_formats_values.specs.declared.candidate.RelatedAddress.{RelatedAddress}
use Rattle.sdp_formats_values.specs.declared.candidate.TcpType.{TcpType}
use Rattle.sdp_formats_values.specs.declared.candidate.TcpType.TheVariants.{Active, Passive, So}
use Rattle.sdp_formats_laws.proofs.Decimals.{number_below-decimal, Lacks-decimal}
use Rattle.sdp_formats_laws.proofs.PlainKinds.{lacks_two}
use Rattle.sdp_formats_laws.proofs.Printed.{lacks, lacks_both, text_some}
use Rattle.sdp_formats_laws.specs.CandidateWords.{IsOneWord}
use Rattle.sdp_formats_laws.specs.Printable.{IsWord, IsPrintableCandidate, IsPrintableRelated}
use Rattle.sdp_formats_laws.specs.ValueTexts.{IsOfWords, IsRelatedOfWords}

-- what follows a blank, if anything does
abbrev pub behind_blank : Option (List ℕ) → List ℕ
behind_blank None = []
behind_blank (Some t) = 32 ∷ t

pub halves-blank : (w : List ℕ) (more : Option (List ℕ)) → Lacks 32 w → halves 32 (w ++ behind_blank more) ≡ (w, more)
halves-blank w None h = ap (halves 32) (append-nil w) ∙ ap (halves_of w) (split_first-nowhere 32 w h)
halves-blank w (Some t) h = ap (halves_of (w ++ 32 ∷ t)) (split_first-at 32 w t h)

-- one step after the other
pub then : {A B : Type 0} (o : Option A) (f : A → Option B) (a : A) (b : Option B) → o ≡ Some a → f a ≡ b → (o >>= f)
    ≡ b
then o f a b e h = ap (λ x. x >>= f) e ∙ h

-- a field that is there
pub field_there : (name w : List ℕ) (more : Option (List ℕ)) → w ≢ [] → Lacks 32 w
    → field name (Some (name ++ (w ++ behind_blank more))) ≡ Some (Some w, more)
field_there name w more some h =
    ap (field_in (name ++ (w ++ behind_blank more))) (behind-append name (w ++ behind_blank more))
    ∙ ap field_word (halves-blank w more h)
    ∙ ap (λ o. o >>= λ x. Some (Some x, more)) (text_some w some)

-- what follows the kind, each part after a blank
abbrev pub ufrag_tail : Option (List ℕ) → Option (List ℕ)
ufrag_tail None = None
ufrag_tail (Some w) = Some (codes "ufrag " ++ (w ++ behind_blank None))

abbrev pub tcp_tail : Option TcpType → Option (List ℕ) → Option (List ℕ)
tcp_tail None more = more
tcp_tail (Some t) more = Some (codes "tcptype " ++ (tcp_type_text t ++ behind_blank more))

abbrev pub related_tail : Option RelatedAddress → Option (List ℕ) → Option (List ℕ)
related_tail None more = more
related_tail (Some r) more =
    Some (codes "raddr " ++ (r.addr ++ 32 ∷ (codes "rport " ++ (decimal r.port ++ behind_blank more))))

ufrag_shape : (u : Option (List ℕ)) → maybe_text (codes " ufrag ") u ≡ behind_blank (ufrag_tail u)
ufrag_shape None = refl
ufrag_shape (Some w) = ap (λ t. codes " ufrag " ++ t) (sym (append-nil w))

tcp_shape : (t : Option TcpType) (more : Option (List ℕ))
    → maybe_text (codes " tcptype ") (option_map tcp_type_text t) ++ behind_blank more ≡ behind_blank (tcp_tail t more)
tcp_shape None more = refl
tcp_shape (Some t) more = append_assoc (codes " tcptype ") (tcp_type_text t) (behind_blank more)

related_shape : (r : Option RelatedAddress) (more : Option (List ℕ))
    → maybe_text (codes " raddr ") (option_map related_text r) ++ behind_blank more ≡ behind_blank (related_tail r more)
related_shape None more = refl
related_shape (Some r) more =
    ap (λ t. codes " raddr " ++ t) (append_assoc r.addr (codes " rport " ++ decimal r.port) (behind_blank more))

abbrev pub tail_of : Candidate → Option (List ℕ)
tail_of c = related_tail c.related (tcp_tail c.tcptype (ufrag_tail c.ufrag))

parts_shape : (c : Candidate) → parts_text c ≡ behind_blank (tail_of c)
parts_shape c =
    ap (λ t. maybe_text (codes " raddr ") (option_map related_text c.related)
    ++ (maybe_text (codes " tcptype ") (option_map tcp_type_text c.tcptype) ++ t)) (ufrag_shape c.ufrag)
    ∙ ap (λ t. maybe_text (codes " raddr ") (option_map related_text c.related) ++ t)
    (tcp_shape c.tcptype (ufrag_tail c.ufrag))
    ∙ related_shape c.related (tcp_tail c.tcptype (ufrag_tail c.ufrag))

-- the fields after the kind
related_there : (r : RelatedAddress) (more : Option (List ℕ)) → IsRelatedOfWords r
    → related_in (r.addr ++ 32 ∷ (codes "rport " ++ (decimal r.port ++ behind_blank more))) ≡ Some (r, more)
unfolding related_in
related_there r more h =
    let port = halves-blank (decimal r.port) more (Lacks-decimal 32 r.port (lit< tt) (omega (h.1, arith))) in
    then _ _ _ _ (split_first-at 32 r.addr (codes "rport " ++ (decimal r.port ++ behind_blank more)) h.0.1)
    (then _ _ _ _ (text_some r.addr h.0.0)
    (then _ _ _ _ (ap (λ x. number_below (2 ^ 16) x.0) port ∙ number_below-decimal (2 ^ 16) r.port h.1 (lit≤ tt))
    (ap (λ (x : List ℕ × Option (List ℕ)). Some (record { addr = r.addr; port = r.port }, x.1)) port)))

related_none : (t : Option TcpType) (u : Option (List ℕ))
    → related_field (tcp_tail t (ufrag_tail u)) ≡ Some (None, tcp_tail t (ufrag_tail u))
related_none None None = refl
related_none None (Some w) = refl
related_none (Some t) u = refl

related_read : (r : Option RelatedAddress) (t : Option TcpType) (u : Option (List ℕ)) → IfSome r IsRelatedOfWords
    → related_field (related_tail r (tcp_tail t (ufrag_tail u))) ≡ Some (r, tcp_tail t (ufrag_tail u))
related_read None t u h = related_none t u
related_read (Some r) t u h =
    then _ _ _ _ (related_there r (tcp_tail t (ufrag_tail u)) h) refl

tcp_none : (u : Option (List ℕ)) → field (codes "tcptype ") (ufrag_tail u) ≡ Some (None, ufrag_tail u)
tcp_none None = refl
tcp_none (Some w) = refl

tcp_word : (t : TcpType) → (tcp_type_text t ≢ []) × Lacks 32 (tcp_type_text t)
tcp_word Active = (λ e. cc, lacks 32 (codes "active") refl)
tcp_word Passive = (λ e. cc, lacks 32 (codes "passive") refl)
tcp_word So = (λ e. cc, lacks 32 (codes "so") refl)

tcp_read : (t : Option TcpType) (u : Option (List ℕ))
    → field (codes "tcptype ") (tcp_tail t (ufrag_tail u)) ≡ Some (option_map tcp_type_text t, ufrag_tail u)
tcp_read None u = tcp_none u
tcp_read (Some t) u = let w = tcp_word t in field_there (codes "tcptype ") (tcp_type_text t) (ufrag_tail u) w.0 w.1

tcp_back : (t : Option TcpType) → maybe tcptype_word (option_map tcp_type_text t) ≡ Some t
tcp_back None = refl
tcp_back (Some Active) = refl
tcp_back (Some Passive) = refl
tcp_back (Some So) = refl

generation_none : (u : Option (List ℕ)) → field (codes "generation ") (ufrag_tail u) ≡ Some (None, ufrag_tail u)
generation_none None = refl
generation_none (Some w) = refl

network_none : (u : Option (List ℕ)) → field (codes "network-id ") (ufrag_tail u) ≡ Some (None, ufrag_tail u)
network_none None = refl
network_none (Some w) = refl

ufrag_read : (u : Option (List ℕ)) → IfSome u IsOneWord → field (codes "ufrag ") (ufrag_tail u) ≡ Some (u, None)
ufrag_read None h = refl
ufrag_read (Some w) h = field_there (codes "ufrag ") w None h.0 h.1

tcp_field_read : (t : Option TcpType) (u : Option (List ℕ))
    → tcptype_field (tcp_tail t (ufrag_tail u)) ≡ Some (t, ufrag_tail u)
unfolding tcptype_field
tcp_field_read t u = then _ _ _ _ (tcp_read t u) (then _ _ _ _ (tcp_back t) refl)

ufrag_field_read : (u : Option (List ℕ)) → IfSome u IsOneWord → ufrag_field (ufrag_tail u) ≡ Some u
unfolding ufrag_field
ufrag_field_read u h =
    then _ _ _ _ (generation_none u)
    (then _ _ _ _ (network_none u)
    (then _ _ _ _ (ufrag_read u h) refl))

fields_read : (r : Option RelatedAddress) (t : Option TcpType) (u : Option (List ℕ)) → IfSome r IsRelatedOfWords
    → IfSome u IsOneWord → candidate_fields (related_tail r (tcp_tail t (ufrag_tail u)))
    ≡ Some (record { related = r; tcptype = t; ufrag = u })
unfolding candidate_fields
fields_read r t u related ufrag =
    then _ _ _ _ (related_read r t u related)
    (then _ _ _ _ (tcp_field_read t u)
    (then _ _ _ _ (ufrag_field_read u ufrag) refl))

-- words that stand for a choice
protocol_back : (p : Protocol) → (protocol_word (protocol_text p) ≡ Some p) × Lacks 32 (protocol_text p)
protocol_back Udp = (refl, lacks 32 (codes "udp") refl)
protocol_back Tcp = (refl, lacks 32 (codes "tcp") refl)
protocol_back SslTcp = (refl, lacks 32 (codes "ssltcp") refl)
protocol_back Tls = (refl, lacks 32 (codes "tls") refl)

kind_back : (k : CandidateKind) → (kind_word (kind_text k) ≡ Some k) × Lacks 32 (kind_text k)
kind_back Host = (refl, lacks 32 (codes "host") refl)
kind_back PeerReflexive = (refl, lacks 32 (codes "prflx") refl)
kind_back ServerReflexive = (refl, lacks 32 (codes "srflx") refl)
kind_back Relayed = (refl, lacks 32 (codes "relay") refl)

-- what follows `candidate:`
abbrev pub place_text : Candidate → List ℕ → List ℕ
place_text c tail = c.addr ++ 32 ∷ (decimal c.port ++ 32 ∷ (codes "typ " ++ (kind_text c.kind ++ tail)))

abbrev pub carrier_text : Candidate → List ℕ → List ℕ
carrier_text c tail = protocol_text c.proto ++ 32 ∷ (decimal c.prio ++ 32 ∷ place_text c tail)

abbrev pub body_text : Candidate → List ℕ → List ℕ
body_text c tail = c.foundation ++ 32 ∷ (decimal c.component_id ++ 32 ∷ carrier_text c tail)

base_read : (c : Candidate) (tail : List ℕ) → IsOneWord c.foundation → c.component_id < 2 ^ 16
    → candidate_base (body_text c tail) ≡ Some (c.foundation, c.component_id, carrier_text c tail)
unfolding candidate_base
base_read c tail h small =
    then _ _ _ _ (split_first-at 32 c.foundation (decimal c.component_id ++ 32 ∷ carrier_text c tail) h.1)
    (then _ _ _ _ (text_some c.foundation h.0)
    (then _ _ _ _ (split_first-at 32 (decimal c.component_id) (carrier_text c tail)
    (Lacks-decimal 32 c.component_id (lit< tt) (omega (small, arith))))
    (then _ _ _ _ (number_below-decimal (2 ^ 16) c.component_id small (lit≤ tt)) refl)))

carrier_read : (c : Candidate) (tail : List ℕ) → c.prio < 2 ^ 32
    → candidate_carrier (carrier_text c tail) ≡ Some (c.proto, c.prio, place_text c tail)
unfolding candidate_carrier
carrier_read c tail small =
    then _ _ _ _ (split_first-at 32 (protocol_text c.proto) (decimal c.prio ++ 32 ∷ place_text c tail)
    (protocol_back c.proto).1)
    (then _ _ _ _ (protocol_back c.proto).0
    (then _ _ _ _ (split_first-at 32 (decimal c.prio) (place_text c tail)
    (Lacks-decimal 32 c.prio (lit< tt) (omega (small, arith))))
    (then _ _ _ _ (number_below-decimal (2 ^ 32) c.prio small (lit≤ tt)) refl)))

place_read : (c : Candidate) (tail : List ℕ) → IsOneWord c.addr → c.port < 2 ^ 16
    → candidate_place (place_text c tail) ≡ Some (c.addr, c.port, kind_text c.kind ++ tail)
unfolding candidate_place
place_read c tail h small =
    then _ _ _ _ (split_first-at 32 c.addr (decimal c.port ++ 32 ∷ (codes "typ " ++ (kind_text c.kind ++ tail))) h.1)
    (then _ _ _ _ (text_some c.addr h.0)
    (then _ _ _ _ (split_first-at 32 (decimal c.port) (codes "typ " ++ (kind_text c.kind ++ tail))
    (Lacks-decimal 32 c.port (lit< tt) (omega (small, arith))))
    (then _ _ _ _ (number_below-decimal (2 ^ 16) c.port small (lit≤ tt)) refl)))

body_read : (c : Candidate) → IsOfWords c
    → candidate (body_text c (behind_blank (tail_of c))) ≡ Some c
unfolding candidate
body_read c h =
    let tail = behind_blank (tail_of c) in
    let kind = halves-blank (kind_text c.kind) (tail_of c) (kind_back c.kind).1 in
    then _ _ _ _ (base_read c tail h.0 h.1)
    (then _ _ _ _ (carrier_read c tail h.2)
    (then _ _ _ _ (place_read c tail h.3 h.4)
    (then _ _ _ _ (ap (λ (x : List ℕ × Option (List ℕ)). kind_word x.0) kind ∙ (kind_back c.kind).0)
    (then _ _ _ _ (ap (λ (x : List ℕ × Option (List ℕ)). candidate_fields x.1) kind
    ∙ fields_read c.related c.tcptype c.ufrag h.5 h.6) refl))))

-- the text of a candidate, after its name
pub candidate_body : Candidate → List ℕ
candidate_body c = body_text c (behind_blank (tail_of c))

pub candidate_named : (c : Candidate) → named (codes "a=") (candidate_text c)
    ≡ named (codes "a=candidate:") (candidate_body c)
unfolding candidate_text candidate_body
candidate_named c = ap (λ t. named (codes "a=candidate:") (body_text c t)) (parts_shape c)

pub candidate_read : (c : Candidate) → IsOfWords c → candidate (candidate_body c) ≡ Some c
unfolding candidate_body
candidate_read c h = body_read c h

pub candidate_spelled : (c : Candidate) → candidate_text c ≡ codes "candidate:" ++ candidate_body c
unfolding candidate_text candidate_body
candidate_spelled c = ap (λ t. codes "candidate:" ++ body_text c t) (parts_shape c)

-- no end of a line is in it
abbrev pub all_above : List ℕ → Bool
all_above [] = true
all_above (x ∷ xs) = nat_lt 31 x && all_above xs

above_two : (x b : ℕ) (more : Bool) → b < 32 → (nat_lt 31 x && more) ≡ true → (x ≢ b) × (more ≡ true)
above_two x b more low h = (λ e. grind (arith, nat_tests), grind (arith, nat_tests))

pub lacks_above : (b : ℕ) (t : List ℕ) → b < 32 → all_above t ≡ true → Lacks b t
lacks_above b [] low h = tt
lacks_above b (x ∷ t) low h = let two = above_two x b (all_above t) low h in (two.0, lacks_above b t low two.1)

abbrev pub LacksWords : ℕ → Type 0
LacksWords b = (w : List ℕ) → IsWord w → Lacks b w

lacks_ufrag : (b : ℕ) (u : Option (List ℕ)) → b < 32 → LacksWords b → IfSome u IsWord
    → Lacks b (behind_blank (ufrag_tail u))
lacks_ufrag b None low each h = tt
lacks_ufrag b (Some w) low each h =
    lacks_both b (codes " ufrag ") (w ++ []) (lacks_above b (codes " ufrag ") low refl)
    (lacks_both b w [] (each w h) tt)

tcp_above : (t : TcpType) → all_above (tcp_type_text t) ≡ true
tcp_above Active = refl
tcp_above Passive = refl
tcp_above So = refl

lacks_tcp : (b : ℕ) (t : Option TcpType) (more : Option (List ℕ)) → b < 32 → Lacks b (behind_blank more)
    → Lacks b (behind_blank (tcp_tail t more))
lacks_tcp b None more low h = h
lacks_tcp b (Some t) more low h =
    lacks_both b (codes " tcptype ") (tcp_type_text t ++ behind_blank more)
    (lacks_above b (codes " tcptype ") low refl)
    (lacks_both b (tcp_type_text t) (behind_blank more) (lacks_above b (tcp_type_text t) low (tcp_above t)) h)

lacks_related : (b : ℕ) (r : Option RelatedAddress) (more : Option (List ℕ)) → b < 32 → LacksWords b
    → IfSome r IsPrintableRelated → Lacks b (behind_blank more) → Lacks b (behind_blank (related_tail r more))
lacks_related b None more low each h k = k
lacks_related b (Some r) more low each h k =
    lacks_both b (codes " raddr ") (r.addr ++ 32 ∷ (codes "rport " ++ (decimal r.port ++ behind_blank more)))
    (lacks_above b (codes " raddr ") low refl)
    (lacks_two b 32 r.addr (codes "rport " ++ (decimal r.port ++ behind_blank more)) (each r.addr h.0) (omega
    (low, arith))
    (lacks_both b (codes "rport ") (decimal r.port ++ behind_blank more) (lacks_above b (codes "rport ") low refl)
    (lacks_both b (decimal r.port) (behind_blank more)
    (Lacks-decimal b r.port (omega (low, arith)) (omega (h.1, arith))) k)))

protocol_above : (p : Protocol) → all_above (protocol_text p) ≡ true
protocol_above Udp = refl
protocol_above Tcp = refl
protocol_above SslTcp = refl
protocol_above Tls = refl

kind_above : (k : CandidateKind) → all_above (kind_text k) ≡ true
kind_above Host = refl
kind_above PeerReflexive = refl
kind_above ServerReflexive = refl
kind_above Relayed = refl

pub lacks_candidate : (b : ℕ) (c : Candidate) → b < 32 → LacksWords b → IsPrintableCandidate c
    → Lacks b (candidate_body c)
unfolding candidate_body
lacks_candidate b c low each h =
    let tail = behind_blank (tail_of c) in
    let other : 32 ≡ b → ⊥ = (λ e. omega (e, low, arith)) in
    let fields = lacks_related b c.related (tcp_tail c.tcptype (ufrag_tail c.ufrag)) low each h.5
    (lacks_tcp b c.tcptype (ufrag_tail c.ufrag) low (lacks_ufrag b c.ufrag low each h.6)) in
    let kind = lacks_both b (codes "typ ") (kind_text c.kind ++ tail) (lacks_above b (codes "typ ") low refl)
    (lacks_both b (kind_text c.kind) tail (lacks_above b (kind_text c.kind) low (kind_above c.kind)) fields) in
    let place = lacks_two b 32 c.addr (decimal c.port ++ 32 ∷ (codes "typ " ++ (kind_text c.kind ++ tail)))
    (each c.addr h.3) other
    (lacks_two b 32 (decimal c.port) (codes "typ " ++ (kind_text c.kind ++ tail))
    (Lacks-decimal b c.port (omega (low, arith)) (omega (h.4, arith))) other kind) in
    lacks_two b 32 c.foundation (decimal c.component_id ++ 32 ∷ (protocol_text c.proto
    ++ 32 ∷ (decimal c.prio ++ 32 ∷ place_text c tail))) (each c.foundation h.0) other
    (lacks_two b 32 (decimal c.component_id) (protocol_text c.proto ++ 32 ∷ (decimal c.prio ++ 32 ∷ place_text c tail))
    (Lacks-decimal b c.component_id (omega (low, arith)) (omega (h.1, arith))) other
    (lacks_two b 32 (protocol_text c.proto) (decimal c.prio ++ 32 ∷ place_text c tail)
    (lacks_above b (protocol_text c.proto) low (protocol_above c.proto)) other
    (lacks_two b 32 (decimal c.prio) (place_text c tail)
    (Lacks-decimal b c.prio (omega (low, arith)) (omega (h.2, arith))) other place)))

pub feed : LacksWords 10
feed = λ w h. h.0.1

pub return : LacksWords 13
return = λ w h. h.0.2
