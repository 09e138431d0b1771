-- What is known of packets that are sent one after the other.
use Rattle.std.proofs.Common.{◌≡◌, ℕ, zero, suc, ◌+◌, ◌-◌, ◌<◌, Bool, false, eqb, List, [], ◌∷◌, ◌++◌, take, drop}
use Rattle.std.proofs.Common.{length, get_or, refl, sym, ap, subst, ◌∙◌, arith}
use Rattle.std.proofs.lemmas.Bool.{eq-eqb, ne_eqb}
use Rattle.std.proofs.lemmas.List.{get_or-map, length-drop, take_more}
use Rattle.payload_core_base.specs.Outgoing.{Outgoing, TakesAll, all_outgoing, outgoing}
use Rattle.payload_core_base.specs.Packing.{MarkedPacket, Packing, is_none_left, marked}
use Rattle.payload_core_base.specs.Sending.{outgoing_from}
use Rattle.rtp_wire.specs.declared.values.ExtensionValues.{ExtensionValues}

-- one payload more
pub takes_more : {S : Type 0} (takes : S → Outgoing → S → Type 0) (old : S) (os : List Outgoing) (o : Outgoing)
    (mid new : S) → TakesAll takes old os mid → takes mid o new → TakesAll takes old (os ++ o ∷ []) new
takes_more {S} takes old [] o mid new all one = let P : S → Type 0 = λ s. takes s o new in (new, subst P all one, refl)
takes_more takes old (p ∷ os) o mid new all one = (all.0, all.1, takes_more takes all.0 os o mid new all.2 one)

last_by : (rest : List (List ℕ)) (i n : ℕ) → i < n → length rest ≡ n - (i + 1) → eqb (i + 1) n ≡ is_none_left rest
last_by [] i n lt e = eq-eqb (i + 1) n (omega arith)
last_by (p ∷ ps) i n lt e = ne_eqb (i + 1) n (λ same. absurd (omega arith))

-- whether a packet is the last
pub last_is : (ps : List (List ℕ)) (i : ℕ) → i < length ps → eqb (i + 1) (length ps) ≡ is_none_left (drop (i + 1) ps)
last_is ps i lt = last_by (drop (i + 1) ps) i (length ps) lt (length-drop (i + 1) ps)

no_packet : MarkedPacket
no_packet = record { payload = []; marker = false }

pub marked_at : (packing : Packing) (ps : List (List ℕ)) (i : ℕ) (d : MarkedPacket) → i < length ps
    → get_or (marked packing ps) i d ≡ record
    { payload = get_or ps i []; marker = packing.marks (get_or ps i []) (is_none_left (drop (i + 1) ps)) }
marked_at packing [] i d lt = absurd (omega arith)
marked_at packing (p ∷ ps) zero d lt = refl
marked_at packing (p ∷ ps) (suc i) d lt =
    let next : suc i + 1 ≡ suc (i + 1) = omega arith in
    marked_at packing ps i d (omega arith) ∙ ap
    (λ n. record {
      payload = get_or ps i [];
      marker =
          packing.marks (get_or ps i []) (is_none_left (drop n (p ∷ ps)));
    }) (sym next)

pub length-marked : (packing : Packing) (ps : List (List ℕ)) → length (marked packing ps) ≡ length ps
length-marked packing [] = refl
length-marked packing (p ∷ ps) = ap suc (length-marked packing ps)

length-outgoing : (ms : List MarkedPacket) (time : ℕ) (values : ExtensionValues)
    → length (all_outgoing ms time values) ≡ length ms
length-outgoing [] time values = refl
length-outgoing (m ∷ ms) time values = ap suc (length-outgoing ms time values)

-- what goes out up to one packet more
pub outgoing_more : (packing : Packing) (ps : List (List ℕ)) (time : ℕ) (values : ExtensionValues) (i : ℕ)
    (payload : List ℕ) (last : Bool) → i < length ps → payload ≡ get_or ps i [] → last ≡ eqb (i + 1) (length ps)
    → take (i + 1) (outgoing_from packing ps time values) ≡ take i (outgoing_from packing ps time values)
    ++ outgoing payload (packing.marks payload last) time values ∷ []
outgoing_more packing ps time values i payload last lt is is_last =
    let all : List Outgoing = outgoing_from packing ps time values in
    let o : Outgoing = outgoing payload (packing.marks payload last) time values in
    let out : MarkedPacket → Outgoing = λ m. outgoing m.payload m.marker time values in
    let long : i < length (marked packing ps) = omega (arith, length-marked packing ps) in
    let longer : i < length all = omega (arith, length-outgoing (marked packing ps) time values) in
    let here : get_or all i o ≡ o =
    get_or-map out (marked packing ps) i no_packet o long
    ∙ ap out (marked_at packing ps i no_packet lt)
    ∙ ap (λ p. outgoing p (packing.marks p (is_none_left (drop (i + 1) ps))) time values) (sym is)
    ∙ ap (λ b. outgoing payload (packing.marks payload b) time values) (sym (last_is ps i lt) ∙ sym is_last) in
    take_more all i o longer ∙ ap (λ p. take i all ++ p ∷ []) here

pub length-outgoing_from : (packing : Packing) (ps : List (List ℕ)) (time : ℕ) (values : ExtensionValues)
    → length (outgoing_from packing ps time values) ≡ length ps
length-outgoing_from packing ps time values = length-outgoing (marked packing ps) time values ∙ length-marked packing ps
