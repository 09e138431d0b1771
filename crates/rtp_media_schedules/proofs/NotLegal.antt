-- Units that are handed out against their order, or in part.
use Rattle.std.proofs.Common.{◌≡◌, ◌≢◌, ◌<◌, ◌≤◌, ◌∙◌, ℕ, zero, suc, List, [], ◌∷◌, Ok, Err, Some, length, drop, sym}
use Rattle.std.proofs.Common.{ap, arith}
use Rattle.payload_core_base.specs.declared.error.PacketError.{PacketError}
use Rattle.payload_core_base.specs.Law.{joined}
use Rattle.payload_core_buffer.specs.Steps.{Answer, MediaUnit}
use Rattle.rtp_media_schedules.specs.Legal.{IsFinalRunOf, IsLegal, PassedOver, HandedOut}
use Rattle.rtp_media_schedules.specs.Sending.{Canonical}

nothing-left : (u : MediaUnit) (os : List Answer) → IsLegal [] (Ok (Some u) ∷ os) → ⊥
nothing-left u os legal = elim legal [ ]

only : {c : Canonical} {u : MediaUnit} → IsLegal (c ∷ []) (Ok (Some u) ∷ []) → IsFinalRunOf c u
only (HandedOut is rest) = is
only (PassedOver rest) = absurd (nothing-left _ _ rest)

pub out-of-order : (c d : Canonical) (u v : MediaUnit) → c.end ≤ d.first → d.first ≤ u.first → v.last < c.end
    → IsLegal (c ∷ d ∷ []) (Ok (Some u) ∷ Ok (Some v) ∷ []) → ⊥
out-of-order c d u v apart late early (HandedOut is rest) =
    let from = is.in_order in
    let end = is.within in
    absurd (omega arith)
out-of-order c d u v apart late early (PassedOver (HandedOut is rest)) = nothing-left v [] rest
out-of-order c d u v apart late early (PassedOver (PassedOver rest)) = nothing-left u _ rest

pub of-two-samples : (c d : Canonical) (u : MediaUnit) → c.end ≤ d.first → u.first < c.end → c.end ≤ u.last
    → IsLegal (c ∷ d ∷ []) (Ok (Some u) ∷ []) → ⊥
of-two-samples c d u apart begins ends (HandedOut is rest) =
    let end = is.within in
    absurd (omega arith)
of-two-samples c d u apart begins ends (PassedOver rest) =
    let from = (only rest).from in
    absurd (omega arith)

ends-otherwise : (front end part : ℕ) → front ≢ end → part < 2
    → front ∷ [] ≡ joined (drop part ((front ∷ []) ∷ (end ∷ []) ∷ [])) → ⊥
ends-otherwise front end zero other within e =
    let lengths : length (front ∷ []) ≡ length (front ∷ end ∷ []) = ap length e in
    absurd (omega arith)
ends-otherwise front end (suc zero) other within e =
    let same : front ≡ end = cc in
    other same
ends-otherwise front end (suc (suc part)) other within e = absurd (omega arith)

pub without-its-end : (c : Canonical) (u : MediaUnit) (front end : ℕ) → front ≢ end
    → c.parts ≡ (front ∷ []) ∷ (end ∷ []) ∷ [] → u.bytes ≡ front ∷ []
    → IsLegal (c ∷ []) (Ok (Some u) ∷ []) → ⊥
without-its-end c u front end other parts bytes legal =
    let is : IsFinalRunOf c u = only legal in
    let count : length c.parts ≡ 2 = ap length parts in
    let inside : is.part < length c.parts = is.some_part in
    let within : is.part < 2 = omega arith in
    let e : front ∷ [] ≡ joined (drop is.part ((front ∷ []) ∷ (end ∷ []) ∷ [])) =
    sym bytes ∙ is.bytes ∙ ap (λ (ps : List (List ℕ)). joined (drop is.part ps)) parts in
    ends-otherwise front end is.part other within e

pub no-fault : (cs : List Canonical) (e : PacketError) (os : List Answer) → IsLegal cs (Err e ∷ os) → ⊥
no-fault [] e os legal = elim legal [ ]
no-fault (c ∷ cs) e os (PassedOver rest) = no-fault cs e os rest
