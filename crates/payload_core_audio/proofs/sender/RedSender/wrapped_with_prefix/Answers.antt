use Rattle.std.proofs.Common.{◌≡◌, ℕ, ◌%◌, List, [], ◌∷◌, ◌++◌, length, map, reverse, take, ap, subst, ◌∙◌}
use Rattle.std.proofs.Common.{append_assoc}
use Rattle.std.proofs.Common.{arith}
use Rattle.std.specs.Prelude.{flat_map}
use Rattle.payload_core_audio.specs.Red.{Block, header, spelled}
use Rattle.payload_core_audio.specs.RedHistory.{Kept, Redundancy, kept_of}
use Rattle.payload_core_audio.specs.RedSending.{masked}
use Rattle.payload_core_audio.specs.RedWrapping.{IsLongestPrefix, IsWrapWith, levels}
use Rattle.payload_core_audio.specs.declared.history.KeptPayload.{KeptPayload}
use Rattle.payload_core_audio.proofs.RepeatLemmas.{first-wrapped}
use Rattle.payload_core_audio.proofs.sender.RedSender.wrapped_with_prefix.Goals as goal

-- the parts of a packet one after the other
in-parts : (prefix headers payloads primary : List ℕ) (pt : ℕ)
    → (((prefix ++ headers) ++ pt ∷ []) ++ payloads) ++ primary ≡ prefix ++ (headers ++ (pt ∷ (payloads ++ primary)))
in-parts prefix headers payloads primary pt =
    ap (λ xs. (xs ++ payloads) ++ primary) (append_assoc prefix headers (pt ∷ []))
    ∙ ap (λ xs. xs ++ primary) (append_assoc prefix (headers ++ pt ∷ []) payloads)
    ∙ append_assoc prefix ((headers ++ pt ∷ []) ++ payloads) primary
    ∙ ap (λ xs. prefix ++ (xs ++ primary)) (append_assoc headers (pt ∷ []) payloads)
    ∙ ap (λ xs. prefix ++ xs) (append_assoc headers (pt ∷ payloads) primary)

pub returns : goal.returns
returns c =
    let prefix : List ℕ = c.args.prefix.now in
    let payload : List ℕ = c.args.payload.now in
    let time : ℕ = c.args.time in
    let pt : ℕ = c.args.pt % 128 in
    let n : ℕ = c.reach-count.result.0 in
    let kept : List KeptPayload = c.self.inside.history.items in
    let h : List Kept = map kept_of kept in
    let ds : List ℕ = c.self.inside.distances.items in
    let ByHistory : List KeptPayload → Type 0 = λ ks. IsLongestPrefix c.args.budget (length payload)
    (levels (map kept_of ks) c.deref-2.result.now time)
    (length (levels (map kept_of ks) (take n c.deref-2.result.now) time)) in
    let ByDistances : List ℕ → Type 0 = λ xs. IsLongestPrefix c.args.budget (length payload) (levels h xs time)
    (length (levels h (take n xs) time)) in
    let longest = subst ByDistances c.deref-2.ensures.value
    (subst ByHistory c.deref.ensures.value c.reach-count.ensures.longest) in
    let part : (Block → List ℕ) → List KeptPayload → List ℕ → List ℕ = λ f ks xs. flat_map f
    (map masked (reverse (levels (map kept_of ks) (take n xs) time))) in
    let headers : List ℕ = part header kept ds in
    let payloads : List ℕ = part (λ b. b.payload) kept ds in
    let with_headers : c.push_headers.new.packet.items ≡ prefix ++ headers =
    c.in_ok-push_headers.ensures
    ∙ ap (λ xs. xs ++ part header c.deref-4.result.now c.deref-3.result.now) (c.in_ok-extend_from_slice.ensures.items
    ∙ ap (λ xs. xs ++ prefix) c.in_ok-packet.ensures.items)
    ∙ (λ i. prefix ++ part header (c.deref-4.ensures.value i) (c.deref-3.ensures.value i)) in
    let with_payloads : c.push_payloads.new.packet.items ≡ ((prefix ++ headers) ++ pt ∷ []) ++ payloads =
    c.in_ok-push_payloads.ensures
    ∙ ap (λ xs. xs ++ part (λ b. b.payload) c.deref-5.result.now c.deref-3.result.now) (c.in_ok-push.ensures.items
    ∙ ap (λ xs. xs ++ pt ∷ []) with_headers)
    ∙ (λ i. ((prefix ++ headers) ++ pt ∷ []) ++ part (λ b. b.payload) (c.deref-5.ensures.value i)
    (c.deref-3.ensures.value i)) in
    let P : Redundancy → Type 0 = λ r. IsWrapWith prefix r c.args.pt payload time c.args.budget
    c.extend_from_slice-2.new.self.items in
    subst P c.self.view_is (record {
      sent = spelled (map masked (reverse (levels h (take n ds) time))) pt payload;
      is_wrap = record {
        wrapped = λ le. first-wrapped h ds time c.args.pt c.args.budget n payload c.self.invariant longest;
        unwrapped = λ lt. absurd (omega (arith, lt, c.if-payload-budget.false));
      };
      packet_is = c.in_ok-extend_from_slice-2.ensures.items ∙ ap (λ xs. xs ++ payload) with_payloads
          ∙ in-parts prefix headers payloads payload pt;
    })
