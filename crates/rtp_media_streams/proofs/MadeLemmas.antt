-- Datagrams of packets that were made after a header.
use Rattle.std.proofs.Common.{◌≡◌, ℕ, zero, suc, ◌<◌, ◌+◌, ◌-◌, ◌*◌, ◌%◌, refl, sym, ap, ap₂, ◌∙◌, arith, Bool, false}
use Rattle.std.proofs.Common.{eqb, List, [], ◌∷◌, ◌++◌, drop, take}
use Rattle.std.proofs.Common.{get_or, length, append_assoc, length-append}
use Rattle.std.specs.Prelude.{Result, Ok, Err, slice_index}
use Rattle.std.specs.Int.{w16, to_be_bytes}
use Rattle.std.proofs.lemmas.Bool.{eq-eqb, ne_eqb}
use Rattle.std.proofs.lemmas.List.{length-drop, take_all}
use Rattle.payload_core_audio.specs.RedHistory.{Redundancy, keeping}
use Rattle.payload_core_audio.specs.RedWrapping.{IsWrapWith}
use Rattle.payload_core_base.proofs.SendingLemmas.{last_is}
use Rattle.rtp_media_streams.specs.Redundant.{kept_after, wrapped, wraps}
use Rattle.rtp_media_streams.proofs.Wrapping.{wrap-is}
use Rattle.rtp_wire.specs.Layout.{bit}
use Rattle.std.proofs.Math.Seq.{drop-append_seam}
use Rattle.payload_core_base.specs.Outgoing.{Outgoing, outgoing}
use Rattle.payload_core_base.specs.Packing.{Packing, Sender, Sent, SendsWith, is_none_left, with_prefix}
use Rattle.payload_core_base.specs.Sending.{outgoing_from}
use Rattle.payload_core_base.specs.declared.error.PacketError.{PacketError}
use Rattle.rtp_wire.specs.declared.values.ExtensionValues.{ExtensionValues}
use Rattle.rtp_media_streams.specs.Made.{IsMade, datagram_with, datagrams_with, header_with, numbered, without_prefix}
use Rattle.rtp_media_streams.specs.declared.stamp.Stamp.{Stamp}

-- what is after a prefix
pub prefix-gone : (prefix : List ℕ) (packets : List (List ℕ)) → without_prefix prefix (with_prefix prefix packets)
    ≡ packets
prefix-gone prefix [] = refl
prefix-gone prefix (p ∷ ps) = ap₂ (λ (q : List ℕ) (qs : List (List ℕ)). q ∷ qs) (drop-append_seam prefix p)
    (prefix-gone prefix ps)

-- packets that a packetizer put after a prefix
pub are-prefixed : (prefix : List ℕ) (sent : Result Sent PacketError) (packets : List (List ℕ)) (sender : Sender)
    → SendsWith prefix sent packets sender → packets ≡ with_prefix prefix (without_prefix prefix packets)
are-prefixed prefix (Ok sent) packets sender sends =
    sends.0 ∙ ap (with_prefix prefix) (sym (prefix-gone prefix sent.packets))
    ∙ ap (λ (ps : List (List ℕ)). with_prefix prefix (without_prefix prefix ps)) (sym sends.0)
are-prefixed prefix (Err e) packets sender sends = absurd sends

pub made-of : (stamp : Stamp) (number : ℕ) (packing packing' : Packing) (prefix : List ℕ)
    (sent : Result Sent PacketError) (packets : List (List ℕ)) (sender after : Sender) (time : ℕ)
    (values : ExtensionValues) (datagrams : List (List ℕ)) → SendsWith prefix sent packets sender
    → packing' ≡ packing → after ≡ sender
    → datagrams ≡ datagrams_with stamp number (outgoing_from packing' (without_prefix prefix packets) time values)
    → IsMade stamp number packing sent time values datagrams after
made-of stamp number packing packing' prefix (Ok sent) packets sender after time values datagrams sends stays same
    made = (
      made ∙ ap₂ (λ (k : Packing) (ps : List (List ℕ)). datagrams_with stamp number (outgoing_from k ps time
          values)) stays
          (ap (without_prefix prefix) sends.0 ∙ prefix-gone prefix sent.packets),
      same ∙ sends.1,
    )
made-of stamp number packing packing' prefix (Err e) packets sender after time values datagrams sends stays same made =
    absurd sends

-- a slice up to the end
pub slice-to-end : (n : ℕ) (bytes : List ℕ) → take (length bytes - n) (drop n bytes) ≡ drop n bytes
slice-to-end n bytes = take_all (length bytes - n) (drop n bytes) (omega (arith, length-drop n bytes))

-- another number and marker in the header
numbered-header : (stamp : Stamp) (number : ℕ) (marker : Bool) (time : ℕ) (values : ExtensionValues)
    (payload : List ℕ) → numbered number marker (header_with stamp 0 false time values ++ payload)
    ≡ header_with stamp number marker time values ++ payload
numbered-header stamp number marker time values payload =
    let bytes : List ℕ = header_with stamp 0 false time values ++ payload in
    let pt : slice_index bytes 1 ≡ stamp.pt = omega arith in
    ap (λ (k : ℕ). slice_index bytes 0 ∷ (128 * bit marker + k) ∷ to_be_bytes w16 (number % 65536) ++ drop 4 bytes) pt

-- whether no packet is left, by their count
pub none-left : (prefix : List ℕ) (rest : List (List ℕ)) (done count : ℕ) → done + suc (length rest) ≡ count
    → eqb (done + 1) count ≡ is_none_left (without_prefix prefix rest)
none-left prefix [] done count e = eq-eqb (done + 1) count (omega arith)
none-left prefix (p ∷ ps) done count e = ne_eqb (done + 1) count (λ same. absurd (omega arith))

head-of : (p q : List ℕ) (ps qs : List (List ℕ)) → p ∷ ps ≡ q ∷ qs → p ≡ q
head-of p q ps qs e = ap (λ (xs : List (List ℕ)). get_or xs 0 []) e

pub tail-of : (p q : List ℕ) (ps qs : List (List ℕ)) → p ∷ ps ≡ q ∷ qs → ps ≡ qs
tail-of p q ps qs e = ap (λ (xs : List (List ℕ)). drop 1 xs) e

-- one datagram more
pub one-more : (stamp : Stamp) (first : ℕ) (packing : Packing) (time : ℕ) (values : ExtensionValues)
    (header : List ℕ) (done total : List (List ℕ)) (p : List ℕ) (rest : List (List ℕ)) (last : Bool)
    → header ≡ header_with stamp 0 false time values
    → p ∷ rest ≡ with_prefix header (without_prefix header (p ∷ rest))
    → last ≡ is_none_left (without_prefix header rest)
    → done ++ datagrams_with stamp (first + length done)
    (outgoing_from packing (without_prefix header (p ∷ rest)) time values) ≡ total
    → let d : List ℕ = numbered (first + length done) (packing.marks (drop (length header) p) last) p in
    (done ++ d ∷ []) ++ datagrams_with stamp (first + length (done ++ d ∷ []))
    (outgoing_from packing (without_prefix header rest) time values) ≡ total
one-more stamp first packing time values header done total p rest last is prefixed is-last made =
    let payload : List ℕ = drop (length header) p in
    let number : ℕ = first + length done in
    let marker : Bool = packing.marks payload (is_none_left (without_prefix header rest)) in
    let left : List Outgoing = outgoing_from packing (without_prefix header rest) time values in
    let whole : p ≡ header_with stamp 0 false time values ++ payload =
    head-of p _ rest _ prefixed ∙ ap (λ (h : List ℕ). h ++ payload) is in
    let d : List ℕ = numbered number (packing.marks payload last) p in
    let there : d ≡ header_with stamp number marker time values ++ payload =
    ap₂ (λ (b : Bool) (q : List ℕ). numbered number (packing.marks payload b) q) is-last whole
    ∙ numbered-header stamp number marker time values payload in
    let next : first + length (done ++ d ∷ []) ≡ number + 1 = omega (arith, length-append done (d ∷ [])) in
    append_assoc done (d ∷ []) _
    ∙ ap₂ (λ (x : List ℕ) (k : ℕ). done ++ x ∷ datagrams_with stamp k left) there next
    ∙ made

-- a payload that was wrapped after the header of its number
pub wrapped-datagram : (stamp : Stamp) (number : ℕ) (marker : Bool) (time : ℕ) (values : ExtensionValues)
    (header packet : List ℕ) (r : Redundancy) (pt : ℕ) (payload : List ℕ) (budget : ℕ)
    → header ≡ header_with stamp number marker time values
    → IsWrapWith header r pt payload time budget packet
    → packet ≡ datagram_with stamp number
    (outgoing (wrapped pt budget r (outgoing payload marker time values)) marker time values)
wrapped-datagram stamp number marker time values header packet r pt payload budget is wraps =
    wraps.packet_is ∙ ap₂ (λ (h p : List ℕ). h ++ p) is
    (wrap-is pt budget r (outgoing payload marker time values) wraps.sent wraps.is_wrap)

-- the payloads from one on
outgoing-at : (packing : Packing) (ps : List (List ℕ)) (time : ℕ) (values : ExtensionValues) (i : ℕ) → i < length ps
    → drop i (outgoing_from packing ps time values) ≡ outgoing (get_or ps i [])
    (packing.marks (get_or ps i []) (is_none_left (drop (i + 1) ps))) time values
    ∷ drop (i + 1) (outgoing_from packing ps time values)
outgoing-at packing [] time values i lt = absurd (omega arith)
outgoing-at packing (p ∷ ps) time values zero lt = refl
outgoing-at packing (p ∷ ps) time values (suc i) lt =
    let next : suc (i + 1) ≡ suc i + 1 = omega arith in
    outgoing-at packing ps time values i (omega arith)
    ∙ ap (λ (n : ℕ). outgoing (get_or ps i []) (packing.marks (get_or ps i []) (is_none_left (drop n (p ∷ ps)))) time
    values ∷ drop n (outgoing_from packing (p ∷ ps) time values)) next

-- one wrapped datagram more
module _ (packing : Packing) (ps : List (List ℕ)) (time : ℕ) (values : ExtensionValues) (i : ℕ)
    (payload : List ℕ) (last marker : Bool) (lt : i < length ps) (is : payload ≡ get_or ps i [])
    (is-last : last ≡ eqb (i + 1) (length ps)) (marks : marker ≡ packing.marks payload last) where
  abbrev all : List Outgoing
  all = outgoing_from packing ps time values

  at : drop i all ≡ outgoing payload marker time values ∷ drop (i + 1) all
  at =
      let there : marker ≡ packing.marks (get_or ps i []) (is_none_left (drop (i + 1) ps)) =
      marks ∙ ap₂ packing.marks is (is-last ∙ last_is ps i lt) in
      outgoing-at packing ps time values i lt
      ∙ ap₂ (λ (x : List ℕ) (m : Bool). outgoing x m time values ∷ drop (i + 1) all) (sym is) (sym there)

  pub one-wrapped : (stamp : Stamp) (first pt budget : ℕ) (r r' : Redundancy) (done total : List (List ℕ))
      (header packet : List ℕ) → header ≡ header_with stamp 0 false time values
      → IsWrapWith header r pt payload time budget packet → r' ≡ keeping r pt payload time
      → done ++ datagrams_with stamp (first + i) (wraps pt budget r (drop i all)) ≡ total
      → (done ++ numbered (first + i) marker packet ∷ [])
      ++ datagrams_with stamp (first + (i + 1)) (wraps pt budget r' (drop (i + 1) all)) ≡ total
  one-wrapped stamp first pt budget r r' done total header packet header-is wrap kept made =
      let o : Outgoing = outgoing payload marker time values in
      let number : ℕ = first + i in
      let next : first + (i + 1) ≡ number + 1 = omega arith in
      let whole : packet ≡ header_with stamp 0 false time values ++ wrapped pt budget r o =
      wrap.packet_is ∙ ap₂ (λ (h p : List ℕ). h ++ p) header-is (wrap-is pt budget r o wrap.sent wrap.is_wrap) in
      let d : numbered number marker packet ≡ header_with stamp number marker time values ++ wrapped pt budget r o =
      ap (numbered number marker) whole ∙ numbered-header stamp number marker time values (wrapped pt budget r o) in
      append_assoc done (numbered number marker packet ∷ []) _
      ∙ ap₂ (λ (x : List ℕ) (n : ℕ). done ++ x ∷ datagrams_with stamp n (wraps pt budget r' (drop (i + 1) all))) d next
      ∙ ap (λ (k : Redundancy). done ++ (header_with stamp number marker time values ++ wrapped pt budget r o)
      ∷ datagrams_with stamp (number + 1) (wraps pt budget k (drop (i + 1) all))) kept
      ∙ ap (λ (os : List Outgoing). done ++ datagrams_with stamp number (wraps pt budget r os)) (sym at)
      ∙ made

  pub one-kept : (pt : ℕ) (r r' : Redundancy) → r' ≡ keeping r pt payload time
      → kept_after pt r' (drop (i + 1) all) ≡ kept_after pt r (drop i all)
  one-kept pt r r' kept = ap (λ (k : Redundancy). kept_after pt k (drop (i + 1) all)) kept
      ∙ ap (kept_after pt r) (sym at)
