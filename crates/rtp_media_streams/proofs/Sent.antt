-- The datagrams of samples.
use Rattle.std.proofs.Common.{◌≡◌, ℕ, zero, suc, ◌+◌, ◌-◌, ◌<◌, ◌≤◌, ◌^◌, refl, sym, ◌∙◌, ap, subst, arith, Bool}
use Rattle.std.proofs.Common.{true, false, List, [], ◌∷◌, ◌++◌, length, length-append}
use Rattle.std.proofs.lemmas.Bool.Decides.{nat_tests}
use Rattle.std.specs.Prelude.{Option, Some, None, if◌then◌else◌, nat_lt, nat_le, is_none, ◌||◌, slice_index_or}
use Rattle.rtp_wire.specs.Time.{Time, checked_rebased}
use Rattle.rtp_wire.specs.Carried.{AreValues}
use Rattle.rtp_wire.specs.Header.{spelled, two_byte_length, header_in, image, payload_in, IsWritable}
use Rattle.rtp_wire.specs.declared.values.ExtensionValues.{ExtensionValues}
use Rattle.rtp_wire.proofs.HeaderLaws.{length-spelled_within, header_in-spelled, payload_in-spelled}
use Rattle.payload_core_base.specs.Law.{AreWithin}
use Rattle.payload_core_base.specs.Outgoing.{Outgoing, outgoing}
use Rattle.payload_core_base.specs.Packing.{Packing, Sender}
use Rattle.payload_core_base.specs.Sending.{outgoing_from}
use Rattle.payload_core_audio.specs.RedHistory.{AreDistances, Redundancy, keeping}
use Rattle.rtp_media_streams.specs.Rows.{packing_of, rtp_rate}
use Rattle.rtp_media_streams.specs.Sending.{Sending, IsTyped, IsTypedBy, Sample, first_refusal, header_of}
use Rattle.rtp_media_streams.specs.Sending.{longest_datagram, datagram_of, datagrams_from, limit_of_packets, on_wire}
use Rattle.rtp_media_streams.specs.Sending.{packed, packet_limit, payload_refusal, payloads_of_samples}
use Rattle.rtp_media_streams.specs.Sending.{refusal_before_payload, sent, sent_payloads, sent_datagrams, still_kept}
use Rattle.rtp_media_streams.specs.Sending.{timestamp, wire_payloads, with_next, after_sample, datagrams_of}
use Rattle.rtp_media_streams.specs.Sending.{refusal_of_sample}
use Rattle.rtp_media_streams.specs.Redundant.{kept_after, wrapped, wraps}
use Rattle.rtp_media_streams.specs.declared.types.PayloadTypes.{PayloadTypes}
use Rattle.rtp_media_streams.specs.declared.errors.SampleError.{SampleError}
use Rattle.rtp_media_streams.specs.declared.errors.SampleError.TheVariants.{StreamFailed, TimeTooLarge, LimitTooSmall}
use Rattle.rtp_media_streams.proofs.Cutting.{datagrams_from-append, length-on_wire}
use Rattle.rtp_media_streams.proofs.Wrapping.{wrapped-short}

-- what is kept for later samples is not in a datagram
pub datagrams_from-next : (s : Sending) (k : ℕ) (q : Sender) (o : Option Redundancy) (n : ℕ) (ps : List Outgoing)
    → datagrams_from (with_next s k q o) n ps ≡ datagrams_from s n ps
datagrams_from-next s k q o n [] = refl
datagrams_from-next s k q o n (p ∷ ps) =
    ap (λ (ds : List (List ℕ)). datagram_of s n p ∷ ds) (datagrams_from-next s k q o (n + 1) ps)

-- payloads, and then more
wraps-append : (pt budget : ℕ) (r : Redundancy) (ps qs : List Outgoing) → wraps pt budget r (ps ++ qs)
    ≡ wraps pt budget r ps ++ wraps pt budget (kept_after pt r ps) qs
wraps-append pt budget r [] qs = refl
wraps-append pt budget r (p ∷ ps) qs = ap
    (λ (xs : List Outgoing). outgoing (wrapped pt budget r p) p.marker p.time p.values ∷ xs)
    (wraps-append pt budget (keeping r pt p.payload p.time) ps qs)

on_wire-append : (pt mtu : ℕ) (o : Option Redundancy) (ps qs : List Outgoing) → on_wire pt mtu o (ps ++ qs)
    ≡ on_wire pt mtu o ps ++ on_wire pt mtu (still_kept pt o ps) qs
on_wire-append pt mtu None ps qs = refl
on_wire-append pt mtu (Some r) ps qs = wraps-append pt mtu r ps qs

pub datagrams_of-consecutive : (xs : List Sample) (s : Sending) → datagrams_of s xs
    ≡ datagrams_from s s.next (wire_payloads s (payloads_of_samples s xs))
datagrams_of-consecutive [] s = ap (λ (ps : List Outgoing). datagrams_from s s.next ps)
    (sym (none s.types.pt s.mtu s.redundancy)) where
      none : (pt mtu : ℕ) (o : Option Redundancy) → on_wire pt mtu o [] ≡ []
      none pt mtu None = refl
      none pt mtu (Some r) = refl
datagrams_of-consecutive (x ∷ xs) s =
    let ps : List Outgoing = sent_payloads s x.time x.values x.bytes in
    let kept : Option Redundancy = still_kept s.types.pt s.redundancy ps in
    let t : Sending = after_sample s x.time x.values x.bytes in
    let qs : List Outgoing = payloads_of_samples t xs in
    let behind : List Outgoing = on_wire s.types.pt s.mtu kept qs in
    let rest : datagrams_of t xs ≡ datagrams_from s (s.next + length ps) behind =
    datagrams_of-consecutive xs t ∙ datagrams_from-next s (s.next + length ps) (sent s x.bytes).sender kept
    (s.next + length ps) behind in
    let count : length ps ≡ length (wire_payloads s ps) = sym (length-on_wire s.types.pt s.mtu s.redundancy ps) in
    ap (λ (ds : List (List ℕ)). sent_datagrams s x.time x.values x.bytes ++ ds) rest
    ∙ ap (λ (k : ℕ). sent_datagrams s x.time x.values x.bytes ++ datagrams_from s (s.next + k) behind) count
    ∙ sym (datagrams_from-append s s.next (wire_payloads s ps) behind)
    ∙ ap (λ (ws : List Outgoing). datagrams_from s s.next ws) (sym (on_wire-append s.types.pt s.mtu s.redundancy ps qs))

-- short payloads with the sample's values make short datagrams
AreShort : ℕ → ExtensionValues → List Outgoing → Type 0
AreShort limit values [] = Unit {0}
AreShort limit values (p ∷ ps) = (length p.payload ≤ limit) × (p.values ≡ values) × AreShort limit values ps

packets-short : (packing : Packing) (limit time : ℕ) (values : ExtensionValues) (ps : List (List ℕ))
    → AreWithin limit ps → AreShort limit values (outgoing_from packing ps time values)
unfolding AreShort
packets-short packing limit time values [] within = tt
packets-short packing limit time values (p ∷ ps) within = (
  (within 0 p (omega arith)).1,
  refl,
  packets-short packing limit time values ps
      (λ k d h. within (suc k) d (omega arith)),
)

wraps-short : (pt budget : ℕ) (values : ExtensionValues) (r : Redundancy) (ps : List Outgoing)
    → AreShort (budget - 1) values ps → AreShort budget values (wraps pt budget r ps)
unfolding AreShort
wraps-short pt budget values r [] short = tt
wraps-short pt budget values r (p ∷ ps) short = (
  wrapped-short pt budget r p short.0,
  short.1,
  wraps-short pt budget values (keeping r pt p.payload p.time) ps short.2,
)

on_wire-short : (pt mtu : ℕ) (values : ExtensionValues) (o : Option Redundancy) (ps : List Outgoing)
    → AreShort (limit_of_packets mtu o) values ps → AreShort mtu values (on_wire pt mtu o ps)
on_wire-short pt mtu values None ps short = short
on_wire-short pt mtu values (Some r) ps short = wraps-short pt mtu values r ps short

header-short : (s : Sending) (n : ℕ) (marker : Bool) (time : ℕ) (values same : ExtensionValues) → values ≡ same
    → length (spelled s.map (header_of s n marker time values)) ≤ two_byte_length s.map (header_of s 0 false 0 same)
header-short s n marker time values same e =
    subst (λ (v : ExtensionValues). length (spelled s.map (header_of s n marker time values)) ≤ two_byte_length s.map
    (header_of s 0 false 0 v)) e (length-spelled_within s.map (header_of s n marker time values))

datagrams-short : (s : Sending) (n k : ℕ) (values : ExtensionValues) (ps : List Outgoing) → AreShort s.mtu values ps
    → longest_datagram s values ≤ k →
    (i : ℕ) (d : List ℕ) → i < length (datagrams_from s n ps) → length (slice_index_or (datagrams_from s n ps) i d) ≤ k
unfolding AreShort
datagrams-short s n k values [] short h i d lt = absurd (omega arith)
datagrams-short s n k values (p ∷ ps) short h zero d lt =
    omega (
      arith,
      length-append (spelled s.map (header_of s n p.marker p.time p.values)) p.payload,
      header-short s n p.marker p.time p.values values short.1,
      short.0,
    )
datagrams-short s n k values (p ∷ ps) short h (suc i) d lt =
    datagrams-short s (n + 1) k values ps short.2 h i d (omega arith)

last-no : (a b c : Bool) (x y z : SampleError)
    → (if a then Some x else if b then Some y else if c then Some z else None) ≡ None → c ≡ false
last-no a b false x y z h = refl
last-no true b true x y z h = cc
last-no false true true x y z h = cc
last-no false false true x y z h = cc

first-none : (a b : Option SampleError) → first_refusal a b ≡ None → a ≡ None
first-none None b h = refl
first-none (Some e) b h = cc

fits : (s : Sending) (time : Time) (values : ExtensionValues) (bytes : List ℕ)
    → refusal_of_sample s time values bytes ≡ None → longest_datagram s values ≤ s.limit
fits s time values bytes h =
    let last : nat_lt s.limit (longest_datagram s values) ≡ false =
    last-no (s.failed || nat_le (2 ^ 62) s.next) (is_none (checked_rebased time (rtp_rate s.row)))
    (nat_lt s.limit (longest_datagram s values)) StreamFailed TimeTooLarge LimitTooSmall
    (first-none (refusal_before_payload s time values) (payload_refusal (packed s bytes)) h) in
    lt-no s.limit (longest_datagram s values) last where
      lt-no : (a b : ℕ) → nat_lt a b ≡ false → b ≤ a
      lt-no a b h = grind (arith, nat_tests)

wire-short : (s : Sending) (time : Time) (values : ExtensionValues) (bytes : List ℕ)
    → AreWithin (packet_limit s) (sent s bytes).packets
    → AreShort s.mtu values (wire_payloads s (sent_payloads s time values bytes))
wire-short s time values bytes within =
    on_wire-short s.types.pt s.mtu values s.redundancy (sent_payloads s time values bytes)
    (packets-short (packing_of s.row s.has_id s.for_browsers) (packet_limit s) (timestamp s time) values
    (sent s bytes).packets
    within)

pub sent-short : (s : Sending) (time : Time) (values : ExtensionValues) (bytes : List ℕ)
    → refusal_of_sample s time values bytes ≡ None → AreWithin (packet_limit s) (sent s bytes).packets →
    (i : ℕ) (d : List ℕ) → i < length (sent_datagrams s time values bytes)
    → length (slice_index_or (sent_datagrams s time values bytes) i d) ≤ s.limit
sent-short s time values bytes h within =
    datagrams-short s s.next s.limit values (wire_payloads s (sent_payloads s time values bytes))
    (wire-short s time values bytes within) (fits s time values bytes h)

-- short payloads, one by one
each-short : (limit : ℕ) (values : ExtensionValues) (ps : List Outgoing) → AreShort limit values ps
    → (i : ℕ) (d : Outgoing) → i < length ps → length (slice_index_or ps i d).payload ≤ limit
unfolding AreShort
each-short limit values [] short i d lt = absurd (omega arith)
each-short limit values (p ∷ ps) short zero d lt = short.0
each-short limit values (p ∷ ps) short (suc i) d lt = each-short limit values ps short.2 i d (omega arith)

pub payloads-within : (s : Sending) (time : Time) (values : ExtensionValues) (bytes : List ℕ)
    → AreWithin (packet_limit s) (sent s bytes).packets → (i : ℕ) (d : Outgoing)
    → i < length (wire_payloads s (sent_payloads s time values bytes)) →
    length (slice_index_or (wire_payloads s (sent_payloads s time values bytes)) i d).payload ≤ s.mtu
payloads-within s time values bytes within =
    each-short s.mtu values (wire_payloads s (sent_payloads s time values bytes))
    (wire-short s time values bytes within)

-- a sample changes neither types nor distances
kept-distances : (pt : ℕ) (r : Redundancy) (ps : List Outgoing) → (kept_after pt r ps).distances ≡ r.distances
kept-distances pt r [] = refl
kept-distances pt r (p ∷ ps) = kept-distances pt (keeping r pt p.payload p.time) ps

typed-by : (types : PayloadTypes) (wire : ℕ) (o : Option Redundancy) (ps : List Outgoing) → IsTypedBy types wire o
    → IsTypedBy types wire (still_kept types.pt o ps)
typed-by types wire None ps typed = typed
typed-by types wire (Some r) ps typed = (
  typed.0,
  typed.1,
  subst AreDistances (sym (kept-distances types.pt r ps)) typed.2,
)

pub still-typed : (s : Sending) (time : Time) (values : ExtensionValues) (bytes : List ℕ) → IsTyped s
    → IsTyped (after_sample s time values bytes)
still-typed s time values bytes typed = typed-by s.types s.wire_type s.redundancy (sent_payloads s time values bytes)
    typed

-- what is written can be read
pub writable : (s : Sending) (x : ℕ) (marker : Bool) (time : ℕ) (values : ExtensionValues) → s.wire_type < 128
    → s.ssrc < 2 ^ 32 → time < 2 ^ 32 → AreValues values → IsWritable (header_of s x marker time values)
writable s x marker time values pt ssrc t v = record {
  payload_type = pt;
  sequence_number = omega arith;
  timestamp = t;
  ssrc = ssrc;
  csrc_count = omega arith;
  csrc = λ k d h. absurd (omega arith);
  csrc_slots = refl;
  values = λ e. v;
}

pub datagram-read : (s : Sending) (number : ℕ) (o : Outgoing) → s.wire_type < 128 → s.ssrc < 2 ^ 32 → o.time < 2 ^ 32
    → AreValues o.values →
    header_in s.map (datagram_of s number o) ≡ Some (image s.map (header_of s number o.marker o.time o.values))
datagram-read s number o pt ssrc time values =
    header_in-spelled s.map (header_of s number o.marker o.time o.values) o.payload
    (writable s number o.marker o.time o.values pt ssrc time values)

pub datagram-payload : (s : Sending) (number : ℕ) (o : Outgoing)
    → payload_in (image s.map (header_of s number o.marker o.time o.values)) (datagram_of s number o) ≡ o.payload
datagram-payload s number o = payload_in-spelled s.map (header_of s number o.marker o.time o.values) o.payload
