-- Datagrams that are sent on, byte for byte.
use Rattle.std.proofs.Common.{◌≡◌, ℕ, zero, suc, ◌+◌, ◌-◌, ◌<◌, ◌≤◌, refl, sym, ◌∙◌, ap, ap₂, arith, List, []}
use Rattle.std.proofs.Common.{◌∷◌, ◌++◌, length, length-append, map}
use Rattle.std.specs.Prelude.{Option, Some, None, slice_index_or}
use Rattle.payload_core_base.specs.Outgoing.{Outgoing, all_outgoing, outgoing}
use Rattle.payload_core_base.specs.Packing.{MarkedPacket}
use Rattle.rtp_wire.specs.declared.values.ExtensionValues.{ExtensionValues}
use Rattle.rtp_media_schedules.specs.Hearing.{Content}
use Rattle.rtp_media_schedules.specs.Samples.{SentSample, contents_by, datagrams, packets_of}
use Rattle.rtp_media_schedules.specs.Sending.{no_content, numbered}
use Rattle.rtp_media_streams.specs.Sending.{Sending, datagram_of, datagrams_from}
use Rattle.rtp_media_forward.specs.Forwarding.{Forwarding, after_packet}
use Rattle.rtp_media_forward.specs.Relayed.{Part, count_of, relayed}
use Rattle.rtp_media_forward.specs.Relaying.{AreBetween, Packet, Sent, datagrams_at, numbers_of, place_of, sent_by}
use Rattle.rtp_media_forward.specs.Relaying.{sent_on}
use Rattle.rtp_media_forward.specs.declared.forwarder.Placed.{Placed}
use Rattle.rtp_media_forward.proofs.Relayed.{count-is}
use Rattle.rtp_media_forward_runs.specs.Hops.{datagrams_by, datagrams_on}
use Rattle.rtp_media_forward_runs.specs.Virtual.{numbered_datagrams, payloads_of, virtual_datagrams}

abbrev pub as_outgoing : Content → Outgoing
as_outgoing c = outgoing c.bytes c.marker c.time c.values

map-on : {A B : Type 0} (f : A → B) (xs ys : List A) → map f (xs ++ ys) ≡ map f xs ++ map f ys
map-on f [] ys = refl
map-on {B = B} f (x ∷ xs) ys = ap (λ (zs : List B). f x ∷ zs) (map-on f xs ys)

-- payloads are what the datagrams bring
sample-payloads : (time : ℕ) (values : ExtensionValues) (ps : List MarkedPacket)
    → all_outgoing ps time values ≡ map as_outgoing (contents_by time values ps)
sample-payloads time values [] = refl
sample-payloads time values (p ∷ ps) =
    ap (λ (os : List Outgoing). outgoing p.payload p.marker time values ∷ os) (sample-payloads time values ps)

pub payloads-are : (ss : List SentSample) → payloads_of ss ≡ map as_outgoing (datagrams ss)
payloads-are [] = refl
payloads-are (s ∷ ss) =
    ap₂ (λ (xs ys : List Outgoing). xs ++ ys) (sample-payloads s.time s.values s.packets) (payloads-are ss)
    ∙ sym (map-on as_outgoing (contents_by s.time s.values s.packets) (datagrams ss))

-- the datagram of a place
datagram-at : (s : Sending) (cs : List Content) (n i : ℕ) → i < length cs
    → slice_index_or (datagrams_from s n (map as_outgoing cs)) i []
    ≡ datagram_of s (n + i) (as_outgoing (slice_index_or cs i no_content))
datagram-at s [] n i lt = absurd (omega arith)
datagram-at s (c ∷ cs) n zero lt =
    let e : n ≡ n + 0 = omega arith in
    ap (λ (k : ℕ). datagram_of s k (as_outgoing c)) e
datagram-at s (c ∷ cs) n (suc i) lt =
    let e : n + 1 + i ≡ n + suc i = omega arith in
    datagram-at s cs (n + 1) i (omega arith)
    ∙ ap (λ (k : ℕ). datagram_of s k (as_outgoing (slice_index_or cs i no_content))) e

pub many : (ss : List SentSample) → length (datagrams ss) ≡ length (packets_of ss)
many [] = refl
many (s ∷ ss) =
    length-append (contents_by s.time s.values s.packets) (datagrams ss)
    ∙ ap₂ (λ (m n : ℕ). m + n) (few s.packets) (many ss) ∙ sym (length-append s.packets (packets_of ss)) where
      few : (ps : List MarkedPacket) → length (contents_by s.time s.values ps) ≡ length ps
      few [] = refl
      few (p ∷ ps) = ap suc (few ps)

by-sent : (s : Sending) (own : ExtensionValues → ExtensionValues) (o : Option Placed) (c : Content)
    → datagrams_by s own o c ≡ map (λ (t : Sent). datagram_of s t.number (as_outgoing t.content)) (sent_by own o c)
by-sent s own None c = refl
by-sent s own (Some at) c = refl

on-sent : (s : Sending) (own : ExtensionValues → ExtensionValues) (senders : ℕ → ℕ → Content) (came : List Packet)
    (f : Forwarding) → datagrams_on s own senders f came
    ≡ map (λ (t : Sent). datagram_of s t.number (as_outgoing t.content)) (sent_on own senders f came)
on-sent s own senders [] f = refl
on-sent s own senders (p ∷ ps) f =
    let o : Option Placed = place_of senders f p in
    ap₂ (λ (xs ys : List (List ℕ)). xs ++ ys) (by-sent s own o (senders p.source p.number))
    (on-sent s own senders ps (after_packet f o p.ends))
    ∙ sym (map-on (λ (t : Sent). datagram_of s t.number (as_outgoing t.content))
    (sent_by own o (senders p.source p.number)) (sent_on own senders (after_packet f o p.ends) ps))

pub at-numbers : (s : Sending) (first : ℕ) (cs : List Content) (from end : ℕ) (ys : List ℕ) → first ≤ from
    → end ≤ first + length cs → AreBetween from end ys
    → map (λ (t : Sent). datagram_of s t.number (as_outgoing t.content)) (datagrams_at (numbered first cs) ys)
    ≡ numbered_datagrams first (datagrams_from s first (map as_outgoing cs)) ys
at-numbers s first cs from end [] low high are = refl
at-numbers s first cs from end (y ∷ ys) low high are =
    let back : first + (y - first) ≡ y = omega (arith, are.0, low) in
    ap₂ (λ (d : List ℕ) (ds : List (List ℕ)). d ∷ ds)
    (sym (datagram-at s cs first (y - first) (omega (arith, are.0, are.1, low, high))
    ∙ ap (λ (k : ℕ). datagram_of s k (as_outgoing (slice_index_or cs (y - first) no_content))) back))
    (at-numbers s first cs from end ys low high are.2)

count-append : (ps qs : List Part) → count_of (ps ++ qs) ≡ count_of ps + count_of qs
count-append [] qs = omega arith
count-append (p ∷ ps) qs = omega (arith, count-append ps qs)

pub bytes-are : (s : Sending) (own : ExtensionValues → ExtensionValues) (senders : ℕ → ℕ → Content) (first : ℕ)
    (before parts later : List Part) (f : Forwarding) (came : List Packet)
    → sent_on own senders f came
    ≡ datagrams_at (numbered first (datagrams (relayed own (before ++ parts ++ later)))) (numbers_of senders f came)
    → AreBetween (first + count_of before) (first + count_of before + count_of parts) (numbers_of senders f came)
    → datagrams_on s own senders f came
    ≡ numbered_datagrams first (virtual_datagrams s own first (before ++ parts ++ later)) (numbers_of senders f came)
bytes-are s own senders first before parts later f came sends between =
    let all : List Part = before ++ parts ++ later in
    let cs : List Content = datagrams (relayed own all) in
    let count : length cs ≡ count_of before + count_of parts + count_of later =
    many (relayed own all) ∙ count-is own all ∙ count-append (before ++ parts) later
    ∙ ap (λ (n : ℕ). n + count_of later) (count-append before parts) in
    on-sent s own senders came f
    ∙ ap (map (λ (t : Sent). datagram_of s t.number (as_outgoing t.content))) sends
    ∙ at-numbers s first cs (first + count_of before) (first + count_of before + count_of parts)
    (numbers_of senders f came) (omega arith) (omega (arith, count)) between
    ∙ ap (λ (os : List Outgoing). numbered_datagrams first (datagrams_from s first os) (numbers_of senders f came))
    (sym (payloads-are (relayed own all)))
