-- What the datagrams of a sending stream bring a receiving one.
use Rattle.std.proofs.Common.{◌≡◌, ℕ, zero, suc, ◌+◌, ◌%◌, ◌^◌, ◌<◌, ◌≤◌, refl, sym, ◌∙◌, ap, ap₂, subst, subst₂}
use Rattle.std.proofs.Common.{arith, Bool, true, false, ◌&&◌, ◌||◌, List, [], ◌∷◌, ◌++◌, length, length-append, map}
use Rattle.std.proofs.Common.{true≢false, add-zero}
use Rattle.std.proofs.lemmas.Bool.Decides.{nat_tests}
use Rattle.std.proofs.lemmas.List.{map-append}
use Rattle.std.specs.Prelude.{Option, Some, None, Result, Ok, Err, if◌then◌else◌, ◌==◌, All, option_and_then}
use Rattle.std.specs.Prelude.{slice_index_or}
use Rattle.rtp_wire.specs.Carried.{AreValues}
use Rattle.rtp_wire.specs.Header.{header_in, payload_in, layout_of, IsWritable}
use Rattle.rtp_wire.specs.Header as header
use Rattle.rtp_wire.specs.Maps.{empty_map}
use Rattle.rtp_wire.specs.Values.{Numbering}
use Rattle.rtp_wire.specs.declared.values.ExtensionValues.{ExtensionValues}
use Rattle.rtp_wire.specs.Padding.{unpadded}
use Rattle.rtp_wire.specs.declared.header.RtpHeader.{RtpHeader}
use Rattle.rtp_wire.proofs.HeaderLaws.{header_in-layout, header_in-spelled, payload_in-spelled, IsLayout-of}
use Rattle.payload_core_base.specs.Law.{AreWithin, CodecLaw, Coding, SendsUnits}
use Rattle.payload_core_base.specs.Outgoing.{Outgoing, all_outgoing, outgoing}
use Rattle.payload_core_base.specs.Packing.{MarkedPacket, Packing, Sender, Sent, marked}
use Rattle.payload_core_base.specs.declared.error.PacketError.{PacketError}
use Rattle.payload_core_base.specs.Sending.{outgoing_from}
use Rattle.payload_core_audio.specs.RedHistory.{Redundancy, keeping}
use Rattle.payload_core_audio.specs.RedReading.{read_red}
use Rattle.rtp_media_schedules.specs.Hearing.{Content, Comes, content_of}
use Rattle.rtp_media_schedules.specs.SentSamples.{Timed, sent_or, timed}
use Rattle.rtp_media_schedules.specs.Samples.{AreWellFormed, SentSample, contents_by, datagrams, packets_of, sent_by}
use Rattle.rtp_media_schedules.specs.Sending.{no_content}
use Rattle.rtp_media_streams.specs.Redundant.{primary_of, unwrapped, wrapped}
use Rattle.rtp_media_streams.specs.Rows.{packing_of}
use Rattle.rtp_media_streams.specs.Sending.{Sample, Sending, IsTypedBy, after_sample, carried, datagram_of}
use Rattle.rtp_media_streams.specs.Sending.{datagrams_from, header_of, limit_of_packets, on_wire, packet_limit}
use Rattle.rtp_media_streams.specs.Sending.{payloads_of_samples, samples_of, sent, sent_payloads, still_kept}
use Rattle.rtp_media_streams.specs.Sending.{timestamp, with_next}
use Rattle.rtp_wire.specs.Repairs.{Wrapped, wrapped_in}
use Rattle.rtp_media_streams.specs.Types.{has_type, is_plain_key, is_repair_key, is_type}
use Rattle.rtp_media_streams.specs.declared.types.PayloadTypes.{PayloadTypes}
use Rattle.rtp_media_streams.proofs.Sent.{writable}
use Rattle.rtp_media_streams.proofs.Wrapping.{wrapped-brings}
use Rattle.rtp_media_streams.specs.Receiving.{Receiving, brought, is_own, media_payload, plain_brought}
use Rattle.rtp_media_streams.specs.Receiving.{values_of_header, values_read}
use Rattle.rtp_media_ends.specs.FullArrival.{coding_of, count_of, sent_samples}
use Rattle.rtp_media_ends.specs.OwnEvents.{content_event, event_by, event_in}

eqb-same : (a : ℕ) → (a == a) ≡ true
eqb-same a = grind (arith, nat_tests)

-- a payload that can be sent at a limit
abbrev pub IsSendable : ℕ → Outgoing → Type 0
IsSendable limit o = (o.time < 2 ^ 32) × ((0 < length o.payload) × (length o.payload ≤ limit)) × AreValues o.values

abbrev pub AreSendable : ℕ → List Outgoing → Type 0
AreSendable limit [] = Unit {0}
AreSendable limit (o ∷ os) = IsSendable limit o × AreSendable limit os

-- what it brings
abbrev pub content_in : Sending → Outgoing → Content
content_in s o = content_of o.time o.marker (carried s o.values) o.payload

abbrev pub contents_of : Sending → List Outgoing → List Content
contents_of s os = map (content_in s) os

plain-some : (h : RtpHeader) (bytes : List ℕ) → 0 < length bytes
    → plain_brought h (Some bytes) ≡ Some (record { number = h.sequence_number; payload = bytes })
plain-some h [] some = absurd (omega arith)
plain-some h (b ∷ bs) some = refl

both-true : (a b : Bool) → a ≡ true → b ≡ true → (a && b) ≡ true
both-true true b x y = y
both-true false b x y = absurd (true≢false (sym x))

or-left : (a b : Bool) → a ≡ true → (a || b) ≡ true
or-left true b h = refl
or-left false b h = absurd (true≢false (sym h))

-- a datagram of a stream is read as a payload that it brings
brought-read : (s : Sending) (r : Receiving) (x : ℕ) (o : Outgoing) (bytes : List ℕ) → r.ssrc ≡ s.ssrc → r.map
    ≡ s.map → has_type r.types s.wire_type ≡ true → unwrapped r.types s.wire_type o.payload ≡ Some bytes →
    s.wire_type < 128 → s.ssrc < 2 ^ 32 → o.time < 2 ^ 32 → AreValues o.values → 0 < length bytes →
    event_in r (datagram_of s x o) ≡ Some (Comes (x % 65536) (content_of o.time o.marker (carried s o.values) bytes))
brought-read s r x o bytes ssrc_is map_is typed brings wire ssrc time vs some =
    let h : RtpHeader = header_of s x o.marker o.time o.values in
    let d : List ℕ = datagram_of s x o in
    let w : IsWritable h = writable s x o.marker o.time o.values wire ssrc time vs in
    let bare : RtpHeader = header.header_of empty_map (layout_of s.map h) in
    let read : header_in empty_map d ≡ Some bare =
    header_in-layout empty_map (layout_of s.map h) o.payload (IsLayout-of s.map h w) in
    let body : payload_in bare d ≡ o.payload = payload_in-spelled s.map h o.payload in
    let values : values_read r.map d ≡ carried s o.values =
    ap (λ (m : Numbering). values_read m d) map_is ∙ ap values_of_header (header_in-spelled s.map h o.payload w) in
    let plain : is_plain_key r.ssrc r.types s.ssrc s.wire_type ≡ true =
    both-true (r.ssrc == s.ssrc) (has_type r.types s.wire_type)
    (ap (λ (n : ℕ). n == s.ssrc) ssrc_is ∙ eqb-same s.ssrc) typed in
    let own : is_own r s.ssrc s.wire_type ≡ true =
    or-left (is_plain_key r.ssrc r.types s.ssrc s.wire_type) (is_repair_key r.types.repair s.ssrc s.wire_type) plain in
    let media : media_payload r.types bare d ≡ Some bytes =
    ap (λ (b : List ℕ). option_and_then (unwrapped r.types s.wire_type) (unpadded false b)) body ∙ brings in
    let payload : brought r.ssrc r.types bare d ≡ Some (record { number = x % 65536; payload = bytes }) =
    ap (λ (t : Bool). if t then plain_brought bare (media_payload r.types bare d)
    else option_and_then wrapped_in (unpadded false (payload_in bare d))) plain
    ∙ ap (plain_brought bare) media ∙ plain-some bare bytes some in
    ap (λ (q : Option RtpHeader). event_by r q d) read
    ∙ ap (λ (t : Bool). if t then content_event bare (values_read r.map d) (brought r.ssrc r.types bare d) else None)
    own
    ∙ ap₂ (λ (v : ExtensionValues) (q : Option Wrapped). content_event bare v q) values payload

-- the receiving stream of a sending one
abbrev pub IsFor : Receiving → Sending → Type 0
IsFor r s = (r.ssrc ≡ s.ssrc) × (r.types ≡ s.types) × (r.map ≡ s.map)

own-type : (types : PayloadTypes) → has_type types types.pt ≡ true
own-type types = either (types.pt == types.pt) (is_type types.red types.pt) (eqb-same types.pt) where
  either : (x y : Bool) → x ≡ true → (x || y) ≡ true
  either true y h = refl
  either false y h = absurd (true≢false (sym h))

red-type : (types : PayloadTypes) (wire : ℕ) → types.red ≡ Some wire → has_type types wire ≡ true
red-type types wire h = either (types.pt == wire) (is_type types.red wire)
    (ap (λ (o : Option ℕ). is_type o wire) h ∙ eqb-same wire) where
      either : (x y : Bool) → y ≡ true → (x || y) ≡ true
      either true y h = refl
      either false y h = h

unwrapped-own : (types : PayloadTypes) (payload : List ℕ) → unwrapped types types.pt payload ≡ Some payload
unwrapped-own types payload = ap (λ (t : Bool). if t then Some payload
    else option_and_then (primary_of types.pt) (read_red payload)) (eqb-same types.pt)

pub sent-event : (s : Sending) (r : Receiving) (o : Option Redundancy) (ps : List Outgoing) (n i : ℕ) → IsFor r s
    → IsTypedBy s.types s.wire_type o → s.types.pt < 128 → s.wire_type < 128 → s.ssrc < 2 ^ 32 →
    AreSendable (limit_of_packets s.mtu o) ps → i < length ps →
    event_in r (slice_index_or (datagrams_from s n (on_wire s.types.pt s.mtu o ps)) i [])
    ≡ Some (Comes ((n + i) % 65536) (slice_index_or (contents_of s ps) i no_content))
sent-event s r o [] n i for typed pt wire ssrc all lt = absurd (omega arith)
sent-event s r None (p ∷ ps) n zero for typed pt wire ssrc all lt =
    let has : has_type r.types s.wire_type ≡ true =
    ap₂ (λ (types : PayloadTypes) (w : ℕ). has_type types w) for.1 typed ∙ own-type s.types in
    let brings : unwrapped r.types s.wire_type p.payload ≡ Some p.payload =
    ap₂ (λ (types : PayloadTypes) (w : ℕ). unwrapped types w p.payload) for.1 typed
    ∙ unwrapped-own s.types p.payload in
    brought-read s r n p p.payload for.0 for.2 has brings wire ssrc all.0.0 all.0.2 all.0.1.0
    ∙ ap (λ (k : ℕ). Some (Comes (k % 65536) (content_in s p))) (sym (add-zero n))
sent-event s r (Some q) (p ∷ ps) n zero for typed pt wire ssrc all lt =
    let has : has_type r.types s.wire_type ≡ true = ap (λ (types : PayloadTypes). has_type types s.wire_type) for.1
    ∙ red-type s.types s.wire_type typed.0 in
    let wrap : Outgoing = outgoing (wrapped s.types.pt s.mtu q p) p.marker p.time p.values in
    let fits : length p.payload + 1 ≤ s.mtu = omega (arith, all.0.1.0, all.0.1.1) in
    let brings : unwrapped r.types s.wire_type wrap.payload ≡ Some p.payload =
    ap (λ (types : PayloadTypes). unwrapped types s.wire_type wrap.payload) for.1
    ∙ wrapped-brings s.types s.wire_type s.mtu q p pt typed.1 typed.2 fits in
    brought-read s r n wrap p.payload for.0 for.2 has brings wire ssrc all.0.0 all.0.2 all.0.1.0
    ∙ ap (λ (k : ℕ). Some (Comes (k % 65536) (content_in s p))) (sym (add-zero n))
sent-event s r None (p ∷ ps) n (suc i) for typed pt wire ssrc all lt =
    let e : n + 1 + i ≡ n + suc i = omega arith in
    sent-event s r None ps (n + 1) i for typed pt wire ssrc all.1 (omega arith)
    ∙ ap (λ (k : ℕ). Some (Comes (k % 65536) (slice_index_or (contents_of s ps) i no_content))) e
sent-event s r (Some q) (p ∷ ps) n (suc i) for typed pt wire ssrc all lt =
    let e : n + 1 + i ≡ n + suc i = omega arith in
    sent-event s r (Some (keeping q s.types.pt p.payload p.time)) ps (n + 1) i for typed pt wire ssrc all.1
    (omega arith) ∙ ap (λ (k : ℕ). Some (Comes (k % 65536) (slice_index_or (contents_of s ps) i no_content))) e

-- the packets of a sample can be sent
packets-sendable : (packing : Packing) (limit time : ℕ) (values : ExtensionValues) (ps : List (List ℕ))
    → time < 2 ^ 32 → AreValues values → AreWithin limit ps → AreSendable limit (outgoing_from packing ps time values)
packets-sendable packing limit time values [] t v within = tt
packets-sendable packing limit time values (p ∷ ps) t v within = (
  (t, within 0 p (omega arith), v),
  packets-sendable packing limit time values ps t v
      (λ k d h. within (suc k) d (omega arith)),
)

sendable-append : (limit : ℕ) (ps qs : List Outgoing) → AreSendable limit ps → AreSendable limit qs
    → AreSendable limit (ps ++ qs)
sendable-append limit [] qs a b = b
sendable-append limit (p ∷ ps) qs a b = (a.0, sendable-append limit ps qs a.1 b)

contents-in : (s : Sending) (ps : List MarkedPacket) (time : ℕ) (values : ExtensionValues)
    → contents_of s (all_outgoing ps time values) ≡ contents_by time (carried s values) ps
contents-in s [] time values = refl
contents-in s (p ∷ ps) time values = ap (λ (cs : List Content). content_of time p.marker (carried s values) p.payload
    ∷ cs) (contents-in s ps time values)

count-in : (ps : List MarkedPacket) (time : ℕ) (values : ExtensionValues) → length (all_outgoing ps time values)
    ≡ length ps
count-in [] time values = refl
count-in (p ∷ ps) time values = ap suc (count-in ps time values)

-- what the codec law says of what a sample leaves
record IsLeft (coding : Coding) (limit : ℕ) (left : Sent) : Type 0 where
  within : AreWithin limit left.packets
  reached : coding.IsReached left.sender

is-left : (coding : Coding) (limit : ℕ) (before : Sender) (r : Result Sent PacketError)
    (units : List (List (List ℕ))) (after : Sender) → SendsUnits coding limit r units after
    → IsLeft coding limit (sent_or before r)
is-left coding limit before (Ok s) units after is = record { within = is.within; reached = is.reached }
is-left coding limit before (Err e) units after is = absurd is

samples-same : (s : Sending) (k : ℕ) (p : Sender) (o : Option Redundancy) (xs : List Sample)
    → samples_of (with_next s k p o) xs ≡ samples_of s xs
samples-same s k p o [] = refl
samples-same s k p o (x ∷ xs) = ap (λ (ts : List Timed). timed (timestamp s x.time) (carried s x.values) x.bytes
    ∷ ts) (samples-same s k p o xs)

limit-kept : (pt mtu : ℕ) (o : Option Redundancy) (os : List Outgoing) → limit_of_packets mtu (still_kept pt o os)
    ≡ limit_of_packets mtu o
limit-kept pt mtu None os = refl
limit-kept pt mtu (Some r) os = refl

-- what the payloads of samples are
pub record AreTheirs (s : Sending) (xs : List Sample) : Type 0 where
  pub sendable : AreSendable (packet_limit s) (payloads_of_samples s xs)
  pub contents : contents_of s (payloads_of_samples s xs) ≡ datagrams (sent_samples s xs)
  pub count : length (payloads_of_samples s xs) ≡ count_of s xs

pub theirs : (xs : List Sample) (s : Sending) → CodecLaw (coding_of s) → (coding_of s).IsReached s.packetizer
    → AreWellFormed (coding_of s) (packet_limit s) (samples_of s xs) → All (λ x. AreValues x.values) xs → AreTheirs s xs
unfolding packing_of
theirs [] s law reached good vs = record { sendable = tt; contents = refl; count = refl }
theirs (x ∷ xs) s law reached good vs =
    let limit : ℕ = packet_limit s in
    let os : List Outgoing = sent_payloads s x.time x.values x.bytes in
    let t : Sending = after_sample s x.time x.values x.bytes in
    let next : Sender = (sent s x.bytes).sender in
    let packets : List MarkedPacket = marked (coding_of s).packing (sent s x.bytes).packets in
    let left : IsLeft (coding_of s) limit (sent s x.bytes) =
    is-left (coding_of s) limit s.packetizer ((coding_of s).packing.pack s.packetizer limit x.bytes) _ _
    (law s.packetizer limit x.bytes reached good.0) in
    let same_limit : packet_limit t ≡ limit = limit-kept s.types.pt s.mtu s.redundancy os in
    let same_samples : samples_of t xs ≡ samples_of s xs =
    samples-same s (s.next + length os) next (still_kept s.types.pt s.redundancy os) xs in
    let good' : AreWellFormed (coding_of s) (packet_limit t) (samples_of t xs) =
    subst₂ (λ (l : ℕ) (ts : List Timed). AreWellFormed (coding_of s) l ts) (sym same_limit) (sym same_samples)
    good.1 in
    let rest : AreTheirs t xs = theirs xs t law left.reached good' (λ k d h. vs (suc k) d (omega arith)) in
    let after : List SentSample = sent_by (coding_of s) limit next (samples_of s xs) in
    let same_sent : sent_samples t xs ≡ after =
    ap₂ (λ (l : ℕ) (ts : List Timed). sent_by (coding_of s) l next ts) same_limit same_samples in
    let more : List Outgoing = payloads_of_samples t xs in
    record {
      sendable = sendable-append limit os more
          (packets-sendable (packing_of s.row s.has_id s.for_browsers) limit (timestamp s x.time) x.values
          (sent s x.bytes).packets
          (omega arith) (vs zero x (omega arith)) left.within)
          (subst (λ (l : ℕ). AreSendable l more) same_limit rest.sendable);
      contents = map-append (content_in s) os more
          ∙ ap₂ (λ (as' bs : List Content). as' ++ bs) (contents-in s packets (timestamp s x.time) x.values)
          (rest.contents ∙ ap datagrams same_sent);
      count = length-append os more
          ∙ ap₂ (λ (m n : ℕ). m + n) (count-in packets (timestamp s x.time) x.values)
          (rest.count ∙ ap (λ (ss : List SentSample). length (packets_of ss)) same_sent)
          ∙ sym (length-append packets (packets_of after));
    }
