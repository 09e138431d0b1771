-- What datagrams that are sent on bring.
use Rattle.std.proofs.Common.{◌≡◌, ℕ, zero, suc, ◌%◌, ◌^◌, ◌<◌, refl, sym, ◌∙◌, ap, ap₂, subst, arith}
use Rattle.std.proofs.Common.{Bool, true, false, ◌&&◌, ◌||◌, List, [], ◌∷◌, ◌++◌, length, map, true≢false}
use Rattle.std.proofs.lemmas.Bool.Decides.{nat_tests}
use Rattle.std.specs.Prelude.{Option, Some, None, if◌then◌else◌, ◌==◌, option_and_then, slice_get}
use Rattle.std.specs.List.{cons_option}
use Rattle.rtp_wire.specs.Carried.{AreValues}
use Rattle.rtp_wire.specs.Header.{header_in, payload_in, layout_of, IsWritable}
use Rattle.rtp_wire.specs.Header as header
use Rattle.rtp_wire.specs.Maps.{empty_map}
use Rattle.rtp_wire.specs.declared.values.ExtensionValues.{ExtensionValues}
use Rattle.rtp_wire.specs.Padding.{unpadded}
use Rattle.rtp_wire.specs.declared.header.RtpHeader.{RtpHeader}
use Rattle.rtp_wire.specs.Repairs.{Wrapped, wrapped_in}
use Rattle.rtp_wire.proofs.HeaderLaws.{header_in-layout, header_in-spelled, payload_in-spelled, IsLayout-of}
use Rattle.payload_core_base.specs.Outgoing.{Outgoing, outgoing}
use Rattle.payload_core_audio.specs.RedReading.{read_red}
use Rattle.rtp_media_schedules.specs.Hearing.{Content, Event, Comes, Poll, content_of}
use Rattle.payload_core_buffer.specs.Buffered.{Holding}
use Rattle.rtp_media_schedules.specs.Turns.{Turn, Arrive, Ask, event_of}
use Rattle.rtp_media_streams.specs.Redundant.{primary_of, unwrapped}
use Rattle.rtp_media_streams.specs.Sending.{Sending, carried, datagram_of, header_of}
use Rattle.rtp_media_streams.specs.Receiving.{Receiving, brought, is_own, media_payload, plain_brought}
use Rattle.rtp_media_streams.specs.Receiving.{values_of_header, values_read}
use Rattle.rtp_media_streams.specs.Types.{has_type, is_plain_key, is_repair_key, is_type}
use Rattle.rtp_media_streams.specs.declared.types.PayloadTypes.{PayloadTypes}
use Rattle.rtp_media_streams.proofs.Sent.{writable}
use Rattle.rtp_media_forward.specs.Forwarding.{Forwarding, after_packet, end_before, is_in, newer_or, number_in}
use Rattle.rtp_media_forward.specs.Forwarding.{placed_by, placed_in, shifted}
use Rattle.rtp_media_forward.specs.Relaying.{Packet, Sent, datagrams_at, numbers_of, place_of, sent_by, sent_on}
use Rattle.rtp_media_forward.specs.declared.forwarder.Piece.{Piece}
use Rattle.rtp_media_forward.specs.declared.forwarder.Placed.{Placed}
use Rattle.rtp_media_forward_runs.specs.Hops.{AreHeardAs, AreSendable, IsPlain, arrival_of, content_event, datagrams_by}
use Rattle.rtp_media_forward_runs.specs.Hops.{datagrams_on, event_by, event_in, heard_of, numbered_turns, receiver_of}
use Rattle.rtp_media_forward_runs.specs.Hops.{values_by}

eqb-same : (a : ℕ) → (a == a) ≡ true
eqb-same a = grind (arith, nat_tests)

plain-some : (h : RtpHeader) (bytes : List ℕ) → 0 < length bytes
    → plain_brought h (Some bytes) ≡ Some (record { number = h.sequence_number; payload = bytes })
plain-some h [] some = absurd (omega arith)
plain-some h (b ∷ bs) some = refl

both-true : (a b : Bool) → a ≡ true → b ≡ true → (a && b) ≡ true
both-true true b x y = y
both-true false b x y = absurd (true≢false (sym x))

or-left : (a b : Bool) → a ≡ true → (a || b) ≡ true
or-left true b h = refl
or-left false b h = absurd (true≢false (sym h))

own-type : (types : PayloadTypes) → has_type types types.pt ≡ true
own-type types = or-left (types.pt == types.pt) (is_type types.red types.pt) (eqb-same types.pt)

unwrapped-own : (types : PayloadTypes) (payload : List ℕ) → unwrapped types types.pt payload ≡ Some payload
unwrapped-own types payload = ap (λ (t : Bool). if t then Some payload
    else option_and_then (primary_of types.pt) (read_red payload)) (eqb-same types.pt)

-- a datagram of a plain stream is read as the payload that it brings
pub packet-read : (s : Sending) (holding : Holding) (x : ℕ) (o : Outgoing) → IsPlain s → o.time < 2 ^ 32
    → AreValues o.values → 0 < length o.payload
    → event_in (receiver_of holding s) (datagram_of s x o)
    ≡ Some (Comes (x % 65536) (content_of o.time o.marker (carried s o.values) o.payload))
packet-read s holding x o plain time vs some =
    let r : Receiving = receiver_of holding s in
    let wire : s.wire_type < 128 = omega (arith, plain.wire_type, plain.payload_type) in
    let h : RtpHeader = header_of s x o.marker o.time o.values in
    let d : List ℕ = datagram_of s x o in
    let w : IsWritable h = writable s x o.marker o.time o.values wire plain.ssrc time vs in
    let bare : RtpHeader = header.header_of empty_map (layout_of s.map h) in
    let read : header_in empty_map d ≡ Some bare =
    header_in-layout empty_map (layout_of s.map h) o.payload (IsLayout-of s.map h w) in
    let body : payload_in bare d ≡ o.payload = payload_in-spelled s.map h o.payload in
    let values : values_read r.map d ≡ carried s o.values =
    ap values_of_header (header_in-spelled s.map h o.payload w) in
    let typed : has_type r.types s.wire_type ≡ true =
    ap (has_type s.types) plain.wire_type ∙ own-type s.types in
    let key : is_plain_key r.ssrc r.types s.ssrc s.wire_type ≡ true =
    both-true (r.ssrc == s.ssrc) (has_type r.types s.wire_type) (eqb-same s.ssrc) typed in
    let own : is_own r s.ssrc s.wire_type ≡ true =
    or-left (is_plain_key r.ssrc r.types s.ssrc s.wire_type) (is_repair_key r.types.repair s.ssrc s.wire_type) key in
    let brings : unwrapped r.types s.wire_type o.payload ≡ Some o.payload =
    ap (λ (t : ℕ). unwrapped s.types t o.payload) plain.wire_type ∙ unwrapped-own s.types o.payload in
    let media : media_payload r.types bare d ≡ Some o.payload =
    ap (λ (b : List ℕ). option_and_then (unwrapped r.types s.wire_type) (unpadded false b)) body ∙ brings in
    let payload : brought r.ssrc r.types bare d ≡ Some (record { number = x % 65536; payload = o.payload }) =
    ap (λ (t : Bool). if t then plain_brought bare (media_payload r.types bare d)
    else option_and_then wrapped_in (unpadded false (payload_in bare d))) key
    ∙ ap (plain_brought bare) media ∙ plain-some bare o.payload some in
    ap (λ (q : Option RtpHeader). event_by r q d) read
    ∙ ap (λ (t : Bool). if t then content_event bare (values_read r.map d) (brought r.ssrc r.types bare d) else None)
    own
    ∙ ap₂ (λ (v : ExtensionValues) (q : Option Wrapped). content_event bare v q) values payload

-- timestamps have 32 bits
placed-time : (ps : List Piece) (s x t : ℕ) (q : Placed) → placed_in ps s x t ≡ Some q → q.time < 2 ^ 32
placed-time [] s x t q e = cc
placed-time (p ∷ ps) s x t q e = by (placed_in ps s x t) (placed-time ps s x t q) e where
  some : (a : Placed) → Some a ≡ Some q → a ≡ q
  some a h = cc

  here : (b : Bool) (shift n : ℕ) → (if b then Some (record { number = n; time = shifted shift t }) else None) ≡ Some q
      → q.time < 2 ^ 32
  here true shift n e =
      let small : shifted shift t < 2 ^ 32 = omega arith in
      subst (λ (k : ℕ). k < 2 ^ 32)
      (ap (λ (a : Placed). a.time) (some (record { number = n; time = shifted shift t }) e)) small
  here false shift n e = absurd cc

  by : (o : Option Placed) → (o ≡ Some q → q.time < 2 ^ 32)
      → newer_or o (placed_by p (end_before ps) s x t) ≡ Some q → q.time < 2 ^ 32
  by (Some r) newer e = newer e
  by None newer e = here (is_in p (end_before ps) s x) p.shift (number_in p x) e

abbrev heard_sent : Sent → Option Event
heard_sent t = Some (Comes (t.number % 65536) t.content)

map-on : {A B : Type 0} (f : A → B) (xs ys : List A) → map f (xs ++ ys) ≡ map f xs ++ map f ys
map-on f [] ys = refl
map-on {B = B} f (x ∷ xs) ys = ap (λ (zs : List B). f x ∷ zs) (map-on f xs ys)

one-heard : (s : Sending) (holding : Holding) (own : ExtensionValues → ExtensionValues) (o : Option Placed)
    (c : Content) → IsPlain s → ((q : Placed) → o ≡ Some q → q.time < 2 ^ 32) → 0 < length c.bytes
    → AreValues (own c.values)
    → map (event_in (receiver_of holding s)) (datagrams_by s own o c) ≡ map heard_sent (sent_by (values_by s own) o c)
one-heard s holding own None c plain time some vs = refl
one-heard s holding own (Some at) c plain time some vs =
    ap (λ (e : Option Event). e ∷ [])
    (packet-read s holding at.number (outgoing c.bytes c.marker at.time (own c.values)) plain (time at refl) vs some)

all-heard : (s : Sending) (holding : Holding) (own : ExtensionValues → ExtensionValues) (senders : ℕ → ℕ → Content)
    (came : List Packet) (f : Forwarding) → IsPlain s → AreSendable own senders came
    → map (event_in (receiver_of holding s)) (datagrams_on s own senders f came)
    ≡ map heard_sent (sent_on (values_by s own) senders f came)
all-heard s holding own senders [] f plain good = refl
all-heard s holding own senders (p ∷ ps) f plain good =
    let c : Content = senders p.source p.number in
    let o : Option Placed = place_of senders f p in
    map-on (event_in (receiver_of holding s)) (datagrams_by s own o c)
    (datagrams_on s own senders (after_packet f o p.ends) ps)
    ∙ ap₂ (λ (xs ys : List (Option Event)). xs ++ ys)
    (one-heard s holding own o c plain (placed-time f.pieces p.source p.number c.time) good.0 good.1)
    (all-heard s holding own senders ps (after_packet f o p.ends) plain good.2)
    ∙ sym (map-on heard_sent (sent_by (values_by s own) o c)
    (sent_on (values_by s own) senders (after_packet f o p.ends) ps))

at-heard : (sender : ℕ → Content) (ys : List ℕ)
    → map heard_sent (datagrams_at sender ys) ≡ map (λ y. Some (Comes (y % 65536) (sender y))) ys
at-heard sender [] = refl
at-heard sender (y ∷ ys) =
    ap (λ (es : List (Option Event)). Some (Comes (y % 65536) (sender y)) ∷ es) (at-heard sender ys)

pub heard-as : (s : Sending) (holding : Holding) (own : ExtensionValues → ExtensionValues) (senders : ℕ → ℕ → Content)
    (sender : ℕ → Content) (came : List Packet) (f : Forwarding) → IsPlain s → AreSendable own senders came
    → sent_on (values_by s own) senders f came ≡ datagrams_at sender (numbers_of senders f came)
    → AreHeardAs (receiver_of holding s) sender (datagrams_on s own senders f came) (numbers_of senders f came)
heard-as s holding own senders sender came f plain good sends =
    all-heard s holding own senders came f plain good ∙ ap (map heard_sent) sends
    ∙ at-heard sender (numbers_of senders f came)

pub joined-as : (r : Receiving) (sender : ℕ → Content) (ds es : List (List ℕ)) (ys zs : List ℕ)
    → AreHeardAs r sender ds ys → AreHeardAs r sender es zs → AreHeardAs r sender (ds ++ es) (ys ++ zs)
joined-as r sender ds es ys zs one other =
    map-on (event_in r) ds es ∙ ap₂ (λ (xs ys : List (Option Event)). xs ++ ys) one other
    ∙ sym (map-on (λ (y : ℕ). Some (Comes (y % 65536) (sender y))) ys zs)

-- an arrival by place is one by number
got : (r : Receiving) (sender : ℕ → Content) (ds : List (List ℕ)) (ys : List ℕ) (k : ℕ) (es : List Event)
    (ts : List Turn) → AreHeardAs r sender ds ys → es ≡ map (event_of sender) ts
    → cons_option (option_and_then (event_in r) (slice_get ds k)) es
    ≡ map (event_of sender) (arrival_of (slice_get ys k) ts)
got r sender [] [] k es ts are ih = ih
got r sender [] (y ∷ ys) k es ts are ih = cc
got r sender (d ∷ ds) [] k es ts are ih = cc
got r sender (d ∷ ds) (y ∷ ys) zero es ts are ih =
    ap₂ (λ (o : Option Event) (fs : List Event). cons_option o fs) (head are) ih where
      head : event_in r d ∷ map (event_in r) ds
          ≡ Some (Comes (y % 65536) (sender y)) ∷ map (λ z. Some (Comes (z % 65536) (sender z))) ys
          → event_in r d ≡ Some (Comes (y % 65536) (sender y))
      head e = cc
got r sender (d ∷ ds) (y ∷ ys) (suc k) es ts are ih = got r sender ds ys k es ts (rest are) ih where
  rest : event_in r d ∷ map (event_in r) ds
      ≡ Some (Comes (y % 65536) (sender y)) ∷ map (λ z. Some (Comes (z % 65536) (sender z))) ys
      → map (event_in r) ds ≡ map (λ z. Some (Comes (z % 65536) (sender z))) ys
  rest e = cc

pub turns-are : (r : Receiving) (sender : ℕ → Content) (ds : List (List ℕ)) (ys : List ℕ) (ts : List Turn)
    → AreHeardAs r sender ds ys → heard_of r ds ts ≡ map (event_of sender) (numbered_turns ys ts)
turns-are r sender ds ys [] are = refl
turns-are r sender ds ys (Arrive k ∷ ts) are =
    got r sender ds ys k (heard_of r ds ts) (numbered_turns ys ts) are (turns-are r sender ds ys ts are)
turns-are r sender ds ys (Ask ∷ ts) are = ap (λ (es : List Event). Poll ∷ es) (turns-are r sender ds ys ts are)

with-arrival : (o : Option ℕ) (more ts : List Turn) → more ≡ ts ++ Ask ∷ []
    → arrival_of o more ≡ arrival_of o ts ++ Ask ∷ []
with-arrival None more ts e = e
with-arrival (Some y) more ts e = ap (λ (us : List Turn). Arrive y ∷ us) e

-- a poll more is a turn more
pub turns-more : (ys : List ℕ) (ts : List Turn)
    → numbered_turns ys (ts ++ Ask ∷ []) ≡ numbered_turns ys ts ++ Ask ∷ []
turns-more ys [] = refl
turns-more ys (Arrive k ∷ ts) =
    with-arrival (slice_get ys k) (numbered_turns ys (ts ++ Ask ∷ [])) (numbered_turns ys ts) (turns-more ys ts)
turns-more ys (Ask ∷ ts) = ap (λ (us : List Turn). Ask ∷ us) (turns-more ys ts)
