-- What is an event of a stream is its arrival at the end, and so a repair arrives as what it wraps.
use Rattle.std.proofs.Common.{◌≡◌, ℕ, refl, sym, ◌∙◌, ap, ap₂, Bool, true, false, List}
use Rattle.std.specs.Prelude.{if◌then◌else◌, Option, Some, None, Ok}
use Rattle.rtp_wire.specs.Header.{header_in}
use Rattle.rtp_wire.specs.Maps.{empty_map}
use Rattle.rtp_wire.specs.Repairs.{Wrapped}
use Rattle.rtp_wire.specs.declared.values.ExtensionValues.{ExtensionValues}
use Rattle.rtp_wire.specs.declared.header.RtpHeader.{RtpHeader}
use Rattle.rtp_media_schedules.specs.Hearing.{Comes, Content, content_of}
use Rattle.rtp_media_streams.specs.Receiving.{Receiving, brought, is_own, values_read, with_stream}
use Rattle.rtp_media_streams.specs.Repairing.{repair}
use Rattle.rtp_media_streams.specs.Sending.{Sending}
use Rattle.rtp_media_stream_table.specs.Arrivals.{Own, arrival_at, arrival_by, arrival_for, own_of, verdict_in}
use Rattle.rtp_media_ends.specs.EndArrivals.{after_arrival, after_datagram, verdict_of}
use Rattle.rtp_media_ends.specs.Ends.{EndState, receiver_at}
use Rattle.rtp_media_ends.specs.FullArrival.{IsFound}
use Rattle.rtp_media_ends.specs.OwnEvents.{content_event, event_by, event_in}
use Rattle.rtp_media_ends.specs.Repairs.{IsHeaded, TakesRepairs}
use Rattle.rtp_media_ends.proofs.Repaired.{BringSame, bring-same}

content-arrives : (n : ℕ) (h : RtpHeader) (v : ExtensionValues) (w : Option Wrapped) (low : ℕ) (c : Content)
    → content_event h v w ≡ Some (Comes low c) → own_of n h v w ≡ Own n low c.time c.marker c.values c.bytes
content-arrives n h v None low c e = absurd cc
content-arrives n h v (Some w) low c e =
    let low-is : w.number ≡ low = cc in
    let content-is : content_of h.timestamp h.marker v w.payload ≡ c = cc in
    ap₂ (λ (m : ℕ) (x : Content). Own n m x.time x.marker x.values x.bytes) low-is content-is

module _ (e : EndState) (n : ℕ) (r : Receiving) (same : receiver_at e n ≡ with_stream r (receiver_at e n).stream)
    (known : IsFound e n r) (low : ℕ) (c : Content) where
  own-arrives : (h : RtpHeader) (d : List ℕ) (own : Bool) → is_own r h.ssrc h.payload_type ≡ own
      → (if own then content_event h (values_read r.map d) (brought r.ssrc r.types h d) else None)
      ≡ Some (Comes low c)
      → arrival_by e.streams (Some h) d ≡ Own n low c.time c.marker c.values c.bytes
  own-arrives h d false own is = absurd cc
  own-arrives h d true own is =
      ap (λ (o : Option ℕ). arrival_for e.streams o h d) (known h.ssrc h.payload_type own)
      ∙ ap (λ (x : Receiving). own_of n h (values_read x.map d) (brought x.ssrc x.types h d)) same
      ∙ content-arrives n h (values_read r.map d) (brought r.ssrc r.types h d) low c is

  header-arrives : (o : Option RtpHeader) (d : List ℕ) → event_by r o d ≡ Some (Comes low c)
      → arrival_by e.streams o d ≡ Own n low c.time c.marker c.values c.bytes
  header-arrives None d is = absurd cc
  header-arrives (Some h) d is = own-arrives h d (is_own r h.ssrc h.payload_type) refl is

  -- What is an event of the stream arrives as its own.
  pub arrives : (d : List ℕ) → event_in r d ≡ Some (Comes low c)
      → arrival_at e.streams d ≡ Own n low c.time c.marker c.values c.bytes
  arrives d is = header-arrives (header_in empty_map d) d is

-- `receive` does with a repair what it does with the datagram.
pub received : (e : EndState) (n : ℕ) (s : Sending) (d bytes : List ℕ) → IsFound e n (receiver_at e n)
    → TakesRepairs (receiver_at e n) s → IsHeaded d → repair s d ≡ Ok bytes
    → (verdict_of e bytes ≡ verdict_of e d) × (after_datagram e bytes ≡ after_datagram e d)
received e n s d bytes known takes is repaired =
    let both : BringSame (receiver_at e n) d bytes = bring-same (receiver_at e n) s d bytes takes is repaired in
    let same : arrival_at e.streams bytes ≡ arrival_at e.streams d =
    arrives e n (receiver_at e n) refl known both.low both.content bytes both.repaired
    ∙ sym (arrives e n (receiver_at e n) refl known both.low both.content d both.plain) in
    (ap (verdict_in e.streams) same, ap (after_arrival e) same)
