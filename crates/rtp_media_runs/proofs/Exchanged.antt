-- After an exchange and two openings, the new receiving stream hears the new sending one.
use Rattle.std.proofs.Common.{◌≡◌, ℕ, ◌+◌, ◌<◌, ◌≤◌, ◌^◌, refl, sym, ◌∙◌, ap, ap₂, subst, Bool}
use Rattle.std.proofs.Common.{List, [], ◌∷◌, length, map, Option, Some, None}
use Rattle.std.specs.Prelude.{IfSome}
use Rattle.rtp_media_sections.specs.Repairs.{repairing_of}
use Rattle.std.specs.Prelude.{unwrap_or, is_some}
use Rattle.h26x_payload.specs.Dispatch.{FirstIsReached, KeepCodecLawInForms}
use Rattle.rtp_wire.specs.Maps.{empty_map}
use Rattle.rtp_wire.specs.Values.{Numbering}
use Rattle.sdp_formats_rows.specs.Rows.{Row}
use Rattle.payload_core_base.specs.Packing.{Sender}
use Rattle.payload_core_buffer.specs.Buffered.{Holding}
use Rattle.rtp_media_schedules.specs.Hearing.{Stream, fresh, heard}
use Rattle.rtp_media_schedules.specs.SentSamples.{Timed, timed}
use Rattle.rtp_media_schedules.specs.Samples.{whole_unit}
use Rattle.rtp_media_streams.specs.Receiving.{Receiving, opened_receiver, with_stream}
use Rattle.h26x_payload.specs.Codings.{forms_for}
use Rattle.rtp_media_streams.specs.Rows.{coding_in, format_of, settings_in}
use Rattle.rtp_media_streams.specs.Sending.{Sample, Sending, carried, opened_sender, packet_limit}
use Rattle.rtp_media_streams.specs.Sending.{samples_of}
use Rattle.rtp_media_streams.specs.Sending.{timestamp}
use Rattle.rtp_media_streams.specs.declared.row_format.RowFormat.{RowFormat}
use Rattle.rtp_media_streams.specs.declared.types.PayloadTypes.{PayloadTypes}
use Rattle.rtp_media_exchange.proofs.OneAgreement.{same_maps, same_rows}
use Rattle.rtp_media_sections.specs.Agreement.{agreed_map_of, agreed_row_of}
use Rattle.rtp_media_ends.specs.Ends.{EndState, after_open_receiver, agreed_format, agreed_red, receiver_types}
use Rattle.rtp_media_ends.specs.Ends.{new_receiver, new_sender, red_in, row_format_in, stream_map}
use Rattle.rtp_media_ends.specs.Ends.{receiver_at, sender_types, types_in, types_of, with_distances}
use Rattle.rtp_media_ends.proofs.Beside.{key-beside}
use Rattle.rtp_media_sections.specs.Agreement.{own_repairs_of}
use Rattle.rtp_media_ends.specs.FullArrival.{HasReceiver, IsSender, coding_of, count_of}
use Rattle.rtp_media_ends.specs.OpensAt.{SendsAt}
use Rattle.rtp_media_ends.specs.Params as params
use Rattle.rtp_media_ends.specs.declared.StreamParams.{StreamParams}
use Rattle.rtp_media_ends.proofs.MayOpen.{may-receive}
use Rattle.rtp_media_ends.proofs.OpenedReceiver.{opened-receiver}
use Rattle.rtp_media_ends.proofs.Opened.{carried-fits, opened-sound}
use Rattle.rtp_media_ends.proofs.Refusals.{row-agreed}
use Rattle.rtp_media_runs.specs.Headline.{SendsTo, answers_of, units}
use Rattle.rtp_media_runs.specs.Runs.{Hears, canonical_of}
use Rattle.rtp_media_runs.specs.Units.{arriving, limit_by, packet_limit_of, units_by}
use Rattle.rtp_media_runs.specs.Schedules.{own_events, source_of}
use Rattle.rtp_media_runs.specs.declared.schedule.Event.{Event}
use Rattle.rtp_media_runs.proofs.Isolated.{isolated}
use Rattle.rtp_media_runs.proofs.UnitsAlone.{units-alone}

-- the row of an end that may send
pub agreed-is : (e : EndState) (mid : List ℕ) (ssrc pt : ℕ) (at : SendsAt e mid ssrc pt)
    → agreed_row_of e.exchange.agreed mid pt ≡ Some at.row
agreed-is e mid ssrc pt at =
    row-agreed e.exchange.agreed mid pt at.section at.row at.agreed at.row_is

pub new-is-sender : FirstIsReached → (e : EndState) (mid : List ℕ) (ssrc pt : ℕ)
    (p : StreamParams) → SendsAt e mid ssrc pt → ssrc < 2 ^ 32
    → IfSome (sender_types e mid ssrc pt).repair (λ key. key.ssrc < 2 ^ 32)
    → params.IsSound (agreed_red e mid pt) p → IsSender (new_sender e mid ssrc pt p)
new-is-sender law e mid ssrc pt p at fits key_fits sound =
    let row : Row = at.row in
    let is : agreed_row_of e.exchange.agreed mid pt ≡ Some row = agreed-is e mid ssrc pt at in
    let types : PayloadTypes = types_of row ssrc (own_repairs_of e.exchange.agreed mid) in
    let low : IfSome types.repair (λ key. key.ssrc < 2 ^ 32) =
    subst (λ (o : Option Row). IfSome (types_in o ssrc (own_repairs_of e.exchange.agreed mid)).repair
    (λ key. key.ssrc < 2 ^ 32)) is key_fits in
    subst (λ (o : Option Row). IsSender (with_distances
    (opened_sender ssrc (types_in o ssrc (own_repairs_of e.exchange.agreed mid)) (stream_map e mid)
    (row_format_in o) p.picture_id p.for_browsers p.first p.mtu p.limit)
    (red_in o) p.red)) (sym is)
    (opened-sound law ssrc types row (stream_map e mid) p refl refl
    (key-beside ssrc row.resend (repairing_of (own_repairs_of e.exchange.agreed mid) ssrc) low)
    (carried-fits row at.carried) fits
    (subst (λ (o : Option Row). params.IsSound (red_in o) p) is sound))

-- redundancy leaves the rest of a stream as it was
pub record IsPlain (s t : Sending) (limit : ℕ) : Type 0 where
  pub ssrc : t.ssrc ≡ s.ssrc
  pub types : t.types ≡ s.types
  pub map : t.map ≡ s.map
  pub row : t.row ≡ s.row
  pub has_id : t.has_id ≡ s.has_id
  pub for_browsers : t.for_browsers ≡ s.for_browsers
  pub next : t.next ≡ s.next
  pub packetizer : t.packetizer ≡ s.packetizer
  pub limit_is : packet_limit t ≡ limit

plain-distances : (ssrc : ℕ) (types : PayloadTypes) (map : Numbering) (row : RowFormat) (p : StreamParams)
    (red : Option ℕ) (d : Option (List ℕ))
    → IsPlain (opened_sender ssrc types map row p.picture_id p.for_browsers p.first p.mtu p.limit)
    (with_distances (opened_sender ssrc types map row p.picture_id p.for_browsers p.first p.mtu p.limit) red d)
    (limit_by d p.mtu)
plain-distances ssrc types map row p red None = record {
  ssrc = refl;
  types = refl;
  map = refl;
  row = refl;
  has_id = refl;
  for_browsers = refl;
  next = refl;
  packetizer = refl;
  limit_is = refl;
}
plain-distances ssrc types map row p red (Some ds) = record {
  ssrc = refl;
  types = refl;
  map = refl;
  row = refl;
  has_id = refl;
  for_browsers = refl;
  next = refl;
  packetizer = refl;
  limit_is = refl;
}

samples-arrive : (s : Sending) (xs : List Sample) → samples_of s xs ≡ arriving s.row s.map xs
samples-arrive s [] = refl
samples-arrive s (x ∷ xs) = ap (λ (ts : List Timed). timed (timestamp s x.time) (carried s x.values) x.bytes ∷ ts)
    (samples-arrive s xs)

module _ (law : KeepCodecLawInForms) (first_law : FirstIsReached) (answer : List ℕ)
    (a b : EndState)
    (mid : List ℕ) (ssrc pt : ℕ) (p : StreamParams) (samples : List Sample)
    (to : SendsTo answer a b mid ssrc pt p samples) where
  one_row : agreed_row_of a.exchange.agreed mid pt ≡ agreed_row_of b.exchange.agreed mid pt
  one_row = same_rows answer a.exchange.agreed b.exchange.agreed to.exchanged.first to.exchanged.second mid pt

  one_map : agreed_map_of a.exchange.agreed mid ≡ agreed_map_of b.exchange.agreed mid
  one_map = same_maps answer a.exchange.agreed b.exchange.agreed to.exchanged.first to.exchanged.second mid

  abbrev s : Sending
  s = new_sender a mid ssrc pt p

  abbrev opened : Sending
  opened = opened_sender ssrc (sender_types a mid ssrc pt) (stream_map a mid) (agreed_format a mid pt) p.picture_id
      p.for_browsers p.first p.mtu p.limit

  pub plain : IsPlain opened s (packet_limit_of p)
  plain = plain-distances ssrc (sender_types a mid ssrc pt) (stream_map a mid) (agreed_format a mid pt) p
      (agreed_red a mid pt) p.red

  pub sender : IsSender s
  sender = new-is-sender first_law a mid ssrc pt p to.sends to.ssrc_fits to.repair_fits to.sound_params

  -- the repairs that the sending end names are those that the receiving one takes
  one_types : receiver_types b mid ssrc pt ≡ sender_types a mid ssrc pt
  one_types =
      ap₂ (λ (o : Option Row) (repairs : List (ℕ × ℕ)). types_in o ssrc repairs) (sym one_row)
      (sym (to.exchanged.repairs_to mid))

  -- both streams have one SSRC, types, map and row
  alike : (holding : Holding) → new_receiver b mid ssrc pt holding
      ≡ opened_receiver s.ssrc s.types s.map s.row holding
  alike holding =
      ap (λ (types : PayloadTypes). opened_receiver ssrc types (stream_map b mid) (agreed_format b mid pt) holding)
      one_types
      ∙ ap₂ (λ (o : Option Row) (m : Option Numbering). opened_receiver ssrc (sender_types a mid ssrc pt)
      (unwrap_or m empty_map) (row_format_in o) holding) (sym one_row) (sym one_map)
      ∙ ap₂ (λ (n : ℕ) (types : PayloadTypes). opened_receiver n types (stream_map a mid) (agreed_format a mid pt)
      holding) (sym plain.ssrc) (sym plain.types)
      ∙ ap₂ (λ (m : Numbering) (row : RowFormat). opened_receiver s.ssrc s.types m row holding) (sym plain.map)
      (sym plain.row)

  pub has-receiver : (holding : Holding) → HasReceiver (after_open_receiver b mid ssrc pt holding) (length b.streams)
      (new_receiver b mid ssrc pt holding)
  has-receiver holding =
      opened-receiver b mid ssrc pt holding (may-receive b mid ssrc pt to.receives)

  pub hears : (holding : Holding) → Hears (after_open_receiver b mid ssrc pt holding) (length b.streams) holding s
      samples
  hears holding = record {
    receiver = subst (λ (r : Receiving). HasReceiver (after_open_receiver b mid ssrc pt holding)
        (length b.streams) r) (alike holding) (has-receiver holding);
    sender = sender;
    sound = to.sound_samples;
    numbers = subst (λ (n : ℕ). n + count_of s samples ≤ 2 ^ 62) (sym plain.next) to.numbers;
  }

  pub units-are-alone : map whole_unit (canonical_of s samples) ≡ units a mid pt p samples
  units-are-alone =
      units-alone (coding_of s) (law (forms_for s.for_browsers) (settings_in s.row) s.has_id s.row.codec)
      (packet_limit s) (samples_of s samples)
      s.packetizer s.next sender.reached to.sound_samples.well_formed
      ∙ ap (units_by (coding_of s) (packet_limit s) s.packetizer)
      (samples-arrive s samples ∙ ap₂ (λ (row : RowFormat) (m : Numbering). arriving row m samples) plain.row plain.map)
      ∙ ap₂ (λ (row : RowFormat) (id : Bool). units_by (coding_in row id s.for_browsers) (packet_limit s) s.packetizer
      (arriving (agreed_format a mid pt) (stream_map a mid) samples)) plain.row plain.has_id
      ∙ ap (λ (b : Bool). units_by (coding_in (agreed_format a mid pt) (is_some p.picture_id) b) (packet_limit s)
      s.packetizer (arriving (agreed_format a mid pt) (stream_map a mid) samples)) plain.for_browsers
      ∙ ap₂ (λ (limit : ℕ) (state : Sender). units_by (coding_in (agreed_format a mid pt) (is_some p.picture_id)
      p.for_browsers) limit state
      (arriving (agreed_format a mid pt) (stream_map a mid) samples)) plain.limit_is plain.packetizer

  pub alone : (holding : Holding) (schedule : List Event) → answers_of a b mid ssrc pt p holding samples schedule
      ≡ heard (format_of (new_receiver b mid ssrc pt holding).row) (fresh holding)
      (own_events (source_of s samples) (new_receiver b mid ssrc pt holding) schedule)
  alone holding schedule =
      let e : EndState = after_open_receiver b mid ssrc pt holding in
      let n : ℕ = length b.streams in
      let r : Receiving = new_receiver b mid ssrc pt holding in
      let has : HasReceiver e n r = has-receiver holding in
      let same : receiver_at e n ≡ with_stream r (receiver_at e n).stream =
      has.stream_is ∙ ap (with_stream r) (sym (ap (λ (x : Receiving). x.stream) has.stream_is)) in
      isolated (source_of s samples) n r schedule e (record { same = same; known = has.found })
      ∙ ap (λ (t : Stream). heard (format_of r.row) t (own_events (source_of s samples) r schedule))
      (ap (λ (x : Receiving). x.stream) has.stream_is)
