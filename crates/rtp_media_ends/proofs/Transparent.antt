-- A datagram with redundancy brings what one without it brings.
use Rattle.std.proofs.Common.{◌≡◌, ℕ, ◌+◌, ◌%◌, ◌<◌, ◌≤◌, refl, sym, ◌∙◌, ap, ap₂, subst, subst₂, arith, Bool, List, []}
use Rattle.std.proofs.Common.{◌∷◌, length, map}
use Rattle.std.specs.Prelude.{Option, Some}
use Rattle.std.specs.List.{cons_option}
use Rattle.std.proofs.lemmas.List.Elements.{All-head, All-tail}
use Rattle.h26x_payload.specs.Dispatch.{KeepCodecLawInForms}
use Rattle.payload_core_base.specs.Packing.{Sender}
use Rattle.rtp_wire.specs.Values.{Numbering}
use Rattle.rtp_media_schedules.specs.Hearing.{Event, Comes}
use Rattle.rtp_media_schedules.specs.SentSamples.{Timed, timed}
use Rattle.rtp_media_schedules.specs.Samples.{AreWellFormed, SentSample, datagrams, packets_of, sent_by}
use Rattle.rtp_media_schedules.specs.Sending.{numbered}
use Rattle.rtp_media_streams.specs.Receiving.{Receiving}
use Rattle.rtp_media_streams.specs.Rows.{coding_in}
use Rattle.rtp_media_streams.specs.Sending.{Sample, Sending, carried, packet_limit, samples_of, timestamp}
use Rattle.rtp_media_streams.specs.declared.row_format.RowFormat.{RowFormat}
use Rattle.rtp_media_ends.specs.FullArrival.{AreSound, count_of, sent_datagram, sent_samples}
use Rattle.rtp_media_ends.specs.OwnEvents.{event_in, own_events}
use Rattle.rtp_media_ends.specs.Transparency.{AreSent, AreTwins, Receives}
use Rattle.rtp_media_ends.proofs.Exact.{all-theirs, brings}

-- samples arrive alike if the map and the row are alike
samples-alike : (s t : Sending) (xs : List Sample) → samples_of (record t { map = s.map; row = s.row }) xs
    ≡ samples_of s xs
samples-alike s t [] = refl
samples-alike s t (x ∷ xs) = ap (λ (ts : List Timed). timed (timestamp s x.time) (carried s x.values) x.bytes ∷ ts)
    (samples-alike s t xs)

module _ (s t : Sending) (twins : AreTwins s t) (xs : List Sample) where
  same-samples : samples_of t xs ≡ samples_of s xs
  same-samples = ap₂ (λ (m : Numbering) (row : RowFormat). samples_of (record t { map = m; row = row }) xs) twins.map
      twins.row ∙ samples-alike s t xs

  same-sent : sent_samples t xs ≡ sent_samples s xs
  same-sent =
      ap₂ (λ (row : RowFormat) (id : Bool). sent_by (coding_in row id t.for_browsers) (packet_limit t) t.packetizer
      (samples_of t xs)) twins.row twins.has_id
      ∙ ap (λ (b : Bool). sent_by (coding_in s.row s.has_id b) (packet_limit t) t.packetizer (samples_of t xs))
      twins.for_browsers
      ∙ ap₂ (λ (limit : ℕ) (p : Sender). sent_by (coding_in s.row s.has_id s.for_browsers) limit p
      (samples_of t xs)) twins.packets
      twins.packetizer
      ∙ ap (λ (ts : List Timed). sent_by (coding_in s.row s.has_id s.for_browsers)
      (packet_limit s) s.packetizer ts) same-samples

  still-sound : AreSound s xs → AreSound t xs
  still-sound sound = record {
    well_formed =
        subst₂ (λ (row : RowFormat) (id : Bool). AreWellFormed (coding_in row id t.for_browsers) (packet_limit t)
        (samples_of t xs)) (sym twins.row) (sym twins.has_id)
        (subst (λ (b : Bool). AreWellFormed (coding_in s.row s.has_id b) (packet_limit t) (samples_of t xs))
        (sym twins.for_browsers)
        (subst₂ (λ (limit : ℕ) (ts : List Timed). AreWellFormed (coding_in s.row s.has_id s.for_browsers) limit ts)
        (sym twins.packets) (sym same-samples) sound.well_formed));
    values = sound.values;
  }

  same-event : KeepCodecLawInForms → (r : Receiving) → Receives r s → AreSound s xs → (x : ℕ) → s.next ≤ x
      → x < s.next + count_of s xs → event_in r (sent_datagram t xs x) ≡ event_in r (sent_datagram s xs x)
  same-event law r for sound x low high =
      let more : count_of t xs ≡ count_of s xs = ap (λ (ss : List SentSample). length (packets_of ss)) same-sent in
      brings t r xs x (for.ssrc ∙ sym twins.ssrc, for.types ∙ sym twins.types, for.map ∙ sym twins.map)
      twins.redundant_sound (all-theirs law t xs twins.redundant_sound (still-sound sound))
      (omega (arith, twins.next, low)) (omega (arith, twins.next, high, more))
      ∙ ap₂ (λ (n : ℕ) (ss : List SentSample). Some (Comes (x % 65536) (numbered n (datagrams ss) x))) twins.next
      same-sent
      ∙ sym (brings s r xs x (for.ssrc, for.types, for.map) twins.plain_sound
      (all-theirs law s xs twins.plain_sound sound) low high)

pub transparent : KeepCodecLawInForms → (plain redundant : Sending) (r : Receiving) (samples : List Sample)
    (numbers : List ℕ) → AreTwins plain redundant → Receives r plain → AreSent plain samples numbers →
    own_events r (map (sent_datagram redundant samples) numbers)
    ≡ own_events r (map (sent_datagram plain samples) numbers)
transparent law plain redundant r samples [] twins for sent = refl
transparent law plain redundant r samples (x ∷ xs) twins for sent =
    let here = All-head (λ (n : ℕ). (plain.next ≤ n) × (n < plain.next + count_of plain samples)) x xs sent.in_range in
    ap₂ (λ (o : Option Event) (es : List Event). cons_option o es)
    (same-event plain redundant twins samples law r for sent.sound x here.0 here.1)
    (transparent law plain redundant r samples xs twins for
    (record {
      sound = sent.sound;
      in_range =
          All-tail (λ (n : ℕ). (plain.next ≤ n) × (n < plain.next + count_of plain samples)) x xs sent.in_range;
    }))
