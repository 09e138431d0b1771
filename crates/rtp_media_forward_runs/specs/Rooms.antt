-- One sample of each of two publishers, in one packet each, sent on by a forwarder to a subscriber.
use Rattle.std.specs.Prelude.{ℕ, ◌≡◌, ◌+◌, ◌<◌, ◌≤◌, ◌^◌, ◌==◌, Bool, true, if◌then◌else◌, List, [], ◌∷◌, ◌++◌, length}
use Rattle.std.specs.Prelude.{None, Some}
use Rattle.payload_core_base.specs.Outgoing.{Outgoing, outgoing}
use Rattle.rtp_wire.specs.declared.values.ExtensionValues.{ExtensionValues}
use Rattle.rtp_media_schedules.specs.Hearing.{Content}
use Rattle.rtp_media_schedules.specs.Samples.{datagrams}
use Rattle.rtp_media_schedules.specs.SentSamples.{Timed, timed}
use Rattle.rtp_media_schedules.specs.Sending.{numbered}
use Rattle.rtp_media_streams.specs.Sending.{Sample, Sending, carried, datagram_of, timestamp}
use Rattle.rtp_media_streams.specs.declared.types.RepairKey.{RepairKey}
use Rattle.rtp_media_ends.specs.FullArrival.{sent_samples}
use Rattle.rtp_media_runs.specs.Hops.{Hop, sender_over}
use Rattle.rtp_media_runs.specs.Schedules.{Source}
use Rattle.rtp_media_runs.specs.declared.schedule.Event.{Event}
use Rattle.rtp_media_runs.specs.declared.schedule.Event.TheVariants.{Arrive, Poll, Repair}
use Rattle.rtp_media_forward.specs.Forwarding.{shift_to}
use Rattle.rtp_media_forward.specs.Relayed.{Part}
use Rattle.rtp_media_forward.specs.Steps.{Come, Step, Switch}
use Rattle.rtp_media_forward_runs.specs.ForwardedRuns.{relay_of}
use Rattle.rtp_media_forward_runs.specs.Hops.{values_by}
use Rattle.rtp_media_forward_runs.specs.Published.{KeepsValues, Publication, parts_of}

-- How a codec sends a sample in one packet: what precedes the sample, and the marker.
pub record Form : Type 0 where
  pub front : List ℕ
  pub marker : Bool

-- The streams of both publishers to the forwarder, and the forwarder's to the subscriber; the samples; what the
-- forwarder makes of values, and the timestamp under which it sends the second publisher's sample.
pub record Room : Type 0 where
  pub one : Hop
  pub other : Hop
  pub onward : Hop
  pub one_sample : Sample
  pub other_sample : Sample
  pub own : ExtensionValues → ExtensionValues
  pub at : ℕ

abbrev pub time_over : Hop → Sample → ℕ
time_over h x = timestamp (sender_over h) x.time

-- The first publisher keeps its clock.
abbrev pub one_of : Room → Publication
one_of r = record {
  source = 1;
  stream = sender_over r.one;
  shift = shift_to (time_over r.one r.one_sample) (time_over r.one r.one_sample);
  samples = r.one_sample ∷ [];
}

abbrev pub other_of : Room → Publication
other_of r = record {
  source = 2;
  stream = sender_over r.other;
  shift = shift_to (time_over r.other r.other_sample) r.at;
  samples = r.other_sample ∷ [];
}

abbrev pub publications : Room → List Publication
publications r = one_of r ∷ other_of r ∷ []

abbrev pub parts_in : Room → List Part
parts_in r = parts_of (publications r)

-- What the publishers' datagrams bring, by number.
abbrev pub content_by_number : Publication → ℕ → Content
content_by_number p number = numbered p.stream.next (datagrams (sent_samples p.stream p.samples)) number

abbrev pub senders_in : Room → ℕ → ℕ → Content
senders_in r source number = content_by_number (if source == 1 then one_of r else other_of r) number

-- The forwarder sends the first publisher on; its packet comes; it goes over to the second one, whose packet comes.
abbrev pub steps_in : Room → List Step
steps_in r =
    Switch 1 0 (time_over r.one r.one_sample) (time_over r.one r.one_sample)
    ∷ Come (record { source = 1; number = 0; ends = true })
    ∷ Switch 2 0 (time_over r.other r.other_sample) r.at
    ∷ Come (record { source = 2; number = 0; ends = true })
    ∷ []

abbrev pub stream_in : Room → Sending
stream_in r = sender_over r.onward

-- What leaves, and the stream that repairs it.
abbrev pub relay_in : Room → Source
relay_in r = relay_of (stream_in r) r.own 0 (parts_in r)

abbrev pub values_from : Hop → Sample → ExtensionValues
values_from h x = carried (sender_over h) x.values

abbrev pub one_out : Form → Room → Outgoing
one_out form r =
    outgoing (form.front ++ r.one_sample.bytes) form.marker (time_over r.one r.one_sample)
    (r.own (values_from r.one r.one_sample))

abbrev pub other_out : Form → Room → Outgoing
other_out form r =
    outgoing (form.front ++ r.other_sample.bytes) form.marker r.at (r.own (values_from r.other r.other_sample))

-- All streams are of one codec, and each sample fits one packet. The forwarder's stream has repairs and no redundancy,
-- its second datagram may be repaired, and the subscriber may hold both.
pub record IsRoomOf (form : Form) (CarriesIt : Hop → Type 0) (Fits : Hop → Sample → Type 0) (r : Room) : Type 0 where
  pub one : CarriesIt r.one
  pub other : CarriesIt r.other
  pub onward : CarriesIt r.onward
  pub one_fits : Fits r.one r.one_sample
  pub other_fits : Fits r.other r.other_sample
  pub keeps : KeepsValues r.own
  pub time : r.at < 2 ^ 32
  pub plain : (stream_in r).redundancy ≡ None
  pub key : RepairKey
  pub repairs : (stream_in r).types.repair ≡ Some key
  pub limit : length (datagram_of (stream_in r) 1 (other_out form r)) + 2 ≤ (stream_in r).limit
  pub held : 2 ≤ r.onward.holding.held

-- At the subscriber the first datagram arrives, the second is lost and comes as a repair; then it is polled.
abbrev pub one_repair : List Event
one_repair = Arrive 0 ∷ Repair 1 ∷ Poll ∷ Poll ∷ Poll ∷ []

-- The samples' bytes, the first at its publisher's timestamp, the second at the one that the forwarder gives it.
abbrev pub units_in : Room → List Timed
units_in r =
    timed (time_over r.one r.one_sample) (values_by (stream_in r) r.own (values_from r.one r.one_sample))
    r.one_sample.bytes
    ∷ timed r.at (values_by (stream_in r) r.own (values_from r.other r.other_sample)) r.other_sample.bytes
    ∷ []
