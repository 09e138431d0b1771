-- Datagrams that leave in a run of a forwarder.
use Rattle.std.proofs.Common.{◌≡◌, ℕ, ◌+◌, ◌-◌, ◌%◌, ◌<◌, ◌≤◌, refl, sym, ◌∙◌, ap, ap₂, arith, List, [], ◌∷◌, length}
use Rattle.std.proofs.Common.{map}
use Rattle.std.specs.Prelude.{Option, Some, slice_index_or}
use Rattle.payload_core_base.specs.Outgoing.{Outgoing}
use Rattle.rtp_wire.specs.declared.values.ExtensionValues.{ExtensionValues}
use Rattle.payload_core_buffer.specs.Buffered.{Holding}
use Rattle.rtp_media_schedules.specs.Hearing.{Comes, Content, Event}
use Rattle.rtp_media_schedules.specs.Samples.{datagrams}
use Rattle.rtp_media_schedules.specs.Sending.{no_content, numbered}
use Rattle.rtp_media_streams.specs.Sending.{Sending, datagrams_from}
use Rattle.rtp_media_streams.proofs.Cutting.{length-datagrams_from}
use Rattle.rtp_media_forward.specs.Forwarding.{Forwarding}
use Rattle.rtp_media_forward.specs.Relayed.{Part, count_of, relayed}
use Rattle.rtp_media_forward.specs.Relaying.{AreBetween, datagrams_at}
use Rattle.rtp_media_forward.specs.Steps.{Step, numbers_in, sent_in}
use Rattle.rtp_media_forward.proofs.Relayed.{count-is}
use Rattle.rtp_media_forward_runs.specs.ForwardedRuns.{AreWritable}
use Rattle.rtp_media_forward_runs.specs.Hops.{AreHeardAs, IsPlain, event_in, receiver_of, values_by}
use Rattle.rtp_media_forward_runs.specs.Steps.{datagram_on, datagrams_in}
use Rattle.rtp_media_forward_runs.specs.Virtual.{numbered_datagrams, payloads_of, virtual_datagrams}
use Rattle.rtp_media_forward_runs.proofs.ForwardedRuns as forwarded
use Rattle.rtp_media_forward_runs.proofs.ForwardedRuns.{brought-at, contents-are}
use Rattle.rtp_media_forward_runs.proofs.Virtual.{at-numbers, many, payloads-are}

module _ (s : Sending) (own : ExtensionValues → ExtensionValues) (senders : ℕ → ℕ → Content) (first : ℕ)
    (parts : List Part) (f : Forwarding) (steps : List Step) where
  abbrev ys : List ℕ
  ys = numbers_in senders f steps

  pub bytes-in : sent_in own senders f steps ≡ datagrams_at (numbered first (datagrams (relayed own parts))) ys
      → AreBetween first (first + count_of parts) ys
      → datagrams_in s own senders f steps ≡ numbered_datagrams first (virtual_datagrams s own first parts) ys
  bytes-in sends between =
      let cs : List Content = datagrams (relayed own parts) in
      let count : length cs ≡ count_of parts = many (relayed own parts) ∙ count-is own parts in
      ap (map (datagram_on s)) sends
      ∙ at-numbers s first cs first (first + count_of parts) ys (omega arith) (omega (arith, count)) between
      ∙ ap (λ (os : List Outgoing). numbered_datagrams first (datagrams_from s first os) ys)
      (sym (payloads-are (relayed own parts)))

  module _ (holding : Holding) (plain : IsPlain s) (good : AreWritable (payloads_of (relayed own parts))) where
    abbrev os : List Outgoing
    os = payloads_of (relayed own parts)

    abbrev sender : ℕ → Content
    sender = numbered first (datagrams (relayed (values_by s own) parts))

    at-number : (y : ℕ) → first ≤ y → y < first + count_of parts
        → event_in (receiver_of holding s) (slice_index_or (virtual_datagrams s own first parts) (y - first) [])
        ≡ Some (Comes (y % 65536) (sender y))
    at-number y low high =
        let back : first + (y - first) ≡ y = omega (arith, low) in
        let count : length os ≡ count_of parts =
        sym (length-datagrams_from s first os) ∙ forwarded.many s own first parts in
        brought-at s holding os first (y - first) plain good (omega (arith, low, high, count))
        ∙ ap₂ (λ (n : ℕ) (cs : List Content). Some (Comes (n % 65536) (slice_index_or cs (y - first) no_content))) back
        (contents-are s own parts)

    heard-at : (zs : List ℕ) → AreBetween first (first + count_of parts) zs
        → AreHeardAs (receiver_of holding s) sender
        (numbered_datagrams first (virtual_datagrams s own first parts) zs) zs
    heard-at [] between = refl
    heard-at (z ∷ zs) between =
        ap₂ (λ (o : Option Event) (rest : List (Option Event)). o ∷ rest) (at-number z between.0 between.1)
        (heard-at zs between.2)

    pub heard-in : sent_in own senders f steps ≡ datagrams_at (numbered first (datagrams (relayed own parts))) ys
        → AreBetween first (first + count_of parts) ys
        → AreHeardAs (receiver_of holding s) sender (datagrams_in s own senders f steps) ys
    heard-in sends between =
        ap (map (event_in (receiver_of holding s))) (bytes-in sends between) ∙ heard-at ys between
