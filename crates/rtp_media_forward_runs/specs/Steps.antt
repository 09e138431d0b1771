-- Datagrams that leave in a whole run of a forwarder.
use Rattle.std.specs.Prelude.{ℕ, List, map}
use Rattle.payload_core_base.specs.Outgoing.{outgoing}
use Rattle.rtp_wire.specs.declared.values.ExtensionValues.{ExtensionValues}
use Rattle.rtp_media_schedules.specs.Hearing.{Content}
use Rattle.rtp_media_streams.specs.Sending.{Sending, datagram_of}
use Rattle.rtp_media_forward.specs.Forwarding.{Forwarding}
use Rattle.rtp_media_forward.specs.Relaying.{Sent}
use Rattle.rtp_media_forward.specs.Steps.{Step, sent_in}

abbrev pub datagram_on : Sending → Sent → List ℕ
datagram_on s t = datagram_of s t.number (outgoing t.content.bytes t.content.marker t.content.time t.content.values)

-- The datagrams that a stream sends of a run.
abbrev pub datagrams_in : Sending → (ExtensionValues → ExtensionValues) → (ℕ → ℕ → Content) → Forwarding → List Step
    → List (List ℕ)
datagrams_in s own senders f steps = map (datagram_on s) (sent_in own senders f steps)
