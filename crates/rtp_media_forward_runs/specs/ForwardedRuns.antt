-- An end that hears a stream whose datagrams are those of others, sent on.
use Rattle.std.specs.Prelude.{◌≡◌, ℕ, ◌+◌, ◌<◌, ◌≤◌, ◌^◌, List, [], ◌∷◌, length, None}
use Rattle.rtp_wire.specs.Carried.{AreValues}
use Rattle.rtp_wire.specs.declared.values.ExtensionValues.{ExtensionValues}
use Rattle.payload_core_base.specs.Outgoing.{Outgoing}
use Rattle.payload_core_buffer.specs.Buffered.{Holding}
use Rattle.rtp_media_streams.specs.Receiving.{opened_receiver}
use Rattle.rtp_media_streams.specs.Rows.{format_of}
use Rattle.rtp_media_streams.specs.Sending.{Sending}
use Rattle.rtp_media_ends.specs.Ends.{EndState}
use Rattle.rtp_media_ends.specs.FullArrival.{HasReceiver, IsSender}
use Rattle.rtp_media_runs.specs.Schedules.{Source}
use Rattle.rtp_media_forward.specs.Relayed.{AreRead, Part, count_of, relayed}
use Rattle.rtp_media_forward_runs.specs.Virtual.{payloads_of, virtual_datagrams}

-- Payloads with a byte, whose values can be written, at times of 32 bits.
abbrev pub AreWritable : List Outgoing → Type 0
AreWritable [] = Unit {0}
AreWritable (o ∷ os) = (o.time < 2 ^ 32) × (0 < length o.payload) × AreValues o.values × AreWritable os

-- What sends parts on: all its datagrams, and the stream, which repairs them.
abbrev pub relay_of : Sending → (ExtensionValues → ExtensionValues) → ℕ → List Part → Source
relay_of s own first parts = record { datagrams = virtual_datagrams s own first parts; stream = s }

-- An end's receiving stream hears a stream that sends parts on, which it heard nothing of before.
pub record HearsRelay (e : EndState) (rx : ℕ) (holding : Holding) (s : Sending)
    (own : ExtensionValues → ExtensionValues) (first : ℕ) (parts : List Part) : Type 0 where
  pub receiver : HasReceiver e rx (opened_receiver s.ssrc s.types s.map s.row holding)
  pub sender : IsSender s
  pub plain : s.redundancy ≡ None
  pub read : AreRead (format_of s.row) parts
  pub writable : AreWritable (payloads_of (relayed own parts))
  pub numbers : first + count_of parts ≤ 2 ^ 62
