-- What a sending stream answers if it shall send a packet of another stream on.
use Rattle.std.specs.Prelude.{ℕ, ◌+◌, ◌==◌, ◌^◌, max, nat_le, nat_lt, if◌then◌else◌, length, is_some, Option, Some}
use Rattle.std.specs.Prelude.{None}
use Rattle.payload_core_base.specs.Outgoing.{Outgoing}
use Rattle.rtp_media_streams.specs.Sending.{Sending, datagram_of}
use Rattle.rtp_media_streams.specs.declared.errors.ForwardError.{ForwardError}
use Rattle.rtp_media_streams.specs.declared.errors.ForwardError.TheVariants.{AddsRedundancy, LimitTooSmall, NoPayload}
use Rattle.rtp_media_streams.specs.declared.errors.ForwardError.TheVariants.{NumberTooLarge}

-- Why a payload of this many bytes is not sent under a number in a datagram of this many: the first that holds.
abbrev pub refusal_of_length : Sending → (number payload datagram : ℕ) → Option ForwardError
refusal_of_length s number payload datagram =
    if is_some s.redundancy then Some AddsRedundancy
    else if nat_le (2 ^ 62) number then Some NumberTooLarge
    else if payload == 0 then Some NoPayload
    else if nat_lt s.limit datagram then Some LimitTooSmall
    else None

-- Why a payload is not sent under a number, lack of memory aside.
abbrev pub refusal_of_packet : Sending → ℕ → Outgoing → Option ForwardError
refusal_of_packet s number o = refusal_of_length s number (length o.payload) (length (datagram_of s number o))

-- The stream after it: its samples have numbers above it.
abbrev pub after_packet : Sending → ℕ → Sending
after_packet s number = record s { next = max s.next (number + 1) }
