-- A receiving stream within a limit of bytes, and numbers that carry nothing.
use Rattle.std.specs.Prelude.{ℕ, ◌+◌, ◌==◌, Bool, false, Option, None, Some, [], length, nat_le, unwrap_or}
use Rattle.std.specs.Prelude.{if◌then◌else◌}
use Rattle.payload_core_base.specs.Format.{Fragment}
use Rattle.payload_core_buffer.specs.Sizes.{excess}
use Rattle.rtp_media_schedules.specs.Hearing.{Stream}
use Rattle.rtp_media_streams.specs.Passing.{passed_to}

-- How many bytes an open fragment has.
abbrev pub fragment_len : Fragment → ℕ
fragment_len fragment = length (unwrap_or fragment [])

-- The stream without an open fragment.
abbrev pub closed : Stream → Stream
closed s = record s { fragment = None }

-- The stream that is done with all numbers up to this one, if there is one, and gives an open fragment up then.
abbrev pub passed_if : Option ℕ → Stream → Stream
passed_if None s = s
passed_if (Some number) s = closed (passed_to number s)

-- The stream without a fragment of more than so many bytes.
abbrev pub closed_within : ℕ → Stream → Stream
closed_within bytes s = if nat_le (fragment_len s.fragment) bytes then s else closed s

-- The stream within a limit of bytes: of the packets that wait those with the highest numbers stay, whose payloads have
-- at most so many bytes together, and a fragment stays open if it has no more.
abbrev pub kept_within : ℕ → Stream → Stream
kept_within bytes s = closed_within bytes (passed_if (excess bytes s.held) s)

-- Whether a number is the one after the last that is done with.
abbrev pub is_next : Option ℕ → ℕ → Bool
is_next None number = false
is_next (Some cutoff) number = number == cutoff + 1

-- The stream that is told that a number carries nothing: it is done with it, if it is the next.
abbrev pub passed_empty : ℕ → Stream → Stream
passed_empty number s = if is_next s.cutoff number then passed_to number s else s
