-- What samples and polls answer, as numbers.
use Rattle.std.specs.Prelude.{ℕ, Option, Some, None, Ok, Err}
use Rattle.payload_core_buffer.specs.Steps.{MediaUnit}
use Rattle.rtp_media_streams.specs.Polls.{PollResult}
use Rattle.rtp_media_streams.specs.declared.errors.PollFault.TheVariants as fault
use Rattle.rtp_media_streams.specs.declared.errors.SampleError.{SampleError}
use Rattle.rtp_media_streams.specs.declared.errors.SampleError.TheVariants as sample_error
use Rattle.jilqamur.specs.Codes.{ok, memory, nothing, stream_failed, time_too_large, limit_too_small, payload}

-- The number of a refused sample.
abbrev pub sample_code : SampleError → ℕ
sample_code sample_error.StreamFailed = stream_failed
sample_code sample_error.TimeTooLarge = time_too_large
sample_code sample_error.LimitTooSmall = limit_too_small
sample_code (sample_error.Payload e) = payload
sample_code sample_error.Memory = memory

abbrev pub sample_outcome : Option SampleError → ℕ
sample_outcome None = ok
sample_outcome (Some e) = sample_code e

-- The number of a poll's answer.
abbrev pub poll_code : PollResult → ℕ
poll_code (Ok None) = nothing
poll_code (Ok (Some unit)) = ok
poll_code (Err (fault.Payload e)) = payload
poll_code (Err fault.Memory) = memory

-- The unit a poll leaves, or the one left before.
abbrev pub unit_behind : PollResult → Option MediaUnit → Option MediaUnit
unit_behind (Ok (Some unit)) before = Some unit
unit_behind answer before = before
