-- What calls about the numbers of an end's streams, and about streams that are closed, answer.
use Rattle.std.specs.Prelude.{ℕ, ◌≡◌, ◌≢◌, Bool, List, if◌then◌else◌}
use Rattle.payload_core_buffer.specs.Buffered.{is_done}
use Rattle.rtp_media_streams.specs.Limits.{is_next, kept_within, passed_empty}
use Rattle.rtp_media_streams.specs.Missing.{missing}
use Rattle.rtp_media_streams.specs.Passing.{passed_to}
use Rattle.rtp_media_streams.specs.Receiving.{with_stream}
use Rattle.rtp_media_streams.specs.Sending.{skipped_to}
use Rattle.rtp_media_ends.specs.Ends.{EndState, is_receiver_at, is_sender_at, receiver_at, sender_at}
use Rattle.rtp_media_ends.specs.Ends.{with_receiver, with_sender, without_stream}
use Rattle.rtp_media_ends.specs.Stops.{Where}
use Rattle.jilqamur.specs.Codes.{ok, memory, nothing, no_stream}
use Rattle.jilqamur.specs.Copies.{IsCopied}

-- The missing numbers of a receiving stream.
abbrev pub TellsMissing : EndState → ℕ → List ℕ → ℕ → ℕ → List ℕ → Type 0
TellsMissing e n before result needed numbers = Where (is_receiver_at e n)
    (result ≢ memory → IsCopied (missing (receiver_at e n).stream) before result needed numbers) (result ≡ no_stream)

abbrev pub passed_code : Bool → ℕ
passed_code is_passed = if is_passed then ok else nothing

-- Whether a number of a receiving stream is passed.
abbrev pub AnswersPassed : EndState → ℕ → ℕ → ℕ → Type 0
AnswersPassed e n number result = Where (is_receiver_at e n)
    (result ≡ passed_code (is_done (receiver_at e n).stream.cutoff number)) (result ≡ no_stream)

-- A call that changes a stream: the end after it, or no such stream.
abbrev pub Changes : Bool → EndState → EndState → ℕ → EndState → Type 0
Changes is_there changed e result after =
    Where is_there ((result ≡ ok) × (after ≡ changed)) ((result ≡ no_stream) × (after ≡ e))

abbrev pub passed_end : EndState → ℕ → ℕ → EndState
passed_end e n number = with_receiver e n (with_stream (receiver_at e n) (passed_to number (receiver_at e n).stream))

-- All numbers of a receiving stream up to one are passed.
abbrev pub PassesTo : EndState → ℕ → ℕ → ℕ → EndState → Type 0
PassesTo e n number result after = Changes (is_receiver_at e n) (passed_end e n number) e result after

-- A receiving stream is told that a number carries nothing.
abbrev pub emptied_end : EndState → ℕ → ℕ → EndState
emptied_end e n number =
    with_receiver e n (with_stream (receiver_at e n) (passed_empty number (receiver_at e n).stream))

abbrev pub PassesEmpty : EndState → ℕ → ℕ → ℕ → EndState → Type 0
PassesEmpty e n number result after = Where (is_receiver_at e n)
    ((result ≡ passed_code (is_next (receiver_at e n).stream.cutoff number)) × (after ≡ emptied_end e n number))
    ((result ≡ no_stream) × (after ≡ e))

-- A receiving stream is kept within a limit of bytes.
abbrev pub limited_end : EndState → ℕ → ℕ → EndState
limited_end e n bytes = with_receiver e n (with_stream (receiver_at e n) (kept_within bytes (receiver_at e n).stream))

abbrev pub KeepsWithin : EndState → ℕ → ℕ → ℕ → EndState → Type 0
KeepsWithin e n bytes result after = Changes (is_receiver_at e n) (limited_end e n bytes) e result after

-- The number of the next datagram of a sending stream's samples.
abbrev pub TellsNext : EndState → ℕ → ℕ → ℕ → Type 0
TellsNext e n result next = Where (is_sender_at e n) ((result ≡ ok) × (next ≡ (sender_at e n).next))
    (result ≡ no_stream)

-- Numbers of a sending stream are left out.
abbrev pub SkipsTo : EndState → ℕ → ℕ → ℕ → EndState → Type 0
SkipsTo e n number result after =
    Changes (is_sender_at e n) (with_sender e n (skipped_to (sender_at e n) number)) e result after

-- A stream is closed.
abbrev pub ClosesSender : EndState → ℕ → ℕ → EndState → Type 0
ClosesSender e n result after = Changes (is_sender_at e n) (without_stream e n) e result after

abbrev pub ClosesReceiver : EndState → ℕ → ℕ → EndState → Type 0
ClosesReceiver e n result after = Changes (is_receiver_at e n) (without_stream e n) e result after
