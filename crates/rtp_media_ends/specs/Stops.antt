-- What a call leaves if memory runs out, and calls that depend on a test.
use Rattle.std.specs.Prelude.{ℕ, ◌≡◌, Bool, true, false}
use Rattle.rtp_media_streams.specs.Polls.{poll_step}
use Rattle.rtp_media_streams.specs.Sending.{HasFailed}
use Rattle.rtp_media_ends.specs.Ends.{AtReceiver, EndState, sender_at, with_sender}

-- One statement if the test holds, another if not.
abbrev pub Where : Bool → Type 0 → Type 0 → Type 0
Where true holds fails = holds
Where false holds fails = fails

-- A sending stream ran out of memory: it is marked as failed; the others don't change.
abbrev pub SenderFails : EndState → ℕ → EndState → Type 0
SenderFails e n after = HasFailed (sender_at e n) (sender_at after n) × (after ≡ with_sender e n (sender_at after n))

-- A poll ran out of memory (only one that has a unit to hand out can): the frame stays in the buffer.
abbrev pub PollStops : EndState → ℕ → EndState → Type 0
PollStops e n = AtReceiver e n (λ r s. (poll_step r).Stopped s)
