-- What one round counts. Arguments: the state before, the round's number, the tally before, the state after, the tally
-- after.
use Rattle.std.specs.Prelude.{◌≡◌, ℕ, ◌-◌, ◌/◌, ◌%◌, ◌++◌, length, drop, replicate, slice_set, nat_le}
use Rattle.std.specs.Prelude.{MatchBool, MatchOption}
use Rattle.benchmarks.specs.Tallies.{tally_with}
use Rattle.benchmarks.specs.declared.tally.Tally.{Tally}
use Rattle.rtp_wire.specs.Header.{header_in, spelled}
use Rattle.rtp_wire.specs.Replay.{accepts, window_with}
use Rattle.benchmarks.specs.Extensions.{header_with}
use Rattle.benchmarks.specs.declared.headers.Copying.{Copying}
use Rattle.benchmarks.specs.declared.headers.Reading.{Reading}
use Rattle.benchmarks.specs.declared.headers.Updating.{Updating}
use Rattle.benchmarks.specs.declared.headers.Writing.{Writing}

-- The header whose sequence number is the low 16 bits of the round's number is written to the front of the buffer and
-- counted with its length. If it is longer than the buffer, nothing changes.
abbrev pub CountsWritten : Writing → ℕ → Tally → Writing → Tally → Type 0
CountsWritten old number before new after =
    let extensions = old.extensions.now in
    let text = spelled extensions.map (header_with extensions (number % 65536)) in
    (new.extensions ≡ old.extensions) × MatchBool (nat_le (length text) 64)
    ((new.buf ≡ text ++ drop (length text) old.buf) × (after ≡ tally_with before 1 (length text)))
    ((new.buf ≡ old.buf) × (after ≡ before))

-- If a header can be read, it is counted with its length; otherwise nothing is. Nothing else changes.
abbrev pub CountsRead : Reading → ℕ → Tally → Reading → Tally → Type 0
CountsRead old number before new after =
    (new ≡ old) × MatchOption (header_in old.map.now old.buf) (after ≡ before)
    (λ header. after ≡ tally_with before 1 header.header_len)

-- The first 32 bytes become 255, except the third, which becomes the number's low byte. A copy is counted, with one
-- byte if that low byte is 255.
abbrev pub CountsCopied : Copying → ℕ → Tally → Copying → Tally → Type 0
CountsCopied old number before new after =
    (new.to ≡ slice_set (replicate 32 255 ++ drop 32 old.to) 2 (number % 256))
    × (after ≡ tally_with before 1 (number % 256 / 255))

-- The number offered is this one, or one less if it is 2 modulo 3. If the window accepts it, it is recorded and
-- counted; otherwise nothing changes.
abbrev pub CountsAccepted : Updating → ℕ → Tally → Updating → Tally → Type 0
CountsAccepted old number before new after =
    let offered = number - number % 3 / 2 in
    MatchBool (accepts old.window offered)
    ((new.window ≡ window_with old.window offered) × (after ≡ tally_with before 1 0))
    ((new.window ≡ old.window) × (after ≡ before))
