use Rattle.std.proofs.Common.{◌≡◌, ◌++◌, length, map}
use Rattle.payload_core_audio.specs.RedHistory.{kept_of}
use Rattle.payload_core_audio.proofs.RepeatLemmas.{written}
use Rattle.payload_core_audio.proofs.repeated.push_payloads.Given as goal

-- what is written so far, and what is left
abbrev pub invariant-loop-place : goal.invariant-loop-place
invariant-loop-place l =
    l.packet.items ++ written (map kept_of l.history) l.distances l.time (λ b. b.payload) l.place
    ≡ l.fn.packet.items ++ written (map kept_of l.history) l.distances l.time (λ b. b.payload) (length l.distances)
