-- What payloads with redundancy count.
use Rattle.std.specs.Prelude.{◌≡◌, ◌⊎◌, ℕ, List, MatchOption, length, map, replicate}
use Rattle.benchmarks.specs.Tallies.{tally_with, tally_with_all}
use Rattle.benchmarks.specs.declared.tally.Tally.{Tally}
use Rattle.payload_core_audio.specs.RedHistory.{keeping}
use Rattle.payload_core_audio.specs.RedReading.{Item, read_red}
use Rattle.payload_core_audio.specs.RedWrapping.{IsWrap}
use Rattle.benchmarks.specs.declared.redundant.ReadingRed.{ReadingRed}
use Rattle.benchmarks.specs.declared.redundant.SendingRed.{SendingRed}

-- The payload that is sent.
abbrev pub sent_payload : List ℕ
sent_payload = replicate 120 7

-- What is sent for the payload (payload type 111, this timestamp, at most 1,200 bytes) is counted, and the payload is
-- kept; if memory runs out, nothing changes.
abbrev pub CountsWrapped : SendingRed → ℕ → Tally → SendingRed → Tally → Type 0
CountsWrapped old time before new after =
    ((sent : List ℕ) × IsWrap old.sender 111 sent_payload time 1200 sent
    × (new.sender ≡ keeping old.sender 111 sent_payload time) × (after ≡ tally_with before 1 (length sent)))
    ⊎ ((new.sender ≡ old.sender) × (after ≡ before))

-- The payloads of the packet are counted; nothing is if it isn't a RED packet.
abbrev pub CountsPayloads : ReadingRed → ℕ → Tally → ReadingRed → Tally → Type 0
CountsPayloads old number before new after =
    (new ≡ old) × MatchOption (read_red old.packet.now) (after ≡ before)
    (λ items. after ≡ tally_with_all before (map (λ (item : Item). item.payload) items))
