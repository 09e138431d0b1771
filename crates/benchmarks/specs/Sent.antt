-- What a sample that is sent counts.
use Rattle.std.specs.Prelude.{◌≡◌, ◌⊎◌, ℕ, ◌-◌, ◌^◌, List, Result, Ok, Err, take}
use Rattle.benchmarks.specs.Tallies.{tally_with_all}
use Rattle.benchmarks.specs.declared.tally.Tally.{Tally}
use Rattle.payload_core.specs.Packing.{Packing, Sender, Sent}
use Rattle.payload_core.specs.Payloaders.{packetizer_of}
use Rattle.payload_core.specs.declared.PacketError.{PacketError}
use Rattle.benchmarks.specs.declared.formats.Sending.{Sending}

-- Either all of these packets are counted, or only the first of them, until the counter was full.
abbrev pub CountsPackets : List (List ℕ) → Tally → Tally → Type 0
CountsPackets packets before after = (after ≡ tally_with_all before packets)
    ⊎ ((n : ℕ) × (after ≡ tally_with_all before (take n packets)) × (after.packets ≡ 2 ^ 64 - 1))

-- The sample was accepted: its packets are counted, and the sender's state is the one after them.
abbrev pub CountsAccepted : Result Sent PacketError → Sender → Tally → Tally → Type 0
CountsAccepted (Ok sent) sender before after = (sender ≡ sent.sender) × CountsPackets sent.packets before after
CountsAccepted (Err e) sender before after = ⊥

-- The packets of the sample at a limit of 1,200 bytes are counted; if the sample is refused or memory runs out, nothing
-- is counted and the sender doesn't change. The line's tally is the same.
pub record CountsSent {P : Type 0} (packing : P → Packing) (sender : P → Sender) (old : Sending P) (number : ℕ)
    (before : Tally) (new : Sending P) (after : Tally) : Type 0 where
  pub counted :
      ((sender (packetizer_of new.payloader) ≡ sender (packetizer_of old.payloader)) × (after ≡ before))
      ⊎ CountsAccepted
      ((packing (packetizer_of old.payloader)).pack (sender (packetizer_of old.payloader)) 1200 old.sample.now)
      (sender (packetizer_of new.payloader)) before after
  pub line : new.line.tally ≡ after
  pub packing_stays : packing (packetizer_of new.payloader) ≡ packing (packetizer_of old.payloader)
  pub sample_stays : new.sample ≡ old.sample
  pub values_stay : new.values ≡ old.values
