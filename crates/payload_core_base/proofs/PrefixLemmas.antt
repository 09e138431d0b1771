-- Packets with bytes in front of each.
use Rattle.std.proofs.Common.{ℕ, List, [], Result, Ok, Err, ◌∙◌}
use Rattle.std.proofs.lemmas.List.{map-id}
use Rattle.payload_core_base.specs.Packing.{Sender, Sent, Sends, SendsWith}
use Rattle.payload_core_base.specs.declared.error.PacketError.{PacketError}

-- with nothing in front the packets are those of the sample
pub sends-without : (sent : Result Sent PacketError) (packets : List (List ℕ)) (sender : Sender)
    → SendsWith [] sent packets sender → Sends sent packets sender
sends-without (Ok sent) packets sender (are, after) = (are ∙ map-id sent.packets, after)
sends-without (Err e) packets sender none = none
