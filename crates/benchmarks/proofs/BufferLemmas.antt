-- What a buffer holds of packets that are pushed.
use Rattle.std.proofs.Common.{◌≡◌, ◌⊎◌, ◌∙◌, ℕ, ◌+◌, List, [], add-one, ap}
use Rattle.std.proofs.Common.{get_or, inl, inr, length, map, nat_eq, subst}
use Rattle.std.specs.Prelude.{OnErr, OnOk, Result, Ok, Err}
use Rattle.payload_core.specs.Buffered.{Buffered, pushed}
use Rattle.payload_core.specs.Packets.{Packet, packet_from}
use Rattle.rtp_wire.specs.Values.{absent}
use Rattle.rtp_wire.specs.declared.ExtensionValues.{ExtensionValues}
use Rattle.benchmarks.specs.Buffered.{PushesFirst, number_after, packet_at}
use Rattle.benchmarks.specs.declared.buffers.Buffering.{Buffering}

-- the two outcomes of a push
pub either : {A E P Q : Type 0} (r : Result A E) → OnOk r P → OnErr r Q → P ⊎ Q
either (Ok a) p q = inl p
either (Err e) p q = inr q

-- one packet more
pub pushes_more : {D : Type 0} (b : Buffering D) (time n : ℕ) (old mid new : Buffered D) (packet : Packet)
    → packet ≡ packet_at b time n → PushesFirst b time n old mid
    → (new ≡ record mid { held = pushed mid.holding.held mid.cutoff mid.held packet }) ⊎ (new ≡ mid)
    → PushesFirst b time (n + 1) old new
pushes_more b time n old mid new packet is all one =
    rw add-one (
      mid,
      all,
      subst (λ p. (new ≡ record mid { held = pushed mid.holding.held mid.cutoff mid.held p }) ⊎ (new ≡ mid))
          is one,
    )

-- what a push leaves
pub stays : {D X : Type 0} (mid new : Buffered D) (held : List Packet) (view : Buffered D → X)
    → view (record mid { held = held }) ≡ view mid → (new ≡ record mid { held = held }) ⊎ (new ≡ mid)
    → view new ≡ view mid
stays mid new held view same (inl e) = ap view e ∙ same
stays mid new held view same (inr e) = ap view e

-- the packet that is pushed
pub packet_is : {D : Type 0} (b : Buffering D) (time n number : ℕ) (values : ExtensionValues) (payload : List ℕ)
    → number ≡ number_after b n → values ≡ absent → payload ≡ get_or (map (λ p. p.items) b.packets.now) n []
    → packet_from
    (record { seq_no = number; time = time; marker = nat_eq (n + 1) (length b.packets.now); ext_vals = values })
    payload ≡ packet_at b time n
packet_is b time n number values payload number_is values_are payload_is = cc
