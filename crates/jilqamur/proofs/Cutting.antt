-- A packetizer after a sample that it cut.
use Rattle.std.proofs.Common.{◌≡◌, ℕ, List, subst, Result, Ok, Err}
use Rattle.payload_core_base.specs.Packing.{Packing, Sends, Sent}
use Rattle.payload_core_base.specs.declared.error.PacketError.{PacketError}
use Rattle.jilqamur.specs.PacketOutboxes.{PacketOutboxState, after_cut, cut, packing_in}

cut-given : (p after : PacketOutboxState) (r : Result Sent PacketError) → Sends r after.packets after.sender
    → after.format ≡ p.format → after.has_id ≡ p.has_id → after.for_browsers ≡ p.for_browsers → after ≡ after_cut p r
cut-given p after (Ok sent) sends format has_id forms =
    λ i. record {
      format = format i;
      has_id = has_id i;
      for_browsers = forms i;
      sender = sends.1 i;
      packets = sends.0 i;
    }
cut-given p after (Err e) sends format has_id forms = absurd sends

pub cut-behind : (p before after : PacketOutboxState) (packing : Packing) (mtu : ℕ) (sample : List ℕ) → before ≡ p
    → packing ≡ packing_in before → Sends (packing.pack before.sender mtu sample) after.packets after.sender
    → after.format ≡ before.format → after.has_id ≡ before.has_id → after.for_browsers ≡ before.for_browsers
    → after ≡ after_cut p (cut p mtu sample)
cut-behind p before after packing mtu sample same goes_by sends format has_id forms =
    subst (λ (q : PacketOutboxState). after ≡ after_cut q (cut q mtu sample)) same
    (cut-given before after (cut before mtu sample)
    (subst (λ (k : Packing). Sends (k.pack before.sender mtu sample) after.packets after.sender) goes_by sends)
    format has_id forms)
