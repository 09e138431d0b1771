use Rattle.std.proofs.Common.{◌≡◌, List, Option, ap, subst, sym, ℕ, ◌∙◌}
use Rattle.payload_core_buffer.specs.Packets.{Packet, packets_of}
use Rattle.payload_core_buffer.specs.Slots.{IsAbove}
use Rattle.payload_core_buffer.specs.Sizes.{excess}
use Rattle.payload_core_buffer.proofs.SizeLemmas.{fits-passed, none-fits}
use Rattle.payload_core_buffer.proofs.buffer.DepacketizingBuffer.keep_within.Goals as goal

pub returns-in-Some-clause-fits : goal.returns-in-Some-clause-fits
returns-in-Some-clause-fits g c =
    let hs = c.self.inside.queue.slots.items in
    let held : c.args.self.now.held ≡ packets_of hs = ap (λ b. b.held) (sym c.self.view_is) in
    let cutoff : c.self.inside.cutoff ≡ c.args.self.now.cutoff = ap (λ b. b.cutoff) c.self.view_is in
    rw c.pass_to.ensures (fits-passed c.args.self.now c.args.bytes c.in-Some.number hs held
    c.self.invariant.1.queue.slots.rising
    (subst (λ (o : Option ℕ). IsAbove o hs) cutoff c.self.invariant.1.above) (sym c.excess.ensures ∙ c.in-Some.is))

pub returns-in-None-clause-fits : goal.returns-in-None-clause-fits
returns-in-None-clause-fits g c =
    let held : c.args.self.now.held ≡ packets_of c.self.inside.queue.slots.items
    = ap (λ b. b.held) (sym c.self.view_is) in
    none-fits c.args.bytes c.args.self.now.held
    (ap (λ (ps : List Packet). excess c.args.bytes ps) held ∙ sym c.excess.ensures ∙ c.in-None.is)
