use Rattle.std.proofs.Common.{ap, arith, length, refl, sym, ◌≡◌, ◌∙◌, Global, List, Ok, Some}
use Rattle.std.specs.declared.collections.VecDeque.{VecDeque}
use Rattle.payload_core_buffer.specs.declared.held.Held.{Held}
use Rattle.payload_core_buffer.specs.Packets.{packets_of}
use Rattle.payload_core_buffer.specs.Pops.{pop_state}
use Rattle.payload_core_buffer.proofs.DueTaken.{is-frame, popped}
use Rattle.payload_core_buffer.proofs.Stepping.{pops-none}
use Rattle.payload_core_buffer.proofs.TakeLemmas.{buffered_moved}
use Rattle.payload_core_buffer.proofs.take.take_unit.Goals as goal

pub returns-in_default-clause-held : goal.returns-in_default-clause-held
returns-in_default-clause-held g c limit le =
    let same : c.due_frame.new.self.slots.items ≡ c.args.queue.now.slots.items =
    ap (λ (q : VecDeque Held Global). q.items) c.due_frame.ensures.slots in
    buffered_moved (g.D.Depacketizer.format c.args.depacketizer.now) limit c.args.queue.now.complete
    c.due_frame.new.self.complete c.args.queue.now.slots.items c.due_frame.new.self.slots.items c.args.cutoff.now same
    c.due_frame.ensures.complete (c.requires limit le)

pub returns-in_default-clause-unchanged : goal.returns-in_default-clause-unchanged
returns-in_default-clause-unchanged g c = (refl, c.due_frame.ensures.slots, refl)

pub returns-in_default-clause-popped : goal.returns-in_default-clause-popped
returns-in_default-clause-popped g c =
    let hs = c.args.queue.now.slots.items in
    let d = g.D.Depacketizer in
    let format = d.format c.args.depacketizer.now in
    let held = c.requires (length hs) (omega arith) in
    let due = c.due_frame.ensures.due format held.queue.slots held.above held.queue.counted in
    let same : c.due_frame.new.self.slots.items ≡ c.args.queue.now.slots.items =
    ap (λ (q : VecDeque Held Global). q.items) c.due_frame.ensures.slots in
    pops-none format c.args.hold_back (pop_state (packets_of hs) c.args.cutoff.now (d.fragment c.args.depacketizer.now))
    (pop_state (packets_of c.due_frame.new.self.slots.items) c.args.cutoff.now (d.fragment c.args.depacketizer.now))
    (sym due ∙ c.in_default.is)
    (ap (λ (ks : List Held). pop_state (packets_of ks) c.args.cutoff.now (d.fragment c.args.depacketizer.now)) same)

pub take_frame-requires-clause-frame : goal.take_frame-requires-clause-frame
take_frame-requires-clause-frame g c =
    let hs = c.args.queue.now.slots.items in
    let d = g.D.Depacketizer in
    let format = d.format c.args.depacketizer.now in
    let held = c.requires (length hs) (omega arith) in
    let due = c.due_frame.ensures.due format held.queue.slots held.above held.queue.counted in
    let same : c.due_frame.new.self.slots.items ≡ c.args.queue.now.slots.items =
    ap (λ (q : VecDeque Held Global). q.items) c.due_frame.ensures.slots in
    is-frame format c.args.cutoff.now (d.fragment c.args.depacketizer.now) c.args.hold_back hs
    c.due_frame.new.self.slots.items c.in-Some.frame same (sym c.in-Some.is ∙ due)

pub take_frame-requires-clause-held : goal.take_frame-requires-clause-held
take_frame-requires-clause-held g c limit le =
    let same : c.due_frame.new.self.slots.items ≡ c.args.queue.now.slots.items =
    ap (λ (q : VecDeque Held Global). q.items) c.due_frame.ensures.slots in
    buffered_moved (g.D.Depacketizer.format c.args.depacketizer.now) limit c.args.queue.now.complete
    c.due_frame.new.self.complete c.args.queue.now.slots.items c.due_frame.new.self.slots.items c.args.cutoff.now same
    c.due_frame.ensures.complete (c.requires limit (omega (arith, le, ap length same)))

pub returns-in-Ok-clause-held : goal.returns-in-Ok-clause-held
returns-in-Ok-clause-held g c limit le =
    let same : c.due_frame.new.self.slots.items ≡ c.args.queue.now.slots.items =
    ap (λ (q : VecDeque Held Global). q.items) c.due_frame.ensures.slots in
    c.in-Ok.ensures.held limit (omega (arith, le, ap length same))

pub returns-in-Err-clause-held : goal.returns-in-Err-clause-held
returns-in-Err-clause-held g c limit le =
    let same : c.due_frame.new.self.slots.items ≡ c.args.queue.now.slots.items =
    ap (λ (q : VecDeque Held Global). q.items) c.due_frame.ensures.slots in
    c.in-Err.ensures.held limit (omega (arith, le, ap length same))

pub returns-in-Err-clause-popped : goal.returns-in-Err-clause-popped
returns-in-Err-clause-popped g c =
    let hs = c.args.queue.now.slots.items in
    let d = g.D.Depacketizer in
    let format = d.format c.args.depacketizer.now in
    let held = c.requires (length hs) (omega arith) in
    let due = c.due_frame.ensures.due format held.queue.slots held.above held.queue.counted in
    let same : c.due_frame.new.self.slots.items ≡ c.args.queue.now.slots.items =
    ap (λ (q : VecDeque Held Global). q.items) c.due_frame.ensures.slots in
    popped format c.args.cutoff.now (d.fragment c.args.depacketizer.now) c.args.hold_back hs
    c.due_frame.new.self.slots.items c.in-Some.frame same (sym c.in-Some.is ∙ due)
    (pop_state (packets_of c.take_frame.new.queue.slots.items) c.take_frame.new.cutoff
    (d.fragment c.take_frame.new.depacketizer))
    _ c.in-Err.ensures.taken

pub returns-in-Ok-clause-popped : goal.returns-in-Ok-clause-popped
returns-in-Ok-clause-popped g c =
    let hs = c.args.queue.now.slots.items in
    let d = g.D.Depacketizer in
    let format = d.format c.args.depacketizer.now in
    let held = c.requires (length hs) (omega arith) in
    let due = c.due_frame.ensures.due format held.queue.slots held.above held.queue.counted in
    let same : c.due_frame.new.self.slots.items ≡ c.args.queue.now.slots.items =
    ap (λ (q : VecDeque Held Global). q.items) c.due_frame.ensures.slots in
    popped format c.args.cutoff.now (d.fragment c.args.depacketizer.now) c.args.hold_back hs
    c.due_frame.new.self.slots.items c.in-Some.frame same (sym c.in-Some.is ∙ due)
    (pop_state (packets_of c.take_frame.new.queue.slots.items) c.take_frame.new.cutoff
    (d.fragment c.take_frame.new.depacketizer))
    (Some (Ok (Some c.in-Ok.unit))) c.in-Ok.ensures.taken
