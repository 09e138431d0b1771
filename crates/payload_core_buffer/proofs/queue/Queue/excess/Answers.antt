use Rattle.std.proofs.Common.{◌≡◌, ◌-◌, ℕ, ap, arith, drop, sym}
use Rattle.payload_core_buffer.specs.Packets.{packets_of}
use Rattle.payload_core_buffer.specs.Sizes.{bytes_of}
use Rattle.payload_core_buffer.proofs.FrameLemmas.{length_packets}
use Rattle.payload_core_buffer.proofs.SizeLemmas.{excess-at, none-over, size-from, size-none}
use Rattle.payload_core_buffer.proofs.queue.Queue.excess.Goals as goal

pub loop-i-init : goal.loop-i-init
loop-i-init c =
    let ps = packets_of c.args.self.now.slots.items in
    let long = length_packets c.args.self.now.slots.items in
    let none = size-none ps (c.len-len.result - 0)
    (omega (arith, long, c.len-len.ensures, c.args.self.now.slots.ok.0)) in
    omega (arith, none)

pub returns-then-size-room : goal.returns-then-size-room
returns-then-size-room c =
    excess-at c.args.self.now.slots.items c.index-held.result.now c.len-len.result c.loop-i.i
    (omega (arith, c.len-len.ensures, c.args.self.now.slots.ok.0)) c.loop-i-test.true c.index-held.ensures c.args.bytes
    c.loop-i.room c.loop-i.invariant (omega (arith, c.if-size-room.true, c.len-size.ensures))

pub loop-i-preserved : goal.loop-i-preserved
loop-i-preserved c =
    let step = size-from c.args.self.now.slots.items c.index-held.result.now c.len-len.result c.loop-i.i
    (omega (arith, c.len-len.ensures, c.args.self.now.slots.ok.0)) c.loop-i-test.true c.index-held.ensures in
    omega (arith, step, c.loop-i.invariant, c.if-size-room.false, c.len-size.ensures)

pub returns : goal.returns
returns c =
    let end : c.len-len.result - c.loop-i.i ≡ 0 = omega (arith, c.loop-i-test.false) in
    let all : bytes_of (drop (c.len-len.result - c.loop-i.i) (packets_of c.args.self.now.slots.items))
    ≡ bytes_of (packets_of c.args.self.now.slots.items)
    = ap (λ (k : ℕ). bytes_of (drop k (packets_of c.args.self.now.slots.items))) end in
    sym (none-over c.args.bytes (packets_of c.args.self.now.slots.items) (omega (arith, all, c.loop-i.invariant)))
