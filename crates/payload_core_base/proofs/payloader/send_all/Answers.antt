use Rattle.std.proofs.Common.{◌≡◌, ◌+◌, ℕ, Bool, eqb, List, [], Vec, Global, map, take, length, get_or, sym, ap, ◌∙◌}
use Rattle.std.proofs.Common.{arith}
use Rattle.std.proofs.lemmas.List.{get_or-map, length-map, take_all}
use Rattle.payload_core_base.specs.Packing.{Packing}
use Rattle.payload_core_base.specs.Outgoing.{Outgoing, outgoing}
use Rattle.payload_core_base.specs.Sending.{outgoing_from}
use Rattle.payload_core_base.proofs.SendingLemmas.{length-outgoing_from, outgoing_more, takes_more}
use Rattle.payload_core_base.proofs.payloader.send_all.Goals as goal

pub returns-in-Err-clause-stopped : goal.returns-in-Err-clause-stopped
returns-in-Err-clause-stopped g c =
    let ps : List (List ℕ) = map (λ p. p.items) c.args.packets.now in
    let packing = g.P.Packetizer.packing c.args.packetizer.now in
    let count : length ps ≡ length c.args.packets.now = length-map c.args.packets.now (λ p. p.items) in (
      c.loop-i.i,
      omega (
        arith,
        c.loop-i-test.true,
        count,
        length-outgoing_from packing ps c.args.time c.args.values.now,
      ),
      c.loop-i.sink,
      c.loop-i.invariant.taken,
      c.in-Err.ensures.kept,
    )

pub loop-i-preserved : goal.loop-i-preserved
loop-i-preserved g c =
    let ps : List (List ℕ) = map (λ p. p.items) c.args.packets.now in
    let packing = g.P.Packetizer.packing c.args.packetizer.now in
    let i = c.loop-i.i in
    let so_far = c.loop-i.invariant in
    let items : c.index-packets-i.result.items ≡ get_or ps i [] =
    ap (λ (v : Vec ℕ Global). v.items) c.index-packets-i.is
    ∙ sym (get_or-map (λ (v : Vec ℕ Global). v.items) c.args.packets.now i c.index-packets-i.result []
    c.loop-i-test.true) in
    let payload : c.deref-in-loop-i.result.now ≡ get_or ps i [] = c.deref-in-loop-i.ensures.value ∙ items in
    let last : Bool = eqb (i + 1) (length c.args.packets.now) in
    let marker : c.is_marker-marker.result ≡ packing.marks c.deref-in-loop-i.result.now last =
    c.is_marker-marker.ensures.marker ∙ ap (λ (k : Packing). k.marks c.deref.result.now last) so_far.packing
    ∙ ap (λ (b : List ℕ). packing.marks b last) (c.deref.ensures.value ∙ sym c.deref-in-loop-i.ensures.value) in
    let count : length ps ≡ length c.args.packets.now = length-map c.args.packets.now (λ p. p.items) in
    let more = outgoing_more packing ps c.args.time c.args.values.now i c.deref-in-loop-i.result.now last
    (omega (arith, c.loop-i-test.true, count)) payload (ap (eqb (i + 1)) (sym count)) in
    record {
      packing = c.is_marker-marker.ensures.packing ∙ so_far.packing;
      sender = c.is_marker-marker.ensures.sender ∙ so_far.sender;
      taken = rw more (takes_more g.S.PacketSink.takes c.args.sink.now _
          (outgoing c.deref-in-loop-i.result.now (packing.marks c.deref-in-loop-i.result.now last) c.args.time
          c.args.values.now) c.loop-i.sink c.send.new.self so_far.taken (rw (← marker) c.in_default.ensures.taken));
    }

pub returns-clause-sent : goal.returns-clause-sent
returns-clause-sent g c =
    let ps : List (List ℕ) = map (λ p. p.items) c.args.packets.now in
    let packing = g.P.Packetizer.packing c.args.packetizer.now in
    let count : length ps ≡ length c.args.packets.now = length-map c.args.packets.now (λ p. p.items) in
    let all : List Outgoing = outgoing_from packing ps c.args.time c.args.values.now in
    let whole : take c.loop-i.i all ≡ all = take_all c.loop-i.i all
    (omega (arith, c.loop-i-test.false, count, length-outgoing_from packing ps c.args.time c.args.values.now)) in
    rw whole at c.loop-i.invariant.taken
