use Rattle.std.proofs.Common.{◌≡◌, ◌<◌, ℕ, ◌+◌, sym, ap, ◌∙◌, arith, Bool, eqb, List, [], ◌∷◌, ◌++◌, length, map}
use Rattle.std.proofs.Common.{get_or, Vec, Global}
use Rattle.std.proofs.Common.{append-nil, drop, length-append}
use Rattle.std.proofs.lemmas.List.{drop_all, get_or-map, length-map}
use Rattle.payload_core_base.specs.Outgoing.{Outgoing}
use Rattle.payload_core_base.specs.Packing.{Packing}
use Rattle.payload_core_base.specs.Sending.{outgoing_from}
use Rattle.payload_core_base.proofs.SendingLemmas.{length-outgoing_from}
use Rattle.rtp_media_streams.specs.Made.{datagrams_with, numbered}
use Rattle.rtp_media_streams.specs.Redundant.{kept_after, wraps}
use Rattle.rtp_media_streams.proofs.MadeLemmas.{one-kept, one-wrapped}
use Rattle.rtp_media_streams.proofs.making.Making.wrap_all.Goals as goal

pub loop-i-preserved : goal.loop-i-preserved
loop-i-preserved g c =
    let so_far = c.loop-i.invariant in
    let making = c.args.self.now in
    let packing : Packing = g.P.Packetizer.packing c.args.packetizer.now in
    let ps : List (List ℕ) = map (λ v. v.items) c.args.packets.now in
    let i : ℕ = c.loop-i.i in
    let count : length ps ≡ length c.args.packets.now = length-map c.args.packets.now (λ v. v.items) in
    let items : c.index-packets-i.result.items ≡ get_or ps i [] =
    ap (λ (v : Vec ℕ Global). v.items) c.index-packets-i.is
    ∙ sym (get_or-map (λ (v : Vec ℕ Global). v.items) c.args.packets.now i c.index-packets-i.result []
    c.loop-i-test.true) in
    let payload : List ℕ = c.deref-in-loop-i-2.result.now in
    let is : payload ≡ get_or ps i [] = c.deref-in-loop-i-2.ensures.value ∙ items in
    let last : Bool = eqb (i + 1) (length c.args.packets.now) in
    let is-last : last ≡ eqb (i + 1) (length ps) = ap (eqb (i + 1)) (sym count) in
    let marks : c.is_marker-marker.result ≡ packing.marks payload last =
    c.is_marker-marker.ensures.marker ∙ ap (λ (k : Packing). k.marks c.deref.result.now last) so_far.packing
    ∙ ap (λ (b : List ℕ). packing.marks b last) (c.deref.ensures.value ∙ sym c.deref-in-loop-i-2.ensures.value) in
    let header = c.deref-in-loop-i.ensures.value ∙ c.in_ok-header.ensures in
    let lt : i < length ps = omega (arith, c.loop-i-test.true, count) in
    let d : List ℕ = numbered (making.first + i) c.is_marker-marker.result c.in_ok-datagram.datagram.items in
    let pushed : c.push.new.self.items ≡ c.loop-i.datagrams.items ++ d ∷ [] =
    c.in_ok-push.ensures.items ∙ ap (λ (x : List ℕ). c.loop-i.datagrams.items ++ x ∷ [])
    (c.from_vec.ensures ∙ c.write_number.ensures) in
    record {
      packing = c.is_marker-marker.ensures.packing ∙ so_far.packing;
      sender = c.is_marker-marker.ensures.sender ∙ so_far.sender;
      count = omega (arith, so_far.count, ap length pushed, length-append c.loop-i.datagrams.items (d ∷ []));
      made = rw pushed (one-wrapped packing ps making.time making.values.now i payload last
          c.is_marker-marker.result lt is
          is-last marks making.stamp.now making.first c.args.pt c.args.mtu c.loop-i.sender c.wrap_with_prefix.new.self
          c.loop-i.datagrams.items _ _ _ header c.in_ok-datagram.ensures.wrapped c.in_ok-datagram.ensures.kept
          so_far.made);
      kept = one-kept packing ps making.time making.values.now i payload last c.is_marker-marker.result lt is is-last
          marks c.args.pt c.loop-i.sender c.wrap_with_prefix.new.self c.in_ok-datagram.ensures.kept ∙ so_far.kept;
    }

pub returns-clause-made : goal.returns-clause-made
returns-clause-made g c =
    let making = c.args.self.now in
    let ps : List (List ℕ) = map (λ v. v.items) c.args.packets.now in
    let packing : Packing = g.P.Packetizer.packing c.args.packetizer.now in
    let all : List Outgoing = outgoing_from packing ps making.time making.values.now in
    let count : length ps ≡ length c.args.packets.now = length-map c.args.packets.now (λ v. v.items) in
    let none : drop c.loop-i.i all ≡ [] = drop_all c.loop-i.i all (omega (
      arith,
      c.loop-i-test.false,
      count,
      length-outgoing_from packing ps making.time making.values.now,
    )) in
    sym (append-nil c.loop-i.datagrams.items)
    ∙ ap (λ (os : List Outgoing). c.loop-i.datagrams.items ++ datagrams_with making.stamp.now
    (making.first + c.loop-i.i) (wraps c.args.pt c.args.mtu c.loop-i.sender os)) (sym none)
    ∙ c.loop-i.invariant.made

pub returns-clause-kept : goal.returns-clause-kept
returns-clause-kept g c =
    let making = c.args.self.now in
    let ps : List (List ℕ) = map (λ v. v.items) c.args.packets.now in
    let packing : Packing = g.P.Packetizer.packing c.args.packetizer.now in
    let all : List Outgoing = outgoing_from packing ps making.time making.values.now in
    let count : length ps ≡ length c.args.packets.now = length-map c.args.packets.now (λ v. v.items) in
    let none : drop c.loop-i.i all ≡ [] = drop_all c.loop-i.i all (omega (
      arith,
      c.loop-i-test.false,
      count,
      length-outgoing_from packing ps making.time making.values.now,
    )) in
    ap (kept_after c.args.pt c.loop-i.sender) (sym none) ∙ c.loop-i.invariant.kept
