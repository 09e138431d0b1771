use Rattle.std.proofs.Common.{◌≡◌, ℕ, suc, ◌+◌, ap, ap₂, ◌∙◌, arith, Bool, eqb, List, [], ◌∷◌, ◌++◌, drop, length}
use Rattle.std.proofs.Common.{map, Vec, Global}
use Rattle.std.proofs.Common.{length-append}
use Rattle.std.specs.Vec.Iter.{into_iter_items}
use Rattle.payload_core_base.specs.Packing.{Packing}
use Rattle.rtp_media_streams.specs.Made.{numbered}
use Rattle.rtp_media_streams.proofs.MadeLemmas.{none-left, one-more, slice-to-end, tail-of}
use Rattle.rtp_media_streams.proofs.making.Making.number_all.Goals as goal

pub loop-packet-preserved : goal.loop-packet-preserved
loop-packet-preserved g c =
    let so_far = c.loop-packet.invariant in
    let header = c.args.header.now in
    let packing : Packing = g.P.Packetizer.packing c.args.packetizer.now in
    let items : List (Vec ℕ Global) → List (List ℕ) = map (λ v. v.items) in
    let p : List ℕ = c.in-Some.packet.items in
    let done : List (List ℕ) = c.loop-packet.datagrams.items in
    let rest : List (List ℕ) = items (into_iter_items c.next.new.self) in
    let next : items (into_iter_items c.loop-packet.packet-iterator) ≡ p ∷ rest = ap items c.in-Some.ensures.steps.0 in
    let count : length done + suc (length rest) ≡ c.len-count.result =
    omega (arith, so_far.count, ap length next) in
    let last : Bool = eqb (length done + 1) c.len-count.result in
    let number : ℕ = c.args.self.now.first + length done in
    let d : List ℕ = numbered number (packing.marks (drop (length header) p) last) p in
    let len : c.len.result ≡ length done = omega arith in
    let again : c.len-in-loop-packet.result ≡ length done = omega arith in
    let marker : c.is_marker-marker.result ≡ packing.marks (drop (length header) p) last =
    c.is_marker-marker.ensures.marker
    ∙ ap (λ (b : List ℕ). (g.P.Packetizer.packing c.loop-packet.packetizer).marks b (eqb (c.len.result + 1)
    c.len-count.result)) (slice-to-end (length header) c.deref.result.now)
    ∙ ap (λ (k : Packing). k.marks (drop (length header) c.deref.result.now) (eqb (c.len.result + 1)
    c.len-count.result)) so_far.packing
    ∙ ap₂ (λ (b : List ℕ) (n : ℕ). packing.marks (drop (length header) b) (eqb (n + 1) c.len-count.result))
    c.deref.ensures.value len in
    let pushed : c.push.new.self.items ≡ done ++ d ∷ [] =
    c.in_ok-push.ensures.items ∙ ap (λ (x : List ℕ). done ++ x ∷ []) (c.from_vec.ensures ∙ c.write_number.ensures
    ∙ ap₂ (λ (n : ℕ) (m : Bool). numbered (c.args.self.now.first + n) m p) again marker) in
    record {
      packing = c.is_marker-marker.ensures.packing ∙ so_far.packing;
      sender = c.is_marker-marker.ensures.sender ∙ so_far.sender;
      count = omega (arith, count, ap length pushed, length-append done (d ∷ []));
      prefixed = tail-of _ _ _ _ (rw next at so_far.prefixed);
      made = rw pushed (one-more c.args.self.now.stamp.now c.args.self.now.first packing c.args.self.now.time
          c.args.self.now.values.now header done _ p rest last c.requires.header (rw next at so_far.prefixed)
          (none-left header rest (length done) c.len-count.result count) (rw next at so_far.made));
    }
