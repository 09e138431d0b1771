use Rattle.std.proofs.Common.{ℕ, List, ◌++◌, map, min, length, sym, ◌∙◌, ap, append_assoc}
use Rattle.std.proofs.lemmas.List.{map-append, append-nil}
use Rattle.std.specs.Slice.Iter.{chunks_rest}
use Rattle.payload_core_base.specs.Packing.{with_prefix}
use Rattle.payload_core_base.proofs.PieceLemmas.{pieces-end, pieces-next}
use Rattle.payload_core_vpx.specs.Vp8.{described}
use Rattle.payload_core_vpx.proofs.vp8_sender.packets.Goals as goal

pub loop-piece-preserved : goal.loop-piece-preserved
loop-piece-preserved c =
    let steps = c.in-Some.ensures.steps in
    let whole = c.loop-piece.invariant in
    let next = pieces-next c.args.size (chunks_rest c.loop-piece.piece-iterator) c.in-Some.piece.now
    (chunks_rest c.next.new.self) c.requires.size steps.1.2 steps.1.0
    (steps.1.1 ∙ ap (λ n. min n (length (chunks_rest c.loop-piece.piece-iterator))) whole.size) in
    record {
      size = steps.0 ∙ whole.size;
      whole =
          rw (c.in_ok-push.ensures.items, map-append, append_assoc, c.in_ok-packet.ensures)
          (ap (λ ps. map (λ p. p.items) c.loop-piece.packets.items
          ++ with_prefix c.args.prefix.now (described c.args.tells c.args.id c.loop-piece.first ps)) (sym next)
          ∙ whole.whole);
    }

pub returns : goal.returns
returns c =
    let whole = c.loop-piece.invariant in
    let ps : List (List ℕ) = map (λ p. p.items) c.loop-piece.packets.items in
    sym (append-nil ps)
    ∙ ap (λ rest. ps ++ with_prefix c.args.prefix.now (described c.args.tells c.args.id c.loop-piece.first rest))
    (sym (pieces-end c.args.size (chunks_rest c.loop-piece.piece-iterator) c.in-None.ensures.steps.1.0))
    ∙ whole.whole
