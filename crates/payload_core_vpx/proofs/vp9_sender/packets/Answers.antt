use Rattle.std.proofs.Common.{◌≡◌, ℕ, ◌-◌, List, ◌∷◌, ◌++◌, false, eqb, map, min, length, sym, ◌∙◌, ap, append_assoc}
use Rattle.std.proofs.Common.{arith}
use Rattle.std.proofs.lemmas.List.{map-append, append-nil, length-append}
use Rattle.std.specs.Slice.Iter.{chunks_rest}
use Rattle.payload_core_base.specs.Packing.{is_none_left, with_prefix}
use Rattle.payload_core_base.specs.Pieces.{pieces}
use Rattle.payload_core_base.proofs.PieceLemmas.{pieces-end, pieces-next}
use Rattle.payload_core_vpx.specs.Vp9.{described, descriptor}
use Rattle.payload_core_vpx.proofs.Vp9Law.{none_left-pieces}
use Rattle.payload_core_vpx.proofs.vp9_sender.packets.Goals as goal

pub overflow_sub-left : goal.overflow_sub-left
overflow_sub-left c =
    let parts = c.in-Some.ensures.steps.1.0 in
    let whole = c.loop-piece.invariant.left in
    omega (arith, whole, ap length parts, length-append c.in-Some.piece.now (chunks_rest c.next.new.self))

pub loop-piece-preserved : goal.loop-piece-preserved
loop-piece-preserved c =
    let steps = c.in-Some.ensures.steps in
    let whole = c.loop-piece.invariant in
    let rest : List ℕ = chunks_rest c.next.new.self in
    let next = pieces-next c.args.size (chunks_rest c.loop-piece.piece-iterator) c.in-Some.piece.now rest
    c.requires.size steps.1.2 steps.1.0 (steps.1.1
    ∙ ap (λ n. min n (length (chunks_rest c.loop-piece.piece-iterator))) whole.size) in
    let left : c.loop-piece.left - length c.in-Some.piece.now ≡ length rest =
    omega (arith, whole.left, ap length steps.1.0, length-append c.in-Some.piece.now rest) in
    let last : is_none_left (pieces c.args.size rest) ≡ eqb (c.loop-piece.left - length c.in-Some.piece.now) 0 =
    none_left-pieces c.args.size rest c.requires.size ∙ ap (λ n. eqb n 0) (sym left) in
    let before : List (List ℕ) = map (λ p. p.items) c.loop-piece.packets.items in
    record {
      size = steps.0 ∙ whole.size;
      left = left;
      whole =
          rw (c.in_ok-push.ensures.items, map-append, append_assoc, c.in_ok-packet.ensures)
          (ap (λ e. before
          ++ (c.args.prefix.now ++ (descriptor c.args.told c.args.id c.loop-piece.first e ++ c.in-Some.piece.now))
          ∷ with_prefix c.args.prefix.now (described c.args.told c.args.id false (pieces c.args.size rest))) (sym last)
          ∙ ap (λ ps. before
          ++ with_prefix c.args.prefix.now (described c.args.told c.args.id c.loop-piece.first ps)) (sym next)
          ∙ whole.whole);
    }

pub returns : goal.returns
returns c =
    let whole = c.loop-piece.invariant.whole in
    let ps : List (List ℕ) = map (λ p. p.items) c.loop-piece.packets.items in
    sym (append-nil ps)
    ∙ ap (λ rest. ps ++ with_prefix c.args.prefix.now (described c.args.told c.args.id c.loop-piece.first rest))
    (sym (pieces-end c.args.size (chunks_rest c.loop-piece.piece-iterator) c.in-None.ensures.steps.1.0)) ∙ whole
