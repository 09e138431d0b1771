use Rattle.std.proofs.Common.{ℕ, List, ◌++◌, map, min, length, sym, ◌∙◌, ap, append_assoc}
use Rattle.std.proofs.lemmas.List.{map-append, append-nil}
use Rattle.std.specs.Slice.Iter.{chunks_rest}
use Rattle.payload_core_base.specs.Packing.{with_prefix}
use Rattle.payload_core_base.proofs.PieceLemmas.{pieces-none, pieces-end, pieces-next}
use Rattle.payload_core_audio.proofs.cut.cut.Goals as goal

pub returns-then-limit-eq0 : goal.returns-then-limit-eq0
returns-then-limit-eq0 c =
    rw (c.new.ensures.items, c.if-limit-eq0.true)
    (ap (with_prefix c.args.prefix.now) (sym (pieces-none c.args.bytes.now)))

pub loop-piece-preserved : goal.loop-piece-preserved
loop-piece-preserved c =
    let steps = c.in-Some.ensures.steps in
    let whole = c.loop-piece.invariant in
    let next = pieces-next c.args.limit (chunks_rest c.loop-piece.piece-iterator) c.in-Some.piece.now
    (chunks_rest c.next.new.self) whole.some_limit steps.1.2 steps.1.0
    (steps.1.1 ∙ ap (λ n. min n (length (chunks_rest c.loop-piece.piece-iterator))) whole.size) in
    record {
      some_limit = whole.some_limit;
      size = steps.0 ∙ whole.size;
      whole =
          rw (c.in_ok-push.ensures.items, map-append, append_assoc, c.in_ok-after_prefix.ensures)
          (ap (λ ps. map (λ p. p.items) c.loop-piece.packets.items ++ with_prefix c.args.prefix.now ps) (sym next)
          ∙ whole.whole);
    }

pub returns : goal.returns
returns c =
    let whole = c.loop-piece.invariant in
    let ps : List (List ℕ) = map (λ p. p.items) c.loop-piece.packets.items in
    sym (append-nil ps) ∙ ap (λ rest. ps ++ with_prefix c.args.prefix.now rest)
    (sym (pieces-end c.args.limit (chunks_rest c.loop-piece.piece-iterator) c.in-None.ensures.steps.1.0))
    ∙ whole.whole
