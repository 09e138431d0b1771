use Rattle.std.proofs.Common.{◌≡◌, ℕ, ◌-◌, ◌<◌, List, ◌∷◌, ◌++◌, false, eqb, map, min, length, sym, ◌∙◌, ap}
use Rattle.std.proofs.Common.{append_assoc, arith}
use Rattle.std.proofs.lemmas.List.{map-append, append-nil, length-append}
use Rattle.std.specs.Slice.Iter.{chunks_rest}
use Rattle.payload_core_base.specs.Packing.{is_none_left, with_prefix}
use Rattle.payload_core_base.specs.Pieces.{pieces}
use Rattle.payload_core_base.proofs.PieceLemmas.{pieces-end, pieces-next}
use Rattle.h26x_payload_units.specs.Fragments.{in_fragments}
use Rattle.h26x_payload_units.proofs.FragmentLemmas.{none_left-pieces}
use Rattle.h26x_payload_formats.specs.Packing.{fragment}
use Rattle.h26x_payload_formats.proofs.sender.push_later_fragments.Goals as goal

pub overflow_sub-left : goal.overflow_sub-left
overflow_sub-left c =
    let parts = c.in-Some.ensures.steps.1.0 in
    let whole = c.loop-part.invariant.left in
    omega (arith, whole, ap length parts, length-append c.in-Some.part.now (chunks_rest c.next.new.self))

pub loop-part-preserved : goal.loop-part-preserved
loop-part-preserved c =
    let steps = c.in-Some.ensures.steps in
    let whole = c.loop-part.invariant in
    let size : ℕ = c.args.form.limit - 3 in
    let some_size : 0 < size = omega (arith, c.requires) in
    let rest : List ℕ = chunks_rest c.next.new.self in
    let next = pieces-next size (chunks_rest c.loop-part.part-iterator) c.in-Some.part.now rest some_size steps.1.2
    steps.1.0 (steps.1.1 ∙ ap (λ n. min n (length (chunks_rest c.loop-part.part-iterator))) whole.size) in
    let left : c.loop-part.left - length c.in-Some.part.now ≡ length rest =
    omega (arith, whole.left, ap length steps.1.0, length-append c.in-Some.part.now rest) in
    let last : is_none_left (pieces size rest) ≡ eqb (c.loop-part.left - length c.in-Some.part.now) 0 =
    none_left-pieces size rest some_size ∙ ap (λ n. eqb n 0) (sym left) in
    let before : List (List ℕ) = map (λ p. p.items) c.loop-part.packets.items in
    let prefix : List ℕ = c.args.prefix.now in
    let cut = c.args.cut in
    let l = c.args.form.layout in
    let donl = c.args.form.donl in
    record {
      size = steps.0 ∙ whole.size;
      left = left;
      whole =
          rw (c.in_ok-push.ensures.items, map-append, append_assoc, c.in_ok-fragment.ensures)
          (ap (λ e. before ++ (prefix ++ fragment l donl cut.number cut.high cut.low false e c.in-Some.part.now)
          ∷ with_prefix prefix (in_fragments (fragment l donl cut.number cut.high cut.low) false (pieces size rest)))
          (sym last)
          ∙ ap (λ ps. before ++ with_prefix prefix
          (in_fragments (fragment l donl cut.number cut.high cut.low) false ps)) (sym next)
          ∙ whole.whole);
    }

pub returns : goal.returns
returns c =
    let whole = c.loop-part.invariant.whole in
    let cut = c.args.cut in
    let ps : List (List ℕ) = map (λ p. p.items) c.loop-part.packets.items in
    sym (append-nil ps) ∙ ap (λ rest. ps ++ with_prefix c.args.prefix.now (in_fragments
    (fragment c.args.form.layout c.args.form.donl cut.number cut.high cut.low) false rest))
    (sym (pieces-end (c.args.form.limit - 3) (chunks_rest c.loop-part.part-iterator) c.in-None.ensures.steps.1.0))
    ∙ whole
