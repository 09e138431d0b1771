use Rattle.std.proofs.Common.{◌≡◌, ◌+◌, ◌-◌, ℕ, List, None, Some, length, arith, ap, sym, ◌∙◌}
use Rattle.media_files_captures.specs.Fragments.{piece_at, whole_after}
use Rattle.media_files_captures.proofs.FragmentLemmas.{whole_after-more, whole_after-last, whole_after-none}
use Rattle.media_files_captures.proofs.FragmentLemmas.{whole_after-end}
use Rattle.media_files_captures.proofs.fragments.whole.Goals as goal

pub returns-in_default : goal.returns-in_default
returns-in_default c =
    let place : length c.loop-taken.out.items ≡ c.len.result = sym (c.len.ensures ∙ c.loop-taken.out.ok.0) in
    let none : piece_at c.args.fragment.now (length c.loop-taken.out.items) c.args.held.now ≡ None =
    ap (λ (n : ℕ). piece_at c.args.fragment.now n c.args.held.now) place ∙ sym c.in_default.ensures in
    sym (whole_after-none (length c.args.held.now - c.loop-taken._taken) c.args.fragment.now c.args.held.now
    c.loop-taken.out.items none)
    ∙ c.loop-taken.invariant

pub returns-then-piece : goal.returns-then-piece
returns-then-piece c =
    let place : length c.loop-taken.out.items ≡ c.len.result = sym (c.len.ensures ∙ c.loop-taken.out.ok.0) in
    let found : piece_at c.args.fragment.now (length c.loop-taken.out.items) c.args.held.now ≡ Some c.in-Some.piece =
    ap (λ (n : ℕ). piece_at c.args.fragment.now n c.args.held.now) place ∙ sym c.in-Some.ensures in
    ap (λ (xs : List ℕ). Some xs) c.in_ok-extend_from_slice.ensures.items
    ∙ sym (whole_after-last (length c.args.held.now) c.loop-taken._taken c.args.fragment.now c.in-Some.piece
    c.args.held.now c.loop-taken.out.items (omega arith) found c.if-piece.true)
    ∙ c.loop-taken.invariant

pub loop-taken-preserved : goal.loop-taken-preserved
loop-taken-preserved c =
    let place : length c.loop-taken.out.items ≡ c.len.result = sym (c.len.ensures ∙ c.loop-taken.out.ok.0) in
    let found : piece_at c.args.fragment.now (length c.loop-taken.out.items) c.args.held.now ≡ Some c.in-Some.piece =
    ap (λ (n : ℕ). piece_at c.args.fragment.now n c.args.held.now) place ∙ sym c.in-Some.ensures in
    ap (λ (xs : List ℕ). whole_after (length c.args.held.now - (c.loop-taken._taken + 1)) c.args.fragment.now
    c.args.held.now xs) c.in_ok-extend_from_slice.ensures.items
    ∙ sym (whole_after-more (length c.args.held.now) c.loop-taken._taken c.args.fragment.now c.in-Some.piece
    c.args.held.now c.loop-taken.out.items (omega arith) found c.if-piece.false)
    ∙ c.loop-taken.invariant

pub returns : goal.returns
returns c =
    sym (whole_after-end (length c.args.held.now) c.loop-taken._taken c.args.fragment.now c.args.held.now
    c.loop-taken.out.items (omega arith))
    ∙ c.loop-taken.invariant
