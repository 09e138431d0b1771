use Rattle.std.proofs.Common.{◌++◌, ◌∷◌, ◌/◌, ◌%◌, ◌+◌, [], sym, ap, ◌∙◌, append_assoc, arith}
use Rattle.payload_core_av1.specs.Leb128.{spelling}
use Rattle.payload_core_av1.proofs.Leb128Lemmas.{spelling-last, spelling-more}
use Rattle.payload_core_av1.proofs.KeepsLemmas.{keeps-is}
use Rattle.payload_core_av1.proofs.leb128.push_size.Goals as goal

pub loop-left-preserved : goal.loop-left-preserved
loop-left-preserved c =
    let n = c.loop-left.left in
    record {
      small = omega arith;
      kept = keeps-is _ _ _ _ c.loop-left.invariant.kept c.in_ok-push.ensures.items;
      whole =
          ap (λ xs. xs ++ spelling (n / 128)) c.in_ok-push.ensures.items
          ∙ append_assoc c.loop-left.out.items ((128 + n % 128) ∷ []) (spelling (n / 128))
          ∙ ap (λ xs. c.loop-left.out.items ++ xs)
          (sym (spelling-more n (omega arith) (c.loop-left.invariant.small))) ∙ c.loop-left.invariant.whole;
    }

pub returns-clause-written : goal.returns-clause-written
returns-clause-written c = c.in_ok-push-2.ensures.items
    ∙ ap (λ xs. c.loop-left.out.items ++ xs) (sym (spelling-last c.loop-left.left (omega arith)))
    ∙ c.loop-left.invariant.whole

pub returns-clause-kept : goal.returns-clause-kept
returns-clause-kept c = keeps-is _ _ _ _ c.loop-left.invariant.kept c.in_ok-push-2.ensures.items
