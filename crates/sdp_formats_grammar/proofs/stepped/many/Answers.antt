use Rattle.std.proofs.Common.{rules, sym, ap, ◌∙◌, Ok}
use Rattle.sdp_formats_grammar.specs.StepLemmas.{begins-more}
use Rattle.sdp_formats_grammar.proofs.StepRounds.{step-some}
use Rattle.sdp_formats_grammar.proofs.stepped.many.Goals as goal

pub loop-items-preserved : goal.loop-items-preserved
loop-items-preserved g c =
    let S = g.S.Stepped.says in
    let s = step-some S c.loop-items.left.now c.step.result (c.in-Some.item, c.in-Some.rest) c.step.ensures.steps
    (sym c.in_ok-item.ensures ∙ ap Ok c.in-Some.is) in (
      search rules,
      rw c.in_ok-push.ensures.items
          (begins-more S c.args.text.now c.loop-items.items.items c.loop-items.left.now c.in-Some.item
          c.in-Some.rest.now c.loop-items.invariant.1 s),
    )
