use Rattle.std.proofs.Common.{◌≡◌, ◌++◌, ◌+◌, ◌∙◌, ap, arith, drop, get_or, map, set, suc, take, List, ℕ}
use Rattle.sdp_formats_section_rows.specs.Facts.{facts_after}
use Rattle.sdp_formats_section_rows.specs.declared.facts.TypeFacts.{TypeFacts}
use Rattle.sdp_formats_section_rows.proofs.OneWalk.{one_more}
use Rattle.sdp_formats_section_rows.proofs.facts.add_to_all.Goals as goal

pub loop-facts-preserved : goal.loop-facts-preserved
loop-facts-preserved c =
    let line : TypeFacts → TypeFacts =
    λ f. facts_after c.args.resend_types.now c.args.red_types.now f c.args.attribute.now in
    let at = c.loop-facts.facts-index in
    let next : suc at ≡ at + 1 = omega arith in
    ap (λ (f : TypeFacts). set c.loop-facts.all at f) c.add_line.ensures
    ∙ ap (λ (all : List TypeFacts). set all at (line (get_or all at c.facts-item.result))) c.loop-facts.invariant
    ∙ one_more line c.args.all.now at c.facts-item.result c.loop-facts-test.true
    ∙ ap (λ (n : ℕ). map line (take n c.args.all.now) ++ drop n c.args.all.now) next
