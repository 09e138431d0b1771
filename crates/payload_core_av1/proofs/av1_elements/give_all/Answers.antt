use Rattle.std.proofs.Common.{◌≡◌, ℕ, ◌+◌, List, [], ◌∷◌, Some, map, drop, Bor, get_or, ap, sym, ◌∙◌}
use Rattle.std.proofs.lemmas.List.{drop_more}
use Rattle.payload_core_av1.specs.Av1Reading.{all_given, joined_option}
use Rattle.payload_core_av1.proofs.KeepsLemmas.{keeps-both}
use Rattle.payload_core_av1.proofs.ReaderLemmas.{given-go, given-stop, none_behind}
use Rattle.std.proofs.Common.{arith}
use Rattle.std.proofs.lemmas.Grind.{common_steps}
use Rattle.payload_core_av1.proofs.av1_elements.give_all.Goals as goal

pub loop-element-preserved : goal.loop-element-preserved
loop-element-preserved c = record {
  kept = keeps-both _ _ _ c.loop-element.invariant.kept c.give.ensures.kept;
  given =
      let none : Bor (List ℕ) = record { ref_ptr = (0, 0); now = [] } in
      let i : ℕ = c.loop-element.element-index in
      let all : List (Bor (List ℕ)) = c.args.elements.now in
      let next : drop i all ≡ get_or all i none ∷ drop (i + 1) all = drop_more all i none c.loop-element-test.true in
      given-go c.loop-element.out.items c.give.new.out.items (get_or all i none).now
      (map (λ (e : Bor (List ℕ)). e.now) (drop (i + 1) all)) c.in-Ok.ensures.given
      ∙ ap (λ (xs : List (Bor (List ℕ))). joined_option (Some c.loop-element.out.items)
      (all_given (map (λ (e : Bor (List ℕ)). e.now) xs))) (sym next)
      ∙ c.loop-element.invariant.given;
}

pub returns-in-Err-clause-refused : goal.returns-in-Err-clause-refused
returns-in-Err-clause-refused c =
    let none : Bor (List ℕ) = record { ref_ptr = (0, 0); now = [] } in
    let i : ℕ = c.loop-element.element-index in
    let all : List (Bor (List ℕ)) = c.args.elements.now in
    let next : drop i all ≡ get_or all i none ∷ drop (i + 1) all = drop_more all i none c.loop-element-test.true in
    λ other. (
      (c.in-Err.ensures.refused other).0,
      none_behind c.args.out.now.items (all_given (map (λ (e : Bor (List ℕ)). e.now) all)) (
          sym c.loop-element.invariant.given
          ∙ ap (λ (xs : List (Bor (List ℕ))). joined_option (Some c.loop-element.out.items)
          (all_given (map (λ (e : Bor (List ℕ)). e.now) xs))) next
          ∙ given-stop c.loop-element.out.items (get_or all i none).now
          (map (λ (e : Bor (List ℕ)). e.now) (drop (i + 1) all)) (c.in-Err.ensures.refused other).1),
    )

pub returns-in-Err-clause-given : goal.returns-in-Err-clause-given
returns-in-Err-clause-given c = grind (arith, common_steps)

pub returns-in-Err-clause-kept : goal.returns-in-Err-clause-kept
returns-in-Err-clause-kept c = grind (arith, common_steps)

pub returns-clause-given : goal.returns-clause-given
returns-clause-given c = grind (arith, common_steps)

pub returns-clause-kept : goal.returns-clause-kept
returns-clause-kept c = grind (arith, common_steps)

pub returns-clause-refused : goal.returns-clause-refused
returns-clause-refused c = grind (arith, common_steps)
