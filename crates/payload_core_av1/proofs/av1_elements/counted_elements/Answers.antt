use Rattle.std.proofs.Common.{◌≡◌, ℕ, suc, ◌+◌, ◌-◌, List, map, Bor, Some, refl, ap, sym, ◌∙◌, arith}
use Rattle.std.proofs.lemmas.Grind.{common_steps}
use Rattle.std.proofs.lemmas.List.{map_push}
use Rattle.payload_core_av1.specs.Leb128.{Cut}
use Rattle.payload_core_av1.specs.Av1Reading.{counted_elements}
use Rattle.payload_core_av1.specs.Av1ReadingViews.{all_in_front}
use Rattle.payload_core_av1.proofs.ReaderLemmas.{counted-go, counted-stop}
use Rattle.payload_core_av1.proofs.av1_elements.counted_elements.Goals as goal

pub returns-in_default-clause-refused : goal.returns-in_default-clause-refused
returns-in_default-clause-refused c =
    let left : c.args.count - c.loop.counter ≡ suc (c.args.count - (c.loop.counter + 1)) = omega arith in
    let before : List (List ℕ) = map (λ (e : Bor (List ℕ)). e.now) c.loop.elements.items in
    λ other. (
      refl,
      sym c.loop.invariant ∙ ap (λ n. all_in_front before (counted_elements n c.loop.rest.now)) left
          ∙ counted-stop (c.args.count - (c.loop.counter + 1)) c.loop.rest.now before c.in_default.ensures.value,
    )

pub loop-preserved : goal.loop-preserved
loop-preserved c =
    let n : ℕ = c.args.count - (c.loop.counter + 1) in
    let left : c.args.count - c.loop.counter ≡ suc n = omega arith in
    let before : List (List ℕ) = map (λ (e : Bor (List ℕ)). e.now) c.loop.elements.items in
    let cut : Cut = record { part = c.in-Some.element.now; rest = c.in-Some.behind.now } in
    ap (λ xs. all_in_front (map (λ (e : Bor (List ℕ)). e.now) xs) (counted_elements n cut.rest))
    c.in_ok-push.ensures.items
    ∙ ap (λ es. all_in_front es (counted_elements n cut.rest))
    (map_push (λ (e : Bor (List ℕ)). e.now) c.loop.elements.items c.in-Some.element)
    ∙ counted-go n c.loop.rest.now cut before c.in-Some.ensures.value
    ∙ ap (λ k. all_in_front before (counted_elements k c.loop.rest.now)) (sym left) ∙ c.loop.invariant

pub loop-init : goal.loop-init
loop-init c = grind (arith, common_steps)

pub returns-in_default-clause-value : goal.returns-in_default-clause-value
returns-in_default-clause-value c = grind (arith, common_steps)

pub returns-in_err-push-clause-value : goal.returns-in_err-push-clause-value
returns-in_err-push-clause-value c = grind (arith, common_steps)

pub returns-in_err-push-clause-refused : goal.returns-in_err-push-clause-refused
returns-in_err-push-clause-refused c = grind (arith, common_steps)

pub returns-in_err-push-2-clause-value : goal.returns-in_err-push-2-clause-value
returns-in_err-push-2-clause-value c = grind (arith, common_steps)

pub returns-in_err-push-2-clause-refused : goal.returns-in_err-push-2-clause-refused
returns-in_err-push-2-clause-refused c = grind (arith, common_steps)

pub returns-clause-value : goal.returns-clause-value
returns-clause-value c =
    let left : c.args.count - c.loop.counter ≡ 0 = omega arith in
    let before : List (List ℕ) = map (λ (e : Bor (List ℕ)). e.now) c.loop.elements.items in
    sym c.loop.invariant ∙ ap (λ n. all_in_front before (counted_elements n c.loop.rest.now)) left
    ∙ ap Some (sym (map_push (λ (e : Bor (List ℕ)). e.now) c.loop.elements.items c.loop.rest)
    ∙ ap (map (λ (e : Bor (List ℕ)). e.now)) (sym c.in_ok-push-2.ensures.items))

pub returns-clause-refused : goal.returns-clause-refused
returns-clause-refused c = grind (arith, common_steps)
