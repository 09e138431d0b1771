use Rattle.std.proofs.Common.{ℕ, ◌<◌, List, length, map, Bor, ap, ◌∙◌, arith}
use Rattle.std.proofs.lemmas.List.{map_push}
use Rattle.payload_core_av1.specs.Leb128.{Cut}
use Rattle.payload_core_av1.specs.Av1Reading.{sized_elements}
use Rattle.payload_core_av1.specs.Av1ReadingViews.{all_in_front}
use Rattle.payload_core_av1.proofs.ReaderLemmas.{sized-go}
use Rattle.payload_core_av1.proofs.av1_elements.sized_elements.Goals as goal

pub loop-rest-preserved : goal.loop-rest-preserved
loop-rest-preserved c =
    let before : List (List ℕ) = map (λ (e : Bor (List ℕ)). e.now) c.loop-rest.elements.items in
    let cut : Cut = record { part = c.in-Some.element.now; rest = c.in-Some.behind.now } in
    let some : 0 < length c.loop-rest.rest.now = omega (arith, c.in-Some.ensures.shorter) in
    ap (λ xs. all_in_front (map (λ (e : Bor (List ℕ)). e.now) xs) (sized_elements (length cut.rest) cut.rest))
    c.in_ok-push.ensures.items
    ∙ ap (λ es. all_in_front es (sized_elements (length cut.rest) cut.rest))
    (map_push (λ (e : Bor (List ℕ)). e.now) c.loop-rest.elements.items c.in-Some.element)
    ∙ sized-go c.loop-rest.rest.now cut before some c.in-Some.ensures.value
    ∙ c.loop-rest.invariant
