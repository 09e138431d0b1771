use Rattle.std.proofs.Common.{◌≡◌, ℕ, ◌+◌, ◌++◌, ◌∷◌, ◌<◌, List, drop, length, ltb, leb, if◌then◌else◌, ap, sym}
use Rattle.std.proofs.Common.{◌∙◌, append_assoc, arith, subst}
use Rattle.std.specs.Prelude.{◌||◌}
use Rattle.std.proofs.lemmas.List.{drop_more, length-drop}
use Rattle.payload_core_av1.specs.Av1Packing.{body_from, sized}
use Rattle.payload_core_av1.specs.Leb128.{size_limit}
use Rattle.payload_core_av1.proofs.PackingLemmas.{body-step, text-at}
use Rattle.payload_core_av1.proofs.av1_sender.packet.Goals as goal

pub push_element-requires : goal.push_element-requires
push_element-requires c =
    let e : List ℕ = c.index-elements-place.result in
    subst (λ (t : List ℕ). length t < size_limit) (sym c.index-elements-place.is)
    (text-at c.args.elements.now c.loop-place.place e c.requires c.loop-place-test.true)

pub loop-place-preserved : goal.loop-place-preserved
loop-place-preserved c =
    let i : ℕ = c.loop-place.place in
    let all : List (List ℕ) = c.args.elements.now in
    let e : List ℕ = c.index-elements-place.result in
    let others : List (List ℕ) = drop (i + 1) all in
    let next : drop i all ≡ e ∷ others = drop_more all i e c.loop-place-test.true
    ∙ ap (λ t. t ∷ others) (sym c.index-elements-place.is) in
    let total : length all ≡ i + 1 + length others =
    omega (arith, length-drop (i + 1) all, c.loop-place-test.true) in
    let out : List ℕ = c.loop-place.packet.items in
    let element : List ℕ = if ltb (i + 1) (length all) || leb 3 i then sized e else e in
    ap (λ t. t ++ body_from (i + 1) others) c.in_ok-push_element.ensures
    ∙ ap (λ b. (out ++ (if b then sized e else e)) ++ body_from (i + 1) others) c.has_size.ensures
    ∙ append_assoc out element (body_from (i + 1) others)
    ∙ ap (λ t. out ++ t) (body-step i (length all) e others total)
    ∙ ap (λ ts. out ++ body_from i ts) (sym next)
    ∙ c.loop-place.invariant
