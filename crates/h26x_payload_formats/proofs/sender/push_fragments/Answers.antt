use Rattle.std.proofs.Common.{ℕ, ◌-◌, List, ◌∷◌, ◌++◌, false, map, ap, ◌∙◌, append_assoc, rules, arith}
use Rattle.std.proofs.lemmas.List.{map-append}
use Rattle.std.proofs.lemmas.Result.{on_ok_weaker}
use Rattle.payload_core_base.specs.Packing.{with_prefix}
use Rattle.payload_core_base.specs.Pieces.{pieces}
use Rattle.h26x_payload_units.specs.Fragments.{in_fragments}
use Rattle.h26x_payload_formats.specs.Packing.{fragment}
use Rattle.h26x_payload_formats.proofs.SendingLemmas.{fragments_are}
use Rattle.h26x_payload_formats.proofs.sender.push_fragments.Goals as goal

pub returns : goal.returns
returns c =
    let l = c.args.form.layout in
    let donl = c.args.form.donl in
    let limit : ℕ = c.args.form.limit in
    let number : ℕ = c.args.number in
    let high : ℕ = c.in-Some.high.now in
    let low : ℕ = c.in-Some-split_first.low.now in
    let rest : List ℕ = c.split_at.result.1.now in
    let unit = c.in-Some.ensures.cases.0 ∙ ap (λ t. high ∷ t) c.in-Some-split_first.ensures.cases.0 in
    let all = fragments_are l donl limit number high low c.args.unit.now c.in-Some-split_first.body.now
    c.split_at.result.0.now rest c.min.result c.is_empty.result (omega (arith, c.requires)) unit (search rules)
    c.split_at.ensures.front c.split_at.ensures.back (search rules) in
    let before : List (List ℕ) = map (λ p. p.items) c.args.packets.now.items in
    let later : List (List ℕ) = in_fragments (fragment l donl number high low) false (pieces (limit - 3) rest) in
    on_ok_weaker c.push_later_fragments.result
    (λ sent. sent ∙ rw (c.in_ok-push.ensures.items, map-append, append_assoc, c.in_ok-fragment.ensures)
    (ap (λ t. before ++ with_prefix c.args.prefix.now t) all))
    c.push_later_fragments.ensures
