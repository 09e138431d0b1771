use Rattle.std.proofs.Common.{◌+◌, ◌&&◌, ap, sym, refl, ◌∙◌, drop}
use Rattle.std.proofs.lemmas.List.{at_drop_more}
use Rattle.std.specs.List.{list_all}
use Rattle.sdp_formats_data.specs.Consistency.{is_mapped}
use Rattle.sdp_formats_data.proofs.Tables.{none_mapped}
use Rattle.sdp_formats_data.proofs.mapped.are_mapped.Goals as goal

pub loop-pt-init : goal.loop-pt-init
loop-pt-init c = (refl, none_mapped c.args.attributes.now)

pub returns-then-not-is_known_mapped : goal.returns-then-not-is_known_mapped
returns-then-not-is_known_mapped c =
    let p = is_mapped c.args.attributes.now in
    let left = list_all p (drop (c.loop-pt.pt-index + 1) c.args.pts.now) in
    ap (λ b. b && left) (sym c.if-not-is_known_mapped.true ∙ c.is_known_mapped.ensures.value)
    ∙ ap (λ x. p x && left) c.pt-item.is
    ∙ sym (at_drop_more (list_all p) c.args.pts.now c.loop-pt.pt-index c.pt-item.result c.loop-pt-test.true)
    ∙ c.loop-pt.invariant.0

pub loop-pt-preserved : goal.loop-pt-preserved
loop-pt-preserved c =
    let p = is_mapped c.args.attributes.now in
    let left = list_all p (drop (c.loop-pt.pt-index + 1) c.args.pts.now) in (
      ap (λ b. b && left) (sym c.if-not-is_known_mapped.false ∙ c.is_known_mapped.ensures.value)
          ∙ ap (λ x. p x && left) c.pt-item.is
          ∙ sym (at_drop_more (list_all p) c.args.pts.now c.loop-pt.pt-index c.pt-item.result c.loop-pt-test.true)
          ∙ c.loop-pt.invariant.0,
      c.is_known_mapped.ensures.known,
    )
