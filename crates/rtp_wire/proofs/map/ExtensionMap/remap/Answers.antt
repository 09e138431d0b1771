use Rattle.std.proofs.Common.{◌≡◌, ℕ, ◌+◌, ◌<◌, ap, sym, ◌∙◌, arith, drop, ◌∷◌, length}
use Rattle.std.proofs.lemmas.List.{drop_more}
use Rattle.std.proofs.lemmas.List.Sorted.{IsPermutation-trans}
use Rattle.rtp_wire.specs.declared.extension.Extension.{Extension}
use Rattle.rtp_wire.specs.Maps.{remapped}
use Rattle.rtp_wire.proofs.map.ExtensionMap.remap.Goals as goal

pub loop-id-preserved : goal.loop-id-preserved
loop-id-preserved c =
    let ps = c.args.pairs.now in
    let i = c.loop-id.id-index in
    let p = c.loop-id-item.result in
    let here : i < length ps = omega arith in
    let split : drop i ps ≡ p ∷ drop (i + 1) ps =
    drop_more ps i p here ∙ ap (λ (q : ℕ × Extension). q ∷ drop (i + 1) ps) (sym c.loop-id-item.is) in
    record {
      value = ap (λ m. remapped m (drop (i + 1) ps)) c.move_to.ensures.value
          ∙ ap (remapped c.loop-id.self) (sym split) ∙ c.loop-id.invariant.value;
      same = IsPermutation-trans _ _ _ c.loop-id.invariant.same c.move_to.ensures.same_extensions;
    }
