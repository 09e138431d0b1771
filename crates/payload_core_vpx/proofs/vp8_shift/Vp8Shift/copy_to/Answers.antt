use Rattle.std.proofs.Common.{arith, sym, ◌∙◌, length, subst}
use Rattle.payload_core_vpx.specs.Vp8Patches.{Reaches}
use Rattle.payload_core_vpx.specs.declared.vp8_patch.Vp8Patch.{Vp8Patch}
use Rattle.payload_core_vpx.proofs.ShiftLaw.{moved_holds}
use Rattle.payload_core_vpx.proofs.vp8_shift.Vp8Shift.copy_to.Goals as goal

-- the moved ids fit their fields, so the payload reaches each byte that is written
pub copy_to-requires-clause-reaches : goal.copy_to-requires-clause-reaches
copy_to-requires-clause-reaches c =
    subst (λ (patch : Vp8Patch). Reaches patch (length c.args.payload.now)) (sym c.patch-patch.ensures)
    (moved_holds c.args.self c.args.payload.now c.in-Ok.descriptor (omega (arith, c.type_inv.payload 3))
    (sym c.parse.ensures ∙ c.in-Ok.is)).reaches
