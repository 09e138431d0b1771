use Rattle.std.proofs.Common.{◌≡◌, Bool, arith, subst, sym}
use Rattle.std.proofs.lemmas.Grind.{common_steps}
use Rattle.std.specs.Prelude.{◌↔◌, IsTrue}
use Rattle.rtp_media_sections.specs.Repairs.{ArePairsOf, are_sound_pairs}
use Rattle.rtp_media_sections.proofs.RepairPairs.{sound_is_sound}
use Rattle.rtp_media_sections.proofs.wanted.SectionSpec.is_sound.Goals as goal

pub returns-clause-exactly : goal.returns-clause-exactly
returns-clause-exactly c =
    let w = c.args.self.now in
    let value : c.are_sound_pairs.result ≡ are_sound_pairs w.ssrcs w.repairs = grind (arith, common_steps) in
    subst (λ (b : Bool). IsTrue b ↔ ArePairsOf w.ssrcs w.repairs) (sym value) (sound_is_sound w.ssrcs w.repairs)
