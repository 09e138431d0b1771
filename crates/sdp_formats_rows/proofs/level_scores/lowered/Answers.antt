use Rattle.std.proofs.Common.{◌∙◌, ap, sym}
use Rattle.media_types.specs.ProfileTierLevel.{at_level}
use Rattle.media_types.specs.Tables.{place_of}
use Rattle.sdp_formats_rows.specs.LevelScore.{lower_level, lowered}
use Rattle.sdp_formats_rows.proofs.level_scores.lowered.Goals as goal

pub returns-in-Some : goal.returns-in-Some
returns-in-Some g c =
    let place = place_of g.L.Numbered.number g.L.InTable.all in
    c.with_level.ensures
    ∙ ap (at_level c.args.theirs) (c.lower_level.ensures
    ∙ (λ i. lower_level place (c.level.ensures i) (c.level-in-Some.ensures i)))
    ∙ sym (ap (λ ours. lowered place ours c.args.theirs) c.in-Some.is)
