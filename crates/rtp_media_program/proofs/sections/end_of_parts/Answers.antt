use Rattle.std.proofs.Common.{◌∙◌, ap}
use Rattle.std.specs.Option.{option_copied}
use Rattle.rtp_media_program.specs.Words.{ended}
use Rattle.rtp_media_program.specs.Sections.{colon_parts_in}
use Rattle.rtp_media_program.proofs.Splits.{ended-colon_parts}
use Rattle.rtp_media_program.proofs.sections.end_of_parts.Goals as goal

pub returns-in-Some : goal.returns-in-Some
returns-in-Some c =
    ap (λ parts. ended (colon_parts_in (option_copied parts)) tt) c.in-Some.is
    ∙ ended-colon_parts c.in-Some.field-0.now tt
