use Rattle.std.proofs.Common.{◌∙◌, ap}
use Rattle.std.specs.Option.{option_copied}
use Rattle.rtp_media_program.specs.Words.{ended}
use Rattle.rtp_media_program.specs.Sections.{plus_parts_in}
use Rattle.rtp_media_program.proofs.Splits.{ended-plus_parts}
use Rattle.rtp_media_program.proofs.sections.end_of_plus_parts.Goals as goal

pub returns-in-Some-clause-value : goal.returns-in-Some-clause-value
returns-in-Some-clause-value c =
    ap (λ parts. ended (plus_parts_in (option_copied parts)) tt) c.in-Some.is
    ∙ ended-plus_parts c.in-Some.field-0.now tt
