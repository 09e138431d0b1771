use Rattle.std.proofs.Common.{refl}
use Rattle.rtp_media_ends.specs.Ends.{receiver_at}
use Rattle.rtp_media_runs.proofs.Twins.{same-answers, same-over}
use Rattle.rtp_media_runs.proofs.redundancy.redundancy_law.Goals as goal

pub returns-clause-streams : goal.returns-clause-streams
returns-clause-streams c = λ end rx plain redundant samples schedule twins found for sound none.
    same-answers c.codec_law.ensures.codec_in_forms plain redundant (receiver_at end rx) samples twins for sound end rx
    schedule refl found none

pub returns-clause-ends : goal.returns-clause-ends
returns-clause-ends c = same-over c.codec_law.ensures.codec_in_forms c.codec_law.ensures.first
