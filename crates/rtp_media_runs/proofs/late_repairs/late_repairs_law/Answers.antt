use Rattle.rtp_media_runs.proofs.LateRepairs.{late}
use Rattle.rtp_media_runs.proofs.late_repairs.late_repairs_law.Goals as goal

pub returns : goal.returns
returns c = λ end rx holding sender samples before k hears sane came made.
    late c.codec_law.ensures.codec_in_forms end rx holding sender samples before k hears sane came made
