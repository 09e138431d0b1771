use Rattle.std.proofs.Common.{◌∙◌, ap, not, sym}
use Rattle.rtp_media_browsers.proofs.SharedRows.{none_answered}
use Rattle.rtp_media_browsers.proofs.in_common.answers_none.Goals as goal

pub returns : goal.returns
returns c = ap not c.answers_some.ensures ∙ sym (none_answered c.args.config.now.rows c.args.section.now)
