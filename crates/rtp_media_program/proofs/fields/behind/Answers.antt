use Rattle.rtp_media_program.proofs.BehindLemmas.{behind-strip}
use Rattle.rtp_media_program.proofs.fields.behind.Goals as goal

pub returns : goal.returns
returns c = behind-strip c.args.letters.now c.args.word.now c.strip_prefix.result c.strip_prefix.ensures.cases
