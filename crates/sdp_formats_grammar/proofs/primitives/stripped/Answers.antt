use Rattle.sdp_formats_grammar.proofs.Gives.{behind-strip}
use Rattle.sdp_formats_grammar.proofs.primitives.stripped.Goals as goal

pub returns : goal.returns
returns c = behind-strip c.args.words.now c.args.text.now _ c.strip_prefix.ensures.cases
