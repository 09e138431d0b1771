use Rattle.std.proofs.Common.{lit<}
use Rattle.sdp_formats_grammar.proofs.Gives.{named-split}
use Rattle.sdp_formats_grammar.proofs.primitives.named.Goals as goal

pub returns : goal.returns
returns c = named-split 58 c.args.text.now c.split_once.result (lit< tt) c.split_once.ensures.cases
