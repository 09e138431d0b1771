use Rattle.std.proofs.Common.{codes}
use Rattle.sdp_formats_grammar.specs.Joined.{joined_same, writes_same}
use Rattle.sdp_formats_values.proofs.lists.MidsDisplay.fmt.Goals as goal

pub returns-clause-writes : goal.returns-clause-writes
returns-clause-writes g c = writes_same _ _ _ _ _ _ (joined_same (codes " ") c.args.self.now.0.now)
    c.fmt.ensures.writes
