use Rattle.sdp_formats_grammar.specs.Joined.{joined_some, writes_same}
use Rattle.std.specs.Fmt.{decimal}
use Rattle.sdp_formats_data.proofs.printed.TypesDisplay.fmt.Goals as goal

pub returns-clause-writes : goal.returns-clause-writes
returns-clause-writes g c = writes_same _ _ _ _ _ _ (joined_some (c.args.self.now.1.now) decimal c.args.self.now.0.now)
    c.fmt.ensures.writes
