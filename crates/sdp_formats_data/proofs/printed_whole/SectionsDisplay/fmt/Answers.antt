use Rattle.std.proofs.Common.{[]}
use Rattle.sdp_formats_grammar.specs.Joined.{joined_some, writes_same}
use Rattle.sdp_formats_data.specs.PrintedMedia.{section_text}
use Rattle.sdp_formats_data.proofs.printed_whole.SectionsDisplay.fmt.Goals as goal

pub returns-clause-writes : goal.returns-clause-writes
returns-clause-writes g c = writes_same _ _ _ _ _ _ (joined_some [] section_text c.args.self.now.0.now)
    c.fmt.ensures.writes
