use Rattle.std.proofs.Common.{codes}
use Rattle.sdp_formats_grammar.specs.Joined.{joined_said, writes_same}
use Rattle.sdp_formats_values.specs.PrintedValues.{layer_text}
use Rattle.sdp_formats_values.proofs.streams.SimulcastGroupsDisplay.fmt.Goals as goal

pub returns-clause-writes : goal.returns-clause-writes
returns-clause-writes g c = writes_same _ _ _ _ _ _ (joined_said (codes ";") layer_text _ _ c.as_slice.ensures)
    c.write.ensures.writes
