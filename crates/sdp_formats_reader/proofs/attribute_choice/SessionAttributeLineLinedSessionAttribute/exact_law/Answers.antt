use Rattle.std.proofs.Common.{codes}
use Rattle.sdp_formats_grammar.specs.Exact.{after-exact}
use Rattle.sdp_formats_reader.proofs.ReaderExactness.{session_attribute-exact}
use Rattle.sdp_formats_reader.proofs.attribute_choice.SessionAttributeLineLinedSessionAttribute.exact_law.Goals as goal

pub returns : goal.returns
returns c = after-exact (codes "a=") _ session_attribute-exact
