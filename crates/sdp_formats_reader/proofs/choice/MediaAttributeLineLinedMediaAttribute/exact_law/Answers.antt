use Rattle.std.proofs.Common.{codes}
use Rattle.sdp_formats_grammar.specs.Exact.{after-exact}
use Rattle.sdp_formats_reader.proofs.AttributesExactness.{media_attribute-exact}
use Rattle.sdp_formats_reader.proofs.choice.MediaAttributeLineLinedMediaAttribute.exact_law.Goals as goal

pub returns : goal.returns
returns c = after-exact (codes "a=") _ (media_attribute-exact c.pairs_law.ensures)
