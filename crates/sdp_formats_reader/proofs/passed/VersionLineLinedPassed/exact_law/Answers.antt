use Rattle.std.proofs.Common.{codes}
use Rattle.sdp_formats_grammar.specs.Exact.{told-exact, after-exact}
use Rattle.sdp_formats_reader.proofs.passed.VersionLineLinedPassed.exact_law.Goals as goal

pub returns : goal.returns
returns c = after-exact (codes "v=") _ (told-exact _)
