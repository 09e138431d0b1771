use Rattle.std.proofs.Common.{codes}
use Rattle.sdp_formats_grammar.specs.Form.{some_text}
use Rattle.sdp_formats_grammar.specs.Exact.{told-exact, made-exact, after-exact, cut-exact}
use Rattle.sdp_formats_reader.proofs.origin_lines.BandwidthLineLinedBandwidth.exact_law.Goals as goal

pub returns : goal.returns
returns c = made-exact _ _ (after-exact (codes "b=") _ (cut-exact 58 _ _ (told-exact some_text) (told-exact some_text)))
