use Rattle.std.proofs.Common.{codes}
use Rattle.sdp_formats_grammar.specs.Form.{some_text}
use Rattle.sdp_formats_grammar.specs.Exact.{told-exact, made-exact, after-exact, cut-exact}
use Rattle.sdp_formats_reader.proofs.media.HeadLineLinedMediaHead.exact_law.Goals as goal

pub returns : goal.returns
returns c = after-exact (codes "m=") _ (made-exact _ _
    (cut-exact 32 _ _ (told-exact _) (cut-exact 32 _ _ (told-exact some_text)
    (cut-exact 32 _ _ (told-exact _) (told-exact _)))))
