use Rattle.std.proofs.Common.{codes}
use Rattle.sdp_formats_grammar.specs.Form.{some_text}
use Rattle.sdp_formats_grammar.specs.Exact.{told-exact, made-exact, after-exact, either-exact}
use Rattle.sdp_formats_reader.proofs.passed.OtherLineLinedPassed.exact_law.Goals as goal

pub returns : goal.returns
returns c = either-exact _ _ (after-exact (codes "i=") _ (made-exact _ _ (told-exact some_text)))
    (either-exact _ _ (after-exact (codes "u=") _ (made-exact _ _ (told-exact some_text)))
    (either-exact _ _ (after-exact (codes "e=") _ (made-exact _ _ (told-exact some_text)))
    (either-exact _ _ (after-exact (codes "p=") _ (made-exact _ _ (told-exact some_text)))
    (either-exact _ _ (after-exact (codes "c=") _ (made-exact _ _ (told-exact some_text)))
    (either-exact _ _ (after-exact (codes "z=") _ (made-exact _ _ (told-exact some_text)))
    (after-exact (codes "k=") _ (made-exact _ _ (told-exact some_text))))))))
