-- What is read of lines that are passed over.
use Rattle.std.proofs.Common.{◌≡◌, ℕ, Bool, true, false, ◌||◌, List, [], ◌∷◌, Option, Some, None, codes, refl, ap, ◌∙◌}
use Rattle.std.specs.Option.{option_or}
use Rattle.sdp_formats_grammar.specs.Bind.{◌>>=◌}
use Rattle.sdp_formats_grammar.specs.Form.{after}
use Rattle.sdp_formats_grammar.specs.Split.{behind}
use Rattle.sdp_formats_reader.specs.Lines.{is_lettered, is_other, other_line, passed_if, says_something}
use Rattle.sdp_formats_reader.specs.Lines.{something}
use Rattle.sdp_formats_reader.specs.declared.passed.Passed.{Passed}

rest_read : (rest : Option (List ℕ)) → (rest >>= something.reads) ≡ passed_if (says_something rest)
rest_read None = refl
rest_read (Some []) = refl
rest_read (Some (b ∷ bs)) = refl

pub lettered_read : (words text : List ℕ) → (after words something).reads text ≡ passed_if (is_lettered words text)
lettered_read words text = rest_read (behind words text)

either_read : (a b : Bool) (first second : Option Passed) → first ≡ passed_if a → second ≡ passed_if b
    → option_or first second ≡ passed_if (a || b)
either_read true b first second f s = ap (λ o. option_or o second) f
either_read false b first second f s = ap (λ o. option_or o second) f ∙ s

pub other_read : (text : List ℕ) → other_line.reads text ≡ passed_if (is_other text)
other_read text =
    either_read _ _ _ _ (lettered_read (codes "i=") text) (either_read _ _ _ _ (lettered_read (codes "u=") text)
    (either_read _ _ _ _ (lettered_read (codes "e=") text) (either_read _ _ _ _ (lettered_read (codes "p=") text)
    (either_read _ _ _ _ (lettered_read (codes "c=") text) (either_read _ _ _ _ (lettered_read (codes "z=") text)
    (lettered_read (codes "k=") text))))))
