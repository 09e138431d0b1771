-- The kinds are read if and only if they say a value.
use Rattle.std.proofs.Common.{ℕ, List}
use Rattle.sdp_formats_grammar.specs.Form.{Form, IsExact}
use Rattle.sdp_formats_grammar.specs.Exact.{told-exact, made-exact, cut-exact, cut_maybe-exact, separated-exact}
use Rattle.sdp_formats_reader.proofs.AttributesExactness.{text-exact, first_of-exact, made-transport}
use Rattle.sdp_formats_reader.specs.Transport.{in_session}
use Rattle.sdp_formats_reader.specs.Groups.{through, group, msid_semantic}
use Rattle.sdp_formats_reader.specs.ReaderChoice.{session_attribute, session_kinds}

through-exact : {A : Type 0} (part : List ℕ → List ℕ) (f : Form A) → IsExact f → IsExact (through part f)
through-exact part f exact = record {
  sound = λ t a e. exact.sound (part t) a e;
  complete =
      λ t a s. exact.complete (part t) a s;
}

group-exact : IsExact group
group-exact = made-exact _ _
    (through-exact _ _ (cut_maybe-exact 32 _ _ text-exact (separated-exact 32 _ (told-exact _))))

msid_semantic-exact : IsExact msid_semantic
msid_semantic-exact = made-exact _ _
    (through-exact _ _ (cut-exact 32 _ _ text-exact (separated-exact 32 _ text-exact)))

pub session_attribute-exact : IsExact session_attribute
unfolding session_attribute
session_attribute-exact = first_of-exact session_kinds _
    (group-exact, (msid_semantic-exact, (tt, made-transport in_session))) (made-exact _ _ text-exact)
