-- What begins with no letter of a line that may follow fits nowhere.
use Rattle.std.proofs.Common.{◌≡◌, ℕ, List, [], ◌∷◌, Some, None, sym, codes}
use Rattle.sdp_formats_grammar.specs.Split.{Lacks}
use Rattle.sdp_formats_reader.specs.AttributesChoice.{media_attribute}
use Rattle.sdp_formats_reader.specs.ReaderChoice.{session_attribute}
use Rattle.sdp_formats_reader.specs.Heads.{media_line}
use Rattle.sdp_formats_reader.specs.Lines.{something}
use Rattle.sdp_formats_data.specs.declared.media.MediaLine.{MediaLine}
use Rattle.sdp_formats_data.specs.declared.session.SessionAttribute.{SessionAttribute}
use Rattle.sdp_formats_laws.proofs.Behind.{headed}
use Rattle.sdp_formats_laws.proofs.Stopping.{other_start}
use Rattle.sdp_formats_laws.proofs.WholeTexts.{LacksFirst}
use Rattle.sdp_formats_laws.specs.Behind.{BeginsOtherwise, GoesOnWithNothing, OthersFitNowhere}

some_letter : (a b : ℕ) → Some a ≡ Some b → a ≡ b
some_letter a b e = cc

no_letter : (c : ℕ) → None ≡ Some c → ⊥
no_letter c e = cc

lacks_first : (b : ℕ) (t cs : List ℕ) → Lacks b cs → LacksFirst cs (b ∷ t)
lacks_first b t [] h = tt
lacks_first b t (c ∷ cs) h = ((λ e. h.0 (sym (some_letter b c e))), lacks_first b t cs h.1)

nothing_first : (cs : List ℕ) → LacksFirst cs []
nothing_first [] = tt
nothing_first (c ∷ cs) = (no_letter c, nothing_first cs)

letters : (more : List ℕ) → BeginsOtherwise more → LacksFirst (codes "amr") more
letters [] h = nothing_first (codes "amr")
letters (b ∷ t) h = lacks_first b t (codes "amr") h

no_part : (more : List ℕ) → LacksFirst (codes "amr") more → (attrs : List SessionAttribute) (ms : List MediaLine)
    → GoesOnWithNothing attrs ms more
no_part more h attrs (m ∷ ms) = other_start 97 (61 ∷ []) media_attribute more h.0
no_part more h (a ∷ as') [] = other_start 97 (61 ∷ []) session_attribute more h.0
no_part more h [] [] =
    (other_start 97 (61 ∷ []) session_attribute more h.0, other_start 114 (61 ∷ []) something more h.1.1.0)

pub others_fit_nowhere : OthersFitNowhere
others_fit_nowhere more other sdp =
    let h = letters more other in (
      no_part more h sdp.session.attrs sdp.media_lines,
      λ m r s. let head = headed more more m r s in
          other_start 109 (61 ∷ []) media_line more h.1.0 head.0 head.1 head.2,
    )
