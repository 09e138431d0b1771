-- What is noted of the first replies to a line.
use Rattle.std.proofs.Common.{◌≡◌, ◌∙◌, ap, refl, ℕ, List, [], subst, zero, suc, take}
use Rattle.std.specs.Prelude.{Result, Ok, Err, OnOk}
use Rattle.std.specs.Str.{chars, is_utf8}
use Rattle.std.specs.Str.Lines.{lines}
use Rattle.rtp_media_program.specs.Answered.{NotesFirst}
use Rattle.rtp_media_program.specs.ExplainedLines.{text_of}
use Rattle.rtp_media_program.specs.Noted.{Known, noted_all}

pub on_ok : {A E : Type 0} {X : Type 0} (r : Result A E) → X → OnOk r X
on_ok (Ok a) x = x
on_ok (Err e) x = tt

take_none : (n : ℕ) → take n (lines (text_of [])) ≡ []
unfolding is_utf8 chars
take_none zero = refl
take_none (suc n) = refl

first_of_none : (before after : Known) (line : List ℕ) → NotesFirst before after line (lines (text_of []))
    → after ≡ before
first_of_none before after line first = first.1 ∙ ap (noted_all before line) (take_none first.0)

-- of no replies nothing is noted
pub noted_none : (before after : Known) (line replies : List ℕ) → replies ≡ []
    → NotesFirst before after line (lines (text_of replies)) → after ≡ before
noted_none before after line replies none first =
    first_of_none before after line (subst (λ r. NotesFirst before after line (lines (text_of r))) none first)
