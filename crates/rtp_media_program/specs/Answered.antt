-- What a line does when it is answered and explained.
use Rattle.std.specs.Prelude.{◌≡◌, ◌⊎◌, ℕ, List, [], Some, true, false, take}
use Rattle.std.specs.Str.Lines.{lines}
use Rattle.rtp_media_program.specs.declared.command.Command.{Command}
use Rattle.rtp_media_program.specs.declared.reply.Reply.{Reply}
use Rattle.rtp_media_program.specs.Runs.{Printed}
use Rattle.rtp_media_program.specs.declared.status.Status.{Status}
use Rattle.rtp_media_program.specs.declared.status.Status.TheVariants.{Success}
use Rattle.rtp_media_program.specs.ExplainedLines.{is_comment, text_of}
use Rattle.rtp_media_program.specs.Noted.{Known, noted_all}

-- A comment changes nothing; any other line gets the replies it would get without explanations, and they are noted.
pub record Explained {S : Type 0} (gives : S → Command → S → List Reply → Type 0) (old new : S) (before after : Known)
    (line : List ℕ) (status : Status) : Type 0 where
  pub replies : List ℕ
  pub comment : is_comment line ≡ true → (new ≡ old) × (replies ≡ []) × (status ≡ Success)
  pub answered : is_comment line ≡ false → Printed gives old new (Some []) (Some replies) line status
  pub noted : after ≡ noted_all before (text_of line) (lines (text_of replies))

-- The first n of the replies are noted.
abbrev pub NotesFirst : Known → Known → List ℕ → List (List ℕ) → Type 0
NotesFirst before after line replies = (count : ℕ) × (after ≡ noted_all before line (take count replies))

-- An interrupted line (memory ran out): a comment changed nothing; for any other line nothing is noted, or it was
-- answered and the first n replies are noted.
pub record PartlyExplained {S : Type 0} (gives : S → Command → S → List Reply → Type 0) (old new : S)
    (before after : Known) (line : List ℕ) : Type 0 where
  pub comment : is_comment line ≡ true → (new ≡ old) × (after ≡ before)
  pub noted : (after ≡ before) ⊎ ((replies : List ℕ) × (status : Status)
      × Printed gives old new (Some []) (Some replies) line status
      × NotesFirst before after (text_of line) (lines (text_of replies)))
