-- What is written when a run stops at a fault: part of the replies to some of the first lines of the input.
use Rattle.std.specs.Prelude.{◌≡◌, ◌⊎◌, ℕ, List, ◌++◌, Option}
use Rattle.std.specs.List.{flat_map}
use Rattle.std.specs.Io.KnownBytes.{Keeps}
use Rattle.rtp_media_program.specs.declared.command.Command.{Command}
use Rattle.rtp_media_program.specs.declared.reply.Reply.{Reply}
use Rattle.rtp_media_program.specs.ReplyLines.{reply_text}
use Rattle.rtp_media_program.specs.Input.{lines_of}
use Rattle.rtp_media_program.specs.Progress.{Progress}
use Rattle.rtp_media_program.specs.Runs.{Answers, AnswersAll}
use Rattle.rtp_media_program.specs.Writes.{AppendsFront, LeavesRest}
use Rattle.rtp_media_program.specs.declared.status.Status.{Status}

-- For one line: nothing was written, or the beginning of its replies.
abbrev pub StoppedOne : {S : Type 0} → (S → Command → S → List Reply → Type 0) → S → Option (List ℕ)
    → Option (List ℕ) → Option (List ℕ) → Type 0
StoppedOne {S} gives old line before after =
    Keeps before after ⊎ ((new : S) × (replies : List Reply) × Answers gives old line new replies
    × AppendsFront before after (flat_map reply_text replies))

-- The first of these lines were answered, and the beginning of the replies to them was written.
pub record WritesFront {S : Type 0} (gives : S → Command → S → List Reply → Type 0) (start : S)
    (before after : Option (List ℕ)) (lines : List (Option (List ℕ))) : Type 0 where
  pub first : List (Option (List ℕ))
  pub others : List (Option (List ℕ))
  pub state : S
  pub replies : List Reply
  pub left : List ℕ
  pub are : lines ≡ first ++ others
  pub answers : AnswersAll gives start first state replies
  pub written : LeavesRest before after (flat_map reply_text replies) left

-- A run at this point stops within these bytes, whatever follows them.
abbrev pub StopsIn : {S : Type 0} → (S → Command → S → List Reply → Type 0) → List ℕ → S → Option (List ℕ)
    → Option (List ℕ) → Status → Option (List ℕ) → Type 0
StopsIn {S} gives bytes state after held status later =
    (start : S) (before : Option (List ℕ)) (seen : List ℕ)
    → Progress gives start before seen state after held status
    → (rest : List ℕ) → WritesFront gives start before later (lines_of ((seen ++ bytes) ++ rest))

-- A run that has come so far stops at the end of the input.
abbrev pub StopsAtEnd : {S : Type 0} → (S → Command → S → List Reply → Type 0) → S → Option (List ℕ)
    → Option (List ℕ) → Status → Option (List ℕ) → Type 0
StopsAtEnd {S} gives state after held status later =
    (start : S) (before : Option (List ℕ)) (seen : List ℕ)
    → Progress gives start before seen state after held status → WritesFront gives start before later (lines_of seen)
