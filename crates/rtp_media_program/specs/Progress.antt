-- How far a run of the program has got.
use Rattle.std.specs.Prelude.{◌≡◌, ℕ, List, ◌++◌, Option}
use Rattle.std.specs.List.{flat_map}
use Rattle.std.specs.Io.KnownBytes.{Appends}
use Rattle.rtp_media_program.specs.declared.command.Command.{Command}
use Rattle.rtp_media_program.specs.declared.reply.Reply.{Reply}
use Rattle.rtp_media_program.specs.declared.status.Status.{Status}
use Rattle.rtp_media_program.specs.Input.{lines_of, kept, HasNoFeed}
use Rattle.rtp_media_program.specs.ReplyLines.{reply_text}
use Rattle.rtp_media_program.specs.Runs.{Answers, AnswersAll, Printed, status_of}

-- One line was answered: its replies were printed, and nothing else.
pub record PrintedOne {S : Type 0} (gives : S → Command → S → List Reply → Type 0) (old : S) (line : Option (List ℕ))
    (new : S) (before after : Option (List ℕ)) (status : Status) : Type 0 where
  pub replies : List Reply
  pub answers : Answers gives old line new replies
  pub printed : Appends before after (flat_map reply_text replies)
  pub status_is : status ≡ status_of replies

-- Of the bytes so far, the complete lines are answered; the last, possibly incomplete line is held.
pub record Progress {S : Type 0} (gives : S → Command → S → List Reply → Type 0) (start : S)
    (before : Option (List ℕ)) (seen : List ℕ)
    (state : S) (after : Option (List ℕ)) (held : Option (List ℕ)) (status : Status) : Type 0 where
  pub ended : List (Option (List ℕ))
  pub tail : List ℕ
  pub replies : List Reply
  pub parts : (rest : List ℕ) → lines_of (seen ++ rest) ≡ ended ++ lines_of (tail ++ rest)
  pub unended : HasNoFeed tail
  pub held_is : held ≡ kept tail
  pub answers : AnswersAll gives start ended state replies
  pub printed : Appends before after (flat_map reply_text replies)
  pub status_is : status ≡ status_of replies

-- A run at this point continues with these bytes.
abbrev pub GoesOn : {S : Type 0} → (S → Command → S → List Reply → Type 0) → List ℕ
    → S → Option (List ℕ) → Option (List ℕ) → Status → S → Option (List ℕ) → Option (List ℕ) → Status → Type 0
GoesOn {S} gives bytes state after held status next later holds more =
    (start : S) (before : Option (List ℕ)) (seen : List ℕ) → Progress gives start before seen state after held status
    → Progress gives start before (seen ++ bytes) next later holds more

-- A run that has come so far ends here.
abbrev pub Ends : {S : Type 0} → (S → Command → S → List Reply → Type 0)
    → S → Option (List ℕ) → Option (List ℕ) → Status → S → Option (List ℕ) → Status → Type 0
Ends {S} gives state after held status next later more =
    (start : S) (before : Option (List ℕ)) (seen : List ℕ) → Progress gives start before seen state after held status
    → Printed gives start next before later seen more
