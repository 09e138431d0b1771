-- What the program prints for its lines.
use Rattle.std.specs.Prelude.{◌≡◌, ℕ, if◌then◌else◌, List, [], ◌∷◌, ◌++◌, Option, None, Some}
use Rattle.std.specs.List.{flat_map, list_any}
use Rattle.std.specs.Io.KnownBytes.{Appends, Consumes, IsAtEnd}
use Rattle.rtp_media_program.specs.declared.command.Command.{Command}
use Rattle.rtp_media_program.specs.declared.line.Line.{Line}
use Rattle.rtp_media_program.specs.declared.line.Line.TheVariants as line
use Rattle.rtp_media_program.specs.declared.reply.Reply.{Reply}
use Rattle.rtp_media_program.specs.declared.reply.Reply.TheVariants as reply
use Rattle.rtp_media_program.specs.declared.status.Status.{Status}
use Rattle.rtp_media_program.specs.declared.status.Status.TheVariants as status
use Rattle.rtp_media_program.specs.LineForms.{line_of}
use Rattle.rtp_media_program.specs.ReplyLines.{reply_text, is_error_line}
use Rattle.rtp_media_program.specs.Input.{lines_of}

-- What a line means; a line that is too long means nothing.
abbrev pub said_by : Option (List ℕ) → Option Line
said_by None = None
said_by (Some text) = line_of text

module _ {S : Type 0} (gives : S → Command → S → List Reply → Type 0) where
  -- the replies to what a line says, and the state after it
  abbrev pub AnswersSaid : S → Option Line → S → List Reply → Type 0
  AnswersSaid old None new replies = (new ≡ old) × (replies ≡ reply.ErrorLine ∷ [])
  AnswersSaid old (Some line.Empty) new replies = (new ≡ old) × (replies ≡ [])
  AnswersSaid old (Some (line.Command command)) new replies = gives old command new replies

  -- the replies to a line, and the state after it
  abbrev pub Answers : S → Option (List ℕ) → S → List Reply → Type 0
  Answers old line new replies = AnswersSaid old (said_by line) new replies

  -- the replies to lines, one after the other, and the state after them
  abbrev pub AnswersAll : S → List (Option (List ℕ)) → S → List Reply → Type 0
  AnswersAll old [] new replies = (new ≡ old) × (replies ≡ [])
  AnswersAll old (line ∷ lines) new replies =
      (mid : S) × (first : List Reply) × (others : List Reply) × Answers old line mid first
      × AnswersAll mid lines new others × (replies ≡ first ++ others)

-- Whether an error line was printed.
abbrev pub status_of : List Reply → Status
status_of replies = if list_any is_error_line replies then status.ErrorLine else status.Success

-- A program that read this input answered its lines, and printed the replies and nothing else.
pub record Printed {S : Type 0} (gives : S → Command → S → List Reply → Type 0) (old new : S)
    (before after : Option (List ℕ)) (input : List ℕ) (status : Status) : Type 0 where
  pub replies : List Reply
  pub answers : AnswersAll gives old (lines_of input) new replies
  pub printed : Appends before after (flat_map reply_text replies)
  pub status_is : status ≡ status_of replies

-- All bytes that the reader gives until its end.
abbrev pub ReadsAll : Option (List ℕ) → Option (List ℕ) → List ℕ → Type 0
ReadsAll old new input = Consumes old new input × IsAtEnd new
