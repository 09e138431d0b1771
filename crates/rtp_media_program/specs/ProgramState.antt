-- What the program does at each command.
use Rattle.std.specs.Prelude.{◌≡◌, List, [], ◌∷◌, ◌++◌, None}
use Rattle.rtp_media_ends.specs.Ends.{EndState}
use Rattle.rtp_media_program.specs.declared.words.Letter.{Letter}
use Rattle.rtp_media_program.specs.declared.words.Letter.TheVariants.{A, B}
use Rattle.rtp_media_program.specs.declared.command.Command.{Command}
use Rattle.rtp_media_program.specs.declared.command.Command.TheVariants.{Fixed, Send, Open, Sample, Receive, Poll, Row}
use Rattle.rtp_media_program.specs.declared.command.Command.TheVariants.{Ext, End, Offer, Answer, Accept, Withdraw}
use Rattle.rtp_media_program.specs.declared.command.Command.TheVariants.{AskStream, BoundStream, Connect, Queue, Play}
use Rattle.rtp_media_program.specs.declared.command.Command.TheVariants.{Relay, Repair}
use Rattle.rtp_media_program.specs.declared.play_words.QueueCommand.{QueueCommand}
use Rattle.rtp_media_program.specs.declared.reply.Reply.{Reply}
use Rattle.rtp_media_program.specs.declared.reply.Reply.TheVariants as reply
use Rattle.rtp_media_program.specs.Replies.{Prints}
use Rattle.rtp_media_program.specs.Making.{AnswersExt, AnswersFixed, AnswersRow, EndAndDraft, MakesEnd}
use Rattle.rtp_media_program.specs.Making.{empty_draft}
use Rattle.rtp_media_program.specs.Exchanging.{AnswersAccept, AnswersAnswer, AnswersOffer, AnswersWithdraw}
use Rattle.rtp_media_program.specs.Exchanging.{AtEnd, ConnectsEnds, WithText, wanted_in}
use Rattle.rtp_media_program.specs.Playing.{PlaysEnds}
use Rattle.rtp_media_program.specs.Relaying.{AnswersBegin, AnswersForward, AnswersMark, AnswersSwitch}
use Rattle.rtp_media_program.specs.Streams.{IsAnswered}
use Rattle.rtp_media_program.specs.declared.relay_words.ForwardCommand.{ForwardCommand}
use Rattle.rtp_media_program.specs.declared.relay_words.RelayCommand.{RelayCommand}
use Rattle.rtp_media_program.specs.declared.relay_words.RelayCommand.TheVariants as relay
use Rattle.rtp_media_forward.specs.Forwarding.{Forwarding}

-- The program's state: what its two letters stand for, the samples queued for a run, and the forwarders.
pub record ProgramState : Type 0 where
  pub a : EndAndDraft
  pub b : EndAndDraft
  pub queue : List QueueCommand
  pub forwarders : List Forwarding

abbrev pub initial_state : ProgramState
initial_state = record { a = empty_draft None; b = empty_draft None; queue = []; forwarders = [] }

abbrev pub letter_of : Command → Letter
letter_of (Fixed letter) = letter
letter_of (Send c) = c.letter
letter_of (Open c) = c.letter
letter_of (Sample c) = c.letter
letter_of (Receive c) = c.letter
letter_of (Poll c) = c.letter
letter_of (Repair c) = c.letter
letter_of (AskStream c) = c.letter
letter_of (BoundStream c) = c.letter
letter_of (Row c) = c.letter
letter_of (Ext c) = c.letter
letter_of (End c) = c.letter
letter_of (Offer c) = c.letter
letter_of (Answer c) = c.letter
letter_of (Accept c) = c.letter
letter_of (Withdraw letter) = letter
letter_of (Connect c) = A
letter_of (Queue c) = A
letter_of (Play c) = A
letter_of (Relay c) = A

-- The draft doesn't change; only the end does.
abbrev pub KeepsDraft : EndAndDraft → EndAndDraft → Type 0
KeepsDraft old new = (new.rows ≡ old.rows) × (new.exts ≡ old.exts)

-- What a command does to the end that it names.
abbrev pub AnswersAtEnd : EndState → Command → EndState → List Reply → Type 0
AnswersAtEnd e (Offer c) after replies = AnswersOffer e (wanted_in c.sections) after replies
AnswersAtEnd e (Answer c) after replies =
    WithText c.text e after replies (AnswersAnswer e c.text (wanted_in c.sections) after replies)
AnswersAtEnd e (Accept c) after replies = WithText c.text e after replies (AnswersAccept e c.text after replies)
AnswersAtEnd e (Withdraw letter) after replies = AnswersWithdraw e after replies
AnswersAtEnd e command after replies = IsAnswered e command after replies

-- What a command does to what its letter stands for.
abbrev pub AnswersAt : EndAndDraft → Command → EndAndDraft → List Reply → Type 0
AnswersAt old (Row c) new replies = AnswersRow old c new replies
AnswersAt old (Ext c) new replies = AnswersExt old c new replies
AnswersAt old (End c) new replies = MakesEnd old c new replies
AnswersAt old (Fixed letter) new replies = AnswersFixed old.end new.end replies × KeepsDraft old new
AnswersAt old command new replies =
    AtEnd old.end new.end replies (λ e after. AnswersAtEnd e command after replies) × KeepsDraft old new

-- The command applies to its letter; the other one doesn't change.
abbrev pub IsAnsweredAt : Letter → ProgramState → Command → ProgramState → List Reply → Type 0
IsAnsweredAt A old command new replies = AnswersAt old.a command new.a replies × (new.b ≡ old.b)
IsAnsweredAt B old command new replies = AnswersAt old.b command new.b replies × (new.a ≡ old.a)

-- A packet is sent on at the end of a letter; its draft and what the other letter stands for don't change.
abbrev pub ForwardsIn : Letter → (old_a old_b : EndAndDraft) → List Forwarding → ForwardCommand
    → (new_a new_b : EndAndDraft) → List Forwarding → List Reply → Type 0
ForwardsIn A old_a old_b fs c new_a new_b after replies =
    AnswersForward old_a.end fs c new_a.end after replies × KeepsDraft old_a new_a × (new_b ≡ old_b)
ForwardsIn B old_a old_b fs c new_a new_b after replies =
    AnswersForward old_b.end fs c new_b.end after replies × KeepsDraft old_b new_b × (new_a ≡ old_a)

-- What a line of forwarders does.
abbrev pub AnswersRelay : (old_a old_b : EndAndDraft) → List Forwarding → RelayCommand → (new_a new_b : EndAndDraft)
    → List Forwarding → List Reply → Type 0
AnswersRelay old_a old_b fs (relay.Forward c) new_a new_b after replies =
    ForwardsIn c.letter old_a old_b fs c new_a new_b after replies
AnswersRelay old_a old_b fs (relay.Begin first) new_a new_b after replies =
    (new_a ≡ old_a) × (new_b ≡ old_b) × AnswersBegin fs first after replies
AnswersRelay old_a old_b fs (relay.Switch c) new_a new_b after replies =
    (new_a ≡ old_a) × (new_b ≡ old_b) × AnswersSwitch fs c after replies
AnswersRelay old_a old_b fs (relay.Mark c) new_a new_b after replies =
    (new_a ≡ old_a) × (new_b ≡ old_b) × AnswersMark fs c after replies

-- What the program does at a command.
unfoldable pub AnswersCommand : ProgramState → Command → ProgramState → List Reply → Type 0
AnswersCommand old (Connect c) new replies =
    ConnectsEnds old.a.end old.b.end c new.a.end new.b.end replies × KeepsDraft old.a new.a × KeepsDraft old.b new.b
    × (new.queue ≡ old.queue) × (new.forwarders ≡ old.forwarders)
AnswersCommand old (Queue c) new replies =
    (new.queue ≡ old.queue ++ c ∷ []) × (new.a ≡ old.a) × (new.b ≡ old.b) × (new.forwarders ≡ old.forwarders)
    × Prints replies reply.Done
AnswersCommand old (Play c) new replies =
    PlaysEnds old.a.end old.b.end old.queue c new.a.end new.b.end new.queue replies × KeepsDraft old.a new.a
    × KeepsDraft old.b new.b × (new.forwarders ≡ old.forwarders)
AnswersCommand old (Relay c) new replies =
    AnswersRelay old.a old.b old.forwarders c new.a new.b new.forwarders replies × (new.queue ≡ old.queue)
AnswersCommand old command new replies = IsAnsweredAt (letter_of command) old command new replies
    × (new.queue ≡ old.queue) × (new.forwarders ≡ old.forwarders)
