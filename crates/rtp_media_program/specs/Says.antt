-- The words of each command: the lines of the program, one by one.
use Rattle.std.specs.Prelude.{◌≡◌, ℕ, ◌^◌, List, [], ◌∷◌, ◌++◌, codes, Some, Option, None, option_to_list}
use Rattle.rtp_media_program.specs.declared.command.Command.{Command}
use Rattle.rtp_media_program.specs.declared.command.Command.TheVariants.{Fixed, Send, Open, Sample, Receive, Poll, Row}
use Rattle.rtp_media_program.specs.declared.command.Command.TheVariants.{Ext, End, Offer, Answer, Accept, Withdraw}
use Rattle.rtp_media_program.specs.declared.command.Command.TheVariants.{Connect, Queue, Play, Relay, Repair}
use Rattle.rtp_media_program.specs.declared.command.SendCommand.{SendCommand}
use Rattle.rtp_media_program.specs.declared.command.OpenCommand.{OpenCommand}
use Rattle.rtp_media_program.specs.declared.command.SampleCommand.{SampleCommand}
use Rattle.rtp_media_program.specs.declared.command.ReceiveCommand.{ReceiveCommand}
use Rattle.rtp_media_program.specs.declared.command.PollCommand.{PollCommand}
use Rattle.rtp_media_program.specs.declared.command.RepairCommand.{RepairCommand}
use Rattle.rtp_media_program.specs.declared.command.Ask.{Ask}
use Rattle.rtp_media_program.specs.declared.command.Ask.TheVariants.{Close, Missing, Next}
use Rattle.rtp_media_program.specs.declared.command.AskCommand.{AskCommand}
use Rattle.rtp_media_program.specs.declared.command.Bound.{Bound}
use Rattle.rtp_media_program.specs.declared.command.Bound.TheVariants.{Empty, Keep, Pass, Skip}
use Rattle.rtp_media_program.specs.declared.command.BoundCommand.{BoundCommand}
use Rattle.rtp_media_program.specs.declared.command.Command.TheVariants.{AskStream, BoundStream}
use Rattle.rtp_media_program.specs.declared.exchange.RowCommand.{RowCommand}
use Rattle.rtp_media_program.specs.declared.exchange.ExtCommand.{ExtCommand}
use Rattle.rtp_media_program.specs.declared.exchange.EndCommand.{EndCommand}
use Rattle.rtp_media_program.specs.declared.exchange.OfferCommand.{OfferCommand}
use Rattle.rtp_media_program.specs.declared.exchange.AnswerCommand.{AnswerCommand}
use Rattle.rtp_media_program.specs.declared.exchange.AcceptCommand.{AcceptCommand}
use Rattle.rtp_media_program.specs.declared.exchange.ConnectCommand.{ConnectCommand}
use Rattle.rtp_media_program.specs.declared.play_words.PlayCommand.{PlayCommand}
use Rattle.rtp_media_program.specs.declared.play_words.QueueCommand.{QueueCommand}
use Rattle.rtp_media_program.specs.PlayLines.{items_of}
use Rattle.rtp_media_program.specs.RelayWords.{SaysRelay}
use Rattle.rtp_media_program.specs.Sections.{sections_of}
use Rattle.rtp_media_program.specs.Words.{letter_of, text_of, hex_of, dash_or, numbers_of, number_below}

-- send E MID SSRC PT FIRST MTU LIMIT DISTANCES PICTUREID
pub record AreSendWords (words : List (List ℕ)) (send : SendCommand) : Type 0 where
  pub e : List ℕ
  pub mid : List ℕ
  pub ssrc : List ℕ
  pub pt : List ℕ
  pub first : List ℕ
  pub mtu : List ℕ
  pub limit : List ℕ
  pub distances : List ℕ
  pub picture : List ℕ
  pub words_are : words ≡ codes "send" ∷ e ∷ mid ∷ ssrc ∷ pt ∷ first ∷ mtu ∷ limit ∷ distances ∷ picture ∷ []
  pub e_says : letter_of e ≡ Some send.letter
  pub mid_says : text_of mid ≡ Some send.mid
  pub ssrc_says : number_below (2 ^ 32) ssrc ≡ Some send.ssrc
  pub pt_says : number_below (2 ^ 8) pt ≡ Some send.pt
  pub first_says : number_below (2 ^ 64) first ≡ Some send.first
  pub mtu_says : number_below (2 ^ 64) mtu ≡ Some send.mtu
  pub limit_says : number_below (2 ^ 64) limit ≡ Some send.limit
  pub distances_say : dash_or numbers_of distances ≡ Some send.distances
  pub picture_says : dash_or (number_below (2 ^ 16)) picture ≡ Some send.picture_id

-- No word, which means at most 4,096 packets, or their number.
abbrev pub held_number : Option (List ℕ) → Option ℕ
held_number None = Some 4096
held_number (Some word) = number_below (2 ^ 64) word

-- open E MID SSRC PT HOLDBACK [HELD]
pub record AreOpenWords (words : List (List ℕ)) (open' : OpenCommand) : Type 0 where
  pub e : List ℕ
  pub mid : List ℕ
  pub ssrc : List ℕ
  pub pt : List ℕ
  pub hold_back : List ℕ
  pub held : Option (List ℕ)
  pub words_are : words ≡ codes "open" ∷ e ∷ mid ∷ ssrc ∷ pt ∷ hold_back ∷ option_to_list held
  pub e_says : letter_of e ≡ Some open'.letter
  pub mid_says : text_of mid ≡ Some open'.mid
  pub ssrc_says : number_below (2 ^ 32) ssrc ≡ Some open'.ssrc
  pub pt_says : number_below (2 ^ 8) pt ≡ Some open'.pt
  pub hold_back_says : number_below (2 ^ 64) hold_back ≡ Some open'.hold_back
  pub held_says : held_number held ≡ Some open'.held

-- Nothing, or `mid=TEXT`.
abbrev pub mid_words : Option (List ℕ) → List (List ℕ)
mid_words None = []
mid_words (Some text) = (codes "mid=" ++ text) ∷ []

-- sample E N TIME HEX [mid=TEXT]
pub record AreSampleWords (words : List (List ℕ)) (sample : SampleCommand) : Type 0 where
  pub e : List ℕ
  pub stream : List ℕ
  pub time : List ℕ
  pub bytes : List ℕ
  pub words_are : words ≡ codes "sample" ∷ e ∷ stream ∷ time ∷ bytes ∷ mid_words sample.mid
  pub e_says : letter_of e ≡ Some sample.letter
  pub stream_says : number_below (2 ^ 64) stream ≡ Some sample.stream
  pub time_says : number_below (2 ^ 64) time ≡ Some sample.time
  pub bytes_say : hex_of bytes ≡ Some sample.sample

-- receive E HEX
pub record AreReceiveWords (words : List (List ℕ)) (receive : ReceiveCommand) : Type 0 where
  pub e : List ℕ
  pub bytes : List ℕ
  pub words_are : words ≡ codes "receive" ∷ e ∷ bytes ∷ []
  pub e_says : letter_of e ≡ Some receive.letter
  pub bytes_say : hex_of bytes ≡ Some receive.datagram

-- poll E N
pub record ArePollWords (words : List (List ℕ)) (poll : PollCommand) : Type 0 where
  pub e : List ℕ
  pub stream : List ℕ
  pub words_are : words ≡ codes "poll" ∷ e ∷ stream ∷ []
  pub e_says : letter_of e ≡ Some poll.letter
  pub stream_says : number_below (2 ^ 64) stream ≡ Some poll.stream

-- repair E N HEX
pub record AreRepairWords (words : List (List ℕ)) (repair : RepairCommand) : Type 0 where
  pub e : List ℕ
  pub stream : List ℕ
  pub bytes : List ℕ
  pub words_are : words ≡ codes "repair" ∷ e ∷ stream ∷ bytes ∷ []
  pub e_says : letter_of e ≡ Some repair.letter
  pub stream_says : number_below (2 ^ 64) stream ≡ Some repair.stream
  pub bytes_say : hex_of bytes ≡ Some repair.datagram

-- The first word of a line that asks something of a stream.
abbrev pub ask_word : Ask → List ℕ
ask_word Next = codes "next"
ask_word Missing = codes "missing"
ask_word Close = codes "close"

-- next E N, missing E N, close E N
pub record AreAskWords (words : List (List ℕ)) (ask : AskCommand) : Type 0 where
  pub e : List ℕ
  pub stream : List ℕ
  pub words_are : words ≡ ask_word ask.ask ∷ e ∷ stream ∷ []
  pub e_says : letter_of e ≡ Some ask.letter
  pub stream_says : number_below (2 ^ 64) stream ≡ Some ask.stream

-- The first word of a line that sets a bound to a stream's numbers.
abbrev pub bound_word : Bound → List ℕ
bound_word Skip = codes "skip"
bound_word Pass = codes "pass"
bound_word Empty = codes "empty"
bound_word Keep = codes "keep"

-- skip E N NUMBER, pass E N NUMBER, empty E N NUMBER, keep E N NUMBER
pub record AreBoundWords (words : List (List ℕ)) (bound : BoundCommand) : Type 0 where
  pub e : List ℕ
  pub stream : List ℕ
  pub number : List ℕ
  pub words_are : words ≡ bound_word bound.bound ∷ e ∷ stream ∷ number ∷ []
  pub e_says : letter_of e ≡ Some bound.letter
  pub stream_says : number_below (2 ^ 64) stream ≡ Some bound.stream
  pub number_says : number_below (2 ^ 64) number ≡ Some bound.number

-- row E PT RTX RED CODEC CLOCK CHANNELS FMTP
pub record AreRowWords (words : List (List ℕ)) (row : RowCommand) : Type 0 where
  pub e : List ℕ
  pub pt : List ℕ
  pub resend : List ℕ
  pub red : List ℕ
  pub codec : List ℕ
  pub clock : List ℕ
  pub channels : List ℕ
  pub format : List ℕ
  pub words_are : words ≡ codes "row" ∷ e ∷ pt ∷ resend ∷ red ∷ codec ∷ clock ∷ channels ∷ format ∷ []
  pub e_says : letter_of e ≡ Some row.letter
  pub pt_says : number_below (2 ^ 8) pt ≡ Some row.pt
  pub resend_says : dash_or (number_below (2 ^ 8)) resend ≡ Some row.resend
  pub red_says : dash_or (number_below (2 ^ 8)) red ≡ Some row.red
  pub codec_says : text_of codec ≡ Some row.codec
  pub clock_says : number_below (2 ^ 32) clock ≡ Some row.clock_rate
  pub channels_say : dash_or (number_below (2 ^ 8)) channels ≡ Some row.channels
  pub format_says : dash_or text_of format ≡ Some row.format

-- ext E ID URI
pub record AreExtWords (words : List (List ℕ)) (ext : ExtCommand) : Type 0 where
  pub e : List ℕ
  pub id : List ℕ
  pub uri : List ℕ
  pub words_are : words ≡ codes "ext" ∷ e ∷ id ∷ uri ∷ []
  pub e_says : letter_of e ≡ Some ext.letter
  pub id_says : number_below (2 ^ 8) id ≡ Some ext.id
  pub uri_says : text_of uri ≡ Some ext.uri

-- end E SESSION
pub record AreEndWords (words : List (List ℕ)) (end' : EndCommand) : Type 0 where
  pub e : List ℕ
  pub session : List ℕ
  pub words_are : words ≡ codes "end" ∷ e ∷ session ∷ []
  pub e_says : letter_of e ≡ Some end'.letter
  pub session_says : number_below (2 ^ 64) session ≡ Some end'.session

-- offer E SECTION..
pub record AreOfferWords (words : List (List ℕ)) (offer : OfferCommand) : Type 0 where
  pub e : List ℕ
  pub sections : List (List ℕ)
  pub words_are : words ≡ codes "offer" ∷ e ∷ sections
  pub e_says : letter_of e ≡ Some offer.letter
  pub sections_say : sections_of sections ≡ Some offer.sections

-- answer E HEX SECTION..
pub record AreAnswerWords (words : List (List ℕ)) (answer : AnswerCommand) : Type 0 where
  pub e : List ℕ
  pub text : List ℕ
  pub sections : List (List ℕ)
  pub words_are : words ≡ codes "answer" ∷ e ∷ text ∷ sections
  pub e_says : letter_of e ≡ Some answer.letter
  pub text_says : hex_of text ≡ Some answer.text
  pub sections_say : sections_of sections ≡ Some answer.sections

-- accept E HEX
pub record AreAcceptWords (words : List (List ℕ)) (accept : AcceptCommand) : Type 0 where
  pub e : List ℕ
  pub text : List ℕ
  pub words_are : words ≡ codes "accept" ∷ e ∷ text ∷ []
  pub e_says : letter_of e ≡ Some accept.letter
  pub text_says : hex_of text ≡ Some accept.text

-- connect SECTION.. / SECTION..
pub record AreConnectWords (words : List (List ℕ)) (connect : ConnectCommand) : Type 0 where
  pub offered : List (List ℕ)
  pub answered : List (List ℕ)
  pub words_are : words ≡ codes "connect" ∷ (offered ++ codes "/" ∷ answered)
  pub offered_say : sections_of offered ≡ Some connect.offered
  pub answered_say : sections_of answered ≡ Some connect.answered

-- queue TIME HEX
pub record AreQueueWords (words : List (List ℕ)) (queue : QueueCommand) : Type 0 where
  pub time : List ℕ
  pub bytes : List ℕ
  pub words_are : words ≡ codes "queue" ∷ time ∷ bytes ∷ []
  pub time_says : number_below (2 ^ 64) time ≡ Some queue.time
  pub bytes_say : hex_of bytes ≡ Some queue.sample

-- play TX RX ITEM..
pub record ArePlayWords (words : List (List ℕ)) (play : PlayCommand) : Type 0 where
  pub tx : List ℕ
  pub rx : List ℕ
  pub items : List (List ℕ)
  pub words_are : words ≡ codes "play" ∷ tx ∷ rx ∷ items
  pub tx_says : number_below (2 ^ 64) tx ≡ Some play.tx
  pub rx_says : number_below (2 ^ 64) rx ≡ Some play.rx
  pub items_say : items_of items ≡ Some play.items

-- The words are exactly those of the command's line, in order.
abbrev pub Says : List (List ℕ) → Command → Type 0
-- fixed E
Says words (Fixed letter) = (e : List ℕ) × (words ≡ codes "fixed" ∷ e ∷ []) × (letter_of e ≡ Some letter)
Says words (Send send) = AreSendWords words send
Says words (Open open') = AreOpenWords words open'
Says words (Sample sample) = AreSampleWords words sample
Says words (Receive receive) = AreReceiveWords words receive
Says words (Poll poll) = ArePollWords words poll
Says words (Repair repair) = AreRepairWords words repair
Says words (AskStream ask) = AreAskWords words ask
Says words (BoundStream bound) = AreBoundWords words bound
Says words (Row row) = AreRowWords words row
Says words (Ext ext) = AreExtWords words ext
Says words (End end') = AreEndWords words end'
Says words (Offer offer) = AreOfferWords words offer
Says words (Answer answer) = AreAnswerWords words answer
Says words (Accept accept) = AreAcceptWords words accept
-- withdraw E
Says words (Withdraw letter) = (e : List ℕ) × (words ≡ codes "withdraw" ∷ e ∷ []) × (letter_of e ≡ Some letter)
Says words (Connect connect) = AreConnectWords words connect
Says words (Queue queue) = AreQueueWords words queue
Says words (Play play) = ArePlayWords words play
Says words (Relay relay) = SaysRelay words relay
