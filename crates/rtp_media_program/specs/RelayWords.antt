-- The words of each line of forwarders.
use Rattle.std.specs.Prelude.{◌≡◌, ℕ, ◌^◌, List, [], ◌∷◌, codes, Some}
use Rattle.rtp_media_program.specs.declared.relay_words.ForwardCommand.{ForwardCommand}
use Rattle.rtp_media_program.specs.declared.relay_words.Mark.{Mark}
use Rattle.rtp_media_program.specs.declared.relay_words.Mark.TheVariants as mark
use Rattle.rtp_media_program.specs.declared.relay_words.MarkCommand.{MarkCommand}
use Rattle.rtp_media_program.specs.declared.relay_words.RelayCommand.{RelayCommand}
use Rattle.rtp_media_program.specs.declared.relay_words.RelayCommand.TheVariants as relay
use Rattle.rtp_media_program.specs.declared.relay_words.SwitchCommand.{SwitchCommand}
use Rattle.rtp_media_program.specs.Words.{letter_of, hex_of, number_below}

-- forwarder FIRST
pub record AreBeginWords (words : List (List ℕ)) (number : ℕ) : Type 0 where
  pub first : List ℕ
  pub words_are : words ≡ codes "forwarder" ∷ first ∷ []
  pub first_says : number_below (2 ^ 64) first ≡ Some number

-- forward E N R HEX
pub record AreForwardWords (words : List (List ℕ)) (forward : ForwardCommand) : Type 0 where
  pub e : List ℕ
  pub stream : List ℕ
  pub forwarder : List ℕ
  pub bytes : List ℕ
  pub words_are : words ≡ codes "forward" ∷ e ∷ stream ∷ forwarder ∷ bytes ∷ []
  pub e_says : letter_of e ≡ Some forward.letter
  pub stream_says : number_below (2 ^ 64) stream ≡ Some forward.stream
  pub forwarder_says : number_below (2 ^ 64) forwarder ≡ Some forward.forwarder
  pub bytes_say : hex_of bytes ≡ Some forward.datagram

-- switch R SOURCE NUMBER TIMESTAMP AT
pub record AreSwitchWords (words : List (List ℕ)) (switch : SwitchCommand) : Type 0 where
  pub forwarder : List ℕ
  pub source : List ℕ
  pub number : List ℕ
  pub time : List ℕ
  pub at : List ℕ
  pub words_are : words ≡ codes "switch" ∷ forwarder ∷ source ∷ number ∷ time ∷ at ∷ []
  pub forwarder_says : number_below (2 ^ 64) forwarder ≡ Some switch.forwarder
  pub source_says : number_below (2 ^ 64) source ≡ Some switch.source
  pub number_says : number_below (2 ^ 64) number ≡ Some switch.number
  pub time_says : number_below (2 ^ 32) time ≡ Some switch.time
  pub at_says : number_below (2 ^ 32) at ≡ Some switch.at

-- The first word of a line that tells a forwarder about a number.
abbrev pub mark_word : Mark → List ℕ
mark_word mark.Leave = codes "leave"
mark_word mark.Ends = codes "ends"
mark_word mark.Reserve = codes "reserve"

-- leave R NUMBER, ends R NUMBER, reserve R COUNT
pub record AreMarkWords (words : List (List ℕ)) (command : MarkCommand) : Type 0 where
  pub forwarder : List ℕ
  pub number : List ℕ
  pub words_are : words ≡ mark_word command.mark ∷ forwarder ∷ number ∷ []
  pub forwarder_says : number_below (2 ^ 64) forwarder ≡ Some command.forwarder
  pub number_says : number_below (2 ^ 64) number ≡ Some command.number

abbrev pub SaysRelay : List (List ℕ) → RelayCommand → Type 0
SaysRelay words (relay.Begin number) = AreBeginWords words number
SaysRelay words (relay.Forward forward) = AreForwardWords words forward
SaysRelay words (relay.Switch switch) = AreSwitchWords words switch
SaysRelay words (relay.Mark command) = AreMarkWords words command
