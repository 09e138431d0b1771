-- What the lines of forwarders say.
use Rattle.std.specs.Prelude.{ℕ, ◌^◌, if◌then◌else◌, List, codes, Option, None, Some}
use Rattle.std.specs.Str.{bytes_eq}
use Rattle.rtp_media_program.specs.declared.command.Command.{Command}
use Rattle.rtp_media_program.specs.declared.command.Command.TheVariants.{Relay}
use Rattle.rtp_media_program.specs.declared.relay_words.RelayCommand.TheVariants as relay
use Rattle.rtp_media_program.specs.declared.relay_words.Mark.{Mark}
use Rattle.rtp_media_program.specs.declared.relay_words.Mark.TheVariants.{Ends, Leave, Reserve}
use Rattle.rtp_media_program.specs.Words.{ended, first, hex_of, letter_of, number_below, ◌>>=◌}

-- forwarder FIRST
unfoldable pub begin_of : List (List ℕ) → Option Command
begin_of words = do
  number ← first (number_below (2 ^ 64)) words
  ended number.1 (Relay (relay.Begin number.0))

-- forward E N R HEX
unfoldable pub forward_of : List (List ℕ) → Option Command
forward_of words = do
  letter ← first letter_of words
  stream ← first (number_below (2 ^ 64)) letter.1
  forwarder ← first (number_below (2 ^ 64)) stream.1
  datagram ← first hex_of forwarder.1
  ended datagram.1 (Relay (relay.Forward (record {
    letter = letter.0;
    stream = stream.0;
    forwarder = forwarder.0;
    datagram = datagram.0;
  })))

-- switch R SOURCE NUMBER TIMESTAMP AT
unfoldable pub switch_of : List (List ℕ) → Option Command
switch_of words = do
  forwarder ← first (number_below (2 ^ 64)) words
  source ← first (number_below (2 ^ 64)) forwarder.1
  number ← first (number_below (2 ^ 64)) source.1
  time ← first (number_below (2 ^ 32)) number.1
  at ← first (number_below (2 ^ 32)) time.1
  ended at.1 (Relay (relay.Switch (record {
    forwarder = forwarder.0;
    source = source.0;
    number = number.0;
    time = time.0;
    at = at.0;
  })))

-- R NUMBER, telling a forwarder about a number
unfoldable pub mark_of : Mark → List (List ℕ) → Option Command
mark_of mark words = do
  forwarder ← first (number_below (2 ^ 64)) words
  number ← first (number_below (2 ^ 64)) forwarder.1
  ended number.1 (Relay (relay.Mark (record { forwarder = forwarder.0; number = number.0; mark = mark })))

-- A command of forwarders, by its first word.
abbrev pub relay_command_of : List ℕ → List (List ℕ) → Option Command
relay_command_of verb words =
    if bytes_eq verb (codes "forwarder") then begin_of words
    else if bytes_eq verb (codes "forward") then forward_of words
    else if bytes_eq verb (codes "switch") then switch_of words
    else if bytes_eq verb (codes "leave") then mark_of Leave words
    else if bytes_eq verb (codes "ends") then mark_of Ends words
    else if bytes_eq verb (codes "reserve") then mark_of Reserve words
    else None
