-- What each line of the program means. To add a line, add a case to `command_of`.
use Rattle.std.specs.Prelude.{ℕ, ◌==◌, ◌^◌, if◌then◌else◌, List, [], ◌∷◌, length, codes, Option, None, Some}
use Rattle.std.specs.Str.{bytes_eq, is_utf8}
use Rattle.rtp_media_program.specs.declared.line.Line.{Line}
use Rattle.rtp_media_program.specs.declared.line.Line.TheVariants as line
use Rattle.rtp_media_program.specs.declared.command.Command.{Command}
use Rattle.rtp_media_program.specs.declared.command.Command.TheVariants.{Fixed, Send, Open, Sample, Receive, Poll}
use Rattle.rtp_media_program.specs.declared.command.Command.TheVariants.{AskStream, BoundStream, Repair}
use Rattle.rtp_media_program.specs.declared.command.Ask.{Ask}
use Rattle.rtp_media_program.specs.declared.command.Ask.TheVariants.{Close, Missing, Next}
use Rattle.rtp_media_program.specs.declared.command.Bound.{Bound}
use Rattle.rtp_media_program.specs.declared.command.Bound.TheVariants.{Empty, Keep, Pass, Skip}
use Rattle.std.specs.Option.{option_map}
use Rattle.rtp_media_program.specs.declared.words.Letter.{Letter}
use Rattle.rtp_media_program.specs.ExchangeLines.{row_of, ext_of, end_of, offer_of, answer_of, accept_of, withdraw_of}
use Rattle.rtp_media_program.specs.ExchangeLines.{connect_of}
use Rattle.rtp_media_program.specs.PlayLines.{play_of, queue_of}
use Rattle.rtp_media_program.specs.RelayLines.{relay_command_of}
use Rattle.rtp_media_program.specs.Words.{words_of, letter_of, text_of, hex_of, dash_or, numbers_of, number_below}
use Rattle.rtp_media_program.specs.Words.{held_value, mid_value, first, ended, ◌>>=◌}

-- fixed E
unfoldable pub fixed_of : List (List ℕ) → Option Command
fixed_of words = do
  letter ← first letter_of words
  ended letter.1 (Fixed letter.0)

-- FIRST MTU LIMIT DISTANCES PICTUREID, after the stream to be sent
abbrev pub rest_of_send : Letter → List ℕ → ℕ → ℕ → List (List ℕ) → Option Command
rest_of_send letter mid ssrc pt words = do
  number ← first (number_below (2 ^ 64)) words
  mtu ← first (number_below (2 ^ 64)) number.1
  limit ← first (number_below (2 ^ 64)) mtu.1
  distances ← first (dash_or numbers_of) limit.1
  picture ← first (dash_or (number_below (2 ^ 16))) distances.1
  ended picture.1 (Send (record {
    letter = letter;
    mid = mid;
    ssrc = ssrc;
    pt = pt;
    first = number.0;
    mtu = mtu.0;
    limit = limit.0;
    distances = distances.0;
    picture_id = picture.0;
  }))

-- send E MID SSRC PT FIRST MTU LIMIT DISTANCES PICTUREID
unfoldable pub send_of : List (List ℕ) → Option Command
send_of words = do
  letter ← first letter_of words
  mid ← first text_of letter.1
  ssrc ← first (number_below (2 ^ 32)) mid.1
  pt ← first (number_below (2 ^ 8)) ssrc.1
  rest_of_send letter.0 mid.0 ssrc.0 pt.0 pt.1

-- open E MID SSRC PT HOLDBACK [HELD]
unfoldable pub open_of : List (List ℕ) → Option Command
open_of words = do
  letter ← first letter_of words
  mid ← first text_of letter.1
  ssrc ← first (number_below (2 ^ 32)) mid.1
  pt ← first (number_below (2 ^ 8)) ssrc.1
  hold_back ← first (number_below (2 ^ 64)) pt.1
  held ← held_value hold_back.1
  Some (Open (record {
    letter = letter.0;
    mid = mid.0;
    ssrc = ssrc.0;
    pt = pt.0;
    hold_back =
        hold_back.0;
    held =
        held;
  }))

-- sample E N TIME HEX [mid=TEXT]
unfoldable pub sample_of : List (List ℕ) → Option Command
sample_of words = do
  letter ← first letter_of words
  stream ← first (number_below (2 ^ 64)) letter.1
  time ← first (number_below (2 ^ 64)) stream.1
  sample ← first hex_of time.1
  mid ← mid_value sample.1
  Some (Sample (record { letter = letter.0; stream = stream.0; time = time.0; sample = sample.0; mid = mid }))

-- receive E HEX
unfoldable pub receive_of : List (List ℕ) → Option Command
receive_of words = do
  letter ← first letter_of words
  datagram ← first hex_of letter.1
  ended datagram.1 (Receive (record { letter = letter.0; datagram = datagram.0 }))

-- poll E N
unfoldable pub poll_of : List (List ℕ) → Option Command
poll_of words = do
  letter ← first letter_of words
  stream ← first (number_below (2 ^ 64)) letter.1
  ended stream.1 (Poll (record { letter = letter.0; stream = stream.0 }))

-- repair E N HEX
unfoldable pub repair_of : List (List ℕ) → Option Command
repair_of words = do
  letter ← first letter_of words
  stream ← first (number_below (2 ^ 64)) letter.1
  datagram ← first hex_of stream.1
  ended datagram.1 (Repair (record { letter = letter.0; stream = stream.0; datagram = datagram.0 }))

-- E N, asking something of a stream
unfoldable pub ask_of : Ask → List (List ℕ) → Option Command
ask_of ask words = do
  letter ← first letter_of words
  stream ← first (number_below (2 ^ 64)) letter.1
  ended stream.1 (AskStream (record { letter = letter.0; stream = stream.0; ask = ask }))

-- E N NUMBER, setting a bound to a stream's numbers
unfoldable pub bound_of : Bound → List (List ℕ) → Option Command
bound_of bound words = do
  letter ← first letter_of words
  stream ← first (number_below (2 ^ 64)) letter.1
  number ← first (number_below (2 ^ 64)) stream.1
  ended number.1 (BoundStream (record { letter = letter.0; stream = stream.0; number = number.0; bound = bound }))

-- A command of whole runs, or of forwarders, by its first word.
abbrev pub run_command_of : List ℕ → List (List ℕ) → Option Command
run_command_of verb words =
    if bytes_eq verb (codes "queue") then queue_of words
    else if bytes_eq verb (codes "play") then play_of words
    else relay_command_of verb words

-- A command that makes an end or exchanges texts, or one of whole runs, by its first word.
abbrev pub exchange_command_of : List ℕ → List (List ℕ) → Option Command
exchange_command_of verb words =
    if bytes_eq verb (codes "row") then row_of words
    else if bytes_eq verb (codes "ext") then ext_of words
    else if bytes_eq verb (codes "end") then end_of words
    else if bytes_eq verb (codes "offer") then offer_of words
    else if bytes_eq verb (codes "answer") then answer_of words
    else if bytes_eq verb (codes "accept") then accept_of words
    else if bytes_eq verb (codes "withdraw") then withdraw_of words
    else if bytes_eq verb (codes "connect") then connect_of words
    else run_command_of verb words

-- A command that asks something of a stream, or one that makes an end or exchanges texts, by its first word.
abbrev pub stream_command_of : List ℕ → List (List ℕ) → Option Command
stream_command_of verb words =
    if bytes_eq verb (codes "next") then ask_of Next words
    else if bytes_eq verb (codes "missing") then ask_of Missing words
    else if bytes_eq verb (codes "close") then ask_of Close words
    else if bytes_eq verb (codes "skip") then bound_of Skip words
    else if bytes_eq verb (codes "pass") then bound_of Pass words
    else if bytes_eq verb (codes "empty") then bound_of Empty words
    else if bytes_eq verb (codes "keep") then bound_of Keep words
    else exchange_command_of verb words

-- A command by its first word.
abbrev pub command_of : List (List ℕ) → Option Command
command_of [] = None
command_of (verb ∷ words) =
    if bytes_eq verb (codes "fixed") then fixed_of words
    else if bytes_eq verb (codes "send") then send_of words
    else if bytes_eq verb (codes "open") then open_of words
    else if bytes_eq verb (codes "sample") then sample_of words
    else if bytes_eq verb (codes "receive") then receive_of words
    else if bytes_eq verb (codes "poll") then poll_of words
    else if bytes_eq verb (codes "repair") then repair_of words
    else stream_command_of verb words

-- What a line says, if it is understood.
unfoldable pub line_of : List ℕ → Option Line
line_of bytes =
    if length bytes == 0 then Some line.Empty
    else if is_utf8 bytes then option_map line.Command (command_of (words_of bytes))
    else None
