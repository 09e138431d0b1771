-- The lines that make ends and exchange their texts.
use Rattle.std.specs.Prelude.{ℕ, ◌^◌, List, Option, Some}
use Rattle.rtp_media_program.specs.declared.command.Command.{Command}
use Rattle.rtp_media_program.specs.declared.command.Command.TheVariants.{Row, Ext, End, Offer, Answer, Accept}
use Rattle.rtp_media_program.specs.declared.command.Command.TheVariants.{Withdraw, Connect}
use Rattle.rtp_media_program.specs.declared.words.Letter.{Letter}
use Rattle.rtp_media_program.specs.Sections.{sections_of, sections_then_slash}
use Rattle.rtp_media_program.specs.Words.{letter_of, text_of, hex_of, dash_or, number_below, first, ended, ◌>>=◌}

-- CODEC CLOCK CHANNELS FMTP, after the end and the payload types of a row
abbrev pub rest_of_row : Letter → ℕ → Option ℕ → Option ℕ → List (List ℕ) → Option Command
rest_of_row letter pt resend red words = do
  codec ← first text_of words
  clock ← first (number_below (2 ^ 32)) codec.1
  channels ← first (dash_or (number_below (2 ^ 8))) clock.1
  format ← first (dash_or text_of) channels.1
  ended format.1 (Row (record {
    letter = letter;
    pt = pt;
    resend = resend;
    red = red;
    codec = codec.0;
    clock_rate = clock.0;
    channels = channels.0;
    format = format.0;
  }))

-- row E PT RTX RED CODEC CLOCK CHANNELS FMTP
unfoldable pub row_of : List (List ℕ) → Option Command
row_of words = do
  letter ← first letter_of words
  pt ← first (number_below (2 ^ 8)) letter.1
  resend ← first (dash_or (number_below (2 ^ 8))) pt.1
  red ← first (dash_or (number_below (2 ^ 8))) resend.1
  rest_of_row letter.0 pt.0 resend.0 red.0 red.1

-- ext E ID URI
unfoldable pub ext_of : List (List ℕ) → Option Command
ext_of words = do
  letter ← first letter_of words
  id ← first (number_below (2 ^ 8)) letter.1
  uri ← first text_of id.1
  ended uri.1 (Ext (record { letter = letter.0; id = id.0; uri = uri.0 }))

-- end E SESSION
unfoldable pub end_of : List (List ℕ) → Option Command
end_of words = do
  letter ← first letter_of words
  session ← first (number_below (2 ^ 64)) letter.1
  ended session.1 (End (record { letter = letter.0; session = session.0 }))

-- offer E SECTION..
unfoldable pub offer_of : List (List ℕ) → Option Command
offer_of words = do
  letter ← first letter_of words
  sections ← sections_of letter.1
  Some (Offer (record { letter = letter.0; sections = sections }))

-- answer E HEX SECTION..
unfoldable pub answer_of : List (List ℕ) → Option Command
answer_of words = do
  letter ← first letter_of words
  text ← first hex_of letter.1
  sections ← sections_of text.1
  Some (Answer (record { letter = letter.0; text = text.0; sections = sections }))

-- accept E HEX
unfoldable pub accept_of : List (List ℕ) → Option Command
accept_of words = do
  letter ← first letter_of words
  text ← first hex_of letter.1
  ended text.1 (Accept (record { letter = letter.0; text = text.0 }))

-- withdraw E
unfoldable pub withdraw_of : List (List ℕ) → Option Command
withdraw_of words = do
  letter ← first letter_of words
  ended letter.1 (Withdraw letter.0)

-- connect SECTION.. / SECTION..
unfoldable pub connect_of : List (List ℕ) → Option Command
connect_of words = do
  offered ← sections_then_slash words
  answered ← sections_of offered.1
  Some (Connect (record { offered = offered.0; answered = answered }))
