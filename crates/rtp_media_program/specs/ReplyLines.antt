-- What each reply prints.
use Rattle.std.specs.Prelude.{ℕ, Bool, true, false, List, [], ◌∷◌, ◌++◌, codes, decimal}
use Rattle.hex.specs.Hex.{encode_lower}
use Rattle.rtp_media_program.specs.declared.reply.Reply.{Reply}
use Rattle.rtp_media_program.specs.declared.reply.Reply.TheVariants.{Done, ErrorLine, Refused, Sender, Receiver}
use Rattle.rtp_media_program.specs.declared.reply.Reply.TheVariants.{Datagram, Unreadable, Foreign, Damaged, NotTaken}
use Rattle.rtp_media_program.specs.declared.reply.Reply.TheVariants.{Taken, NextUnit, NoUnit, Fault, Text, NoOffer}
use Rattle.rtp_media_program.specs.declared.reply.Reply.TheVariants.{Came, Forwarder, Missing, Next, NotSent}

-- Words separated by single blanks, and a line feed.
abbrev pub text_line : List (List ℕ) → List ℕ
text_line [] = 10 ∷ []
text_line (word ∷ []) = word ++ 10 ∷ []
text_line (word ∷ next ∷ words) = word ++ 32 ∷ text_line (next ∷ words)

-- Two hexadecimal digits in lower case for each byte, or a dash for none.
abbrev pub hex_text : List ℕ → List ℕ
hex_text [] = codes "-"
hex_text (byte ∷ bytes) = encode_lower (byte ∷ bytes)

-- The words of a reply.
abbrev pub reply_words : Reply → List (List ℕ)
reply_words Done = codes "ok" ∷ []
reply_words ErrorLine = codes "error" ∷ codes "line" ∷ []
reply_words (Refused name) = codes "refused" ∷ name ∷ []
reply_words (Sender stream) = codes "sender" ∷ decimal stream ∷ []
reply_words (Receiver stream) = codes "receiver" ∷ decimal stream ∷ []
reply_words (Datagram bytes) = codes "datagram" ∷ hex_text bytes ∷ []
reply_words Unreadable = codes "unreadable" ∷ []
reply_words Foreign = codes "foreign" ∷ []
reply_words Damaged = codes "damaged" ∷ []
reply_words NotTaken = codes "refused" ∷ []
reply_words (Taken stream number) = codes "taken" ∷ decimal stream ∷ decimal number ∷ []
reply_words (NextUnit first last time unit) =
    codes "unit" ∷ decimal first ∷ decimal last ∷ decimal time ∷ hex_text unit ∷ []
reply_words (Forwarder forwarder) = codes "forwarder" ∷ decimal forwarder ∷ []
reply_words (Came stream number) = codes "came" ∷ decimal stream ∷ decimal number ∷ []
reply_words NotSent = codes "unsent" ∷ []
reply_words (Next number) = codes "next" ∷ decimal number ∷ []
reply_words (Missing number) = codes "missing" ∷ decimal number ∷ []
reply_words NoUnit = codes "none" ∷ []
reply_words (Fault name) = codes "fault" ∷ name ∷ []
reply_words (Text bytes) = codes "text" ∷ hex_text bytes ∷ []
reply_words NoOffer = codes "none" ∷ []

-- The printed line.
abbrev pub reply_text : Reply → List ℕ
reply_text reply = text_line (reply_words reply)

abbrev pub is_error_line : Reply → Bool
is_error_line ErrorLine = true
is_error_line reply = false
