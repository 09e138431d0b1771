-- What is known of the ends and their streams, from the lines and their replies.
use Rattle.std.specs.Prelude.{ℕ, ◌||◌, ◌&&◌, not, Bool, true, false, if◌then◌else◌, List, [], ◌∷◌, ◌++◌, codes}
use Rattle.std.specs.Prelude.{fold}
use Rattle.std.specs.List.{slice_get}
use Rattle.std.specs.Option.{option_map_or, unwrap_or}
use Rattle.std.specs.Str.{bytes_eq}
use Rattle.rtp_media_program.specs.ExplainedLines.{is_making, number_at, word_at}

pub record KnownStream : Type 0 where
  pub number : ℕ
  pub is_sender : Bool
  pub ssrc : ℕ
  pub pt : ℕ

-- An end, and its streams in the order of their numbers.
pub record KnownEnd : Type 0 where
  pub is_made : Bool
  pub streams : List KnownStream

pub record Known : Type 0 where
  pub a : KnownEnd
  pub b : KnownEnd

abbrev pub unmade : KnownEnd
unmade = record { is_made = false; streams = [] }

abbrev pub made : KnownEnd
made = record { is_made = true; streams = [] }

abbrev pub none_made : Known
none_made = record { a = unmade; b = unmade }

-- The number of this place in a line, and 0 if there is none.
abbrev pub number_or_zero : List ℕ → ℕ → ℕ
number_or_zero line place = unwrap_or (number_at line place) 0

-- The stream that a line `send` or `open` opens under this number.
abbrev pub opened : ℕ → List ℕ → KnownStream
opened number line = record {
  number = number;
  is_sender = bytes_eq (word_at line 0) (codes "send");
  ssrc = number_or_zero line 3;
  pt = number_or_zero line 4;
}

-- The line made an end.
abbrev pub makes_end : List ℕ → List ℕ → Bool
makes_end line reply = is_making line && bytes_eq reply (codes "ok")

-- The line opened a stream.
abbrev pub opens_stream : List ℕ → Bool
opens_stream reply = bytes_eq (word_at reply 0) (codes "sender") || bytes_eq (word_at reply 0) (codes "receiver")

abbrev pub with_opened : KnownEnd → List ℕ → List ℕ → KnownEnd
with_opened e line reply = record e { streams = e.streams ++ opened (number_or_zero reply 1) line ∷ [] }

-- A line that makes the end resets what is known of it; one that opens a stream adds the stream; other lines change
-- nothing.
abbrev pub noted_end : KnownEnd → List ℕ → List ℕ → KnownEnd
noted_end e line reply =
    if makes_end line reply then made
    else if opens_stream reply then with_opened e line reply
    else e

-- Whether the stream sends, or receives.
abbrev pub is_way : Bool → KnownStream → Bool
is_way true stream = stream.is_sender
is_way false stream = not stream.is_sender

abbrev pub has_stream : KnownEnd → ℕ → Bool → Bool
has_stream e number is_sender = option_map_or (is_way is_sender) (slice_get e.streams number) false

-- The end of a letter.
abbrev pub end_of : Known → List ℕ → KnownEnd
end_of known letter = if bytes_eq letter (codes "a") then known.a else known.b

-- A reply is noted for `a` if the line is about `a`, otherwise for `b`.
abbrev pub noted : Known → List ℕ → List ℕ → Known
noted known line reply =
    if bytes_eq (word_at line 1) (codes "a") then record known { a = noted_end known.a line reply }
    else record known { b = noted_end known.b line reply }

-- The replies to a line are noted, one after the other.
abbrev pub noted_all : Known → List ℕ → List (List ℕ) → Known
noted_all known line replies = fold (λ (k : Known) (reply : List ℕ). noted k line reply) known replies
