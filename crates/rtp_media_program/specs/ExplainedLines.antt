-- Lines that are not commands, and how lines are shown.
use Rattle.std.specs.Prelude.{ℕ, ◌||◌, Bool, if◌then◌else◌, List, [], codes, ◌==◌, ◌^◌, get_or, Option}
use Rattle.std.specs.List.{slice_split, starts_with}
use Rattle.std.specs.Str.{bytes_eq, is_utf8}
use lib.Dec.{eqb}
use Rattle.rtp_media_program.specs.Words.{number_below}

-- `help`, or a line that begins with `#`
abbrev pub is_comment : List ℕ → Bool
is_comment line = bytes_eq line (codes "help") || starts_with eqb line (codes "#")

-- A line itself, if it is UTF-8.
abbrev pub text_of : List ℕ → List ℕ
text_of line = if is_utf8 line then line else codes "(a line that isn't UTF-8)"

-- The word with this index (from 0) between single blanks; empty if there is none.
abbrev pub word_at : List ℕ → ℕ → List ℕ
word_at line place = get_or (slice_split (λ b. b == 32) line) place []

-- The number of this place in a line, if decimal digits write one below 2^64.
abbrev pub number_at : List ℕ → ℕ → Option ℕ
number_at line place = number_below (2 ^ 64) (word_at line place)

-- Whether a line makes an end, if the program replies `ok`.
abbrev pub is_making : List ℕ → Bool
is_making line = starts_with eqb line (codes "fixed ") || starts_with eqb line (codes "end ")
