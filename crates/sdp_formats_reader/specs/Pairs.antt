-- Keys and values (RFC 8866 6.15), with optional blanks and tabs around `;`.
use Rattle.std.specs.Prelude.{◌==◌, ◌||◌, ◌&&◌, ℕ, Bool, false, not, List, [], ◌∷◌, length, Option, Some, None}
use Rattle.std.specs.Prelude.{codes, if◌then◌else◌}
use Rattle.std.specs.Option.{option_or}
use Rattle.std.specs.Borrow.{Bor}
use Rattle.std.specs.List.{list_all}
use Rattle.sdp_formats_grammar.specs.Bind.{◌>>=◌}
use Rattle.sdp_formats_grammar.specs.Form.{Form, any_text, only, some_text}
use Rattle.sdp_formats_grammar.specs.Split.{split_first, halves, behind}
use Rattle.sdp_formats_values.specs.declared.Pair.{Pair}
use Rattle.sdp_formats_reader.specs.Runs.{run}

-- A blank or a tab.
abbrev pub is_blank : ℕ → Bool
is_blank b = b == 32 || b == 9

-- Neither a blank nor a tab.
abbrev pub is_word_byte : ℕ → Bool
is_word_byte b = not (b == 32) && not (b == 9)

abbrev pub word : Form (List ℕ)
word = only (list_all is_word_byte) any_text

-- The text after one blank.
abbrev pub behind_blank : List ℕ → Option (List ℕ)
behind_blank t = option_or (behind (codes " ") t) (behind (9 ∷ []) t)

-- The text after the blanks that it begins with.
abbrev pub unblanked : List ℕ → List ℕ
unblanked [] = []
unblanked (b ∷ t) = if is_blank b then unblanked t else b ∷ t

-- A word followed only by blanks.
abbrev pub word_before : List ℕ → List ℕ
word_before t = (halves 9 (halves 32 t).0).0

abbrev pub passed_tail : List ℕ → List ℕ → Option (List ℕ)
passed_tail w tail = if list_all is_blank tail then Some w else None

unfoldable pub padded : List ℕ → Option (List ℕ)
padded t = do
  w ← some_text (word_before t)
  tail ← behind w t
  passed_tail w tail

-- An empty text for None.
abbrev pub or_empty : Option (List ℕ) → List ℕ
or_empty None = []
or_empty (Some t) = t

abbrev pub make_pair : List ℕ × List ℕ → Pair
make_pair x = record { key = x.0; value = x.1 }

-- KEY=VALUE, up to the first `;` after the `=`, and what follows; the key may contain `;`
unfoldable pub pair_at : List ℕ → Option (Pair × List ℕ)
pair_at t = do
  cut ← split_first 61 (unblanked t)
  key ← word.reads cut.0
  value ← padded (halves 59 cut.1).0
  Some (make_pair (key, value), or_empty (halves 59 cut.1).1)

-- Pairs up to the end, or up to blanks after a final `;`.
abbrev pub whole : List Pair × List ℕ → Option (List Pair)
whole x = if length x.0 == 0 then None else if list_all is_blank x.1 then Some x.0 else None

unfoldable pub pairs_of : List ℕ → Option (List Pair)
pairs_of t = whole (run pair_at (length t) t)

abbrev pub with_rest : Pair × Bor (List ℕ) → Pair × List ℕ
with_rest x = (x.0, x.1.now)

-- KEY=VALUE, up to the first `;` after the `=`, without blanks after the value
unfoldable pub restriction_at : List ℕ → Option (Pair × List ℕ)
restriction_at t = do
  cut ← split_first 61 (unblanked t)
  key ← word.reads cut.0
  value ← word.reads (halves 59 cut.1).0
  Some (make_pair (key, value), or_empty (halves 59 cut.1).1)

-- Whether the text ends with a semicolon.
abbrev pub ends_open : List ℕ → Bool
ends_open [] = false
ends_open (b ∷ []) = b == 59
ends_open (b ∷ c ∷ t) = ends_open (c ∷ t)

-- Pairs up to the end.
abbrev pub all_read : List Pair × List ℕ → Option (List Pair)
all_read x = if length x.1 == 0 then Some x.0 else None

-- Pairs separated by semicolons, none at the end; blanks only before a key; no pairs for an empty text (RFC 8851 4).
unfoldable pub restrictions_of : List ℕ → Option (List Pair)
restrictions_of t = if ends_open t then None else all_read (run restriction_at (length t) t)
