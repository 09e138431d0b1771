-- Lines of browsers' texts that browsers take and the reader refuses (RFC 8866 5 has at most one line `b=` of a kind,
-- and none after an attribute; RFC 8866 6.6 maps a payload type once; RFC 8829 5.2.1 names each section in use).
use Rattle.std.specs.Prelude.{ℕ, ◌+◌, ◌-◌, ◌^◌, ◌==◌, Bool, true, false, not, ◌&&◌, ◌||◌, length, List, [], ◌∷◌, ◌++◌}
use Rattle.std.specs.Prelude.{codes}
use Rattle.std.specs.Prelude.{nat_eq, Option, None, Some, is_some, if◌then◌else◌}
use Rattle.std.specs.Cmp.Lexicographic.{pointwise}
use Rattle.std.specs.Fmt.{decimal}
use Rattle.std.specs.List.{list_any}
use Rattle.sdp_formats_grammar.specs.Numbers.{number_below}
use Rattle.sdp_formats_grammar.specs.Split.{behind, halves, parts}
use Rattle.rtp_media_browsers.specs.Known.{known_line}

-- What the lines of a text so far leave open: whether a section has begun; whether it may have no bandwidth any more;
-- whether it has a name; the payload types that it maps; and how many sections are before it.
pub record Passing : Type 0 where
  pub in_section : Bool
  pub is_closed : Bool
  pub is_named : Bool
  pub types : List ℕ
  pub number : ℕ

abbrev pub start : Passing
start = record { in_section = false; is_closed = false; is_named = false; types = []; number = 0 }

abbrev pub begins : List ℕ → List ℕ → Bool
begins words line = is_some (behind words line)

abbrev pub is_blank : List ℕ → Bool
is_blank line = length line == 0 || pointwise nat_eq line (codes "\r")

abbrev pub type_in : Option (List ℕ) → Option ℕ
type_in None = None
type_in (Some rest) = number_below (2 ^ 8) (halves 32 rest).0

-- The payload type that a line maps.
abbrev pub mapped_type : List ℕ → Option ℕ
mapped_type line = type_in (behind (codes "a=rtpmap:") line)

abbrev pub has_type : List ℕ → ℕ → Bool
has_type types pt = list_any (λ t. t == pt) types

abbrev pub is_again : List ℕ → Option ℕ → Bool
is_again types None = false
is_again types (Some pt) = has_type types pt

-- A line that is left out: an empty one, and in a section a line of bandwidth after another or after an attribute,
-- and a further map of a payload type.
unfoldable pub is_left_out : Passing → List ℕ → Bool
is_left_out p line = is_blank line
    || (p.in_section && ((p.is_closed && begins (codes "b=") line) || is_again p.types (mapped_type line)))

abbrev pub next_number : ℕ → ℕ
next_number number = if number == 2 ^ 64 - 1 then number else number + 1

abbrev pub behind_section : Passing → Passing
behind_section p = record {
  in_section = true;
  is_closed = false;
  is_named = false;
  types = [];
  number = if p.in_section then next_number p.number else p.number;
}

abbrev pub with_type : List ℕ → Option ℕ → List ℕ
with_type types None = types
with_type types (Some pt) = types ++ pt ∷ []

abbrev pub behind_line : Passing → List ℕ → Passing
behind_line p line = record p {
  types = with_type p.types (mapped_type line);
  is_closed = p.is_closed || begins (codes "b=") line || begins (codes "a=") line;
  is_named = p.is_named || begins (codes "a=mid:") line;
}

-- The name of a section by its place.
abbrev pub name_line : ℕ → List ℕ
name_line number = codes "a=mid:place_" ++ (decimal number ++ codes "\r\n")

-- A section without a name gets one.
unfoldable pub closing : Passing → List ℕ
closing p = if not p.in_section || p.is_named then [] else name_line p.number

abbrev pub ended : List ℕ → List ℕ
ended line = line ++ codes "\n"

-- What is written of a line, and what is open after it; of format parameters those that are known.
unfoldable pub written_line : Passing → List ℕ → List ℕ × Passing
written_line p line =
    if is_left_out p line then ([], p)
    else if begins (codes "m=") line then (closing p ++ ended line, behind_section p)
    else (ended (known_line line), behind_line p line)

abbrev pub written : Passing → List (List ℕ) → List ℕ
written p [] = closing p
written p (line ∷ lines) = (written_line p line).0 ++ written (written_line p line).1 lines

-- The text as it is read.
abbrev pub tidied : List ℕ → List ℕ
tidied text = written start (parts 10 text)
