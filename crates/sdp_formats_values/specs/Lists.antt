-- Lines with one value or two, and lists of a line, as they are printed.
use Rattle.std.specs.Prelude.{ℕ, Bool, List, [], ◌∷◌, ◌++◌, map, codes, if◌then◌else◌, Option, None, Some}
use Rattle.std.specs.Fmt.{decimal}
use Rattle.sdp_formats_grammar.specs.Joined.{joined, spelled}
use Rattle.sdp_formats_values.specs.declared.pairs.Pair.{Pair}
use Rattle.sdp_formats_values.specs.PrintedParameters.{pair_text}
use Rattle.sdp_formats_values.specs.PrintedValues.{is_empty, line_end}
use Rattle.sdp_formats_values.specs.declared.bandwidth.Bandwidth.{Bandwidth}

-- Numbers with a text between each two.
abbrev pub numbers_text : List ℕ → List ℕ → List ℕ
numbers_text separator numbers = joined separator (map decimal numbers)

-- Words with blanks between.
abbrev pub words_text : List (List ℕ) → List ℕ
words_text words = joined (codes " ") words

-- The payload types and restrictions of an `a=rid` line (RFC 8851 4).
unfoldable pub rid_types_text : List ℕ → List ℕ
rid_types_text types = if is_empty types then [] else codes " pt=" ++ numbers_text (codes ",") types

abbrev pub restrictions_text : List Pair → List ℕ
restrictions_text pairs = joined (codes ";") (map pair_text pairs)

unfoldable pub rid_restrictions_text : Bool → List Pair → List ℕ
rid_restrictions_text has_types pairs = if is_empty pairs then []
    else if has_types then codes ";" ++ restrictions_text pairs else codes " " ++ restrictions_text pairs

-- A line with a name and a value.
abbrev pub named : List ℕ → List ℕ → List ℕ
named name value = spelled (name ∷ value ∷ line_end ∷ [])

-- The same of a value that may have a text.
abbrev pub named_output : List ℕ → Option (List ℕ) → Option (List ℕ)
named_output name None = None
named_output name (Some value) = Some (named name value)

-- A line with a name and two values separated by a blank.
abbrev pub both : List ℕ → List ℕ → List ℕ → List ℕ
both name first second = spelled (name ∷ first ∷ codes " " ∷ second ∷ line_end ∷ [])

-- The same of values that may have a text.
abbrev pub both_output : List ℕ → Option (List ℕ) → Option (List ℕ) → Option (List ℕ)
both_output name (Some first) (Some second) = Some (both name first second)
both_output name _ _ = None

-- `b=TYPE:VALUE` (RFC 8866 5.8)
abbrev pub bandwidth_text : Bandwidth → List ℕ
bandwidth_text b = spelled (codes "b=" ∷ b.typ ∷ codes ":" ∷ b.val ∷ line_end ∷ [])
