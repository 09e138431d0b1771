-- Format parameters of browsers' texts (RFC 8866 6.15). What an end doesn't know is left out, so that each parameter
-- that it knows is read as if it were alone, whatever is around it (RFC 6184 8.2.2, RFC 9628 7: unknown ones are
-- ignored).
use Rattle.std.specs.Prelude.{ℕ, Bool, true, false, not, ◌||◌, List, [], ◌∷◌, ◌++◌, codes, filter, Option, None, Some}
use Rattle.std.specs.List.{flat_map}
use Rattle.sdp_formats_grammar.specs.Line.{without_return}
use Rattle.sdp_formats_grammar.specs.Split.{behind, halves, parts}
use Rattle.sdp_formats_reader.specs.Pairs.{pairs_of}
use Rattle.sdp_formats_reader.specs.PrintedPairs.{pairs_text}
use Rattle.sdp_formats_values.specs.Params.{gives_level, pair_param}
use Rattle.sdp_formats_values.specs.declared.pairs.Pair.{Pair}
use Rattle.sdp_formats_values.specs.declared.param.FormatParam.{FormatParam}
use Rattle.sdp_formats_values.specs.declared.param.FormatParam.TheVariants.{Unknown}

unfoldable pub is_unknown : FormatParam → Bool
is_unknown Unknown = true
is_unknown _ = false

-- Whether a key with a value says something: a parameter, or a tier or a level, which say one together with others.
abbrev pub is_known : Pair → Bool
is_known p = gives_level p || not (is_unknown (pair_param p))

abbrev pub known_of : Option (List Pair) → List Pair
known_of None = []
known_of (Some ps) = filter is_known ps

-- What the text between two semicolons says alone.
abbrev pub known_alone : List ℕ → List Pair
known_alone part = known_of (pairs_of part)

abbrev pub known_in : List ℕ → List Pair
known_in text = flat_map known_alone (parts 59 text)

-- Parameters of which those that are known are left; a text without one, as the list of a RED type, stays as it is.
abbrev pub text_or : List ℕ → List Pair → List ℕ
text_or text [] = text
text_or text (p ∷ ps) = pairs_text (p ∷ ps)

abbrev pub known_parameters : List ℕ → List ℕ
known_parameters text = text_or text (known_in text)

-- The line of a payload type's parameters: what precedes the blank, and what follows it.
abbrev pub with_known : List ℕ → List ℕ × Option (List ℕ) → List ℕ
with_known line (pt, None) = line
with_known line (pt, Some text) =
    codes "a=fmtp:" ++ (pt ++ (codes " " ++ (known_parameters (without_return text) ++ codes "\r")))

abbrev pub known_by : List ℕ → Option (List ℕ) → List ℕ
known_by line None = line
known_by line (Some rest) = with_known line (halves 32 rest)

-- A line as it is read: of parameters only the known ones, any other line as it is.
abbrev pub known_line : List ℕ → List ℕ
known_line line = known_by line (behind (codes "a=fmtp:") line)
