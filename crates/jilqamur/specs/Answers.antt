use Rattle.std.specs.Prelude.{ℕ, ◌≡◌, List, Option, Some, None}
use Rattle.std.specs.Str.{is_utf8}
use Rattle.rtp_media_ends.specs.Ends.{EndState}
use Rattle.rtp_media_ends.specs.Stops.{Where}
use Rattle.jilqamur.specs.Codes.{not_made, not_text}

-- A call that needs an end says so if none was made; otherwise the end answers.
abbrev pub AtEnd : Option EndState → Option EndState → ℕ → (EndState → EndState → Type 0) → Type 0
AtEnd None None result answers = result ≡ not_made
AtEnd None (Some after) result answers = ⊥
AtEnd (Some e) None result answers = ⊥
AtEnd (Some e) (Some after) result answers = answers e after

-- Bytes that aren't UTF-8 are refused first.
abbrev pub WithText : List ℕ → Option EndState → Option EndState → ℕ → (EndState → EndState → Type 0) → Type 0
WithText bytes old new result answers =
    Where (is_utf8 bytes) (AtEnd old new result answers) ((new ≡ old) × (result ≡ not_text))
