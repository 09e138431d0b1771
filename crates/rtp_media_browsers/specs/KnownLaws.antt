-- What holds of format parameters: each that is known is read as it is alone, whatever is around it.
use Rattle.std.specs.Prelude.{◌≡◌, ◌≢◌, ℕ, true, false, List, [], ◌∷◌, ◌++◌, Some}
use Rattle.sdp_formats_grammar.specs.Split.{Lacks}
use Rattle.sdp_formats_reader.specs.Pairs.{pairs_of}
use Rattle.sdp_formats_reader.specs.Parameters.{parameters}
use Rattle.sdp_formats_values.specs.Params.{gives_level, pair_param, params_of}
use Rattle.sdp_formats_values.specs.declared.pairs.Pair.{Pair}
use Rattle.sdp_formats_values.specs.declared.param.FormatParam.TheVariants.{Unknown}
use Rattle.rtp_media_browsers.specs.Known.{known_alone, known_in, known_parameters}

-- A text without a semicolon has the pair that the reader finds in it, unless that says nothing; the two sides of any
-- semicolon have what they have without each other; and what is left of a text is read as just that, in its order.
pub record ReadsKnown : Type 0 where
  pub kept : (part : List ℕ) (p : Pair) → pairs_of part ≡ Some (p ∷ []) → pair_param p ≢ Unknown
      → known_alone part ≡ p ∷ []
  pub of_level : (part : List ℕ) (p : Pair) → pairs_of part ≡ Some (p ∷ []) → gives_level p ≡ true
      → known_alone part ≡ p ∷ []
  pub left_out : (part : List ℕ) (p : Pair) → pairs_of part ≡ Some (p ∷ []) → pair_param p ≡ Unknown
      → gives_level p ≡ false → known_alone part ≡ []
  pub alone : (part : List ℕ) → Lacks 59 part → known_in part ≡ known_alone part
  pub apart : (before after : List ℕ) → known_in (before ++ 59 ∷ after) ≡ known_in before ++ known_in after
  pub some : (text : List ℕ) (p : Pair) (ps : List Pair) → known_in text ≡ p ∷ ps
      → parameters.reads (known_parameters text) ≡ Some (params_of (p ∷ ps))
  pub none : (text : List ℕ) → known_in text ≡ [] → known_parameters text ≡ text
