-- The texts of a format's parameters, one after the other.
use Rattle.std.proofs.Common.{◌≡◌, ℕ, Bool, true, false, List, ◌∷◌, ◌++◌, map, refl, ◌∙◌, ap, Option, Some, None}
use Rattle.std.proofs.Common.{append_assoc, codes}
use Rattle.std.specs.List.{flat_map}
use Rattle.std.specs.Option.{option_to_list}
use Rattle.sdp_formats_grammar.specs.Joined.{each_behind, joined}
use Rattle.sdp_formats_values.specs.PrintedParameters.{param_text}
use Rattle.sdp_formats_values.specs.declared.param.FormatParam.{FormatParam}
use Rattle.sdp_formats_rows.specs.Texts.{part_text}

abbrev pub texts_of : List (Option FormatParam) → List (List ℕ)
texts_of params = map param_text (flat_map option_to_list params)

-- what is left of the texts
abbrev pub texts_left : Bool → List (List ℕ) → List ℕ
texts_left true texts = joined (codes ";") texts
texts_left false texts = each_behind (codes ";") texts

left_step : (first : Bool) (text : List ℕ) (texts : List (List ℕ))
    → texts_left first (text ∷ texts) ≡ part_text first text ++ texts_left false texts
left_step true text texts = refl
left_step false text texts = refl

pub part_written : (param : FormatParam) (all rest : List (Option FormatParam)) (written whole : List ℕ)
    (first : Bool) → all ≡ Some param ∷ rest → whole ≡ written ++ texts_left first (texts_of all)
    → whole ≡ (written ++ part_text first (param_text param)) ++ texts_left false (texts_of rest)
part_written param all rest written whole first are h =
    h ∙ ap (λ t. written ++ texts_left first (texts_of t)) are
    ∙ ap (λ t. written ++ t) (left_step first (param_text param) (texts_of rest)) ∙ simp append_assoc

pub part_missing : (all rest : List (Option FormatParam)) (written whole : List ℕ) (first : Bool)
    → all ≡ None ∷ rest → whole ≡ written ++ texts_left first (texts_of all)
    → whole ≡ written ++ texts_left first (texts_of rest)
part_missing all rest written whole first are h = h ∙ ap (λ t. written ++ texts_left first (texts_of t)) are
