-- Modes of AMR-WB, one after the other.
use Rattle.std.proofs.Common.{◌≡◌, ℕ, Bool, true, false, List, ◌∷◌, ◌++◌, map, filter, refl, ◌∙◌, ap}
use Rattle.std.proofs.Common.{append_assoc, cond}
use Rattle.std.specs.Fmt.{decimal}
use Rattle.sdp_formats_values.specs.PrintedParameters.{has_mode, mode_text, modes_among, modes_left}

among_step : (modes x : ℕ) (rest : List ℕ) (b : Bool) → has_mode modes x ≡ b
    → modes_among modes (x ∷ rest) ≡ map decimal
    (cond b (x ∷ filter (has_mode modes) rest) (filter (has_mode modes) rest))
among_step modes x rest b h = ap
    (λ t. map decimal (cond t (x ∷ filter (has_mode modes) rest) (filter (has_mode modes) rest))) h

left_step : (first : Bool) (modes x : ℕ) (rest : List ℕ)
    → modes_left first (map decimal (x ∷ filter (has_mode modes) rest))
    ≡ mode_text first x ++ modes_left false (modes_among modes rest)
left_step true modes x rest = refl
left_step false modes x rest = refl

pub mode_written : (modes x : ℕ) (all rest written whole : List ℕ) (first : Bool) → has_mode modes x ≡ true
    → all ≡ x ∷ rest → whole ≡ written ++ modes_left first (modes_among modes all)
    → whole ≡ (written ++ mode_text first x) ++ modes_left false (modes_among modes rest)
mode_written modes x all rest written whole first has are h =
    h ∙ ap (λ t. written ++ modes_left first (modes_among modes t)) are
    ∙ ap (λ t. written ++ modes_left first t) (among_step modes x rest true has)
    ∙ ap (λ t. written ++ t) (left_step first modes x rest) ∙ simp append_assoc
