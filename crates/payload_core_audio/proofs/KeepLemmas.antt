-- The history with one payload more.
use Rattle.std.proofs.Common.{◌≡◌, ℕ, ◌≤◌, List, ◌∷◌, get_or, length, map, set, take, ap, sym, ◌∙◌, arith}
use Rattle.std.proofs.lemmas.List.{get_or-set_same, get_or-take, take-map, take-set-le, take-take}
use Rattle.payload_core_audio.specs.RedHistory.{kept_of}
use Rattle.payload_core_audio.specs.declared.history.KeptPayload.{KeptPayload}

-- the eighth payload became the newest, and is put in front of the seven before it
pub kept-newest : (items rest : List KeptPayload) (renewed newest : KeptPayload) (n : ℕ) → 8 ≤ length items → n ≡ 7
    → newest ≡ get_or (take 8 (set items 7 renewed)) n newest → rest ≡ take n (take 8 (set items 7 renewed))
    → map kept_of (newest ∷ rest) ≡ kept_of renewed ∷ take 7 (map kept_of items)
kept-newest items rest renewed newest n many is last others =
    let whole : List KeptPayload = take 8 (set items 7 renewed) in
    let same : newest ≡ renewed =
    last ∙ ap (λ k. get_or whole k newest) is ∙ get_or-take 8 (set items 7 renewed) 7 newest (omega arith)
    ∙ get_or-set_same items 7 renewed newest (omega arith) in
    let seven : rest ≡ take 7 items =
    others ∙ ap (λ k. take k whole) is ∙ take-take 7 8 (set items 7 renewed) (omega arith)
    ∙ take-set-le 7 items 7 renewed (omega arith) in
    ap (λ x. kept_of x ∷ map kept_of rest) same
    ∙ ap (λ xs. kept_of renewed ∷ xs) (ap (map kept_of) seven ∙ sym (take-map kept_of 7 items))
