-- The levels at distances.
use Rattle.std.proofs.Common.{◌≡◌, ℕ, ◌+◌, ◌<◌, List, [], ◌∷◌, ◌++◌, true, false, cond, Some, None, get_or, length}
use Rattle.std.proofs.Common.{take, ap, ◌∙◌}
use Rattle.std.specs.Prelude.{filter, filter_map}
use Rattle.std.specs.List.{cons_option}
use Rattle.std.proofs.lemmas.List.{append-nil, take_more}
use Rattle.std.proofs.lemmas.List.Elements.{filter-append, filter_map-append}
use Rattle.payload_core_audio.specs.Red.{Block}
use Rattle.payload_core_audio.specs.RedHistory.{Kept}
use Rattle.payload_core_audio.specs.RedSending.{fits}
use Rattle.payload_core_audio.specs.RedWrapping.{level, levels}

-- one distance more
pub levels-more : (h : List Kept) (ds : List ℕ) (time i : ℕ) → i < length ds → levels h (take (i + 1) ds) time
    ≡ levels h (take i ds) time ++ filter fits (cons_option (level h time (get_or ds i 0)) [])
levels-more h ds time i lt =
    let before : List ℕ = take i ds in
    let d : ℕ = get_or ds i 0 in
    ap (λ xs. levels h xs time) (take_more ds i 0 lt)
    ∙ ap (filter fits) (filter_map-append (level h time) before (d ∷ []))
    ∙ filter-append fits (filter_map (level h time) before) (cons_option (level h time d) [])

-- a level that fits
pub levels-some : (h : List Kept) (ds : List ℕ) (time i : ℕ) (b : Block) → i < length ds
    → level h time (get_or ds i 0) ≡ Some b → fits b ≡ true → levels h (take (i + 1) ds) time
    ≡ levels h (take i ds) time ++ b ∷ []
levels-some h ds time i b lt is fit =
    let none : List Block = [] in
    let before : List Block = levels h (take i ds) time in
    levels-more h ds time i lt ∙ ap (λ o. before ++ filter fits (cons_option o none)) is
    ∙ ap (λ t. before ++ cond t (b ∷ none) none) fit

-- a level that doesn't
pub levels-unfit : (h : List Kept) (ds : List ℕ) (time i : ℕ) (b : Block) → i < length ds
    → level h time (get_or ds i 0) ≡ Some b → fits b ≡ false → levels h (take (i + 1) ds) time
    ≡ levels h (take i ds) time
levels-unfit h ds time i b lt is fit =
    let none : List Block = [] in
    let before : List Block = levels h (take i ds) time in
    levels-more h ds time i lt ∙ ap (λ o. before ++ filter fits (cons_option o none)) is
    ∙ ap (λ t. before ++ cond t (b ∷ none) none) fit ∙ append-nil before

-- no level
pub levels-none : (h : List Kept) (ds : List ℕ) (time i : ℕ) → i < length ds → level h time (get_or ds i 0) ≡ None
    → levels h (take (i + 1) ds) time ≡ levels h (take i ds) time
levels-none h ds time i lt is =
    let none : List Block = [] in
    let before : List Block = levels h (take i ds) time in
    levels-more h ds time i lt ∙ ap (λ o. before ++ filter fits (cons_option o none)) is ∙ append-nil before
