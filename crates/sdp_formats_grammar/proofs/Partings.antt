-- Pieces of a text.
use Rattle.std.proofs.Common.{◌≡◌, ℕ, ◌<◌, List, [], ◌∷◌, None, Some, Bor}
use Rattle.std.proofs.Common.{◌∙◌, ap}
use Rattle.std.proofs.lemmas.Str.Pattern.{IsSplitOnceResult, split_parts}
use Rattle.sdp_formats_grammar.specs.Split.{parts}
use Rattle.sdp_formats_grammar.specs.Cuts.{parts-at, parts-whole, Lacks-from_index}

pub parts-split : (c : ℕ) (text : List ℕ) (x : Bor (List ℕ) × Bor (List ℕ)) → c < 128
    → IsSplitOnceResult c text (Some x) → parts c text ≡ x.0.now ∷ parts c x.1.now
parts-split c text x low h =
    let two = split_parts c text (Some x) h low in
    ap (parts c) two.0 ∙ parts-at c x.0.now x.1.now (Lacks-from_index c x.0.now two.1)

pub parts-not_split : (c : ℕ) (text : List ℕ) → c < 128 → IsSplitOnceResult c text None → parts c text ≡ text ∷ []
parts-not_split c text low h = parts-whole c text (Lacks-from_index c text (split_parts c text None h low))
