-- The fragments of a unit's parts.
use Rattle.std.proofs.Common.{◌≡◌, ℕ, ◌<◌, eqb, false, List, [], ◌∷◌, length, sym, ap, ◌∙◌, arith}
use Rattle.std.proofs.lemmas.Bool.Decides.{nat_tests}
use Rattle.payload_core_base.specs.Packing.{is_none_left}
use Rattle.payload_core_base.specs.Pieces.{pieces}
use Rattle.payload_core_base.proofs.PieceLemmas.{pieces-empty, pieces-step}

-- no piece is left if and only if no byte is
pub none_left-pieces : (size : ℕ) (text : List ℕ) → 0 < size → is_none_left (pieces size text) ≡ eqb (length text) 0
none_left-pieces size [] some_size = ap is_none_left (pieces-empty size)
none_left-pieces size (b ∷ bs) some_size =
    let some : 0 < length (b ∷ bs) = omega arith in
    let not_none : eqb (length (b ∷ bs)) 0 ≡ false = grind (arith, nat_tests) in
    ap is_none_left (pieces-step size (b ∷ bs) some_size some) ∙ sym not_none
