-- What the units of a text are.
use Rattle.std.proofs.Common.{◌≡◌, ℕ, ◌<◌, List, [], ◌∷◌, ◌++◌, length, refl, sym, ap, ◌∙◌, arith}
use Rattle.h26x_payload_units.specs.Cut.{ArePieces, AreUnits, EndsInNoZero, HoldsNoCode, IsStretch, Piece, joined}
use Rattle.h26x_payload_units.specs.Cut.{text_of, units_of_layout, units_of_pieces, with_unit}
use Rattle.h26x_payload_units.specs.Units.{ComesBack, UnitsLaw, layout_of, units_of}
use Rattle.h26x_payload_units.proofs.CutLemmas.{laid_out, layout_of-joined}

-- a stretch that ends in no zero is before units
unit_before : (s : List ℕ) (us : List (List ℕ)) → HoldsNoCode s → EndsInNoZero s → AreUnits us
    → AreUnits (with_unit s us)
unit_before [] us none ends are = are
unit_before (b ∷ bs) [] none ends are = record { is_nonempty = omega arith; holds_none = none }
unit_before (b ∷ bs) (u ∷ us) none ends are = ((record { is_nonempty = omega arith; holds_none = none }, ends), are)

last_unit : (s : List ℕ) → HoldsNoCode s → AreUnits (with_unit s [])
last_unit [] none = tt
last_unit (b ∷ bs) none = record { is_nonempty = omega arith; holds_none = none }

pieces_units : (ps : List Piece) → ArePieces ps → AreUnits (units_of_pieces ps)
pieces_units [] are = tt
pieces_units (p ∷ []) are = last_unit p.stretch are.1.0
pieces_units (p ∷ q ∷ ps) are = unit_before p.stretch (units_of_pieces (q ∷ ps)) are.1.0.0 are.1.0.1
    (pieces_units (q ∷ ps) are.1.1)

layout_units : (first : List ℕ) (ps : List Piece) → IsStretch first ps → ArePieces ps
    → AreUnits (units_of_layout first ps)
layout_units first [] is are = last_unit first is
layout_units first (p ∷ ps) is are = pieces_units (p ∷ ps) are

pub units_law : UnitsLaw
unfolding units_of
units_law text = let is = laid_out text in
    layout_units (layout_of text).first (layout_of text).pieces is.is_first is.are_pieces

-- each unit after a start code of three zeros
pieces_of : List (List ℕ) → List Piece
pieces_of [] = []
pieces_of (u ∷ us) = record { zeros = 3; stretch = u } ∷ pieces_of us

joined-pieces_of : (us : List (List ℕ)) → joined (pieces_of us) ≡ text_of us
unfolding pieces_of
joined-pieces_of [] = refl
joined-pieces_of (u ∷ us) = ap (λ t. 0 ∷ 0 ∷ 0 ∷ 1 ∷ (u ++ t)) (joined-pieces_of us)

are_pieces_of : (us : List (List ℕ)) → AreUnits us → ArePieces (pieces_of us)
unfolding pieces_of
are_pieces_of [] are = tt
are_pieces_of (u ∷ []) are = (omega arith, (are.holds_none, tt))
are_pieces_of (u ∷ v ∷ us) are = (omega arith, ((are.0.0.holds_none, are.0.1), are_pieces_of (v ∷ us) are.1))

pub unit_stays : (u : List ℕ) (us : List (List ℕ)) → 0 < length u → with_unit u us ≡ u ∷ us
unit_stays [] us some = absurd (omega arith)
unit_stays (b ∷ bs) us some = refl

units_of_pieces_of : (us : List (List ℕ)) → AreUnits us → units_of_pieces (pieces_of us) ≡ us
unfolding pieces_of
units_of_pieces_of [] are = refl
units_of_pieces_of (u ∷ []) are = unit_stays u [] are.is_nonempty
units_of_pieces_of (u ∷ v ∷ us) are = ap (with_unit u) (units_of_pieces_of (v ∷ us) are.1)
    ∙ unit_stays u (v ∷ us) are.0.0.is_nonempty

pub no_first : (ps : List Piece) → units_of_layout [] ps ≡ units_of_pieces ps
no_first [] = refl
no_first (p ∷ ps) = refl

pub comes_back : ComesBack
unfolding units_of
comes_back us are =
    ap (λ t. units_of_layout (layout_of t).first (layout_of t).pieces) (sym (joined-pieces_of us))
    ∙ ap (λ l. units_of_layout l.first l.pieces) (layout_of-joined (pieces_of us) (are_pieces_of us are))
    ∙ no_first (pieces_of us) ∙ units_of_pieces_of us are
