-- Units before and after a start code.
use Rattle.std.proofs.Common.{◌≡◌, ℕ, suc, Bool, true, false, eqb, List, [], ◌∷◌, ◌++◌, replicate, refl, sym, ap, ◌∙◌}
use Rattle.std.proofs.Common.{inl, inr, arith}
use Rattle.std.specs.Prelude.{if◌then◌else◌}
use Rattle.std.proofs.lemmas.List.{append-nil}
use Rattle.h26x_payload_units.specs.Cut.{IsStretch, IsUnit, Layout, Piece, ReachesTo, joined, units_of_layout}
use Rattle.h26x_payload_units.specs.Cut.{units_of_pieces, with_unit}
use Rattle.h26x_payload_units.specs.Units.{PlaceLaw, is_code, layout_of, units_behind, units_of, with_byte}
use Rattle.h26x_payload_units.proofs.CutLemmas.{laid_out, layout, layout_of-code, layout_of-stretch, piece}
use Rattle.h26x_payload_units.proofs.UnitLemmas.{no_first, unit_stays}

-- what is before a stretch: a first stretch, pieces, and the zeros of the start code before that stretch
record Front : Type 0 where
  first : List ℕ
  pieces : List Piece
  zeros : ℕ

abbrev front_of : List ℕ → List Piece → ℕ → Front
front_of first pieces zeros = record { first = first; pieces = pieces; zeros = zeros }

abbrev with_rest : Front → List ℕ → List Piece → Layout
with_rest f s qs = layout f.first (f.pieces ++ piece f.zeros s ∷ qs)

-- a byte more at the front changes nothing of what follows
abbrev IsFrontWith : ℕ → Front → Front → Type 0
IsFrontWith a f g = (s : List ℕ) (qs : List Piece) → with_byte a f.first (f.pieces ++ piece f.zeros s ∷ qs)
    ≡ with_rest g s qs

by_zero_alone : (t : Bool) (a z : ℕ) → (g : Front)
    × ((s : List ℕ) (qs : List Piece) → (if t then layout [] (piece (suc z) s ∷ qs)
    else layout (a ∷ []) (piece z s ∷ qs)) ≡ with_rest g s qs)
by_zero_alone true a z = (front_of [] [] (suc z), λ s qs. refl)
by_zero_alone false a z = (front_of (a ∷ []) [] z, λ s qs. refl)

by_zero : (t : Bool) (a z y : ℕ) (st : List ℕ) (ps : List Piece)
    → (g : Front) × ((s : List ℕ) (qs : List Piece)
    → (if t then layout [] (piece (suc y) st ∷ (ps ++ piece z s ∷ qs))
    else layout (a ∷ []) (piece y st ∷ (ps ++ piece z s ∷ qs))) ≡ with_rest g s qs)
by_zero true a z y st ps = (front_of [] (piece (suc y) st ∷ ps) z, λ s qs. refl)
by_zero false a z y st ps = (front_of (a ∷ []) (piece y st ∷ ps) z, λ s qs. refl)

by_code : (t : Bool) (a b c z : ℕ) (more : List ℕ) (ps : List Piece)
    → (g : Front) × ((s : List ℕ) (qs : List Piece)
    → (if t then layout [] (piece 2 more ∷ (ps ++ piece z s ∷ qs))
    else layout (a ∷ b ∷ c ∷ more) (ps ++ piece z s ∷ qs)) ≡ with_rest g s qs)
by_code true a b c z more ps = (front_of [] (piece 2 more ∷ ps) z, λ s qs. refl)
by_code false a b c z more ps = (front_of (a ∷ b ∷ c ∷ more) ps z, λ s qs. refl)

front_with : (a : ℕ) (first : List ℕ) (ps : List Piece) (z : ℕ) → (g : Front) × IsFrontWith a (front_of first ps z) g
front_with a [] [] z = by_zero_alone (eqb a 0) a z
front_with a [] (p ∷ ps) z = by_zero (eqb a 0) a z p.zeros p.stretch ps
front_with a (b ∷ []) ps z = (front_of (a ∷ b ∷ []) ps z, λ s qs. refl)
front_with a (b ∷ c ∷ more) ps z = by_code (is_code a b c) a b c z more ps

-- what is before a start code's end is a front, whatever follows
front_before : (before : List ℕ) → (g : Front)
    × ((rest : List ℕ) → layout_of (before ++ (0 ∷ 0 ∷ 1 ∷ rest))
    ≡ with_rest g (layout_of rest).first (layout_of rest).pieces)
front_before [] = (
  front_of [] [] 2,
  λ rest. layout_of-code 2 rest (layout_of rest).first (layout_of rest).pieces
      (omega arith) refl,
)
front_before (a ∷ before) =
    let later = front_before before in
    let step = front_with a later.0.first later.0.pieces later.0.zeros in (
      step.0,
      λ rest. ap (λ l. with_byte a l.first l.pieces) (later.1 rest)
          ∙ step.1 (layout_of rest).first (layout_of rest).pieces,
    )

with_unit-append : (s : List ℕ) (us vs : List (List ℕ)) → with_unit s (us ++ vs) ≡ with_unit s us ++ vs
with_unit-append [] us vs = refl
with_unit-append (b ∷ bs) us vs = refl

units_of_pieces-append : (ps qs : List Piece) → units_of_pieces (ps ++ qs) ≡ units_of_pieces ps ++ units_of_pieces qs
units_of_pieces-append [] qs = refl
units_of_pieces-append (p ∷ ps) qs = ap (with_unit p.stretch) (units_of_pieces-append ps qs)
    ∙ with_unit-append p.stretch (units_of_pieces ps) (units_of_pieces qs)

units_of_layout-some : (first : List ℕ) (ps : List Piece) (q : Piece) (qs : List Piece)
    → units_of_layout first (ps ++ q ∷ qs) ≡ units_of_pieces (ps ++ q ∷ qs)
units_of_layout-some first [] q qs = refl
units_of_layout-some first (p ∷ ps) q qs = refl

units_of-front : (before rest : List ℕ) → units_of (before ++ (0 ∷ 0 ∷ 1 ∷ rest))
    ≡ units_of_pieces (front_before before).0.pieces ++ units_behind rest
unfolding units_of units_behind
units_of-front before rest =
    let f : Front = (front_before before).0 in
    let r : Layout = layout_of rest in
    ap (λ l. units_of_layout l.first l.pieces) ((front_before before).1 rest)
    ∙ units_of_layout-some f.first f.pieces (piece f.zeros r.first) r.pieces
    ∙ units_of_pieces-append f.pieces (piece f.zeros r.first ∷ r.pieces)

-- the units of a text are those up to a start code's end, and those of what follows it
pub units_of-split : (before rest : List ℕ) → units_of (before ++ (0 ∷ 0 ∷ 1 ∷ rest))
    ≡ units_of (before ++ (0 ∷ 0 ∷ 1 ∷ [])) ++ units_behind rest
unfolding units_behind
units_of-split before rest =
    let us : List (List ℕ) = units_of_pieces (front_before before).0.pieces in
    let none : units_of (before ++ (0 ∷ 0 ∷ 1 ∷ [])) ≡ us = units_of-front before [] ∙ append-nil us in
    units_of-front before rest ∙ ap (λ vs. vs ++ units_behind rest) (sym none)

-- a unit before pieces
units_behind-unit : (unit : List ℕ) (ps : List Piece) → IsUnit unit → IsStretch unit ps → layout_of (joined ps)
    ≡ layout [] ps → units_behind (unit ++ joined ps) ≡ unit ∷ units_of (joined ps)
unfolding units_of units_behind
units_behind-unit unit ps is stretch e =
    ap (λ l. with_unit l.first (units_of_pieces l.pieces)) (layout_of-stretch unit ps stretch e)
    ∙ unit_stays unit (units_of_pieces ps) is.is_nonempty
    ∙ ap (λ us. unit ∷ us) (sym (no_first ps)) ∙ ap (λ l. unit ∷ units_of_layout l.first l.pieces) (sym e)

reached : (unit behind : List ℕ) → IsUnit unit → ReachesTo unit behind → units_behind (unit ++ behind) ≡ unit
    ∷ units_of behind
reached unit behind is (inl e) =
    ap (λ b. units_behind (unit ++ b)) e ∙ units_behind-unit unit [] is is.holds_none refl
    ∙ ap (λ b. unit ∷ units_of b) (sym e)
reached unit behind is (inr code) =
    let r : Layout = layout_of code.0.behind in
    let ps : List Piece = piece code.0.zeros r.first ∷ r.pieces in
    let put : behind ≡ joined ps = code.0.put_together
    ∙ ap (λ t. replicate code.0.zeros 0 ++ (1 ∷ t)) (laid_out code.0.behind).put_together in
    let own : layout_of (joined ps) ≡ layout [] ps =
    ap layout_of (sym put ∙ code.0.put_together)
    ∙ layout_of-code code.0.zeros code.0.behind r.first r.pieces code.0.enough refl in
    ap (λ b. units_behind (unit ++ b)) put ∙ units_behind-unit unit ps is (is.holds_none, code.1) own
    ∙ ap (λ b. unit ∷ units_of b) (sym put)

pub place_law : PlaceLaw
place_law before unit behind is reaches =
    units_of-split before (unit ++ behind) ∙ ap (λ vs. units_of (before ++ (0 ∷ 0 ∷ 1 ∷ [])) ++ vs)
    (reached unit behind is reaches)
