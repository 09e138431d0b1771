-- One call of a test.
use Rattle.std.proofs.Common.{◌≡◌, Bool, true, false, List, ◌∷◌, Option, Some, refl, sym, subst, inl, inr}
use Rattle.sdp_formats_rounds.specs.Finding.{Finds}
use Rattle.sdp_formats_rows.specs.Rows.{Row}

pub found-here : {F : Type 0} (T : F → Row → Bool → F → Type 0) (f next : F) (left rest : List Row) (row : Row)
    → left ≡ row ∷ rest → T f row true next → Finds T f left (Some row)
found-here T f next left rest row e called =
    subst (λ (l : List Row). Finds T f l (Some row)) (sym e) (next, inl (called, refl))

pub found-later : {F : Type 0} (T : F → Row → Bool → F → Type 0) (f next : F) (left rest : List Row) (row : Row)
    (found : Option Row) → left ≡ row ∷ rest → T f row false next → Finds T next rest found → Finds T f left found
found-later T f next left rest row found e called h =
    subst (λ (l : List Row). Finds T f l found) (sym e) (next, inr (called, h))
