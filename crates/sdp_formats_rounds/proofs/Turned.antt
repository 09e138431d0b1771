-- One turn more.
use Rattle.std.proofs.Common.{◌≡◌, ℕ, ◌+◌, ◌<◌, List, [], ◌∷◌, ◌++◌, length, take, drop, get_or, refl, sym, ◌∙◌, ap}
use Rattle.std.proofs.Common.{add-one, arith}
use Rattle.std.proofs.Common.{Result, Ok}
use Rattle.std.specs.Prelude.{slice_set}
use Rattle.std.proofs.Math.Seq.{take-suc-set, drop-cons}
use Rattle.std.proofs.lemmas.List.{drop-set-lt, take-append-drop}
use Rattle.sdp_formats_rows.specs.Rows.{Row}
use Rattle.sdp_formats_rounds.specs.declared.error.RoundError.{RoundError}
use Rattle.sdp_formats_rounds.specs.Turns.{in_turn}

answered : (step : List Row → Row → List Row → Result Row RoundError) (done rest : List Row) (row new : Row)
    → step done row rest ≡ Ok new → in_turn step done (row ∷ rest) ≡ in_turn step (done ++ new ∷ []) rest
answered step done rest row new e = rw e refl

turned_at : (step : List Row → Row → List Row → Result Row RoundError) (rows : List Row) (i : ℕ) (row new : Row)
    → i < length rows → row ≡ get_or rows i row → step (take i rows) row (drop (i + 1) rows) ≡ Ok new
    → in_turn step (take (i + 1) (slice_set rows i new)) (drop (i + 1) (slice_set rows i new))
    ≡ in_turn step (take i rows) (drop i rows)
turned_at step rows i row new below is e =
    let t : take (i + 1) (slice_set rows i new) ≡ take i rows ++ new ∷ [] = rw add-one
    (take-suc-set rows i new below) in
    let d : drop (i + 1) (slice_set rows i new) ≡ drop (i + 1) rows = drop-set-lt (i + 1) rows i new (omega arith) in
    let c : drop i rows ≡ row ∷ drop (i + 1) rows = drop-cons rows i row below ∙ rw (← is, add-one) refl in
    rw (t, d, c) (sym (answered step (take i rows) (drop (i + 1) rows) row new e))

-- the rows round one of them
round_it : (rows : List Row) (i : ℕ) (row : Row) → i < length rows → row ≡ get_or rows i row
    → take i rows ++ row ∷ drop (i + 1) rows ≡ rows
round_it rows i row below is =
    let c : drop i rows ≡ row ∷ drop (i + 1) rows = drop-cons rows i row below ∙ rw (← is, add-one) refl in
    ap (λ l. take i rows ++ l) (sym c) ∙ take-append-drop i rows

pub turned : (f : List Row → Row → Result Row RoundError) (rows : List Row) (i : ℕ) (row new : Row)
    → i < length rows → row ≡ get_or rows i row → f rows row ≡ Ok new
    → in_turn (λ done row rest. f (done ++ row ∷ rest) row) (take (i + 1) (slice_set rows i new))
    (drop (i + 1) (slice_set rows i new))
    ≡ in_turn (λ done row rest. f (done ++ row ∷ rest) row) (take i rows) (drop i rows)
turned f rows i row new below is e =
    turned_at (λ done row rest. f (done ++ row ∷ rest) row) rows i row new below is
    (ap (λ l. f l row) (round_it rows i row below is) ∙ e)
