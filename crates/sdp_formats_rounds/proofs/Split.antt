-- What an answered chain of steps says.
use Rattle.std.proofs.Common.{◌≡◌, List, [], ◌∷◌, ◌++◌, refl, sym, ◌∙◌, append_assoc, append-nil, Result, Ok, Err}
use Rattle.sdp_formats_rows.specs.Rows.{Row}
use Rattle.sdp_formats_rounds.specs.declared.error.RoundError.{RoundError}
use Rattle.sdp_formats_rounds.specs.Turns.{and_then, in_turn}
use Rattle.sdp_formats_rounds.specs.Laws.{Along}

pub split_ok : {A B : Type 0} (r : Result A RoundError) (f : A → Result B RoundError) (y : B)
    → and_then r f ≡ Ok y → (x : A) × (r ≡ Ok x) × (f x ≡ Ok y)
split_ok (Ok x) f y e = (x, refl, e)
split_ok (Err z) f y e = cc

pub ok_same : {A : Type 0} (x y : A) → (let r : Result A RoundError = Ok x in r ≡ Ok y) → x ≡ y
ok_same x y e = cc

-- A property that each turn keeps holds at the end.
pub turns_keep : (P : List Row → Type 0)
    → (step : List Row → Row → List Row → Result Row RoundError)
    → ((done : List Row) (row : Row) (rest : List Row) (new : Row) → step done row rest ≡ Ok new
    → P (done ++ row ∷ rest) → P (done ++ new ∷ rest))
    → (done rows after : List Row) → in_turn step done rows ≡ Ok after → P (done ++ rows) → P after
turns_keep P step each done [] after e p = let is : done ++ []
    ≡ after = append-nil done ∙ ok_same done after e in rw (← is) p
turns_keep P step each done (row ∷ rest) after e p =
    let s = split_ok (step done row rest) (λ new. in_turn step (done ++ new ∷ []) rest) after e in
    turns_keep P step each (done ++ s.0 ∷ []) rest after s.2 (rw append_assoc (each done row rest s.0 s.1 p))

-- A property of the rows that are done grows to all.
pub turns_grow : (P : List Row → Type 0)
    → (step : List Row → Row → List Row → Result Row RoundError)
    → ((done : List Row) (row : Row) (rest : List Row) (new : Row) → step done row rest ≡ Ok new → P done
    → P (done ++ new ∷ []))
    → (done rows after : List Row) → in_turn step done rows ≡ Ok after → P done → P after
turns_grow P step each done [] after e p = rw (← (ok_same done after e)) p
turns_grow P step each done (row ∷ rest) after e p =
    let s = split_ok (step done row rest) (λ new. in_turn step (done ++ new ∷ []) rest) after e in
    turns_grow P step each (done ++ s.0 ∷ []) rest after s.2 (each done row rest s.0 s.1 p)

-- What each turn makes of its row, row by row.
pub turns_along : (R : Row → Row → Type 0)
    → (step : List Row → Row → List Row → Result Row RoundError)
    → ((done : List Row) (row : Row) (rest : List Row) (new : Row) → step done row rest ≡ Ok new → R row new)
    → (done rows after : List Row) → in_turn step done rows ≡ Ok after
    → (made : List Row) × (after ≡ done ++ made) × Along R rows made
turns_along R step each done [] after e = ([], sym (append-nil done ∙ ok_same done after e), tt)
turns_along R step each done (row ∷ rest) after e =
    let s = split_ok (step done row rest) (λ new. in_turn step (done ++ new ∷ []) rest) after e in
    let more = turns_along R step each (done ++ s.0 ∷ []) rest after s.2 in
    (s.0 ∷ more.0, more.1 ∙ append_assoc done (s.0 ∷ []) more.0, (each done row rest s.0 s.1, more.2))

pub along_join : (R S T : Row → Row → Type 0) → ((x y z : Row) → R x y → S y z → T x z)
    → (xs ys zs : List Row) → Along R xs ys → Along S ys zs → Along T xs zs
along_join R S T join [] [] [] a b = tt
along_join R S T join (x ∷ xs) (y ∷ ys) (z ∷ zs) a b = (join x y z a.0 b.0, along_join R S T join xs ys zs a.1 b.1)
along_join R S T join [] [] (z ∷ zs) a b = b
along_join R S T join (x ∷ xs) (y ∷ ys) [] a b = absurd b
along_join R S T join [] (y ∷ ys) zs a b = absurd a
along_join R S T join (x ∷ xs) [] zs a b = absurd a
