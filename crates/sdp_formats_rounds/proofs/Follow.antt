-- Rows that take their turns one after the other.
use Rattle.std.proofs.Common.{◌≡◌, List, [], ◌∷◌, ◌++◌, refl, sym, subst, ◌∙◌, ap, append_assoc, append-nil, inl, inr}
use Rattle.std.proofs.Common.{Result, Ok, Err}
use Rattle.std.specs.Prelude.{◌⊎◌}
use Rattle.sdp_formats_rows.specs.Rows.{Row}
use Rattle.sdp_formats_rounds.specs.declared.error.RoundError.{RoundError}
use Rattle.sdp_formats_rounds.specs.Turns.{in_turn}
use Rattle.sdp_formats_rounds.proofs.Split.{split_ok}
use Rattle.sdp_formats_rounds.specs.Rounded.{Follows, StopsAt}
use Rattle.sdp_formats_rounds.proofs.Chains.{split_err, then_err, then_ok}
use Rattle.sdp_formats_rounds.proofs.Tables.{ok_err, ok_is}

-- What a turn of one of all rows makes of it, if what holds of the rows before it holds.
pub record Turns (all : List Row) (I : List Row → List Row → Type 0)
    (step : List Row → Row → List Row → Result Row RoundError) (R : List Row → Row → Row → Type 0)
    (F : List Row → Row → RoundError → Type 0) : Type 0 where
  pub ok : (xs done rest : List Row) (row new : Row) → all ≡ xs ++ row ∷ rest → I xs done
      → step done row rest ≡ Ok new → R done row new
  pub back : (xs done rest : List Row) (row new : Row) → all ≡ xs ++ row ∷ rest → I xs done
      → R done row new → step done row rest ≡ Ok new
  pub err : (xs done rest : List Row) (row : Row) (e : RoundError) → all ≡ xs ++ row ∷ rest → I xs done
      → step done row rest ≡ Err e → F done row e
  pub not : (xs done rest : List Row) (row : Row) (e : RoundError) → all ≡ xs ++ row ∷ rest → I xs done
      → F done row e → step done row rest ≡ Err e
  pub keep : (xs done : List Row) (row new : Row) → I xs done → R done row new
      → I (xs ++ row ∷ []) (done ++ new ∷ [])

next_placed : (all xs more : List Row) (row : Row) → all ≡ xs ++ row ∷ more → all ≡ (xs ++ row ∷ []) ++ more
next_placed all xs more row e = e ∙ sym (append_assoc xs (row ∷ []) more)

pub follow_ok : (all : List Row) (I : List Row → List Row → Type 0)
    (step : List Row → Row → List Row → Result Row RoundError) (R : List Row → Row → Row → Type 0)
    (F : List Row → Row → RoundError → Type 0) → Turns all I step R F → (xs done rest after : List Row)
    → all ≡ xs ++ rest → I xs done → in_turn step done rest ≡ Ok after
    → (made : List Row) × (after ≡ done ++ made) × Follows R done rest made × I all after
follow_ok all I step R F t xs done [] after p i e =
    let same : done ≡ after = ok_is done after e in
    let whole : xs ≡ all = sym (p ∙ append-nil xs) in
    ([], sym (append-nil done ∙ same), tt, subst (λ a. I all a) same (subst (λ a. I a done) whole i))
follow_ok all I step R F t xs done (row ∷ more) after p i e =
    let s = split_ok (step done row more) (λ new. in_turn step (done ++ new ∷ []) more) after e in
    let r = t.ok xs done more row s.0 p i s.1 in
    let f = follow_ok all I step R F t (xs ++ row ∷ []) (done ++ s.0 ∷ []) more after
    (next_placed all xs more row p) (t.keep xs done row s.0 i r) s.2 in
    (s.0 ∷ f.0, f.1 ∙ append_assoc done (s.0 ∷ []) f.0, (r, f.2), f.3)

pub follow_back : (all : List Row) (I : List Row → List Row → Type 0)
    (step : List Row → Row → List Row → Result Row RoundError) (R : List Row → Row → Row → Type 0)
    (F : List Row → Row → RoundError → Type 0) → Turns all I step R F → (xs done rest made tail : List Row)
    → all ≡ xs ++ (rest ++ tail) → I xs done → Follows R done rest made
    → (in_turn step done (rest ++ tail) ≡ in_turn step (done ++ made) tail) × I (xs ++ rest) (done ++ made)
follow_back all I step R F t xs done [] [] tail p i f = (
  ap (λ l. in_turn step l tail) (sym (append-nil done)),
  subst (λ a. I a (done ++ [])) (sym (append-nil xs)) (subst (λ a. I xs a) (sym (append-nil done)) i),
)
follow_back all I step R F t xs done [] (y ∷ ys) tail p i f = absurd f
follow_back all I step R F t xs done (x ∷ rest) [] tail p i f = absurd f
follow_back all I step R F t xs done (x ∷ rest) (y ∷ ys) tail p i f =
    let e = t.back xs done (rest ++ tail) x y p i f.0 in
    let m = follow_back all I step R F t (xs ++ x ∷ []) (done ++ y ∷ []) rest ys tail
    (next_placed all xs (rest ++ tail) x p) (t.keep xs done x y i f.0) f.1 in (
      then_ok (step done x (rest ++ tail)) (λ new. in_turn step (done ++ new ∷ []) (rest ++ tail)) y e ∙ m.0
          ∙ ap (λ l. in_turn step l tail) (append_assoc done (y ∷ []) ys),
      subst (λ a. I a (done ++ y ∷ ys)) (append_assoc xs (x ∷ []) rest)
          (subst (λ a. I ((xs ++ x ∷ []) ++ rest) a) (append_assoc done (y ∷ []) ys) m.1),
    )

-- Where a list is refused that begins after others.
pub record Stops (R : List Row → Row → Row → Type 0) (F : List Row → Row → RoundError → Type 0) (done rows : List Row)
    (e : RoundError) : Type 0 where
  pub before : List Row
  pub row : Row
  pub behind : List Row
  pub made : List Row
  pub placed : rows ≡ before ++ row ∷ behind
  pub follows : Follows R done before made
  pub refused : F (done ++ made) row e

pub follow_err : (all : List Row) (I : List Row → List Row → Type 0)
    (step : List Row → Row → List Row → Result Row RoundError) (R : List Row → Row → Row → Type 0)
    (F : List Row → Row → RoundError → Type 0) → Turns all I step R F → (xs done rest : List Row) (e : RoundError)
    → all ≡ xs ++ rest → I xs done → in_turn step done rest ≡ Err e → Stops R F done rest e
follow_err all I step R F t xs done [] e p i is = ok_err done e is
follow_err all I step R F t xs done (row ∷ more) e p i is =
    at (split_err (step done row more) (λ new. in_turn step (done ++ new ∷ []) more) e is)
    (λ new k h. follow_err all I step R F t (xs ++ row ∷ []) (done ++ new ∷ []) more e
    (next_placed all xs more row p) k h)
  where
    at : (step done row more ≡ Err e) ⊎ ((new : Row) × (step done row more ≡ Ok new)
        × (in_turn step (done ++ new ∷ []) more ≡ Err e))
        → ((new : Row) → I (xs ++ row ∷ []) (done ++ new ∷ []) → in_turn step (done ++ new ∷ []) more ≡ Err e
        → Stops R F (done ++ new ∷ []) more e)
        → Stops R F done (row ∷ more) e
    at (inl h) ih = record {
      before = [];
      row = row;
      behind = more;
      made = [];
      placed = refl;
      follows = tt;
      refused = subst (λ l. F l row e) (sym (append-nil done)) (t.err xs done more row e p i h);
    }
    at (inr (new, h, k)) ih =
        let r = t.ok xs done more row new p i h in
        let s = ih new (t.keep xs done row new i r) k in record {
          before = row ∷ s.before;
          row = s.row;
          behind = s.behind;
          made = new ∷ s.made;
          placed = ap (λ l. row ∷ l) s.placed;
          follows = (r, s.follows);
          refused = subst (λ l. F l s.row e) (append_assoc done (new ∷ []) s.made) s.refused;
        }

pub stops_at : (R : List Row → Row → Row → Type 0) (F : List Row → Row → RoundError → Type 0) (rows : List Row)
    (e : RoundError) → Stops R F [] rows e → StopsAt R F rows e
stops_at R F rows e s = record {
  before = s.before;
  row = s.row;
  behind = s.behind;
  made = s.made;
  placed = s.placed;
  follows = s.follows;
  refused = s.refused;
}

pub stops_back : (all : List Row) (I : List Row → List Row → Type 0)
    (step : List Row → Row → List Row → Result Row RoundError) (R : List Row → Row → Row → Type 0)
    (F : List Row → Row → RoundError → Type 0) → Turns all I step R F → (e : RoundError) → I [] []
    → StopsAt R F all e → in_turn step [] all ≡ Err e
stops_back all I step R F t e i s =
    let b = follow_back all I step R F t [] [] s.before s.made (s.row ∷ s.behind) s.placed i s.follows in
    ap (λ l. in_turn step [] l) s.placed ∙ b.0 ∙ then_err (step s.made s.row s.behind)
    (λ new. in_turn step (s.made ++ new ∷ []) s.behind) e
    (t.not s.before s.made s.behind s.row e s.placed b.1 s.refused)
