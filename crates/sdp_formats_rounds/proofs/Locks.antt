-- Rows that are locked before a round have distinct types if it goes on.
use Rattle.std.proofs.Common.{◌≡◌, ℕ, Bool, true, false, List, [], ◌∷◌, ◌++◌, refl, sym, ◌∙◌, Option, Some, None, Ok}
use Rattle.std.proofs.Common.{append-nil, if◌then◌else◌}
use Rattle.sdp_formats_rows.specs.Rows.{Row}
use Rattle.sdp_formats_rounds.specs.declared.claims.Own.{Own}
use Rattle.sdp_formats_rounds.specs.declared.claims.Role.{Role}
use Rattle.sdp_formats_rounds.specs.declared.claims.Role.TheVariants.{Main, Resend}
use Rattle.sdp_formats_rounds.specs.Types.{locked_types, is_claimed}
use Rattle.sdp_formats_rounds.specs.Turns.{and_then}
use Rattle.sdp_formats_rounds.specs.Rounds.{none_given, given, tested, unless_claimed, unclaimed, unclaimed_if_given}
use Rattle.sdp_formats_rounds.specs.Rounds.{standing_types, standing_row, standing_rows}
use Rattle.sdp_formats_rounds.specs.Laws.{is_distinct, Along}
use Rattle.sdp_formats_rounds.proofs.Split.{split_ok, ok_same, turns_grow, turns_along}
use Rattle.sdp_formats_rounds.proofs.Fresh.{tested_is}
use Rattle.sdp_formats_rounds.proofs.Locked.{Fresh, locked_append, locked_one, unlocked_one, locked_among, none_locked}
use Rattle.sdp_formats_rounds.proofs.Locked.{distinct_fresh, or_left}

unless_at : (role : Role) (t u : ℕ) (claimed : Bool) → unless_claimed role t claimed ≡ Ok u → claimed ≡ false
unless_at role t u true e = cc
unless_at role t u false e = refl

standing_unclaimed : (role : Role) (rows : List Row) (own : Own) (t u : ℕ) → unclaimed role rows own t ≡ Ok u
    → is_claimed rows own t ≡ false
standing_unclaimed role rows own t u e =
    let s = split_ok (tested role rows own t) (unless_claimed role t) u e in
    tested_is role rows own t s.0 s.1 ∙ unless_at role t u s.0 s.2

standing_given : (role : Role) (rows : List Row) (own : Own) (o u : Option ℕ) (t : ℕ)
    → unclaimed_if_given role rows own o ≡ Ok u → o ≡ Some t → is_claimed rows own t ≡ false
standing_given role rows own None u t e is = cc
standing_given role rows own (Some v) u t e is =
    let s = split_ok (unclaimed role rows own v) (λ w. Ok (Some w)) u e in
    let same : v ≡ t = (cc) in
    rw (← same) (standing_unclaimed role rows own v s.0 s.1)

standing_fresh : (done : List Row) (row : Row) (t : Option ℕ) → standing_types done row ≡ Ok t → Fresh done row
standing_fresh done row t e =
    let s = split_ok (unclaimed Main done none_given row.pt) (λ u. and_then (unclaimed_if_given Resend done
    (given row.pt None) row.resend) (λ r. unclaimed_if_given Main done (given row.pt row.resend) row.red)) t e in
    let v = split_ok (unclaimed_if_given Resend done (given row.pt None) row.resend)
    (λ r. unclaimed_if_given Main done (given row.pt row.resend) row.red) t s.2 in
    record {
      pt = or_left _ _ (standing_unclaimed Main done none_given row.pt s.0 s.1);
      resend = λ u is. standing_given Resend done (given row.pt None) row.resend v.0 u v.1 is;
      red = λ u is. standing_given Main done (given row.pt row.resend) row.red t u v.2 is;
    }

grown : (done : List Row) (row new : Row) → standing_row done row ≡ Ok new
    → is_distinct (locked_types done) ≡ true → is_distinct (locked_types (done ++ new ∷ [])) ≡ true
grown done row new e d = at row.locked refl e
  where
    at : (b : Bool) → row.locked ≡ b → (if b then and_then (standing_types done row) (λ t. Ok row) else Ok row)
        ≡ Ok new → is_distinct (locked_types (done ++ new ∷ [])) ≡ true
    at false is f =
        let same : row ≡ new = ok_same row new f in
        rw (
          ← same,
          locked_append done (row ∷ []),
          unlocked_one row [] is,
          none_locked,
          append-nil
              (locked_types done),
        ) d
    at true is f =
        let s = split_ok (standing_types done row) (λ t. Ok row) new f in
        let same : row ≡ new = ok_same row new s.2 in
        rw (← same, locked_append done (row ∷ []), locked_one row [] is, none_locked)
        (distinct_fresh done row (locked_types done) [] (λ t. rw (append-nil (locked_types done))
        (locked_among done t)) (standing_fresh done row s.0 s.1) (rw (append-nil (locked_types done)) d))

pub standing_distinct : (rows after : List Row) → standing_rows rows ≡ Ok after
    → is_distinct (locked_types after) ≡ true
standing_distinct rows after e =
    turns_grow (λ done. is_distinct (locked_types done) ≡ true) (λ done row rest. standing_row done row)
    (λ done row rest new is d. grown done row new is d) [] rows after e (rw none_locked refl)

standing_kept_at : (done : List Row) (row new : Row) → standing_row done row ≡ Ok new → new ≡ row
standing_kept_at done row new e = at row.locked e
  where
    at : (b : Bool) → (if b then and_then (standing_types done row) (λ t. Ok row) else Ok row) ≡ Ok new → new ≡ row
    at false f = sym (ok_same row new f)
    at true f = let s = split_ok (standing_types done row) (λ t. Ok row) new f in sym (ok_same row new s.2)

same_along : (xs ys : List Row) → Along (λ x y. y ≡ x) xs ys → ys ≡ xs
same_along [] [] a = refl
same_along (x ∷ xs) (y ∷ ys) a = let one = a.0 in let more = same_along xs ys a.1 in cc
same_along [] (y ∷ ys) a = absurd a
same_along (x ∷ xs) [] a = absurd a

pub standing_same : (rows after : List Row) → standing_rows rows ≡ Ok after → after ≡ rows
standing_same rows after e =
    let s = turns_along (λ x y. y ≡ x) (λ done row rest. standing_row done row)
    (λ done row rest new is. standing_kept_at done row new is) [] rows after e in
    s.1 ∙ same_along rows s.0 s.2
