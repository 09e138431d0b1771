-- The rows that a round leaves unlocked have no type of a locked row.
use Rattle.std.proofs.Common.{◌≡◌, ℕ, Bool, true, false, List, [], ◌∷◌, ◌++◌, refl, sym, ◌∙◌, ap, subst, append_assoc}
use Rattle.std.proofs.Common.{append-nil}
use Rattle.std.proofs.Common.{Option, Some, None, Result, Ok, if◌then◌else◌}
use Rattle.std.specs.Prelude.{⊤}
use Rattle.sdp_formats_rows.specs.Rows.{Row}
use Rattle.sdp_formats_rounds.specs.declared.claims.Own.{Own}
use Rattle.sdp_formats_rounds.specs.declared.claims.Role.{Role}
use Rattle.sdp_formats_rounds.specs.declared.claims.Role.TheVariants.{Main, Resend}
use Rattle.sdp_formats_rounds.specs.declared.error.RoundError.{RoundError}
use Rattle.sdp_formats_rounds.specs.Types.{free_type, is_claimed, is_locked_type, locked_types}
use Rattle.sdp_formats_rounds.specs.Turns.{and_then, in_turn}
use Rattle.sdp_formats_rounds.specs.Rounds.{agreed_row, agreed_rows, given, kept_or_free, moved_red, moved_resend}
use Rattle.sdp_formats_rounds.specs.Rounds.{moved_row}
use Rattle.sdp_formats_rounds.specs.Rounds.{moved_type, none_given, red_or_free, round, settled_row, settled_rows}
use Rattle.sdp_formats_rounds.specs.Rounds.{standing_rows, tested}
use Rattle.sdp_formats_rounds.specs.Laws.{Along, HasNone, IsApart, UnlockedRowsApart}
use Rattle.sdp_formats_rounds.proofs.Split.{split_ok, ok_same, turns_along}
use Rattle.sdp_formats_rounds.proofs.Fresh.{found_unclaimed, free_unclaimed, tested_is}
use Rattle.sdp_formats_rounds.proofs.Locked.{locked_among, locked_append, or_left, unlocked_one}
use Rattle.sdp_formats_rounds.proofs.Settles.{Moves, moves_of, moves_types, settled_along}

-- nothing, of two rows
abbrev Stays : Row → Row → Type 0
Stays x y = ⊤

-- a type or a free one is no locked row's
moved_unlocked : (role : Role) (before now : List Row) (own : Own) (t u : ℕ)
    → moved_type role before now own t ≡ Ok u → is_locked_type now u ≡ false
moved_unlocked role before now own t u e =
    let s = split_ok (tested role now none_given t) (kept_or_free before now own t) u e in
    at s.0 (tested_is role now none_given t s.0 s.1) s.2
  where
    at : (claimed : Bool) → is_claimed now none_given t ≡ claimed → kept_or_free before now own t claimed ≡ Ok u
        → is_locked_type now u ≡ false
    at true is f = or_left _ _ (found_unclaimed before now own u f)
    at false is f = let same : t ≡ u = (cc) in rw (← same) (or_left _ _ is)

moved_resend_unlocked : (before now : List Row) (own : Own) (resend new : Option ℕ) (u : ℕ)
    → moved_resend before now own resend ≡ Ok new → new ≡ Some u → is_locked_type now u ≡ false
moved_resend_unlocked before now own None new u e is = cc
moved_resend_unlocked before now own (Some t) new u e is =
    let s = split_ok (moved_type Resend before now own t) (λ v. Ok (Some v)) new e in
    let same : s.0 ≡ u = (cc) in
    rw (← same) (moved_unlocked Resend before now own t s.0 s.1)

moved_red_unlocked : (before now : List Row) (own : Own) (red new : Option ℕ) (u : ℕ)
    → moved_red before now own red ≡ Ok new → new ≡ Some u → is_locked_type now u ≡ false
moved_red_unlocked before now own None new u e is = cc
moved_red_unlocked before now own (Some t) new u e is =
    let s = split_ok (tested Main now none_given t) (red_or_free before now own t) new e in
    at s.0 (tested_is Main now none_given t s.0 s.1) s.2
  where
    at : (claimed : Bool) → is_claimed now none_given t ≡ claimed → red_or_free before now own t claimed ≡ Ok new
        → is_locked_type now u ≡ false
    at true w f =
        let free : free_type before now own ≡ Some u = ok_same (free_type before now own) new f ∙ is in
        or_left _ _ (free_unclaimed before now own u free)
    at false w f = let same : t ≡ u = (cc) in rw (← same) (or_left _ _ w)

-- a row that moves has no type of a locked row
moved_apart : (before now : List Row) (row new : Row) → moved_row before now row ≡ Ok new
    → HasNone (locked_types now) new
moved_apart before now row new e =
    let s = split_ok (moved_type Main before now none_given row.pt)
    (λ pt. and_then (moved_red before now (given pt None) row.red)
    (λ red. and_then (moved_resend before now (given pt red) row.resend)
    (λ resend. Ok (record row { pt = pt; resend = resend; red = red })))) new e in
    let r = split_ok (moved_red before now (given s.0 None) row.red)
    (λ red. and_then (moved_resend before now (given s.0 red) row.resend)
    (λ resend. Ok (record row { pt = s.0; resend = resend; red = red }))) new s.2 in
    let d = split_ok (moved_resend before now (given s.0 r.0) row.resend)
    (λ resend. Ok (record row { pt = s.0; resend = resend; red = r.0 })) new r.2 in
    let m : Row = record row { pt = s.0; resend = d.0; red = r.0 } in
    let same : m ≡ new = ok_same m new d.2 in
    let made : HasNone (locked_types now) m = record {
      pt = sym (locked_among now s.0) ∙ moved_unlocked Main before now none_given row.pt s.0 s.1;
      resend = λ u is. sym (locked_among now u)
          ∙ moved_resend_unlocked before now (given s.0 r.0) row.resend d.0 u d.1 is;
      red = λ u is. sym (locked_among now u) ∙ moved_red_unlocked before now (given s.0 None) row.red r.0 u r.1 is;
    } in
    let P : Row → Type 0 = HasNone (locked_types now) in
    subst P same made

-- a turn keeps the locked types
kept_types : (done rest : List Row) (row new : Row) → Moves row new
    → locked_types (done ++ new ∷ rest) ≡ locked_types (done ++ row ∷ rest)
kept_types done rest row new moves = at row.locked refl
  where
    at : (b : Bool) → row.locked ≡ b → locked_types (done ++ new ∷ rest) ≡ locked_types (done ++ row ∷ rest)
    at true is = ap (λ (r : Row). locked_types (done ++ r ∷ rest)) (moves.kept is)
    at false is =
        locked_append done (new ∷ rest)
        ∙ ap (λ (l : List ℕ). locked_types done ++ l)
        (unlocked_one new rest (moves.unlocked is).0 ∙ sym (unlocked_one row rest is))
        ∙ sym (locked_append done (row ∷ rest))

-- a row that is left unlocked is apart from them
row_apart : (before now : List Row) (types : List ℕ) (row new : Row) → locked_types now ≡ types
    → settled_row before now row ≡ Ok new → Moves row new → IsApart types row new
row_apart before now types row new same e moves left_so = at row.locked refl e
  where
    at : (b : Bool) → row.locked ≡ b
        → (let r : Result Row RoundError = if b then Ok row else moved_row before now row in r ≡ Ok new)
        → HasNone types new
    at true is f = absurd (let yes : new.locked ≡ true = ap (λ (r : Row). r.locked) (moves.kept is) ∙ is in cc)
    at false is f = let P : List ℕ → Type 0 = λ l. HasNone l new in subst P same (moved_apart before now row new f)

-- the turns of the rows that are left keep the locked types, and each row that stays unlocked is apart from them
turns_apart : (before : List Row) (types : List ℕ) (done rows after : List Row)
    → in_turn (λ done row rest. settled_row before (done ++ row ∷ rest) row) done rows ≡ Ok after
    → locked_types (done ++ rows) ≡ types
    → (made : List Row) × (after ≡ done ++ made) × Along (IsApart types) rows made
turns_apart before types done [] after e p = ([], sym (append-nil done ∙ ok_same done after e), tt)
turns_apart before types done (row ∷ rest) after e p =
    let s = split_ok (settled_row before (done ++ row ∷ rest) row)
    (λ new. in_turn (λ done row rest. settled_row before (done ++ row ∷ rest) row) (done ++ new ∷ []) rest) after e in
    let moves = moves_of before (done ++ row ∷ rest) row s.0 s.1 in
    let same : locked_types (done ++ s.0 ∷ rest) ≡ types = kept_types done rest row s.0 moves ∙ p in
    let more = turns_apart before types (done ++ s.0 ∷ []) rest after s.2 (rw append_assoc same) in (
      s.0 ∷ more.0,
      more.1 ∙ append_assoc done (s.0 ∷ []) more.0,
      (row_apart before (done ++ row ∷ rest) types row s.0 p s.1 moves, more.2),
    )

-- from the rows once each was matched to those before the round
along_from : (types : List ℕ) (xs ys zs : List Row) → Along Stays xs ys → Along (IsApart types) ys zs
    → Along (IsApart types) xs zs
along_from types [] [] [] a b = tt
along_from types (x ∷ xs) (y ∷ ys) (z ∷ zs) a b = (b.0, along_from types xs ys zs a.1 b.1)
along_from types [] [] (z ∷ zs) a b = absurd b
along_from types [] (y ∷ ys) zs a b = absurd a
along_from types (x ∷ xs) [] zs a b = absurd a
along_from types (x ∷ xs) (y ∷ ys) [] a b = absurd b

pub unlocked_rows_apart : UnlockedRowsApart
unfolding round
unlocked_rows_apart dictated remote rows after e =
    let s = split_ok (standing_rows rows) (λ same. and_then (agreed_rows dictated remote rows rows)
    (λ agreed. settled_rows rows agreed)) after e in
    let a = split_ok (agreed_rows dictated remote rows rows) (λ agreed. settled_rows rows agreed) after s.2 in
    let types : locked_types a.0 ≡ locked_types after = sym (moves_types a.0 after
    (settled_along rows a.0 after a.2)) in
    let t = turns_apart rows (locked_types after) [] a.0 after a.2 types in
    let same : after ≡ t.0 = t.1 in
    let w = turns_along Stays (λ done row rest. agreed_row dictated remote rows (done ++ row ∷ rest) row)
    (λ done row rest new is. tt) [] rows a.0 a.1 in
    let stays : Along Stays rows a.0 = let P : List Row → Type 0 = Along Stays rows in subst P (sym w.1) w.2 in
    along_from (locked_types after) rows a.0 after stays
    (let P : List Row → Type 0 = Along (IsApart (locked_types after)) a.0 in subst P (sym same) t.2)
