-- The types of unlocked rows stay apart from one another.
use Rattle.std.proofs.Common.{◌≡◌, ℕ, Bool, true, false, ◌||◌, ◌==◌, List, [], ◌∷◌, ◌++◌, refl, ◌∙◌, ap, subst}
use Rattle.std.proofs.Common.{Option, Some, None, Ok, if◌then◌else◌, inl, inr}
use Rattle.std.specs.Prelude.{◌⊎◌}
use Rattle.sdp_formats_rows.specs.Rows.{Row}
use Rattle.sdp_formats_rounds.specs.declared.claims.Own.{Own}
use Rattle.sdp_formats_rounds.specs.declared.claims.Role.TheVariants.{Main}
use Rattle.sdp_formats_rounds.specs.Best.{best_row}
use Rattle.sdp_formats_rounds.specs.Types.{is_free, is_own, types_of}
use Rattle.sdp_formats_rounds.specs.Turns.{and_then}
use Rattle.sdp_formats_rounds.specs.Rounds.{agreed_row, agreed_rows, given, moved_red, moved_resend, moved_row}
use Rattle.sdp_formats_rounds.specs.Rounds.{moved_type, none_given, round, settled_row, settled_rows, standing_rows}
use Rattle.sdp_formats_rounds.specs.Laws.{is_among, is_distinct}
use Rattle.sdp_formats_rounds.specs.TypeLaws.{UnlockedTypesStayApart, unlocked_types}
use Rattle.sdp_formats_rounds.proofs.Split.{split_ok, ok_same, turns_keep}
use Rattle.sdp_formats_rounds.proofs.Apart.{among_in, among_out, apart_out, distinct_in, distinct_out, or_none, swap}
use Rattle.sdp_formats_rounds.proofs.FreeTypes.{free_own, free_used, moved_is, moved_red_is, moved_resend_is}
use Rattle.sdp_formats_rounds.proofs.Locked.{distinct_three, or_left, or_right}
use Rattle.sdp_formats_rounds.proofs.Matches.{Way, stood, matched, left, renegotiated_locked, way_of}
use Rattle.sdp_formats_rounds.proofs.OwnTypes.{differ, has_pt, has_red, has_resend, pt_red, pt_resend, resend_red}
use Rattle.sdp_formats_rounds.proofs.Settles.{moves_of}
use Rattle.sdp_formats_rounds.proofs.UnlockedTypes.{apart_append, of_locked, of_unlocked, unused_apart}

module _ (before now : List Row) (row : Row) (xs ys : List ℕ)
    (all : unlocked_types now ≡ xs ++ (types_of row ++ ys))
    (d : is_distinct (xs ++ (types_of row ++ ys)) ≡ true) where
  free_apart : (own : Own) (t : ℕ) → is_free before now own t ≡ true → is_among (xs ++ (types_of row ++ ys)) t ≡ false
  free_apart own t f = rw (← all) (unused_apart now t (free_used before now own t f))

  own_apart : is_distinct (types_of row) ≡ true
  own_apart = distinct_in xs (types_of row) ys d

  out_kept : (t : ℕ) → is_among (types_of row) t ≡ true → is_among (xs ++ ys) t ≡ false
  out_kept t e = apart_out xs (types_of row) ys t d e

  out_free : (own : Own) (t : ℕ) → is_free before now own t ≡ true → is_among (xs ++ ys) t ≡ false
  out_free own t f = among_out t xs (types_of row) ys (free_apart own t f)

  in_free : (own : Own) (t : ℕ) → is_free before now own t ≡ true → is_among (types_of row) t ≡ false
  in_free own t f = among_in t xs (types_of row) ys (free_apart own t f)

  pt_out : (own : Own) (pt : ℕ) → (pt ≡ row.pt) ⊎ (is_free before now own pt ≡ true) → is_among (xs ++ ys) pt ≡ false
  pt_out own pt (inl kept) = rw kept (out_kept row.pt (has_pt row))
  pt_out own pt (inr free) = out_free own pt free

  -- the RTX type beside the type
  resend_ok : (a b : Own) (pt t : ℕ) (second : Option ℕ) → (pt ≡ row.pt) ⊎ (is_free before now a pt ≡ true)
      → (row.resend ≡ Some t) ⊎ (is_free before now (given pt second) t ≡ true)
      → (is_among (xs ++ ys) t || is_own (given pt None) t) ≡ false
  resend_ok a b pt t second p (inr free) =
      let own = free_own before now (given pt second) t free in
      let n = out_free (given pt second) t free in
      let first : (pt == t) ≡ false = or_left _ _ own in
      or_none _ _ n (or_none _ _ first refl)
  resend_ok a b pt t second (inl kept) (inl e) =
      let n = out_kept t (has_resend row t e) in
      let first : (pt == t) ≡ false = rw kept (pt_resend row.pt row.resend row.red t own_apart e) in
      or_none _ _ n (or_none _ _ first refl)
  resend_ok a b pt t second (inr f) (inl e) =
      let n = out_kept t (has_resend row t e) in
      let first : (pt == t) ≡ false = swap t pt (differ (types_of row) t pt (has_resend row t e) (in_free a pt f)) in
      or_none _ _ n (or_none _ _ first refl)

  -- the RED type beside the type
  red_pt : (a : Own) (pt t : ℕ) → (pt ≡ row.pt) ⊎ (is_free before now a pt ≡ true)
      → (row.red ≡ Some t) ⊎ (is_free before now (given pt None) t ≡ true) → (pt == t) ≡ false
  red_pt a pt t p (inr free) = or_left _ _ (free_own before now (given pt None) t free)
  red_pt a pt t (inl kept) (inl e) = rw kept (pt_red row.pt row.resend row.red t own_apart e)
  red_pt a pt t (inr f) (inl e) = swap t pt (differ (types_of row) t pt (has_red row t e) (in_free a pt f))

  red_out : (own : Own) (t : ℕ) → (row.red ≡ Some t) ⊎ (is_free before now own t ≡ true)
      → is_among (xs ++ ys) t ≡ false
  red_out own t (inl e) = out_kept t (has_red row t e)
  red_out own t (inr f) = out_free own t f

  -- the RED type beside the RTX type
  red_resend : (pt : ℕ) (red : Option ℕ) (s t : ℕ) → red ≡ Some t
      → (row.resend ≡ Some s) ⊎ (is_free before now (given pt red) s ≡ true)
      → (row.red ≡ Some t) ⊎ (is_free before now (given pt None) t ≡ true) → (s == t) ≡ false
  red_resend pt red s t is (inr free) q =
      let own : is_own (given pt (Some t)) s ≡ false = subst (λ (o : Option ℕ). is_own (given pt o) s ≡ false) is
      (free_own before now (given pt red) s free) in
      swap t s (or_right (pt == s) _ own)
  red_resend pt red s t is (inl e) (inl f) = resend_red row.pt row.resend row.red s t own_apart e f
  red_resend pt red s t is (inl e) (inr f) =
      differ (types_of row) s t (has_resend row s e) (in_free (given pt None) t f)

  moved_apart : (new : Row) → moved_row before now row ≡ Ok new → is_distinct (xs ++ (types_of new ++ ys)) ≡ true
  moved_apart new e =
      let s = split_ok (moved_type Main before now none_given row.pt)
      (λ pt. and_then (moved_red before now (given pt None) row.red)
      (λ red. and_then (moved_resend before now (given pt red) row.resend)
      (λ resend. Ok (record row { pt = pt; resend = resend; red = red })))) new e in
      let r = split_ok (moved_red before now (given s.0 None) row.red)
      (λ red. and_then (moved_resend before now (given s.0 red) row.resend)
      (λ resend. Ok (record row { pt = s.0; resend = resend; red = red }))) new s.2 in
      let q = split_ok (moved_resend before now (given s.0 r.0) row.resend)
      (λ resend. Ok (record row { pt = s.0; resend = resend; red = r.0 })) new r.2 in
      let m : Row = record row { pt = s.0; resend = q.0; red = r.0 } in
      let same : m ≡ new = ok_same m new q.2 in
      let pt_is = moved_is Main before now none_given row.pt s.0 s.1 in
      let P : Row → Type 0 = λ x. is_distinct (xs ++ (types_of x ++ ys)) ≡ true in
      subst P same (distinct_three s.0 q.0 r.0 xs ys (distinct_out xs (types_of row) ys d)
      (pt_out none_given s.0 pt_is)
      (λ t is. resend_ok none_given none_given s.0 t r.0 pt_is
      (moved_resend_is before now (given s.0 r.0) row.resend q.0 t q.1 is))
      (λ t is. red_ok s.0 q.0 r.0 t is pt_is q.1 (moved_red_is before now (given s.0 None) row.red r.0 t r.1 is)))
    where
      red_ok : (pt : ℕ) (resend red : Option ℕ) (t : ℕ) → red ≡ Some t
          → (pt ≡ row.pt) ⊎ (is_free before now none_given pt ≡ true)
          → moved_resend before now (given pt red) row.resend ≡ Ok resend
          → (row.red ≡ Some t) ⊎ (is_free before now (given pt None) t ≡ true)
          → (is_among (xs ++ ys) t || is_own (given pt resend) t) ≡ false
      red_ok pt None red t is p e q =
          or_none _ _ (red_out (given pt None) t q) (or_none _ _ (red_pt none_given pt t p q) refl)
      red_ok pt (Some s) red t is p e q =
          or_none _ _ (red_out (given pt None) t q) (or_none _ _ (red_pt none_given pt t p q)
          (red_resend pt red s t is (moved_resend_is before now (given pt red) row.resend (Some s) s e refl) q))

-- one more step of the last turns
settled_apart : (before done : List Row) (row : Row) (rest : List Row) (new : Row)
    → settled_row before (done ++ row ∷ rest) row ≡ Ok new → is_distinct (unlocked_types (done ++ row ∷ rest)) ≡ true
    → is_distinct (unlocked_types (done ++ new ∷ rest)) ≡ true
settled_apart before done row rest new e d = at row.locked refl e
  where
    at : (b : Bool) → row.locked ≡ b
        → (if b then Ok row else moved_row before (done ++ row ∷ rest) row) ≡ Ok new
        → is_distinct (unlocked_types (done ++ new ∷ rest)) ≡ true
    at true is f = rw (← (ok_same row new f)) d
    at false is f =
        let parts : unlocked_types (done ++ row ∷ rest)
        ≡ unlocked_types done ++ (types_of row ++ unlocked_types rest)
        = apart_append done (row ∷ rest) ∙ ap (λ l. unlocked_types done ++ l) (of_unlocked row rest is) in
        let still = (moves_of before (done ++ row ∷ rest) row new e).unlocked is in
        rw (apart_append done (new ∷ rest), of_unlocked new rest still.0)
        (moved_apart before (done ++ row ∷ rest) row (unlocked_types done) (unlocked_types rest) parts (rw parts at d)
        new f)

-- one more match
way_apart : (dictated : Bool) (remote done : List Row) (row : Row) (rest : List Row) (new : Row)
    → Way dictated remote (done ++ row ∷ rest) row new → is_distinct (unlocked_types (done ++ row ∷ rest)) ≡ true
    → is_distinct (unlocked_types (done ++ new ∷ rest)) ≡ true
way_apart dictated remote done row rest new (left is b same) d = rw same d
way_apart dictated remote done row rest new (stood is same) d =
    let still : new.locked ≡ true = ap (λ (x : Row). x.locked) same
    ∙ renegotiated_locked row (best_row row.spec remote) ∙ is in
    rw (apart_append done (new ∷ rest), of_locked new rest still)
    (rw (apart_append done (row ∷ rest), of_locked row rest is) at d)
way_apart dictated remote done row rest new (matched is best b made) d =
    let parts : unlocked_types (done ++ row ∷ rest)
    ≡ unlocked_types done ++ (types_of row ++ unlocked_types rest)
    = apart_append done (row ∷ rest) ∙ ap (λ l. unlocked_types done ++ l) (of_unlocked row rest is) in
    rw (apart_append done (new ∷ rest), of_locked new rest made.locked)
    (distinct_out (unlocked_types done) (types_of row) (unlocked_types rest) (rw parts at d))

pub unlocked_stay_apart : UnlockedTypesStayApart
unfolding round
unlocked_stay_apart dictated remote rows after apart e =
    let s = split_ok (standing_rows rows) (λ same. and_then (agreed_rows dictated remote rows rows)
    (λ agreed. settled_rows rows agreed)) after e in
    let a = split_ok (agreed_rows dictated remote rows rows) (λ agreed. settled_rows rows agreed) after s.2 in
    let P : List Row → Type 0 = λ l. is_distinct (unlocked_types l) ≡ true in
    let matched = turns_keep P (λ done row rest. agreed_row dictated remote rows (done ++ row ∷ rest) row)
    (λ done row rest new is. way_apart dictated remote done row rest new
    (way_of dictated remote rows (done ++ row ∷ rest) row new is)) [] rows a.0 a.1 apart in
    turns_keep P (λ done row rest. settled_row rows (done ++ row ∷ rest) row)
    (λ done row rest new is. settled_apart rows done row rest new is) [] a.0 after a.2 matched
