-- A suggested type is taken over, unless a locked row has it.
use Rattle.std.proofs.Common.{◌≡◌, ℕ, Bool, true, false, ◌&&◌, ◌||◌, List, [], ◌∷◌, ◌++◌, refl, sym, ◌∙◌, ap, subst}
use Rattle.std.proofs.Common.{append_assoc, append-nil, arith, inl, inr, ◌⊎◌, Option, Some, None, Ok}
use Rattle.std.specs.List.{list_any}
use Rattle.std.proofs.lemmas.Grind.{common_steps}
use Rattle.std.proofs.lemmas.List.Folds.{list_any-append}
use Rattle.sdp_formats_rows.specs.Rows.{Row}
use Rattle.media_types.specs.Codecs.{is_audio_codec}
use Rattle.sdp_formats_rounds.specs.declared.claims.Role.TheVariants.{Main}
use Rattle.sdp_formats_rounds.specs.Best.{best_row}
use Rattle.sdp_formats_rounds.specs.Types.{has_type, is_claimed, is_locked_type, locked_types}
use Rattle.sdp_formats_rounds.specs.Turns.{and_then, in_turn}
use Rattle.sdp_formats_rounds.specs.Rounds.{agreed_red, agreed_resend, agreed_row, agreed_rows, agreed_type, given}
use Rattle.sdp_formats_rounds.specs.Rounds.{instead_of, locked_as, matched_row, none_given, renegotiated, round}
use Rattle.sdp_formats_rounds.specs.Rounds.{settled_rows, standing_rows, tested}
use Rattle.sdp_formats_rounds.specs.Laws.{Along, SuggestedTypesTaken, TakesOver, is_among}
use Rattle.sdp_formats_rounds.proofs.Split.{along_join, ok_same, split_ok, turns_keep}
use Rattle.sdp_formats_rounds.proofs.Fresh.{tested_is}
use Rattle.sdp_formats_rounds.proofs.Locked.{locked_among}
use Rattle.sdp_formats_rounds.proofs.Matches.{Way, stood, matched, left, way_of}
use Rattle.sdp_formats_rounds.proofs.Settles.{Moves, moves_types, settled_along}

-- another row in the place of one
swapped_any : (p : Row → Bool) (done rest : List Row) (x y : Row) → (p x ≡ true → p y ≡ true)
    → list_any p (done ++ x ∷ rest) ≡ true → list_any p (done ++ y ∷ rest) ≡ true
swapped_any p done rest x y h e =
    let a = list_any-append p done (x ∷ rest) in
    let b = list_any-append p done (y ∷ rest) in
    grind (arith, common_steps)

-- a turn takes no type from the locked rows
turn_grows : (dictated : Bool) (remote done : List Row) (row : Row) (rest : List Row) (new : Row) (t : ℕ)
    → Way dictated remote (done ++ row ∷ rest) row new → is_locked_type (done ++ row ∷ rest) t ≡ true
    → is_locked_type (done ++ new ∷ rest) t ≡ true
turn_grows dictated remote done row rest new t (stood is same) e =
    swapped_any (λ r. r.locked && has_type r t) done rest row new (at (best_row row.spec remote) same) e
  where
    at : (o : Option Row) → new ≡ renegotiated row o → (row.locked && has_type row t) ≡ true
        → (new.locked && has_type new t) ≡ true
    at None s h = rw s h
    at (Some best) s h = rw s h
turn_grows dictated remote done row rest new t (left is b same) e =
    swapped_any (λ r. r.locked && has_type r t) done rest row new (λ h. rw same h) e
turn_grows dictated remote done row rest new t (matched is best b made) e =
    swapped_any (λ r. r.locked && has_type r t) done rest row new
    (λ h. absurd (let n : (row.locked && has_type row t) ≡ false = rw is refl in cc)) e

or_nothing : (a : Bool) → (a || (false || false)) ≡ true → a ≡ true
or_nothing true e = refl
or_nothing false e = e

-- the type that a match gives if none is dictated
given_type : (before now : List Row) (ours : Option ℕ) (theirs t : ℕ)
    → agreed_type Main false before now none_given ours theirs ≡ Ok t
    → (t ≡ theirs) ⊎ (is_locked_type now theirs ≡ true)
given_type before now ours theirs t e =
    let s = split_ok (tested Main now none_given theirs) (instead_of Main false before now none_given ours theirs) t
    e in
    at s.0 (tested_is Main now none_given theirs s.0 s.1) s.2
  where
    at : (claimed : Bool) → is_claimed now none_given theirs ≡ claimed
        → instead_of Main false before now none_given ours theirs claimed ≡ Ok t
        → (t ≡ theirs) ⊎ (is_locked_type now theirs ≡ true)
    at true is f = inr (or_nothing (is_locked_type now theirs) is)
    at false is f = let same : theirs ≡ t = ok_same theirs t f in inl (sym same)

suggested_type : (before now : List Row) (row best new : Row) → matched_row false before now row best ≡ Ok new
    → (new.locked ≡ true) × ((new.pt ≡ best.pt) ⊎ (is_locked_type now best.pt ≡ true))
unfolding locked_as
suggested_type before now row best new e =
    let s = split_ok (agreed_type Main false before now none_given (Some row.pt) best.pt)
    (λ pt. and_then (agreed_resend false before now (given pt None) row.resend best.resend)
    (λ resend. and_then (agreed_red false before now (given pt resend) (is_audio_codec row.spec.codec) row.red best.red)
    (λ red. Ok (locked_as row best pt resend red)))) new e in
    let r = split_ok (agreed_resend false before now (given s.0 None) row.resend best.resend)
    (λ resend. and_then (agreed_red false before now (given s.0 resend)
    (is_audio_codec row.spec.codec) row.red best.red)
    (λ red. Ok (locked_as row best s.0 resend red))) new s.2 in
    let d = split_ok (agreed_red false before now (given s.0 r.0) (is_audio_codec row.spec.codec) row.red best.red)
    (λ red. Ok (locked_as row best s.0 r.0 red)) new r.2 in
    let made : Row = locked_as row best s.0 r.0 d.0 in
    let same : made ≡ new = ok_same made new d.2 in
    let P : Row → Type 0 = λ n. (n.locked ≡ true) × ((n.pt ≡ best.pt) ⊎ (is_locked_type now best.pt ≡ true)) in
    subst P same (refl, given_type before now (Some row.pt) best.pt s.0 s.1)

-- what the turn of a row takes over
abbrev Takes : List Row → List Row → Row → Row → Type 0
Takes remote final row new = (best : Row) → row.locked ≡ false → best_row row.spec remote ≡ Some best
    → (new.locked ≡ true) × ((new.pt ≡ best.pt) ⊎ (is_locked_type final best.pt ≡ true))

taken_at : (remote before now final : List Row) (row new : Row) → agreed_row false remote before now row ≡ Ok new
    → ((t : ℕ) → is_locked_type now t ≡ true → is_locked_type final t ≡ true) → Takes remote final row new
unfolding locked_as
taken_at remote before now final row new e grows best is b =
    let m : matched_row false before now row best ≡ Ok new = rw b at (rw is at e) in
    let t = suggested_type before now row best new m in
    (t.0, at t.1)
  where
    at : (new.pt ≡ best.pt) ⊎ (is_locked_type now best.pt ≡ true)
        → (new.pt ≡ best.pt) ⊎ (is_locked_type final best.pt ≡ true)
    at (inl q) = inl q
    at (inr q) = inr (grows best.pt q)

-- the locked types of a turn are among those at the end
turns_grow_types : (remote before done rows after : List Row) (t : ℕ)
    → in_turn (λ done row rest. agreed_row false remote before (done ++ row ∷ rest) row) done rows ≡ Ok after
    → is_locked_type (done ++ rows) t ≡ true → is_locked_type after t ≡ true
turns_grow_types remote before done rows after t e p =
    turns_keep (λ l. is_locked_type l t ≡ true)
    (λ done row rest. agreed_row false remote before (done ++ row ∷ rest) row)
    (λ done row rest new is q. turn_grows false remote done row rest new t
    (way_of false remote before (done ++ row ∷ rest) row new is) q)
    done rows after e p

turns_taken : (remote before done rows after : List Row)
    → in_turn (λ done row rest. agreed_row false remote before (done ++ row ∷ rest) row) done rows ≡ Ok after
    → (made : List Row) × (after ≡ done ++ made) × Along (Takes remote after) rows made
turns_taken remote before done [] after e = ([], sym (append-nil done ∙ ok_same done after e), tt)
turns_taken remote before done (row ∷ rest) after e =
    let s = split_ok (agreed_row false remote before (done ++ row ∷ rest) row)
    (λ new. in_turn (λ done row rest. agreed_row false remote before (done ++ row ∷ rest) row) (done ++ new ∷ []) rest)
    after e in
    let more = turns_taken remote before (done ++ s.0 ∷ []) rest after s.2 in
    let grows : (t : ℕ) → is_locked_type (done ++ row ∷ rest) t ≡ true → is_locked_type after t ≡ true =
    λ t p. turns_grow_types remote before done (row ∷ rest) after t e p in (
      s.0 ∷ more.0,
      more.1 ∙ append_assoc done (s.0 ∷ []) more.0,
      (taken_at remote before (done ++ row ∷ rest) after row s.0 s.1 grows, more.2),
    )

taken_after : (remote mid after : List Row) → locked_types mid ≡ locked_types after → (row x new : Row)
    → Takes remote mid row x → Moves x new → TakesOver remote (locked_types after) row new
taken_after remote mid after types row x new takes moves best is b =
    let t = takes best is b in at (moves.kept t.0) t.1
  where
    at : new ≡ x → (x.pt ≡ best.pt) ⊎ (is_locked_type mid best.pt ≡ true)
        → (new.pt ≡ best.pt) ⊎ (is_among (locked_types after) best.pt ≡ true)
    at same (inl q) = inl (ap (λ (r : Row). r.pt) same ∙ q)
    at same (inr q) = inr (let P : List ℕ → Type 0 = λ l. is_among l best.pt ≡ true in
        subst P types (sym (locked_among mid best.pt) ∙ q))

pub suggested_types_taken : SuggestedTypesTaken
unfolding round
suggested_types_taken remote rows after e =
    let s = split_ok (standing_rows rows) (λ same. and_then (agreed_rows false remote rows rows)
    (λ agreed. settled_rows rows agreed)) after e in
    let a = split_ok (agreed_rows false remote rows rows) (λ agreed. settled_rows rows agreed) after s.2 in
    let moves = settled_along rows a.0 after a.2 in
    let types : locked_types a.0 ≡ locked_types after = sym (moves_types a.0 after moves) in
    let t = turns_taken remote rows [] rows a.0 a.1 in
    let takes : Along (Takes remote a.0) rows a.0 =
    let P : List Row → Type 0 = Along (Takes remote a.0) rows in subst P (sym t.1) t.2 in
    along_join (Takes remote a.0) Moves (TakesOver remote (locked_types after))
    (λ x y z p q. taken_after remote a.0 after types x y z p q) rows a.0 after takes moves
