-- Types of seven bits stay such.
use Rattle.std.proofs.Common.{◌≡◌, ℕ, Bool, true, false, ◌&&◌, nat_lt, List, [], ◌∷◌, ◌++◌, refl, ◌∙◌, arith, Option}
use Rattle.std.proofs.Common.{Some, None, Result, Ok, Err, find, if◌then◌else◌}
use Rattle.std.proofs.lemmas.Grind.{common_steps}
use Rattle.std.specs.List.{list_all}
use Rattle.media_types.specs.Codecs.{is_audio_codec}
use Rattle.sdp_formats_rows.specs.Plain.{has_plain_types, is_type}
use Rattle.sdp_formats_rows.specs.Rows.{Row}
use Rattle.sdp_formats_rounds.specs.declared.error.RoundError.{RoundError}
use Rattle.sdp_formats_rounds.specs.declared.claims.Own.{Own}
use Rattle.sdp_formats_rounds.specs.declared.claims.Role.{Role}
use Rattle.sdp_formats_rounds.specs.declared.claims.Role.TheVariants.{Main, Resend}
use Rattle.sdp_formats_rounds.specs.Best.{best_row}
use Rattle.sdp_formats_rounds.specs.Types.{free_type, is_claimed, is_free, preferred}
use Rattle.sdp_formats_rounds.specs.Turns.{and_then}
use Rattle.sdp_formats_rounds.specs.Rounds.{tested, found, kept_or_free, fallback, instead_of, agreed_type}
use Rattle.sdp_formats_rounds.specs.Rounds.{agreed_resend, red_instead_of, agreed_red, taken, none_given, given}
use Rattle.sdp_formats_rounds.specs.Rounds.{locked_as, matched_row, matched_if, open_best, renegotiated, agreed_row}
use Rattle.sdp_formats_rounds.specs.Rounds.{agreed_rows, moved_type, moved_red, moved_resend, moved_row, red_or_free}
use Rattle.sdp_formats_rounds.specs.Rounds.{settled_row, settled_rows, standing_rows, round}
use Rattle.sdp_formats_rounds.specs.TypeLaws.{TypesStaySmall}
use Rattle.sdp_formats_rounds.proofs.Split.{split_ok, ok_same, turns_keep}

all_find : (q p : ℕ → Bool) (xs : List ℕ) (t : ℕ) → list_all q xs ≡ true → find p xs ≡ Some t → q t ≡ true
all_find q p [] t a e = cc
all_find q p (x ∷ xs) t a e =
    let ih : list_all q xs ≡ true → find p xs ≡ Some t → q t ≡ true = all_find q p xs t in
    grind (arith, common_steps)

preferred_small : list_all (λ t. nat_lt t 128) preferred ≡ true
unfolding preferred
preferred_small = refl

free_small : (before now : List Row) (own : Own) → is_type (free_type before now own) ≡ true
free_small before now own = at (free_type before now own) refl
  where
    at : (o : Option ℕ) → free_type before now own ≡ o → is_type o ≡ true
    at None e = refl
    at (Some t) e = all_find (λ u. nat_lt u 128) (is_free before now own) preferred t preferred_small e

found_small : (before now : List Row) (own : Own) (t : ℕ) → found (free_type before now own) ≡ Ok t
    → nat_lt t 128 ≡ true
found_small before now own t e = at (free_type before now own) refl e
  where
    at : (o : Option ℕ) → free_type before now own ≡ o → found o ≡ Ok t → nat_lt t 128 ≡ true
    at None is e = cc
    at (Some u) is e =
        let same : u ≡ t = (cc) in
        all_find (λ u. nat_lt u 128) (is_free before now own) preferred t preferred_small (rw same at is)

tested_small : (role : Role) (now : List Row) (own : Own) (t : ℕ) (claimed : Bool)
    → tested role now own t ≡ Ok claimed → nat_lt t 128 ≡ true
tested_small role now own t claimed e = at (nat_lt 127 t) refl e
  where
    at : (above : Bool) → nat_lt 127 t ≡ above → (let r : Result Bool RoundError = if above then Err (taken role t)
        else Ok (is_claimed now own t) in r ≡ Ok claimed) → nat_lt t 128 ≡ true
    at true is e = cc
    at false is e = grind (arith, common_steps)

kept_small : (before now : List Row) (own : Own) (o t : ℕ) (claimed : Bool) → nat_lt o 128 ≡ true
    → kept_or_free before now own o claimed ≡ Ok t → nat_lt t 128 ≡ true
kept_small before now own o t true s e = found_small before now own t e
kept_small before now own o t false s e = let same : o ≡ t = (cc) in rw (← same) s

fallback_small : (role : Role) (before now : List Row) (own : Own) (ours : Option ℕ) (t : ℕ)
    → fallback role before now own ours ≡ Ok t → nat_lt t 128 ≡ true
fallback_small role before now own None t e = found_small before now own t e
fallback_small role before now own (Some o) t e =
    let s = split_ok (tested role now own o) (kept_or_free before now own o) t e in
    kept_small before now own o t s.0 (tested_small role now own o s.0 s.1) s.2

instead_small : (role : Role) (dictated : Bool) (before now : List Row) (own : Own) (ours : Option ℕ)
    (theirs t : ℕ) (claimed : Bool) → nat_lt theirs 128 ≡ true
    → instead_of role dictated before now own ours theirs claimed ≡ Ok t → nat_lt t 128 ≡ true
instead_small role dictated before now own ours theirs t false s e = let same : theirs ≡ t = (cc) in rw (← same) s
instead_small role true before now own ours theirs t true s e = cc
instead_small role false before now own ours theirs t true s e = fallback_small role before now own ours t e

agreed_small : (role : Role) (dictated : Bool) (before now : List Row) (own : Own) (ours : Option ℕ) (theirs t : ℕ)
    → agreed_type role dictated before now own ours theirs ≡ Ok t → nat_lt t 128 ≡ true
agreed_small role dictated before now own ours theirs t e =
    let s = split_ok (tested role now own theirs) (instead_of role dictated before now own ours theirs) t e in
    instead_small role dictated before now own ours theirs t s.0 (tested_small role now own theirs s.0 s.1) s.2

resend_small : (dictated : Bool) (before now : List Row) (own : Own) (ours theirs resend : Option ℕ)
    → agreed_resend dictated before now own ours theirs ≡ Ok resend → is_type resend ≡ true
resend_small dictated before now own ours None resend e = let same : None ≡ resend = ok_same None resend e in
    rw (← same) refl
resend_small dictated before now own ours (Some theirs) resend e =
    let s = split_ok (agreed_type Resend dictated before now own ours theirs) (λ t. Ok (Some t)) resend e in
    rw (← (ok_same (Some s.0) resend s.2)) (agreed_small Resend dictated before now own ours theirs s.0 s.1)

red_instead_small : (dictated : Bool) (before now : List Row) (own : Own) (theirs : ℕ) (claimed : Bool)
    (red : Option ℕ) → nat_lt theirs 128 ≡ true → red_instead_of dictated before now own theirs claimed ≡ Ok red
    → is_type red ≡ true
red_instead_small dictated before now own theirs false red s e = rw (← (ok_same (Some theirs) red e)) s
red_instead_small true before now own theirs true red s e = let same : None ≡ red = ok_same None red e in
    rw (← same) refl
red_instead_small false before now own theirs true red s e =
    rw (← (ok_same (free_type before now own) red e)) (free_small before now own)

none_small : (red : Option ℕ) → (let r : Result (Option ℕ) RoundError = Ok None in r ≡ Ok red) → is_type red ≡ true
none_small red e = let same : None ≡ red = ok_same None red e in rw (← same) refl

red_small : (dictated : Bool) (before now : List Row) (own : Own) (audio : Bool) (ours theirs red : Option ℕ)
    → agreed_red dictated before now own audio ours theirs ≡ Ok red → is_type red ≡ true
red_small dictated before now own true (Some o) (Some u) red e =
    let s = split_ok (tested Main now own u) (red_instead_of dictated before now own u) red e in
    red_instead_small dictated before now own u s.0 red (tested_small Main now own u s.0 s.1) s.2
red_small dictated before now own false o u red e = none_small red e
red_small dictated before now own true None u red e = none_small red e
red_small dictated before now own true (Some o) None red e = none_small red e

-- three types
three : (pt : ℕ) (resend red : Option ℕ) → nat_lt pt 128 ≡ true → is_type resend ≡ true → is_type red ≡ true
    → (nat_lt pt 128 && is_type resend && is_type red) ≡ true
three pt resend red a b c = rw (a, b, c) refl

made_small : (row best : Row) (pt : ℕ) (resend red : Option ℕ) → nat_lt pt 128 ≡ true → is_type resend ≡ true
    → is_type red ≡ true → has_plain_types (locked_as row best pt resend red) ≡ true
unfolding locked_as
made_small row best pt resend red a b c = three pt resend red a b c

matched_small : (dictated : Bool) (before now : List Row) (row best new : Row)
    → matched_row dictated before now row best ≡ Ok new → has_plain_types new ≡ true
matched_small dictated before now row best new e =
    let s = split_ok (agreed_type Main dictated before now none_given (Some row.pt) best.pt)
    (λ pt. and_then (agreed_resend dictated before now (given pt None) row.resend best.resend)
    (λ resend. and_then (agreed_red dictated before now (given pt resend)
    (is_audio_codec row.spec.codec) row.red best.red)
    (λ red. Ok (locked_as row best pt resend red)))) new e in
    let r = split_ok (agreed_resend dictated before now (given s.0 None) row.resend best.resend)
    (λ resend. and_then (agreed_red dictated before now (given s.0 resend)
    (is_audio_codec row.spec.codec) row.red best.red)
    (λ red. Ok (locked_as row best s.0 resend red))) new s.2 in
    let d = split_ok (agreed_red dictated before now (given s.0 r.0) (is_audio_codec row.spec.codec) row.red best.red)
    (λ red. Ok (locked_as row best s.0 r.0 red)) new r.2 in
    rw (← (ok_same (locked_as row best s.0 r.0 d.0) new d.2))
    (made_small row best s.0 r.0 d.0
    (agreed_small Main dictated before now none_given (Some row.pt) best.pt s.0 s.1)
    (resend_small dictated before now (given s.0 None) row.resend best.resend r.0 r.1)
    (red_small dictated before now (given s.0 r.0) (is_audio_codec row.spec.codec) row.red best.red d.0 d.1))

renegotiated_small : (row : Row) (o : Option Row) → has_plain_types (renegotiated row o) ≡ has_plain_types row
renegotiated_small row None = refl
renegotiated_small row (Some best) = refl

turned_small : (dictated : Bool) (remote before now : List Row) (row new : Row)
    → agreed_row dictated remote before now row ≡ Ok new → has_plain_types row ≡ true → has_plain_types new ≡ true
turned_small dictated remote before now row new e s = at row.locked e
  where
    open_at : (o : Option Row) → matched_if dictated before now row o ≡ Ok new → has_plain_types new ≡ true
    open_at None f = rw (← (ok_same row new f)) s
    open_at (Some best) f = matched_small dictated before now row best new f

    at : (b : Bool) → (if b then Ok (renegotiated row (best_row row.spec remote)) else and_then
        (open_best dictated remote now row) (matched_if dictated before now row)) ≡ Ok new
        → has_plain_types new ≡ true
    at true f = rw (← (ok_same (renegotiated row (best_row row.spec remote)) new f))
        (renegotiated_small row (best_row row.spec remote) ∙ s)
    at false f =
        let s = split_ok (open_best dictated remote now row) (matched_if dictated before now row) new f in
        open_at s.0 s.2

moved_type_small : (role : Role) (before now : List Row) (own : Own) (t u : ℕ)
    → moved_type role before now own t ≡ Ok u → nat_lt u 128 ≡ true
moved_type_small role before now own t u e =
    let s = split_ok (tested role now none_given t) (kept_or_free before now own t) u e in
    kept_small before now own t u s.0 (tested_small role now none_given t s.0 s.1) s.2

moved_resend_small : (before now : List Row) (own : Own) (resend new : Option ℕ)
    → moved_resend before now own resend ≡ Ok new → is_type new ≡ true
moved_resend_small before now own None new e = none_small new e
moved_resend_small before now own (Some t) new e =
    let s = split_ok (moved_type Resend before now own t) (λ v. Ok (Some v)) new e in
    rw (← (ok_same (Some s.0) new s.2)) (moved_type_small Resend before now own t s.0 s.1)

moved_red_small : (before now : List Row) (own : Own) (red new : Option ℕ)
    → moved_red before now own red ≡ Ok new → is_type new ≡ true
moved_red_small before now own None new e = none_small new e
moved_red_small before now own (Some t) new e =
    let s = split_ok (tested Main now none_given t) (red_or_free before now own t) new e in
    at s.0 (tested_small Main now none_given t s.0 s.1) s.2
  where
    at : (claimed : Bool) → nat_lt t 128 ≡ true → red_or_free before now own t claimed ≡ Ok new → is_type new ≡ true
    at true w f = rw (← (ok_same (free_type before now own) new f)) (free_small before now own)
    at false w f = rw (← (ok_same (Some t) new f)) w

moved_small : (before now : List Row) (row new : Row) → moved_row before now row ≡ Ok new → has_plain_types new ≡ true
moved_small before now row new e =
    let s = split_ok (moved_type Main before now none_given row.pt)
    (λ pt. and_then (moved_red before now (given pt None) row.red)
    (λ red. and_then (moved_resend before now (given pt red) row.resend)
    (λ resend. Ok (record row { pt = pt; resend = resend; red = red })))) new e in
    let r = split_ok (moved_red before now (given s.0 None) row.red)
    (λ red. and_then (moved_resend before now (given s.0 red) row.resend)
    (λ resend. Ok (record row { pt = s.0; resend = resend; red = red }))) new s.2 in
    let d = split_ok (moved_resend before now (given s.0 r.0) row.resend)
    (λ resend. Ok (record row { pt = s.0; resend = resend; red = r.0 })) new r.2 in
    let m : Row = record row { pt = s.0; resend = d.0; red = r.0 } in
    let same : m ≡ new = ok_same m new d.2 in
    rw (← same) (three s.0 d.0 r.0 (moved_type_small Main before now none_given row.pt s.0 s.1)
    (moved_resend_small before now (given s.0 r.0) row.resend d.0 d.1)
    (moved_red_small before now (given s.0 None) row.red r.0 r.1))

settled_small : (before now : List Row) (row new : Row) → settled_row before now row ≡ Ok new
    → has_plain_types row ≡ true → has_plain_types new ≡ true
settled_small before now row new e s = at row.locked e
  where
    at : (b : Bool) → (let r : Result Row RoundError = if b then Ok row else moved_row before now row in r ≡ Ok new)
        → has_plain_types new ≡ true
    at true f = rw (← (ok_same row new f)) s
    at false f = moved_small before now row new f

-- one row in the place of another
all_place : (p : Row → Bool) (done rest : List Row) (row new : Row) → (p row ≡ true → p new ≡ true)
    → list_all p (done ++ row ∷ rest) ≡ true → list_all p (done ++ new ∷ rest) ≡ true
all_place p [] rest row new h a = grind (arith, common_steps)
all_place p (x ∷ done) rest row new h a =
    let ih : list_all p (done ++ row ∷ rest) ≡ true → list_all p (done ++ new ∷ rest) ≡ true
    = all_place p done rest row new h in
    grind (arith, common_steps)

pub types_stay_small : TypesStaySmall
unfolding round
types_stay_small dictated remote rows after small e =
    let s = split_ok (standing_rows rows) (λ same. and_then (agreed_rows dictated remote rows rows)
    (λ agreed. settled_rows rows agreed)) after e in
    let a = split_ok (agreed_rows dictated remote rows rows) (λ agreed. settled_rows rows agreed) after s.2 in
    let P : List Row → Type 0 = λ l. list_all has_plain_types l ≡ true in
    let matched = turns_keep P (λ done row rest. agreed_row dictated remote rows (done ++ row ∷ rest) row)
    (λ done row rest new is. all_place has_plain_types done rest row new
    (turned_small dictated remote rows (done ++ row ∷ rest) row new is)) [] rows a.0 a.1 small in
    turns_keep P (λ done row rest. settled_row rows (done ++ row ∷ rest) row)
    (λ done row rest new is. all_place has_plain_types done rest row new
    (settled_small rows (done ++ row ∷ rest) row new is)) [] a.0 after a.2 matched
