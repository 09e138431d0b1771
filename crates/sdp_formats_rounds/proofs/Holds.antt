-- The laws of rounds.
use Rattle.std.proofs.Common.{◌≡◌, ◌≢◌, Bool, true, false, not, ◌&&◌, List, [], ◌∷◌, ◌++◌, refl, sym, ◌∙◌, ap, Option}
use Rattle.std.proofs.Common.{Some, None, Ok, if◌then◌else◌, subst}
use Rattle.std.specs.Prelude.{filter, is_none}
use Rattle.sdp_formats_rows.specs.Rows.{Row}
use Rattle.media_types.specs.declared.codec.Codec.TheVariants.{AmrWb}
use Rattle.sdp_formats_rows.specs.Codecs.{is_codec}
use Rattle.sdp_formats_rounds.specs.Best.{best_row}
use Rattle.sdp_formats_rows.specs.Scores.{score}
use Rattle.sdp_formats_rounds.specs.Types.{locked_types, is_locked_type}
use Rattle.sdp_formats_rounds.specs.Turns.{and_then}
use Rattle.sdp_formats_rounds.specs.Rounds.{standing_rows, agreed_row, agreed_rows, settled_rows, renegotiated}
use Rattle.sdp_formats_rounds.specs.Rounds.{open_best}
use Rattle.sdp_formats_rounds.specs.Rounds.{best_open, first_above, unless_above, round}
use Rattle.sdp_formats_rounds.specs.Laws.{is_distinct, Along, Becomes, LockedTypesDistinct, RowsBecome, rounds, Keeps}
use Rattle.sdp_formats_rounds.specs.Laws.{KeepsFeedback, LockedRowsKeepTypes}
use Rattle.sdp_formats_rounds.specs.Members.{IsIn}
use Rattle.sdp_formats_rounds.proofs.Split.{split_ok, ok_same, turns_along, along_join}
use Rattle.sdp_formats_rounds.proofs.Bests.{best_in, best_matches, fewer_none, in_filter}
use Rattle.sdp_formats_rounds.proofs.Locks.{standing_distinct, standing_same}
use Rattle.sdp_formats_rounds.proofs.Matches.{Way, stood, matched, left, renegotiated_locked, way_of, agreed_distinct}
use Rattle.sdp_formats_rounds.proofs.Settles.{Moves, moves_types, same_feedback, settled_along}

pub locked_types_distinct : LockedTypesDistinct
unfolding round
locked_types_distinct dictated remote rows after e =
    let s = split_ok (standing_rows rows) (λ same. and_then (agreed_rows dictated remote rows rows)
    (λ agreed. settled_rows rows agreed)) after e in
    let a = split_ok (agreed_rows dictated remote rows rows) (λ agreed. settled_rows rows agreed) after s.2 in
    let d : is_distinct (locked_types rows) ≡ true = rw (standing_same rows s.0 s.1) at
    (standing_distinct rows s.0 s.1) in
    rw (moves_types a.0 after (settled_along rows a.0 after a.2)) (agreed_distinct dictated remote rows rows a.0 a.1 d)

-- the best remote row of an open one matches, and is among those of all
open_matches : (dictated : Bool) (remote now : List Row) (row best : Row)
    → open_best dictated remote now row ≡ Ok (Some best) → (score row.spec best.spec ≢ None) ×
    (best_row row.spec remote ≢ None)
open_matches dictated remote now row best e = at (dictated && is_codec row.spec.codec AmrWb) e
  where
    above_at : (o : Option Row) → unless_above o (best_open remote now row) ≡ Ok (Some best)
        → (score row.spec best.spec ≢ None) × (best_row row.spec remote ≢ None)
    above_at None f =
        let is = ok_same (best_open remote now row) (Some best) f in (
          best_matches row.spec (filter (λ r. not (is_locked_type now r.pt)) remote) best is,
          λ none. let n =
              fewer_none row.spec (λ r. not (is_locked_type now r.pt)) remote none in cc,
        )
    above_at (Some r) f = absurd (cc)

    at : (b : Bool) → (if b then unless_above (first_above remote) (best_open remote now row) else Ok
        (best_row row.spec remote)) ≡ Ok (Some best) → (score row.spec best.spec ≢ None) ×
        (best_row row.spec remote ≢ None)
    at true f = above_at (first_above remote) f
    at false f = let is = ok_same (best_row row.spec remote) (Some best) f in
        (best_matches row.spec remote best is, λ none. cc)

-- it is one of the remote rows
pub open_one_of : (dictated : Bool) (remote now : List Row) (row best : Row)
    → open_best dictated remote now row ≡ Ok (Some best) → IsIn best remote
open_one_of dictated remote now row best e = at (dictated && is_codec row.spec.codec AmrWb) e
  where
    above_at : (o : Option Row) → unless_above o (best_open remote now row) ≡ Ok (Some best) → IsIn best remote
    above_at None f =
        let few = filter (λ r. not (is_locked_type now r.pt)) remote in
        in_filter (λ r. not (is_locked_type now r.pt)) remote best
        (best_in row.spec few best (ok_same (best_open remote now row) (Some best) f))
    above_at (Some r) f = absurd (cc)

    at : (b : Bool) → (if b then unless_above (first_above remote) (best_open remote now row) else Ok
        (best_row row.spec remote)) ≡ Ok (Some best) → IsIn best remote
    at true f = above_at (first_above remote) f
    at false f = best_in row.spec remote best (ok_same (best_row row.spec remote) (Some best) f)

-- if none are left aside it is the best of all
open_is_best : (dictated : Bool) (remote now : List Row) (row best : Row)
    → open_best dictated remote now row ≡ Ok (Some best) → (dictated && is_codec row.spec.codec AmrWb) ≡ false
    → best_row row.spec remote ≡ Some best
open_is_best dictated remote now row best e all = ok_same (best_row row.spec remote) (Some best) (rw all at e)

renegotiated_feedback : (row : Row) (o : Option Row) → KeepsFeedback row (renegotiated row o)
renegotiated_feedback row None = (refl, refl, refl, refl)
renegotiated_feedback row (Some best) = (refl, refl, refl, refl)

kept_on : (row mid new : Row) → KeepsFeedback row mid → KeepsFeedback mid new → KeepsFeedback row new
kept_on row mid new a b = (b.0 ∙ a.0, b.1 ∙ a.1, b.2 ∙ a.2, b.3 ∙ a.3)

-- if none are left aside one that matches is found
open_is_found : (dictated : Bool) (remote now : List Row) (row best : Row) → open_best dictated remote now row ≡ Ok None
    → (dictated && is_codec row.spec.codec AmrWb) ≡ false → best_row row.spec remote ≡ Some best → ⊥
open_is_found dictated remote now row best e all is =
    let none : best_row row.spec remote ≡ None = ok_same (best_row row.spec remote) None (rw all at e) in cc

becomes : (dictated : Bool) (remote now : List Row) (row mid new : Row) → Way dictated remote now row mid
    → Moves mid new → Becomes dictated remote row new
becomes dictated remote now row mid new (stood is same) m =
    let locked : mid.locked ≡ true = ap (λ (x : Row). x.locked) same ∙ renegotiated_locked row
    (best_row row.spec remote) ∙ is in
    let whole : new ≡ renegotiated row (best_row row.spec remote) = m.kept locked ∙ same in
    record {
      stands = λ _. whole;
      locks = λ no _. absurd (cc);
      stays = λ no. absurd (let t : new.locked ≡ true = ap (λ (x : Row). x.locked) (m.kept locked) ∙ locked in cc);
      unmatched = λ none. let w : new ≡ row = whole ∙ ap (renegotiated row) none in (
        ap (λ (x : Row). x.spec) w,
        ap (λ
            (x : Row). x.locked) w,
      );
      meets = λ best _ _. ap (λ (x : Row). x.locked) (m.kept locked) ∙ locked;
      feedback = kept_on row mid new (let P : Row → Type 0 = KeepsFeedback row in
          subst P (sym same) (renegotiated_feedback row (best_row row.spec remote))) m.feedback;
    }
becomes dictated remote now row mid new (matched is best b made) m =
    let same : new ≡ mid = m.kept made.locked in
    let found = open_matches dictated remote now row best b in
    record {
      stands = λ yes. absurd (cc);
      locks = λ _ _. record {
        best = best;
        one_of = open_one_of dictated remote now row best b;
        matches = found.0;
        is_best = λ all. open_is_best dictated remote now row best b all;
        settings = ap (λ (x : Row). x.spec) same ∙ made.settings;
        feedback = ap (λ (x : Row). x.transport_cc) same ∙ made.feedback;
        types = λ d. let t = made.types d in (ap (λ (x : Row). x.pt) same ∙ t.0, ap (λ (x : Row). x.resend) same ∙ t.1);
        resend = ap (λ (x : Row). is_none x.resend) same ∙ made.resend;
        red = λ t is. made.red t (sym (ap (λ (x : Row). x.red) same) ∙ is);
      };
      stays = λ no. absurd (let t : new.locked ≡ true = ap (λ (x : Row). x.locked) same ∙ made.locked in cc);
      unmatched = λ none. absurd (found.1 none);
      meets = λ _ _ _. ap (λ (x : Row). x.locked) same ∙ made.locked;
      feedback = kept_on row mid new made.others m.feedback;
    }
becomes dictated remote now row mid new (left is b same) m =
    let no : mid.locked ≡ false = ap (λ (x : Row). x.locked) same ∙ is in
    let u = m.unlocked no in
    record {
      stands = λ yes. absurd (cc);
      locks = λ _ yes. absurd (let f : new.locked ≡ false = u.0 in cc);
      stays = λ _. (u.1 ∙ ap (λ (x : Row). x.spec) same, u.2 ∙ ap (λ (x : Row). x.transport_cc) same, is);
      unmatched = λ _. (u.1 ∙ ap (λ (x : Row). x.spec) same, u.0 ∙ sym is);
      meets = λ best found all. absurd (open_is_found dictated remote now row best b all found);
      feedback = kept_on row mid new (same_feedback row mid same) m.feedback;
    }

-- some rows by then
abbrev pub SomeWay : Bool → List Row → Row → Row → Type 0
SomeWay dictated remote row new = (now : List Row) × Way dictated remote now row new

pub rows_become : RowsBecome
unfolding round
rows_become dictated remote rows after e =
    let s = split_ok (standing_rows rows) (λ same. and_then (agreed_rows dictated remote rows rows)
    (λ agreed. settled_rows rows agreed)) after e in
    let a = split_ok (agreed_rows dictated remote rows rows) (λ agreed. settled_rows rows agreed) after s.2 in
    let w = turns_along (SomeWay dictated remote) (λ done row rest. agreed_row dictated remote rows
    (done ++ row ∷ rest) row)
    (λ done row rest new is. (
      done ++ row ∷ rest,
      way_of dictated remote rows
          (done ++ row ∷ rest) row new is,
    )) [] rows a.0 a.1 in
    let same : a.0 ≡ w.0 = w.1 in
    let ways : Along (SomeWay dictated remote) rows a.0 = rw same w.2 in
    along_join (SomeWay dictated remote) Moves (Becomes dictated remote)
    (λ x y z p q. becomes dictated remote p.0 x y z p.1 q) rows a.0 after ways (settled_along rows a.0 after a.2)

renegotiated_keeps : (row : Row) (o : Option Row) → Keeps row (renegotiated row o)
renegotiated_keeps row None = record { locked = λ is. is; pt = λ _. refl; resend = λ _. refl; red = λ _. refl }
renegotiated_keeps row (Some best) = record { locked = λ is. is; pt = λ _. refl; resend = λ _. refl; red = λ _. refl }

becomes_keeps : (dictated : Bool) (remote : List Row) (row new : Row) → Becomes dictated remote row new → Keeps row new
becomes_keeps dictated remote row new b =
    let k = renegotiated_keeps row (best_row row.spec remote) in
    record {
      locked = λ is. ap (λ (x : Row). x.locked) (b.stands is) ∙ k.locked is;
      pt = λ is. ap (λ (x : Row). x.pt) (b.stands is) ∙ k.pt is;
      resend = λ is. ap (λ (x : Row). x.resend) (b.stands is) ∙ k.resend is;
      red = λ is. ap (λ (x : Row). x.red) (b.stands is) ∙ k.red is;
    }

keeps_on : (x y z : Row) → Keeps x y → Keeps y z → Keeps x z
keeps_on x y z a b = record {
  locked = λ is. b.locked (a.locked is);
  pt = λ is. b.pt (a.locked is) ∙ a.pt is;
  resend = λ is. b.resend (a.locked is) ∙ a.resend is;
  red = λ is. b.red (a.locked is) ∙ a.red is;
}

keeps_self : (rows : List Row) → Along Keeps rows rows
keeps_self [] = tt
keeps_self (row ∷ rows) = (
  record { locked = λ is. is; pt = λ _. refl; resend = λ _. refl; red = λ _. refl },
  keeps_self rows,
)

keeps_row : (x y z : Row) (dictated : Bool) (remote : List Row) → Becomes dictated remote x y → Keeps y z → Keeps x z
keeps_row x y z dictated remote b k = keeps_on x y z (becomes_keeps dictated remote x y b) k

pub locked_rows_keep : LockedRowsKeepTypes
locked_rows_keep [] rows after e = rw (← (ok_same rows after e)) (keeps_self rows)
locked_rows_keep (s ∷ sections) rows after e =
    let r = split_ok (round s.dictated s.rows rows) (rounds sections) after e in
    along_join (Becomes s.dictated s.rows) Keeps Keeps (λ x y z b k. keeps_row x y z s.dictated s.rows b k) rows r.0
    after
    (rows_become s.dictated s.rows rows r.0 r.1) (locked_rows_keep sections r.0 after r.2)
