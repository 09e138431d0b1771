-- A row's turns, over its claims.
use Rattle.std.proofs.Common.{◌≡◌, ℕ, Bool, true, false, not, List, [], ◌∷◌, refl, sym, ◌∙◌, ap, inl, inr, Option, Some}
use Rattle.std.proofs.Common.{None, Result, Ok, Err, filter, if◌then◌else◌}
use Rattle.media_types.specs.Codecs.{is_audio_codec}
use Rattle.sdp_formats_rows.specs.Rows.{Row}
use Rattle.sdp_formats_rounds.specs.Best.{best_row}
use Rattle.sdp_formats_rounds.specs.declared.error.RoundError.{RoundError}
use Rattle.sdp_formats_rounds.specs.declared.error.RoundError.TheVariants.{TypeTaken}
use Rattle.sdp_formats_rounds.specs.Laws.{is_among}
use Rattle.sdp_formats_rounds.specs.Rounds.{agreed_red, agreed_resend, agreed_row, first_above, given, locked_as}
use Rattle.sdp_formats_rounds.specs.Rounds.{matched_if}
use Rattle.sdp_formats_rounds.specs.Rounds.{matched_row, none_given, open_best}
use Rattle.sdp_formats_rounds.specs.Rounds.{renegotiated, unless_above}
use Rattle.sdp_formats_rounds.specs.Turns.{and_then}
use Rattle.sdp_formats_rounds.specs.Types.{free_type, is_claimed, is_locked_type, listed}
use Rattle.sdp_formats_rounds.specs.Named.{Claims, free_of, red_met, with_own}
use Rattle.sdp_formats_rounds.specs.Rounded.{IsLocked, LockedRefused, IsMatched, MatchedRefused}
use Rattle.sdp_formats_rounds.specs.Rounded.{above_met, best_met, is_choosy}
use Rattle.sdp_formats_rounds.proofs.Chains.{MadeRefused, chain, chain_back, chain_err, chain_not, chain_ok}
use Rattle.sdp_formats_rounds.proofs.Chains.{chain_same}
use Rattle.sdp_formats_rounds.proofs.Options.{red_by, red_back, red_err, red_not, red_ok, resend_by, resend_back}
use Rattle.sdp_formats_rounds.proofs.Options.{resend_err}
use Rattle.sdp_formats_rounds.proofs.Options.{resend_not, resend_ok}
use Rattle.sdp_formats_rounds.proofs.Sets.{Sees, claimed_given, claimed_none, free_given, free_none}
use Rattle.sdp_formats_rounds.proofs.Tables.{agreed_back, agreed_by, agreed_err, agreed_not, agreed_ok, err_ap}
use Rattle.sdp_formats_rounds.proofs.Tables.{err_is}
use Rattle.sdp_formats_rounds.proofs.Tables.{err_ok, ok_ap, ok_err, ok_is}

-- the types of a row that is matched
abbrev pub rtx_by : Bool → Claims → Row → Row → ℕ → Result (Option ℕ) RoundError
rtx_by d c row best pt = resend_by d (is_among (with_own (pt ∷ []) c).claimed) (free_of (with_own (pt ∷ []) c))
    row.resend best.resend

abbrev pub met_by : Bool → Claims → Row → Row → ℕ → Option ℕ → Result (Option ℕ) RoundError
met_by d c row best pt resend = red_by d (is_among (with_own (pt ∷ listed resend) c).claimed)
    (free_of (with_own (pt ∷ listed resend) c)) (red_met (is_audio_codec row.spec.codec) row.red best.red)

abbrev pub locked_by : Bool → Claims → Row → Row → Result Row RoundError
locked_by d c row best = chain (locked_as row best)
    (agreed_by TypeTaken d (is_among c.claimed) (free_of c) (Some row.pt) best.pt) (rtx_by d c row best)
    (met_by d c row best)

resend_step : (d : Bool) (before now : List Row) (pt : ℕ) (o ours theirs : Option ℕ)
    → agreed_resend d before now (given pt o) ours theirs
    ≡ resend_by d (is_claimed now (given pt o)) (free_type before now (given pt o)) ours theirs
resend_step d before now pt o None None = refl
resend_step d before now pt o (Some t) None = refl
resend_step d before now pt o None (Some u) = refl
resend_step d before now pt o (Some t) (Some u) = refl

red_step : (d : Bool) (before now : List Row) (pt : ℕ) (o : Option ℕ) (audio : Bool) (ours theirs : Option ℕ)
    → agreed_red d before now (given pt o) audio ours theirs
    ≡ red_by d (is_claimed now (given pt o)) (free_type before now (given pt o)) (red_met audio ours theirs)
red_step d before now pt o true (Some t) (Some u) = refl
red_step d before now pt o true (Some t) None = refl
red_step d before now pt o true None None = refl
red_step d before now pt o true None (Some u) = refl
red_step d before now pt o false None None = refl
red_step d before now pt o false None (Some u) = refl
red_step d before now pt o false (Some t) None = refl
red_step d before now pt o false (Some t) (Some u) = refl

matched_chain : (d : Bool) (before now : List Row) (row best : Row) → matched_row d before now row best
    ≡ chain (locked_as row best) (agreed_by TypeTaken d (is_claimed now none_given) (free_type before now none_given)
    (Some row.pt) best.pt) (λ pt. agreed_resend d before now (given pt None) row.resend best.resend)
    (λ pt resend. agreed_red d before now (given pt resend) (is_audio_codec row.spec.codec) row.red best.red)
matched_chain d before now row best = refl

matched_same : (d : Bool) (before now : List Row) (c : Claims) → Sees before now c → (row best : Row)
    → matched_row d before now row best ≡ locked_by d c row best
matched_same d before now c s row best = matched_chain d before now row best
    ∙ chain_same (locked_as row best) _ _ _ _ _ _
    (ap (λ p. agreed_by TypeTaken d p (free_type before now none_given) (Some row.pt) best.pt)
    (claimed_none before now c s)
    ∙ ap (λ f. agreed_by TypeTaken d (is_among c.claimed) f (Some row.pt) best.pt) (free_none before now c s))
    (λ pt. resend_step d before now pt None row.resend best.resend
    ∙ ap (λ p. resend_by d p (free_type before now (given pt None)) row.resend best.resend)
    (claimed_given before now c s pt None)
    ∙ ap (λ f. resend_by d (is_among (with_own (pt ∷ []) c).claimed) f row.resend best.resend)
    (free_given before now c s pt None))
    (λ pt o. red_step d before now pt o (is_audio_codec row.spec.codec) row.red best.red
    ∙ ap (λ p. red_by d p (free_type before now (given pt o))
    (red_met (is_audio_codec row.spec.codec) row.red best.red))
    (claimed_given before now c s pt o)
    ∙ ap (λ f. red_by d (is_among (with_own (pt ∷ listed o) c).claimed) f
    (red_met (is_audio_codec row.spec.codec) row.red best.red)) (free_given before now c s pt o))

locked_ok : (d : Bool) (c : Claims) (row best new : Row) → locked_by d c row best ≡ Ok new → IsLocked d c row best new
locked_ok d c row best new e =
    let m = chain_ok (locked_as row best)
    (agreed_by TypeTaken d (is_among c.claimed) (free_of c) (Some row.pt) best.pt) (rtx_by d c row best)
    (met_by d c row best) new e in record {
      pt = m.x;
      resend = m.y;
      red = m.z;
      pt_given = agreed_ok TypeTaken d c (Some row.pt) best.pt m.x m.first;
      resend_given = resend_ok d (with_own (m.x ∷ []) c) row.resend best.resend m.y m.second;
      red_given = red_ok d (with_own (m.x ∷ listed m.y) c)
          (red_met (is_audio_codec row.spec.codec) row.red best.red) m.z m.third;
      becomes = m.makes;
    }

locked_back : (d : Bool) (c : Claims) (row best new : Row) → IsLocked d c row best new
    → locked_by d c row best ≡ Ok new
locked_back d c row best new l = chain_back (locked_as row best)
    (agreed_by TypeTaken d (is_among c.claimed) (free_of c) (Some row.pt) best.pt) (rtx_by d c row best)
    (met_by d c row best) l.pt l.resend l.red
    (agreed_back TypeTaken d c (Some row.pt) best.pt l.pt l.pt_given)
    (resend_back d (with_own (l.pt ∷ []) c) row.resend best.resend l.resend l.resend_given)
    (red_back d (with_own (l.pt ∷ listed l.resend) c)
    (red_met (is_audio_codec row.spec.codec) row.red best.red) l.red l.red_given)
    ∙ ok_ap (locked_as row best l.pt l.resend l.red) new (sym l.becomes)

locked_err : (d : Bool) (c : Claims) (row best : Row) (e : RoundError) → locked_by d c row best ≡ Err e
    → LockedRefused d c row best e
locked_err d c row best e is = at (chain_err (locked_as row best)
    (agreed_by TypeTaken d (is_among c.claimed) (free_of c) (Some row.pt) best.pt) (rtx_by d c row best)
    (met_by d c row best) e is)
  where
    at : MadeRefused (agreed_by TypeTaken d (is_among c.claimed) (free_of c) (Some row.pt) best.pt)
        (rtx_by d c row best) (met_by d c row best) e → LockedRefused d c row best e
    at (inl f) = inl (agreed_err TypeTaken d c (Some row.pt) best.pt e f)
    at (inr (pt, f, inl h)) = inr (
      pt,
      agreed_ok TypeTaken d c (Some row.pt) best.pt pt f,
      inl (resend_err d (with_own (pt ∷ []) c) row.resend best.resend e h),
    )
    at (inr (pt, f, inr (o, h, k))) = inr (
      pt,
      agreed_ok TypeTaken d c (Some row.pt) best.pt pt f,
      inr (
        o,
        resend_ok d (with_own (pt ∷ []) c) row.resend best.resend o h,
        red_err d (with_own (pt ∷ listed o) c) (red_met (is_audio_codec row.spec.codec) row.red best.red) e k,
      ),
    )

locked_not : (d : Bool) (c : Claims) (row best : Row) (e : RoundError) → LockedRefused d c row best e
    → locked_by d c row best ≡ Err e
locked_not d c row best e is = chain_not (locked_as row best)
    (agreed_by TypeTaken d (is_among c.claimed) (free_of c) (Some row.pt) best.pt) (rtx_by d c row best)
    (met_by d c row best) e (at is)
  where
    at : LockedRefused d c row best e
        → MadeRefused (agreed_by TypeTaken d (is_among c.claimed) (free_of c) (Some row.pt) best.pt)
        (rtx_by d c row best) (met_by d c row best) e
    at (inl f) = inl (agreed_not TypeTaken d c (Some row.pt) best.pt e f)
    at (inr (pt, f, inl h)) = inr (
      pt,
      agreed_back TypeTaken d c (Some row.pt) best.pt pt f,
      inl (resend_not d (with_own (pt ∷ []) c) row.resend best.resend e h),
    )
    at (inr (pt, f, inr (o, h, k))) = inr (
      pt,
      agreed_back TypeTaken d c (Some row.pt) best.pt pt f,
      inr (
        o,
        resend_back d (with_own (pt ∷ []) c) row.resend best.resend o h,
        red_not d (with_own (pt ∷ listed o) c) (red_met (is_audio_codec row.spec.codec) row.red best.red) e k,
      ),
    )

-- the turn of a row that may be matched
abbrev pub if_by : Bool → Claims → Row → Option Row → Result Row RoundError
if_by d c row None = Ok row
if_by d c row (Some best) = locked_by d c row best

abbrev pub row_as : Bool → List Row → Claims → Row → Bool → Option Row → Option Row → Result Row RoundError
row_as d remote c row locked above best = if locked then Ok (renegotiated row (best_row row.spec remote))
    else and_then (unless_above above best) (if_by d c row)

abbrev pub row_by : Bool → List Row → Claims → Row → Result Row RoundError
row_by d remote c row = row_as d remote c row row.locked (above_met d remote row) (best_met d c remote row)

row_at : (d : Bool) (remote : List Row) (c : Claims) (row : Row) (locked : Bool) (above best : Option Row)
    → row.locked ≡ locked → above_met d remote row ≡ above → best_met d c remote row ≡ best
    → row_by d remote c row ≡ row_as d remote c row locked above best
row_at d remote c row locked above best x y z =
    ap (λ b. row_as d remote c row b (above_met d remote row) (best_met d c remote row)) x
    ∙ ap (λ o. row_as d remote c row locked o (best_met d c remote row)) y
    ∙ ap (λ o. row_as d remote c row locked above o) z

if_same : (d : Bool) (before now : List Row) (c : Claims) → Sees before now c → (row : Row) (o : Option Row)
    → matched_if d before now row o ≡ if_by d c row o
if_same d before now c s row None = refl
if_same d before now c s row (Some best) = matched_same d before now c s row best

open_same : (d : Bool) (remote before now : List Row) (c : Claims) → Sees before now c → (row : Row)
    → open_best d remote now row ≡ unless_above (above_met d remote row) (best_met d c remote row)
open_same d remote before now c s row = at (is_choosy d row)
  where
    seen : Row → Bool
    seen r = not (is_locked_type now r.pt)

    aside : Row → Bool
    aside r = not (is_among c.claimed r.pt)

    same : seen ≡ aside
    same = λ i r. not (s.claimed r.pt i)

    at : (b : Bool) → (if b then unless_above (first_above remote)
        (best_row row.spec (filter (λ r. not (is_locked_type now r.pt)) remote)) else Ok (best_row row.spec remote))
        ≡ unless_above (if b then first_above remote else None)
        (best_row row.spec (if b then filter (λ r. not (is_among c.claimed r.pt)) remote else remote))
    at true = ap (λ p. unless_above (first_above remote) (best_row row.spec (filter p remote))) same
    at false = refl

pub agreed_same : (d : Bool) (remote before now : List Row) (c : Claims) → Sees before now c → (row : Row)
    → agreed_row d remote before now row ≡ row_by d remote c row
agreed_same d remote before now c s row =
    let same : matched_if d before now row ≡ if_by d c row = λ i o. if_same d before now c s row o i in
    ap (λ r. if row.locked then Ok (renegotiated row (best_row row.spec remote)) else and_then r
    (matched_if d before now row)) (open_same d remote before now c s row)
    ∙ ap (λ f. if row.locked then Ok (renegotiated row (best_row row.spec remote)) else and_then
    (unless_above (above_met d remote row) (best_met d c remote row)) f) same

pub matched_ok : (d : Bool) (remote : List Row) (c : Claims) (row new : Row) → row_by d remote c row ≡ Ok new
    → IsMatched d remote c row new
matched_ok d remote c row new e = at row.locked (above_met d remote row) (best_met d c remote row) refl refl refl e
  where
    at : (locked : Bool) (above best : Option Row) → row.locked ≡ locked → above_met d remote row ≡ above
        → best_met d c remote row ≡ best → row_as d remote c row locked above best ≡ Ok new
        → IsMatched d remote c row new
    at true above best x y z is = inl (x, sym (ok_is (renegotiated row (best_row row.spec remote)) new is))
    at false (Some above) best x y z is = err_ok (TypeTaken above.pt) new is
    at false None None x y z is = inr (x, y, inl (z, sym (ok_is row new is)))
    at false None (Some best) x y z is = inr (x, y, inr (best, z, locked_ok d c row best new is))

pub matched_back : (d : Bool) (remote : List Row) (c : Claims) (row new : Row) → IsMatched d remote c row new
    → row_by d remote c row ≡ Ok new
matched_back d remote c row new (inl (x, same)) =
    row_at d remote c row true (above_met d remote row) (best_met d c remote row) x refl refl
    ∙ ok_ap (renegotiated row (best_row row.spec remote)) new (sym same)
matched_back d remote c row new (inr (x, y, inl (z, same))) =
    row_at d remote c row false None None x y z ∙ ok_ap row new (sym same)
matched_back d remote c row new (inr (x, y, inr (best, z, is))) =
    row_at d remote c row false None (Some best) x y z ∙ locked_back d c row best new is

pub matched_err : (d : Bool) (remote : List Row) (c : Claims) (row : Row) (e : RoundError)
    → row_by d remote c row ≡ Err e → MatchedRefused d remote c row e
matched_err d remote c row e is = at row.locked (above_met d remote row) (best_met d c remote row) refl refl refl is
  where
    at : (locked : Bool) (above best : Option Row) → row.locked ≡ locked → above_met d remote row ≡ above
        → best_met d c remote row ≡ best → row_as d remote c row locked above best ≡ Err e
        → MatchedRefused d remote c row e
    at true above best x y z is = ok_err (renegotiated row (best_row row.spec remote)) e is
    at false (Some above) best x y z is = (x, inl (above, y, sym (err_is (TypeTaken above.pt) e is)))
    at false None None x y z is = ok_err row e is
    at false None (Some best) x y z is = (x, inr (y, (best, z, locked_err d c row best e is)))

pub matched_not : (d : Bool) (remote : List Row) (c : Claims) (row : Row) (e : RoundError)
    → MatchedRefused d remote c row e → row_by d remote c row ≡ Err e
matched_not d remote c row e (x, inl (above, y, is)) =
    row_at d remote c row false (Some above) (best_met d c remote row) x y refl ∙ err_ap (TypeTaken above.pt) e (sym is)
matched_not d remote c row e (x, inr (y, (best, z, is))) =
    row_at d remote c row false None (Some best) x y z ∙ locked_not d c row best e is
