-- A round is answered, and refused, exactly as it is said.
use Rattle.std.proofs.Common.{◌≡◌, Bool, true, List, [], ◌∷◌, ◌++◌, refl, sym, subst, ◌∙◌, ap, append-nil, inl, inr}
use Rattle.std.proofs.Common.{Result, Ok, Err}
use Rattle.std.specs.Prelude.{◌⊎◌}
use Rattle.sdp_formats_rows.specs.Rows.{Row}
use Rattle.sdp_formats_rounds.specs.declared.error.RoundError.{RoundError}
use Rattle.sdp_formats_rounds.specs.Rounds.{agreed_row, agreed_rows, round, settled_row, settled_rows, standing_rows}
use Rattle.sdp_formats_rounds.specs.Turns.{and_then, in_turn}
use Rattle.sdp_formats_rounds.specs.Types.{locked_types}
use Rattle.sdp_formats_rounds.proofs.Split.{split_ok}
use Rattle.sdp_formats_rounds.specs.Rounded.{AreMatched, AreSettled, Follows, IsMatched, MatchedRefused}
use Rattle.sdp_formats_rounds.specs.Rounded.{IsRefused, IsRound}
use Rattle.sdp_formats_rounds.specs.Rounded.{IsSettled, SettledRefused, claims_left, claims_matched}
use Rattle.sdp_formats_rounds.specs.Standing.{are_apart, held}
use Rattle.sdp_formats_rounds.proofs.Chains.{split_err, then_err, then_ok}
use Rattle.sdp_formats_rounds.proofs.Follow.{Turns, follow_back, follow_err, follow_ok, stops_at, stops_back}
use Rattle.sdp_formats_rounds.proofs.LeftSteps.{left_by, settled_back, settled_err, settled_not, settled_ok}
use Rattle.sdp_formats_rounds.proofs.LeftSteps.{settled_same}
use Rattle.sdp_formats_rounds.proofs.RowSteps.{agreed_same, matched_back, matched_err, matched_not, matched_ok}
use Rattle.sdp_formats_rounds.proofs.RowSteps.{row_by}
use Rattle.sdp_formats_rounds.proofs.Seen.{Met, more_met, more_settled, none_met, sees_left, sees_matched}
use Rattle.sdp_formats_rounds.proofs.Tables.{err_ap}
use Rattle.sdp_formats_rounds.proofs.Standings.{standing_apart, standing_first, standing_passes, standing_refused}

abbrev Meeting : Bool → List Row → List Row → List Row → Row → List Row → Result Row RoundError
Meeting d remote rows = λ done row rest. agreed_row d remote rows (done ++ row ∷ rest) row

abbrev Meets : Bool → List Row → List Row → List Row → Row → Row → Type 0
Meets d remote rows = λ done row new. IsMatched d remote (claims_matched rows done) row new

abbrev MeetsNot : Bool → List Row → List Row → List Row → Row → RoundError → Type 0
MeetsNot d remote rows = λ done row e. MatchedRefused d remote (claims_matched rows done) row e

abbrev Settling : List Row → List Row → Row → List Row → Result Row RoundError
Settling rows = λ done row rest. settled_row rows (done ++ row ∷ rest) row

abbrev Settles : List Row → List Row → List Row → Row → Row → Type 0
Settles rows matched = λ done row new. IsSettled (claims_left rows matched done) row new

abbrev SettlesNot : List Row → List Row → List Row → Row → RoundError → Type 0
SettlesNot rows matched = λ done row e. SettledRefused (claims_left rows matched done) row e

abbrev Same : List Row → List Row → Type 0
Same xs done = locked_types done ≡ locked_types xs

met_step : (d : Bool) (remote rows xs done rest : List Row) (row : Row) → rows ≡ xs ++ row ∷ rest → Met xs done
    → agreed_row d remote rows (done ++ row ∷ rest) row ≡ row_by d remote (claims_matched rows done) row
met_step d remote rows xs done rest row p m = agreed_same d remote rows (done ++ row ∷ rest)
    (claims_matched rows done) (sees_matched rows xs done rest row p m) row

met_turns : (d : Bool) (remote rows : List Row)
    → Turns rows Met (Meeting d remote rows) (Meets d remote rows) (MeetsNot d remote rows)
met_turns d remote rows = record {
  ok = λ xs done rest row new p m e. matched_ok d remote (claims_matched rows done) row new
      (sym (met_step d remote rows xs done rest row p m) ∙ e);
  back = λ xs done rest row new p m r. met_step d remote rows xs done rest row p m
      ∙ matched_back d remote (claims_matched rows done) row new r;
  err = λ xs done rest row e p m is. matched_err d remote (claims_matched rows done) row e
      (sym (met_step d remote rows xs done rest row p m) ∙ is);
  not = λ xs done rest row e p m r. met_step d remote rows xs done rest row p m
      ∙ matched_not d remote (claims_matched rows done) row e r;
  keep = λ xs done row new m r. more_met d remote (claims_matched rows done) xs done row new m r;
}

left_step : (rows matched : List Row) → Met rows matched → (xs done rest : List Row) (row : Row)
    → matched ≡ xs ++ row ∷ rest → Same xs done
    → settled_row rows (done ++ row ∷ rest) row ≡ left_by (claims_left rows matched done) row
left_step rows matched m xs done rest row p same = settled_same rows (done ++ row ∷ rest)
    (claims_left rows matched done) row (λ unlocked. sees_left rows matched xs done rest row p m same)

left_turns : (rows matched : List Row) → Met rows matched
    → Turns matched Same (Settling rows) (Settles rows matched) (SettlesNot rows matched)
left_turns rows matched m = record {
  ok = λ xs done rest row new p same e. settled_ok (claims_left rows matched done) row new
      (sym (left_step rows matched m xs done rest row p same) ∙ e);
  back = λ xs done rest row new p same r. left_step rows matched m xs done rest row p same
      ∙ settled_back (claims_left rows matched done) row new r;
  err = λ xs done rest row e p same is. settled_err (claims_left rows matched done) row e
      (sym (left_step rows matched m xs done rest row p same) ∙ is);
  not = λ xs done rest row e p same r. left_step rows matched m xs done rest row p same
      ∙ settled_not (claims_left rows matched done) row e r;
  keep = λ xs done row new same r. more_settled (claims_left rows matched done) xs done row new same r;
}

-- the second turns and the third ones
met_ok : (d : Bool) (remote rows matched : List Row) → agreed_rows d remote rows rows ≡ Ok matched
    → AreMatched d remote rows matched × Met rows matched
met_ok d remote rows matched e =
    let f = follow_ok rows Met (Meeting d remote rows) (Meets d remote rows) (MeetsNot d remote rows)
    (met_turns d remote rows) [] [] rows matched refl none_met e in
    (subst (λ l. Follows (Meets d remote rows) [] rows l) (sym f.1) f.2, f.3)

left_ok : (rows matched after : List Row) → Met rows matched → settled_rows rows matched ≡ Ok after
    → AreSettled rows matched after
left_ok rows matched after m e =
    let f = follow_ok matched Same (Settling rows) (Settles rows matched) (SettlesNot rows matched)
    (left_turns rows matched m) [] [] matched after refl refl e in
    subst (λ l. Follows (Settles rows matched) [] matched l) (sym f.1) f.2

met_back : (d : Bool) (remote rows matched : List Row) → AreMatched d remote rows matched
    → (agreed_rows d remote rows rows ≡ Ok matched) × Met rows matched
met_back d remote rows matched a =
    let b = follow_back rows Met (Meeting d remote rows) (Meets d remote rows) (MeetsNot d remote rows)
    (met_turns d remote rows) [] [] rows matched [] (sym (append-nil rows)) none_met a in
    (ap (λ l. in_turn (Meeting d remote rows) [] l) (sym (append-nil rows)) ∙ b.0, b.1)

left_back : (rows matched after : List Row) → Met rows matched → AreSettled rows matched after
    → settled_rows rows matched ≡ Ok after
left_back rows matched after m a =
    let b = follow_back matched Same (Settling rows) (Settles rows matched) (SettlesNot rows matched)
    (left_turns rows matched m) [] [] matched after [] (sym (append-nil matched)) refl a in
    ap (λ l. in_turn (Settling rows) [] l) (sym (append-nil matched)) ∙ b.0

abbrev later : Bool → List Row → List Row → Result (List Row) RoundError
later d remote rows = and_then (agreed_rows d remote rows rows) (λ agreed. settled_rows rows agreed)

round_is : (d : Bool) (remote rows : List Row)
    → round d remote rows ≡ and_then (standing_rows rows) (λ same. later d remote rows)
unfolding round
round_is d remote rows = refl

pub answers : (d : Bool) (remote rows after : List Row) → round d remote rows ≡ Ok after → IsRound d remote rows after
answers d remote rows after e =
    let s = split_ok (standing_rows rows) (λ same. later d remote rows) after (sym (round_is d remote rows) ∙ e) in
    let a = split_ok (agreed_rows d remote rows rows) (λ agreed. settled_rows rows agreed) after s.2 in
    let m = met_ok d remote rows a.0 a.1 in
    (standing_apart rows s.0 s.1, (a.0, m.0, left_ok rows a.0 after m.1 a.2))

pub answered : (d : Bool) (remote rows after : List Row) → IsRound d remote rows after → round d remote rows ≡ Ok after
answered d remote rows after (apart, (matched, m, s)) =
    let p = standing_passes rows apart in
    let b = met_back d remote rows matched m in
    round_is d remote rows ∙ then_ok (standing_rows rows) (λ same. later d remote rows) p.0 p.1
    ∙ then_ok (agreed_rows d remote rows rows) (λ agreed. settled_rows rows agreed) matched b.0
    ∙ left_back rows matched after b.1 s

pub refusals : (d : Bool) (remote rows : List Row) (e : RoundError) → round d remote rows ≡ Err e
    → IsRefused d remote rows e
refusals d remote rows e is = at (split_err (standing_rows rows) (λ same. later d remote rows) e
    (sym (round_is d remote rows) ∙ is))
  where
    next : are_apart (held rows) ≡ true → (agreed_rows d remote rows rows ≡ Err e) ⊎ ((matched : List Row)
        × (agreed_rows d remote rows rows ≡ Ok matched) × (settled_rows rows matched ≡ Err e))
        → IsRefused d remote rows e
    next apart (inl h) = inr (
      apart,
      inl (stops_at (Meets d remote rows) (MeetsNot d remote rows) rows e
          (follow_err rows Met (Meeting d remote rows) (Meets d remote rows) (MeetsNot d remote rows)
          (met_turns d remote rows) [] [] rows e refl none_met h)),
    )
    next apart (inr (matched, h, k)) =
        let m = met_ok d remote rows matched h in
        inr (
          apart,
          inr (
            matched,
            m.0,
            stops_at (Settles rows matched) (SettlesNot rows matched) matched e
                (follow_err matched Same (Settling rows) (Settles rows matched) (SettlesNot rows matched)
                (left_turns rows matched m.1) [] [] matched e refl refl k),
          ),
        )

    at : (standing_rows rows ≡ Err e) ⊎ ((same : List Row) × (standing_rows rows ≡ Ok same)
        × (later d remote rows ≡ Err e)) → IsRefused d remote rows e
    at (inl h) = inl (standing_first rows e h)
    at (inr (same, h, k)) = next (standing_apart rows same h)
        (split_err (agreed_rows d remote rows rows) (λ agreed. settled_rows rows agreed) e k)

later_not : (d : Bool) (remote rows : List Row) (e : RoundError) → are_apart (held rows) ≡ true
    → later d remote rows ≡ Err e → round d remote rows ≡ Err e
later_not d remote rows e apart is =
    let p = standing_passes rows apart in
    round_is d remote rows ∙ then_ok (standing_rows rows) (λ same. later d remote rows) p.0 p.1 ∙ is

pub refused : (d : Bool) (remote rows : List Row) (e : RoundError) → IsRefused d remote rows e
    → round d remote rows ≡ Err e
refused d remote rows e (inl (h, first, same)) = round_is d remote rows
    ∙ then_err (standing_rows rows) (λ same. later d remote rows) e
    (standing_refused rows h first ∙ err_ap h.refusal e (sym same))
refused d remote rows e (inr (apart, inl s)) = later_not d remote rows e apart
    (then_err (agreed_rows d remote rows rows) (λ agreed. settled_rows rows agreed) e
    (stops_back rows Met (Meeting d remote rows) (Meets d remote rows) (MeetsNot d remote rows)
    (met_turns d remote rows) e none_met s))
refused d remote rows e (inr (apart, inr (matched, m, s))) =
    let b = met_back d remote rows matched m in
    later_not d remote rows e apart
    (then_ok (agreed_rows d remote rows rows) (λ agreed. settled_rows rows agreed) matched b.0
    ∙ stops_back matched Same (Settling rows) (Settles rows matched) (SettlesNot rows matched)
    (left_turns rows matched b.1) e refl s)
