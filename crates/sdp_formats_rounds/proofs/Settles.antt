-- What the last turns make of a row.
use Rattle.std.proofs.Common.{◌≡◌, Bool, true, false, List, [], ◌∷◌, ◌++◌, refl, sym, ◌∙◌, ap, ℕ, Option}
use Rattle.std.proofs.Common.{Some, None, Ok, if◌then◌else◌}
use Rattle.sdp_formats_rows.specs.Rows.{Row}
use Rattle.sdp_formats_rounds.specs.declared.claims.Own.{Own}
use Rattle.sdp_formats_rounds.specs.declared.claims.Role.TheVariants.{Main}
use Rattle.sdp_formats_rounds.specs.Types.{locked_types}
use Rattle.sdp_formats_rounds.specs.Turns.{and_then}
use Rattle.sdp_formats_rounds.specs.Rounds.{none_given, given, moved_type, moved_red, moved_resend, moved_row}
use Rattle.sdp_formats_rounds.specs.Rounds.{settled_row, settled_rows}
use Rattle.sdp_formats_rounds.specs.Laws.{Along, KeepsFeedback}
use Rattle.sdp_formats_rounds.proofs.Split.{split_ok, ok_same, turns_along}
use Rattle.sdp_formats_rounds.proofs.Locked.{locked_one, unlocked_one}

pub record Moves (row new : Row) : Type 0 where
  pub kept : row.locked ≡ true → new ≡ row
  pub unlocked : row.locked ≡ false → (new.locked ≡ false) × (new.spec ≡ row.spec) × (new.transport_cc
      ≡ row.transport_cc)
  pub feedback : KeepsFeedback row new
  pub red : row.red ≡ None → new.red ≡ None

-- a row that is the same keeps its feedback
pub same_feedback : (row new : Row) → new ≡ row → KeepsFeedback row new
same_feedback row new same = (
  ap (λ (x : Row). x.nack) same,
  ap (λ (x : Row). x.pli) same,
  ap (λ (x : Row). x.fir) same,
  ap (λ (x : Row). x.remb)
      same,
)

-- no RED type comes from none
red_none : (before now : List Row) (own : Own) (red new : Option ℕ) → moved_red before now own red ≡ Ok new
    → red ≡ None → new ≡ None
red_none before now own None new e is = sym (ok_same None new e)
red_none before now own (Some t) new e is = absurd (cc)

moved_parts : (before now : List Row) (row new : Row) → moved_row before now row ≡ Ok new
    → (new.locked ≡ row.locked) × (new.spec ≡ row.spec) × (new.transport_cc ≡ row.transport_cc) × KeepsFeedback row new
    × (row.red ≡ None → new.red ≡ None)
moved_parts before now row new e =
    let s = split_ok (moved_type Main before now none_given row.pt)
    (λ pt. and_then (moved_red before now (given pt None) row.red)
    (λ red. and_then (moved_resend before now (given pt red) row.resend)
    (λ resend. Ok (record row { pt = pt; resend = resend; red = red })))) new e in
    let r = split_ok (moved_red before now (given s.0 None) row.red)
    (λ red. and_then (moved_resend before now (given s.0 red) row.resend)
    (λ resend. Ok (record row { pt = s.0; resend = resend; red = red }))) new s.2 in
    let d = split_ok (moved_resend before now (given s.0 r.0) row.resend)
    (λ resend. Ok (record row { pt = s.0; resend = resend; red = r.0 })) new r.2 in
    let m : Row = record row { pt = s.0; resend = d.0; red = r.0 } in
    let same = ok_same m new d.2 in (
      sym (ap (λ (x : Row). x.locked) same),
      sym (ap (λ (x : Row). x.spec) same),
      sym (ap (λ (x : Row). x.transport_cc) same),
      same_feedback m new (sym same),
      λ none. sym (ap (λ (x : Row). x.red) same) ∙ red_none before now (given s.0 None) row.red r.0 r.1 none,
    )

pub moves_of : (before now : List Row) (row new : Row) → settled_row before now row ≡ Ok new → Moves row new
moves_of before now row new e = at row.locked refl e
  where
    at : (b : Bool) → row.locked ≡ b → (if b then Ok row else moved_row before now row) ≡ Ok new → Moves row new
    at true is f = record {
      kept = λ _. sym (ok_same row new f);
      unlocked = λ no. absurd (cc);
      feedback = same_feedback row new (sym (ok_same row new f));
      red = λ none. sym (ap (λ (x : Row). x.red) (ok_same row new f)) ∙ none;
    }
    at false is f = let p = moved_parts before now row new f in record {
      kept = λ yes. absurd (cc);
      unlocked = λ _.
          (p.0 ∙ is, p.1, p.2);
      feedback = p.3;
      red = p.4;
    }

pub moves_types : (xs ys : List Row) → Along Moves xs ys → locked_types ys ≡ locked_types xs
moves_types [] [] a = refl
moves_types (x ∷ xs) (y ∷ ys) a = at x.locked refl (moves_types xs ys a.1)
  where
    at : (b : Bool) → x.locked ≡ b → locked_types ys ≡ locked_types xs → locked_types (y ∷ ys) ≡ locked_types (x ∷ xs)
    at true is ih = rw (a.0.kept is, locked_one x ys is, locked_one x xs is, ih) refl
    at false is ih = rw (unlocked_one y ys (a.0.unlocked is).0, unlocked_one x xs is) ih
moves_types [] (y ∷ ys) a = absurd a
moves_types (x ∷ xs) [] a = absurd a

pub settled_along : (before rows after : List Row) → settled_rows before rows ≡ Ok after → Along Moves rows after
settled_along before rows after e =
    let s = turns_along Moves (λ done row rest. settled_row before (done ++ row ∷ rest) row)
    (λ done row rest new is. moves_of before (done ++ row ∷ rest) row new is) [] rows after e in
    let same : after ≡ s.0 = s.1 in
    rw same s.2
