-- The turn of a row that is left unlocked, over its claims.
use Rattle.std.proofs.Common.{◌≡◌, ℕ, Bool, true, false, List, [], ◌∷◌, refl, sym, ◌∙◌, ap, inl, inr, Option, Some}
use Rattle.std.proofs.Common.{None}
use Rattle.std.proofs.Common.{Result, Ok, Err, if◌then◌else◌}
use Rattle.sdp_formats_rows.specs.Rows.{Row}
use Rattle.sdp_formats_rounds.specs.declared.error.RoundError.{RoundError}
use Rattle.sdp_formats_rounds.specs.declared.error.RoundError.TheVariants.{TypeTaken}
use Rattle.sdp_formats_rounds.specs.Laws.{is_among}
use Rattle.sdp_formats_rounds.specs.Rounds.{given, moved_red, moved_resend, moved_row, none_given, settled_row}
use Rattle.sdp_formats_rounds.specs.Types.{free_type, is_claimed, listed}
use Rattle.sdp_formats_rounds.specs.Named.{Claims, free_of, with_used}
use Rattle.sdp_formats_rounds.specs.Rounded.{IsMoved, MovedRefused, IsSettled, SettledRefused}
use Rattle.sdp_formats_rounds.proofs.Chains.{MadeRefused, chain, chain_back, chain_err, chain_not, chain_ok}
use Rattle.sdp_formats_rounds.proofs.Chains.{chain_same}
use Rattle.sdp_formats_rounds.proofs.Options.{red_by, red_back, red_err, red_not, red_ok}
use Rattle.sdp_formats_rounds.proofs.Options.{resend_kept_by, resend_kept_back, resend_kept_err, resend_kept_not}
use Rattle.sdp_formats_rounds.proofs.Options.{resend_kept_ok}
use Rattle.sdp_formats_rounds.proofs.Sets.{Sees, claimed_none, free_given, free_none}
use Rattle.sdp_formats_rounds.proofs.Tables.{ok_ap, ok_err, ok_is, own_back, own_by, own_err, own_not, own_ok}

abbrev pub moved : Row → ℕ → Option ℕ → Option ℕ → Row
moved row pt red resend = record row { pt = pt; resend = resend; red = red }

abbrev pub main_by : Claims → Row → Result ℕ RoundError
main_by c row = own_by TypeTaken (is_among c.claimed) (free_of c) (Some row.pt)

abbrev pub red_left : Claims → Row → ℕ → Result (Option ℕ) RoundError
red_left c row pt = red_by false (is_among c.claimed) (free_of (with_used (pt ∷ []) c)) row.red

abbrev pub rtx_left : Claims → Row → ℕ → Option ℕ → Result (Option ℕ) RoundError
rtx_left c row pt red = resend_kept_by (is_among c.claimed) (free_of (with_used (pt ∷ listed red) c)) row.resend

abbrev pub moved_by : Claims → Row → Result Row RoundError
moved_by c row = chain (moved row) (main_by c row) (red_left c row) (rtx_left c row)

red_step : (before now : List Row) (pt : ℕ) (o : Option ℕ) → moved_red before now (given pt None) o
    ≡ red_by false (is_claimed now none_given) (free_type before now (given pt None)) o
red_step before now pt None = refl
red_step before now pt (Some t) = refl

resend_step : (before now : List Row) (pt : ℕ) (red o : Option ℕ) → moved_resend before now (given pt red) o
    ≡ resend_kept_by (is_claimed now none_given) (free_type before now (given pt red)) o
resend_step before now pt red None = refl
resend_step before now pt red (Some t) = refl

moved_chain : (before now : List Row) (row : Row) → moved_row before now row
    ≡ chain (moved row) (own_by TypeTaken (is_claimed now none_given) (free_type before now none_given) (Some row.pt))
    (λ pt. moved_red before now (given pt None) row.red)
    (λ pt red. moved_resend before now (given pt red) row.resend)
moved_chain before now row = refl

moved_same : (before now : List Row) (c : Claims) → Sees before now c → (row : Row)
    → moved_row before now row ≡ moved_by c row
moved_same before now c s row = moved_chain before now row ∙ chain_same (moved row) _ _ _ _ _ _
    (ap (λ p. own_by TypeTaken p (free_type before now none_given) (Some row.pt)) (claimed_none before now c s)
    ∙ ap (λ f. own_by TypeTaken (is_among c.claimed) f (Some row.pt)) (free_none before now c s))
    (λ pt. red_step before now pt row.red
    ∙ ap (λ p. red_by false p (free_type before now (given pt None)) row.red) (claimed_none before now c s)
    ∙ ap (λ f. red_by false (is_among c.claimed) f row.red) (free_given before now c s pt None))
    (λ pt red. resend_step before now pt red row.resend
    ∙ ap (λ p. resend_kept_by p (free_type before now (given pt red)) row.resend) (claimed_none before now c s)
    ∙ ap (λ f. resend_kept_by (is_among c.claimed) f row.resend) (free_given before now c s pt red))

moved_ok : (c : Claims) (row new : Row) → moved_by c row ≡ Ok new → IsMoved c row new
moved_ok c row new e =
    let m = chain_ok (moved row) (main_by c row) (red_left c row) (rtx_left c row) new e in record {
      pt = m.x;
      red = m.y;
      resend = m.z;
      pt_given = own_ok TypeTaken c (Some row.pt) m.x m.first;
      red_given = red_ok false (with_used (m.x ∷ []) c) row.red m.y m.second;
      resend_given = resend_kept_ok (with_used (m.x ∷ listed m.y) c) row.resend m.z m.third;
      becomes = m.makes;
    }

moved_back : (c : Claims) (row new : Row) → IsMoved c row new → moved_by c row ≡ Ok new
moved_back c row new l = chain_back (moved row) (main_by c row) (red_left c row) (rtx_left c row) l.pt l.red l.resend
    (own_back TypeTaken c (Some row.pt) l.pt l.pt_given)
    (red_back false (with_used (l.pt ∷ []) c) row.red l.red l.red_given)
    (resend_kept_back (with_used (l.pt ∷ listed l.red) c) row.resend l.resend l.resend_given)
    ∙ ok_ap (moved row l.pt l.red l.resend) new (sym l.becomes)

moved_err : (c : Claims) (row : Row) (e : RoundError) → moved_by c row ≡ Err e → MovedRefused c row e
moved_err c row e is = at (chain_err (moved row) (main_by c row) (red_left c row) (rtx_left c row) e is)
  where
    at : MadeRefused (main_by c row) (red_left c row) (rtx_left c row) e → MovedRefused c row e
    at (inl f) = inl (own_err TypeTaken c (Some row.pt) e f)
    at (inr (pt, f, inl h)) = inr (
      pt,
      own_ok TypeTaken c (Some row.pt) pt f,
      inl (red_err false (with_used (pt ∷ []) c) row.red e h),
    )
    at (inr (pt, f, inr (o, h, k))) = inr (
      pt,
      own_ok TypeTaken c (Some row.pt) pt f,
      inr (
        o,
        red_ok false (with_used (pt ∷ []) c) row.red o h,
        resend_kept_err (with_used (pt ∷ listed o) c) row.resend e k,
      ),
    )

moved_not : (c : Claims) (row : Row) (e : RoundError) → MovedRefused c row e → moved_by c row ≡ Err e
moved_not c row e is = chain_not (moved row) (main_by c row) (red_left c row) (rtx_left c row) e (at is)
  where
    at : MovedRefused c row e → MadeRefused (main_by c row) (red_left c row) (rtx_left c row) e
    at (inl f) = inl (own_not TypeTaken c (Some row.pt) e f)
    at (inr (pt, f, inl h)) = inr (
      pt,
      own_back TypeTaken c (Some row.pt) pt f,
      inl (red_not false (with_used (pt ∷ []) c) row.red e h),
    )
    at (inr (pt, f, inr (o, h, k))) = inr (
      pt,
      own_back TypeTaken c (Some row.pt) pt f,
      inr (
        o,
        red_back false (with_used (pt ∷ []) c) row.red o h,
        resend_kept_not (with_used (pt ∷ listed o) c) row.resend e k,
      ),
    )

abbrev pub left_as : Claims → Row → Bool → Result Row RoundError
left_as c row locked = if locked then Ok row else moved_by c row

abbrev pub left_by : Claims → Row → Result Row RoundError
left_by c row = left_as c row row.locked

pub settled_same : (before now : List Row) (c : Claims) (row : Row) → (row.locked ≡ false → Sees before now c)
    → settled_row before now row ≡ left_by c row
settled_same before now c row s = at row.locked refl
  where
    at : (b : Bool) → row.locked ≡ b
        → (let r : Result Row RoundError = if b then Ok row else moved_row before now row in r) ≡ left_as c row b
    at true is = refl
    at false is = moved_same before now c (s is) row

pub settled_ok : (c : Claims) (row new : Row) → left_by c row ≡ Ok new → IsSettled c row new
settled_ok c row new e = at row.locked refl e
  where
    at : (b : Bool) → row.locked ≡ b → left_as c row b ≡ Ok new → IsSettled c row new
    at true x is = inl (x, sym (ok_is row new is))
    at false x is = inr (x, moved_ok c row new is)

pub settled_back : (c : Claims) (row new : Row) → IsSettled c row new → left_by c row ≡ Ok new
settled_back c row new (inl (x, same)) = ap (λ b. left_as c row b) x ∙ ok_ap row new (sym same)
settled_back c row new (inr (x, is)) = ap (λ b. left_as c row b) x ∙ moved_back c row new is

pub settled_err : (c : Claims) (row : Row) (e : RoundError) → left_by c row ≡ Err e → SettledRefused c row e
settled_err c row e is = at row.locked refl is
  where
    at : (b : Bool) → row.locked ≡ b → left_as c row b ≡ Err e → SettledRefused c row e
    at true x is = ok_err row e is
    at false x is = (x, moved_err c row e is)

pub settled_not : (c : Claims) (row : Row) (e : RoundError) → SettledRefused c row e → left_by c row ≡ Err e
settled_not c row e (x, is) = ap (λ b. left_as c row b) x ∙ moved_not c row e is
