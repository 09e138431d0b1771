-- The window of a stream under a good order of arrivals.
use Rattle.std.proofs.Common.{◌≡◌, ℕ, ◌+◌, ◌%◌, ◌^◌, ◌<◌, ◌≤◌, sym, ◌∙◌, arith, true, false}
use Rattle.std.proofs.Common.{List, [], ◌∷◌, true≢false}
use Rattle.std.specs.Prelude.{Option, None, Some}
use Rattle.std.specs.Ordering.{nat_cmp}
use Rattle.std.specs.FinSet as set
use Rattle.std.specs.Cmp.{nat_cmp_total}
use Rattle.std.proofs.lemmas.Bool.Decides.{nat_tests}
use Rattle.rtp_wire.specs.Widening.{widened}
use Rattle.rtp_wire.proofs.WindowLaws.{contains-window_with, eq_by_cmp-nat}
use Rattle.rtp_wire.specs.Replay.{Window, accepts, reach, window_with, window_at, greatest_in}
use Rattle.rtp_media_schedules.specs.Turns.{is_among, greatest_of, IsGoodArrival}
use Rattle.rtp_wire.proofs.WideningLaws.{widened-near}

pub record IsWindowOf (first : ℕ) (past : List ℕ) (w : Window) : Type 0 where
  pub greatest : w.greatest ≡ greatest_of past
  pub recorded : (y : ℕ) → w.greatest < y + reach → set.contains w.recorded y ≡ is_among past y
  -- what is out of reach came
  pub closed : (y : ℕ) → first ≤ y → y + reach ≤ w.greatest → is_among past y ≡ true

abbrev pub WindowIs : ℕ → List ℕ → Option Window → Type 0
WindowIs first [] None = Unit {0}
WindowIs first [] (Some w) = ⊥
WindowIs first (y ∷ ys) None = ⊥
WindowIs first (y ∷ ys) (Some w) = IsWindowOf first (y ∷ ys) w

pub among-le-greatest : (past : List ℕ) (x : ℕ) → is_among past x ≡ true → x ≤ greatest_of past
among-le-greatest [] x h = absurd (true≢false (sym h))
among-le-greatest (y ∷ ys) x h = grind (arith, nat_tests, among-le-greatest ys x)

-- widening gives the true number
pub widened-true : (first count : ℕ) (past : List ℕ) (w : Option Window) (x : ℕ) → first + count ≤ 2 ^ 62
    → WindowIs first past w → IsGoodArrival first count past x → widened (greatest_in w) (x % 65536) ≡ x
widened-true first count [] None x fits is good = omega (arith, good.near)
widened-true first count [] (Some w) x fits is good = absurd is
widened-true first count (y ∷ ys) None x fits is good = absurd is
widened-true first count (y ∷ ys) (Some w) x fits is good =
    rw is.greatest (widened-near (greatest_of (y ∷ ys)) x good.near.0 good.near.1 (omega (arith, good.before_end)))

-- one more that came
pub among-more : (past : List ℕ) (x y : ℕ) → is_among past y ≡ true → is_among (x ∷ past) y ≡ true
among-more past x y h = grind (arith, nat_tests)

-- one that came already changes nothing
pub among-again : (past : List ℕ) (x y : ℕ) → is_among past x ≡ true → is_among (x ∷ past) y ≡ is_among past y
among-again past x y h = grind (arith, nat_tests)

-- a number that came before is refused
pub refused-again : (first : ℕ) (past : List ℕ) (w : Window) (x : ℕ) → IsWindowOf first past w → is_among past x
    ≡ true → accepts w x ≡ false
refused-again first past w x is came = grind
    (arith, nat_tests, is.recorded x, among-le-greatest past x came, is.greatest)

-- a first arrival is accepted
pub accepted-first : (first count : ℕ) (past : List ℕ) (w : Window) (x : ℕ) → IsWindowOf first past w
    → IsGoodArrival first count past x → is_among past x ≡ false → accepts w x ≡ true
accepted-first first count past w x is good new = grind (arith, nat_tests, is.recorded x, is.closed x good.from_first)

-- the window after it
pub IsWindowOf-more : (first count : ℕ) (past : List ℕ) (w : Window) (x : ℕ) → IsWindowOf first past w
    → IsGoodArrival first count past x → IsWindowOf first (x ∷ past) (window_with w x)
IsWindowOf-more first count past w x is good = record {
  greatest = omega (arith, is.greatest);
  recorded = λ y h. let e : set.contains w.recorded y ≡ is_among past y = is.recorded y (omega arith) in
      grind (arith, nat_tests, contains-window_with w x y, e);
  closed = λ y a b. among-more past x y (grind (arith, is.closed y a, good.in_reach y a));
}

pub IsWindowOf-first : (first count x : ℕ) → IsGoodArrival first count [] x → IsWindowOf first (x ∷ []) (window_at x)
IsWindowOf-first first count x good = record {
  greatest = omega arith;
  recorded = λ y h. grind (
    arith,
    nat_tests,
    set.contains-insert nat_cmp_total (set.empty {R = nat_cmp}) x y,
    set.contains-empty nat_cmp y,
    eq_by_cmp-nat y x,
  );
  closed = λ y a b. among-more [] x y (good.in_reach y a b);
}

-- the same window after a number that came before
pub IsWindowOf-again : (first : ℕ) (past : List ℕ) (w : Window) (x : ℕ) → IsWindowOf first past w → is_among past x
    ≡ true → IsWindowOf first (x ∷ past) w
IsWindowOf-again first past w x is came = record {
  greatest = omega (arith, is.greatest, among-le-greatest past x came);
  recorded = λ y h. is.recorded y h ∙ sym (among-again past x y came);
  closed = λ y a b. among-more past x y (is.closed y a b);
}
