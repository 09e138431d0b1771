-- The numbers that are taken of datagrams that are sent on.
use Rattle.std.proofs.Common.{◌≡◌, ℕ, ◌+◌, ◌%◌, ◌^◌, ◌<◌, ◌≤◌, refl, ◌∙◌, ap, arith, Bool, true, false, List}
use Rattle.std.proofs.Common.{[], ◌∷◌, ◌++◌, map, true≢false}
use Rattle.std.specs.Prelude.{Option, Some, None, if◌then◌else◌}
use Rattle.rtp_wire.specs.Replay.{Window, is_accepted, recorded_in}
use Rattle.rtp_media_schedules.specs.Hearing.{Stream, number_at}
use Rattle.rtp_media_schedules.specs.Orders.{IsSane}
use Rattle.rtp_media_schedules.specs.Turns.{Arrive}
use Rattle.rtp_media_schedules.proofs.Sane.{GreatestIs, not-above, widened-sane}
use Rattle.rtp_media_forward.specs.Relaying.{AreBetween}
use Rattle.rtp_media_forward_runs.specs.FirstHop.{as_list, lows_of, new_among, numbers_taken}

greatest-more : (past : List ℕ) (w : Option Window) (x : ℕ) → GreatestIs past w
    → GreatestIs (x ∷ past) (Some (recorded_in w x))
greatest-more [] None x is = omega arith
greatest-more [] (Some w) x is = absurd is
greatest-more (y ∷ ys) None x is = absurd is
greatest-more (y ∷ ys) (Some w) x is = omega (arith, is)

greatest-refused : (past : List ℕ) (w : Option Window) (x : ℕ) → GreatestIs past w → is_accepted w x ≡ false
    → GreatestIs (x ∷ past) w
greatest-refused past None x is refused = absurd (true≢false refused)
greatest-refused [] (Some w) x is refused = absurd is
greatest-refused (y ∷ ys) (Some w) x is refused = omega (arith, is, not-above w x refused)

taken-by : (s : Stream) (lows : List ℕ) (x : ℕ) (b : Bool)
    → as_list (if b then Some x else None)
    ++ numbers_taken (if b then record s { window = Some (recorded_in s.window x) } else s) lows
    ≡ (if b then x ∷ numbers_taken (record s { window = Some (recorded_in s.window x) }) lows else numbers_taken s lows)
taken-by s lows x true = refl
taken-by s lows x false = refl

taken-step : (s : Stream) (xs : List ℕ) (x : ℕ) (b : Bool)
    → numbers_taken (record s { window = Some (recorded_in s.window x) }) (lows_of xs)
    ≡ new_among (Some (recorded_in s.window x)) xs
    → (is_accepted s.window x ≡ false → numbers_taken s (lows_of xs) ≡ new_among s.window xs)
    → is_accepted s.window x ≡ b
    → (if b then x ∷ numbers_taken (record s { window = Some (recorded_in s.window x) }) (lows_of xs)
    else numbers_taken s (lows_of xs))
    ≡ (if b then x ∷ new_among (Some (recorded_in s.window x)) xs else new_among s.window xs)
taken-step s xs x true new old e = ap (λ (ys : List ℕ). x ∷ ys) new
taken-step s xs x false new old e = old e

pub taken-are : (first count : ℕ) → first + count ≤ 2 ^ 62 → (xs : List ℕ) (past : List ℕ) (s : Stream)
    → GreatestIs past s.window → IsSane first count past (map Arrive xs)
    → numbers_taken s (lows_of xs) ≡ new_among s.window xs
taken-are first count fits [] past s is sane = refl
taken-are first count fits (x ∷ xs) past s is sane =
    let small : x < 2 ^ 62 = omega (arith, fits, sane.0.before_end) in
    let number : number_at s (x % 65536) ≡ x = widened-sane past s.window x small is sane.0.near in
    ap (λ (n : ℕ). as_list (if is_accepted s.window n then Some n else None)
    ++ numbers_taken (if is_accepted s.window n then record s { window = Some (recorded_in s.window n) } else s)
    (lows_of xs)) number
    ∙ taken-by s (lows_of xs) x (is_accepted s.window x)
    ∙ taken-step s xs x (is_accepted s.window x)
    (taken-are first count fits xs (x ∷ past) (record s { window = Some (recorded_in s.window x) })
    (greatest-more past s.window x is) sane.1)
    (λ refused. taken-are first count fits xs (x ∷ past) s (greatest-refused past s.window x is refused) sane.1) refl

pub taken-between : (first count : ℕ) (xs : List ℕ) (past : List ℕ) (w : Option Window)
    → IsSane first count past (map Arrive xs) → AreBetween first (first + count) (new_among w xs)
taken-between first count [] past w sane = tt
taken-between first count (x ∷ xs) past w sane =
    by (is_accepted w x)
    (taken-between first count xs (x ∷ past) (Some (recorded_in w x)) sane.1)
    (taken-between first count xs (x ∷ past) w sane.1) where
      by : (b : Bool) → AreBetween first (first + count) (new_among (Some (recorded_in w x)) xs)
          → AreBetween first (first + count) (new_among w xs)
          → AreBetween first (first + count)
          (if b then x ∷ new_among (Some (recorded_in w x)) xs else new_among w xs)
      by true new old = (sane.0.from_first, sane.0.before_end, new)
      by false new old = old
