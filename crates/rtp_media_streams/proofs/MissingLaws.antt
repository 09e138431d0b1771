use Rattle.std.proofs.Common.{◌≡◌, ◌≢◌, ℕ, suc, zero, ◌+◌, ◌-◌, ◌^◌, ◌<◌, ◌≤◌, ◌∙◌, refl, sym, ap, arith}
use Rattle.std.proofs.Common.{true, false, List, ◌∷◌}
use Rattle.std.specs.Prelude.{◌&&◌, nat_eq, nat_lt, filter, max, min, Bool, if◌then◌else◌}
use Rattle.std.specs.List.{range_with_len}
use Rattle.rtp_wire.specs.Replay.{Window, accepts, reach_below}
use Rattle.rtp_media_streams.specs.Missing.{in_reach}

-- The list with a number in front, if it is above a bound and passes the test.
abbrev with_test : (ℕ → Bool) → ℕ → Bool → List ℕ → List ℕ
with_test q y above ys = if above && q y then y ∷ ys else ys

stepped : (q : ℕ → Bool) (last a n : ℕ) (b : Bool) → nat_lt last a ≡ b
    → filter (λ y. nat_lt last y && q y) (range_with_len a (suc n))
    ≡ with_test q a b (filter (λ y. nat_lt last y && q y) (range_with_len (a + 1) n))
stepped q last a n b is =
    ap (λ (t : Bool). with_test q a t (filter (λ y. nat_lt last y && q y) (range_with_len (a + 1) n))) is

all : (q : ℕ → Bool) (last a n : ℕ) → last < a → filter (λ y. nat_lt last y && q y) (range_with_len a n)
    ≡ filter q (range_with_len a n)
all q last a zero lt = refl
all q last a (suc n) lt = stepped q last a n true (grind (arith, lt))
    ∙ ap (λ ys. with_test q a true ys) (all q last (a + 1) n (omega (arith, lt)))

rest : (q : ℕ → Bool) (last a n : ℕ) → a ≤ last → filter (λ y. nat_lt last y && q y) (range_with_len a n)
    ≡ filter q (range_with_len (last + 1) (a + n - (last + 1)))
rest q last a zero le = let none : a + 0 - (last + 1) ≡ 0 = omega (arith, le) in
    sym (ap (λ k. filter q (range_with_len (last + 1) k)) none)
rest q last a (suc n) le = elim (nat_lt last (a + 1)) as (λ b. nat_lt last (a + 1) ≡ b
    → filter (λ y. nat_lt last y && q y) (range_with_len a (suc n)) ≡ filter q (range_with_len (last + 1) (a + suc n - (last + 1)))) [
      | true ↦ λ is. let here : a ≡ last = grind (arith, is, le) in
          let left : a + suc n - (last + 1) ≡ n = omega (arith, here) in
          stepped q last a n false (grind (arith, le)) ∙ all q last (a + 1) n (grind (arith, is))
          ∙ ap (λ k. filter q (range_with_len (k + 1) n)) here
          ∙ sym (ap (λ k. filter q (range_with_len (last + 1) k)) left)
      | false ↦ λ is. let left : a + 1 + n - (last + 1) ≡ a + suc n - (last + 1) = omega arith in
          stepped q last a n false (grind (arith, le)) ∙ rest q last (a + 1) n (grind (arith, is))
          ∙ ap (λ k. filter q (range_with_len (last + 1) k)) left
    ] refl

-- Of numbers in a row, those above a number are the rest from the one after it on.
after : (q : ℕ → Bool) (last a n : ℕ) → filter (λ y. nat_lt last y && q y) (range_with_len a n)
    ≡ filter q (range_with_len (max (last + 1) a) (a + n - max (last + 1) a))
after q last a n = elim (nat_lt last a) as (λ b. nat_lt last a ≡ b → filter (λ y. nat_lt last y && q y)
    (range_with_len a n) ≡ filter q (range_with_len (max (last + 1) a) (a + n - max (last + 1) a))) [
      | true ↦ λ is. let from : max (last + 1) a ≡ a = grind (arith, is) in
          let left : a + n - max (last + 1) a ≡ n = omega (arith, from) in
          all q last a n (grind (arith, is)) ∙ grind (arith, from, left)
      | false ↦ λ is. let from : max (last + 1) a ≡ last + 1 = grind (arith, is) in
          rest q last a n (grind (arith, is)) ∙ ap (λ k. filter q (range_with_len k (a + n - k))) (sym from)
    ] refl

-- Both bounds give the same numbers.
same_from : (q : ℕ → Bool) (a b greatest : ℕ) → (a ≢ b → greatest ≤ a) → (a ≢ b → greatest ≤ b)
    → filter q (range_with_len a (greatest - a)) ≡ filter q (range_with_len b (greatest - b))
same_from q a b greatest left right = elim (nat_eq a b) as (λ e. nat_eq a b ≡ e
    → filter q (range_with_len a (greatest - a)) ≡ filter q (range_with_len b (greatest - b))) [
      | true ↦ λ is. ap (λ k. filter q (range_with_len k (greatest - k))) (grind (arith, is))
      | false ↦ λ is. let other : a ≢ b = grind (arith, is) in
          let none : greatest - a ≡ 0 = omega (arith, left other) in
          let none_right : greatest - b ≡ 0 = omega (arith, right other) in
          ap (λ k. filter q (range_with_len a k)) none ∙ sym (ap (λ k. filter q (range_with_len b k)) none_right)
    ] refl

-- The numbers of a window's reach after a number are those from the greater of both bounds on.
pub missing_after : (w : Window) (last first : ℕ) → last < 2 ^ 64 → w.greatest < 2 ^ 64
    → first ≡ max (min (last + 1) (2 ^ 64 - 1)) (w.greatest - reach_below)
    → filter (λ y. accepts w y) (range_with_len first (w.greatest - first))
    ≡ filter (λ y. nat_lt last y && accepts w y) (in_reach w)
missing_after w last first fits within is =
    let low : ℕ = w.greatest - reach_below in
    let after_last : ℕ = max (last + 1) low in
    let left : low + (w.greatest - low) - after_last ≡ w.greatest - after_last = omega arith in
    same_from (accepts w) first after_last w.greatest (λ ne. omega (arith, fits, within, is, ne))
    (λ ne. omega (arith, fits, within, is, ne))
    ∙ sym (after (accepts w) last low (w.greatest - low)
    ∙ ap (λ k. filter (accepts w) (range_with_len after_last k)) left)
