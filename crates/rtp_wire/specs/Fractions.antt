-- Times as fractions, compared by cross-multiplication.
use Rattle.std.specs.Prelude.{◌≡◌, ℕ, ◌*◌, ◌<◌, max, Bool}
use Rattle.std.specs.Ordering.{nat_cmp, MatchOrdering, eq_by_cmp}
use Rattle.std.specs.Cmp.{IsTotalOrder, ranks, nat_cmp_is, nat_cmp_total}
use Rattle.std.specs.declared.cmp.Ordering.{Ordering}
use Rattle.std.specs.declared.cmp.Ordering.TheVariants.{Less, Equal, Greater}
use Rattle.std.proofs.Common.{sym, ap, ap₂, subst, ◌∙◌, arith}
use Rattle.std.proofs.Math.Nat.{lt_of_mul-lt-mul_right, mul_right_comm, mul-lt-mul_of_pos_right, lt_trans}
use Rattle.rtp_wire.specs.Time.{Time}

-- A clock's rate as a divisor, at least 1.
abbrev pub divisor : Time → ℕ
divisor t = max 1 t.rate

-- a.ticks / a.rate against b.ticks / b.rate.
abbrev pub time_cmp : Time → Time → Ordering
time_cmp a b = nat_cmp (a.ticks * divisor b) (b.ticks * divisor a)

-- Equal as fractions.
abbrev pub time_eq : Time → Time → Bool
time_eq a b = eq_by_cmp time_cmp a b

scaled : (k a b : ℕ) → 0 < k → (o : Ordering) → MatchOrdering o (a < b) (a ≡ b) (b < a)
    → MatchOrdering o (a * k < b * k) (a * k ≡ b * k) (b * k < a * k)
scaled k a b h Less m = mul-lt-mul_of_pos_right m h
scaled k a b h Equal m = ap (λ (n : ℕ). n * k) m
scaled k a b h Greater m = mul-lt-mul_of_pos_right m h

nat_cmp-scale : (k a b : ℕ) → 0 < k → nat_cmp a b ≡ nat_cmp (a * k) (b * k)
nat_cmp-scale k a b h = nat_cmp_is (a * k) (b * k) (nat_cmp a b) (scaled k a b h (nat_cmp a b) (ranks a b))

less-of : (a b : ℕ) → nat_cmp a b ≡ Less → a < b
less-of a b e = subst (λ (o : Ordering). MatchOrdering o (a < b) (a ≡ b) (b < a)) e (ranks a b)

equal-of : (a b : ℕ) → nat_cmp a b ≡ Equal → a ≡ b
equal-of a b e = subst (λ (o : Ordering). MatchOrdering o (a < b) (a ≡ b) (b < a)) e (ranks a b)

less-is : (a b : ℕ) → a < b → nat_cmp a b ≡ Less
less-is a b h = sym (nat_cmp_is a b Less h)

-- x / p < y / q and y / q < z / r give x / p < z / r
chain : (x p y q z r : ℕ) → 0 < p → 0 < q → 0 < r → x * q < y * p → y * r < z * q → x * r < z * p
chain x p y q z r hp hq hr a b =
    let c : x * q * r < y * p * r = mul-lt-mul_of_pos_right a hr in
    let d : y * r * p < z * q * p = mul-lt-mul_of_pos_right b hp in
    let e : x * r * q < z * p * q = rw (mul_right_comm x r q, mul_right_comm z p q)
    (lt_trans c (rw (mul_right_comm y p r) d)) in
    lt_of_mul-lt-mul_right q e

-- Times are totally ordered as fractions.
pub time_total : IsTotalOrder time_cmp
time_total = record {
  antisymm = λ x y. nat_cmp_total.antisymm (x.ticks * divisor y) (y.ticks * divisor x);
  trans = λ x y z a b. less-is _ _ (chain x.ticks (divisor x) y.ticks (divisor y) z.ticks (divisor z) (positive x)
      (positive y) (positive z) (less-of _ _ a) (less-of _ _ b));
  congr = λ x y z a.
      let e : x.ticks * divisor y ≡ y.ticks * divisor x = equal-of _ _ a in
      nat_cmp-scale (divisor y) (x.ticks * divisor z) (z.ticks * divisor x) (positive y)
      ∙ ap₂ nat_cmp (mul_right_comm x.ticks (divisor z) (divisor y) ∙ ap (λ (n : ℕ). n * divisor z) e
      ∙ mul_right_comm y.ticks (divisor x) (divisor z)) (mul_right_comm z.ticks (divisor x) (divisor y))
      ∙ sym (nat_cmp-scale (divisor x) (y.ticks * divisor z) (z.ticks * divisor y) (positive x));
} where
  positive : (t : Time) → 0 < divisor t
  positive t = omega arith
