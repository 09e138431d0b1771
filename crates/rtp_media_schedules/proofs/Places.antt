-- Held packets as the numbers that came, from a place on.
use Rattle.std.proofs.Common.{◌≡◌, ℕ, zero, suc, ◌+◌, ◌-◌, ◌<◌, ◌≤◌, ◌≢◌, refl, sym, ◌∙◌, ap, arith, Bool, true}
use Rattle.std.proofs.Common.{false, cond, ◌||◌, List, ◌∷◌, length, map, drop, eq-or-lt_of_le, inl, inr, subst}
use Rattle.std.specs.Cmp.{nat_cmp_is}
use Rattle.std.specs.Ordering.{match_ordering}
use Rattle.std.specs.Prelude.{nat_lt, ◌==◌, filter}
use Rattle.std.specs.declared.cmp.Ordering.TheVariants.{Less, Greater}
use Rattle.std.specs.List.{range_with_len}
use Rattle.std.proofs.lemmas.Bool.Decides.{nat_tests}
use Rattle.payload_core_buffer.specs.Buffered.{held_with, limited}
use Rattle.payload_core_buffer.specs.Packets.{Packet}
use Rattle.rtp_media_schedules.specs.Hearing.{packet_of}
use Rattle.rtp_media_schedules.specs.Turns.{Sender}

abbrev pub packet : Sender → ℕ → Packet
packet sender x = packet_of x (sender x)

-- one number more
abbrev pub or_this : (ℕ → Bool) → ℕ → ℕ → Bool
or_this p x y = (y == x) || p y

pub eqb-no : (a b : ℕ) → a ≢ b → (a == b) ≡ false
eqb-no a b h = grind (arith, nat_tests)

pub eqb-yes : (a b : ℕ) → a ≡ b → (a == b) ≡ true
eqb-yes a b h = grind (arith, nat_tests)

pub nat_lt-no : (a b : ℕ) → b ≤ a → nat_lt a b ≡ false
nat_lt-no a b h = grind (arith, nat_tests)

-- below the range nothing changes
pub filter-below : (p : ℕ → Bool) (x lo m : ℕ) → x < lo → filter (or_this p x) (range_with_len lo m)
    ≡ filter p (range_with_len lo m)
filter-below p x lo zero h = refl
filter-below p x lo (suc m) h = rw (eqb-no lo x (omega arith), filter-below p x (lo + 1) m (omega arith))

-- as many packets as may be held stay
pub limited-few : (most : ℕ) (ps : List Packet) → length ps ≤ most → limited most ps ≡ ps
limited-few most ps few = let none : length ps - most ≡ 0 = omega arith in ap (λ n. drop n ps) none

-- a packet goes before the first greater number, and one that is held changes nothing
held_with-below : (p q : Packet) (qs : List Packet) → p.meta.seq_no < q.meta.seq_no → held_with p (q ∷ qs) ≡ p ∷ q ∷ qs
held_with-below p q qs h = ap (λ o. match_ordering o (p ∷ q ∷ qs) (q ∷ qs) (q ∷ held_with p qs))
    (sym (nat_cmp_is p.meta.seq_no q.meta.seq_no Less h))

held_with-above : (p q : Packet) (qs : List Packet) → q.meta.seq_no < p.meta.seq_no → held_with p (q ∷ qs) ≡ q
    ∷ held_with p qs
held_with-above p q qs h = ap (λ o. match_ordering o (p ∷ q ∷ qs) (q ∷ qs) (q ∷ held_with p qs))
    (sym (nat_cmp_is p.meta.seq_no q.meta.seq_no Greater h))

module _ (sender : Sender) where
  held-below : (p : ℕ → Bool) (x lo m : ℕ) → x < lo →
      held_with (packet sender x) (map (packet sender) (filter p (range_with_len lo m))) ≡ packet sender x
      ∷ map (packet sender) (filter p (range_with_len lo m))
  held-below p x lo zero h = refl
  held-below p x lo (suc m) h =
      elim (p lo) as (λ b. held_with (packet sender x)
      (map (packet sender) (cond b (lo ∷ filter p (range_with_len (lo + 1) m))
      (filter p (range_with_len (lo + 1) m)))) ≡ packet sender x
      ∷ map (packet sender) (cond b (lo ∷ filter p (range_with_len (lo + 1) m))
      (filter p (range_with_len (lo + 1) m)))) [
        | true ↦ held_with-below (packet sender x) (packet sender lo) _ h
        | false ↦ held-below p x (lo + 1) m (omega arith)
      ]

  place-here : (p : ℕ → Bool) (lo m : ℕ) → p lo ≡ false →
      held_with (packet sender lo) (map (packet sender) (filter p (range_with_len lo (suc m))))
      ≡ map (packet sender) (filter (or_this p lo) (range_with_len lo (suc m)))
  place-here p lo m n = rw (n, eqb-yes lo lo refl, filter-below p lo (lo + 1) m (omega arith))
      (held-below p lo (lo + 1) m (omega arith))

  place-step : (b : Bool) (x lo : ℕ) (xs ys : List ℕ) → lo < x → held_with (packet sender x) (map (packet sender) xs)
      ≡ map (packet sender) ys →
      held_with (packet sender x) (map (packet sender) (cond b (lo ∷ xs) xs))
      ≡ map (packet sender) (cond b (lo ∷ ys) ys)
  place-step true x lo xs ys l ih = held_with-above (packet sender x) (packet sender lo) (map (packet sender) xs) l
      ∙ ap (λ (zs : List Packet). packet sender lo ∷ zs) ih
  place-step false x lo xs ys l ih = ih

  -- the packet of a number that was not there takes its place
  pub held_with-place : (p : ℕ → Bool) (x lo m : ℕ) → lo ≤ x → x < lo + m → p x ≡ false →
      held_with (packet sender x) (map (packet sender) (filter p (range_with_len lo m)))
      ≡ map (packet sender) (filter (or_this p x) (range_with_len lo m))
  held_with-place p x lo zero a b n = absurd (omega arith)
  held_with-place p x lo (suc m) a b n =
      elim (eq-or-lt_of_le a) [
        | inl e ↦ let n' : p lo ≡ false = rw e n in
            subst (λ (z : ℕ). held_with (packet sender z)
            (map (packet sender) (filter p (range_with_len lo (suc m))))
            ≡ map (packet sender) (filter (or_this p z) (range_with_len lo (suc m)))) e (place-here p lo m n')
        | inr l ↦ rw (eqb-no lo x (omega arith))
            (place-step (p lo) x lo _ _ l (held_with-place p x (lo + 1) m (omega arith) (omega arith) n))
      ]

-- at most k of the numbers pass, if none from lo + k on does
pub length-filter-few : (p : ℕ → Bool) (lo m k : ℕ) → ((y : ℕ) → lo + k ≤ y → p y ≡ false)
    → length (filter p (range_with_len lo m)) ≤ k
length-filter-few p lo zero k none = omega arith
length-filter-few p lo (suc m) zero none =
    rw (none lo (omega arith)) (length-filter-few p (lo + 1) m zero (λ y h. none y (omega arith)))
length-filter-few p lo (suc m) (suc k) none =
    let few : length (filter p (range_with_len (lo + 1) m)) ≤ k =
    length-filter-few p (lo + 1) m k (λ y h. none y (omega arith)) in
    elim (p lo) as (λ b. length (cond b (lo ∷ filter p (range_with_len (lo + 1) m))
    (filter p (range_with_len (lo + 1) m))) ≤ suc k) [ true ↦ omega arith | false ↦ omega arith ]
