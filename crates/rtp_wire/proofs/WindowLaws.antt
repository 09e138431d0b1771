-- A window's set, kept as a ring of slots.
use Rattle.std.proofs.Common.{◌≡◌, ℕ, zero, suc, ◌+◌, ◌-◌, ◌%◌, ◌<◌, ◌≤◌, ◌≢◌, refl, sym, ◌∙◌, ap, ap₂, arith, Bool}
use Rattle.std.proofs.Common.{true, false, cond, not, ◌&&◌, ◌||◌, List, [], ◌∷◌, max}
use Rattle.std.proofs.Common.{inl, inr}
use Rattle.std.specs.Prelude.{nat_lt, nat_le, nat_eq, ◌==◌, filter}
use Rattle.std.specs.Ordering.{nat_cmp, eq_by_cmp}
use Rattle.std.specs.List.{list_any, range_with_len}
use Rattle.std.specs.FinSet as set
use Rattle.std.specs.FinSet.{nat_cmp-IsAntisymmetric}
use Rattle.std.specs.Cmp.{nat_cmp_total}
use Rattle.std.proofs.lemmas.Bool.{cases_order}
use Rattle.std.proofs.lemmas.Bool.Decides.{nat_tests}
use Rattle.rtp_wire.specs.Ring.{is_recorded, is_set, numbers_of}
use Rattle.rtp_wire.specs.Replay.{Window, window_with, window_at, window_after, window_with_all, greatest_of}
use Rattle.rtp_wire.specs.Replay.{is_among, is_new, accepts}

pub eqb-no : (a b : ℕ) → a ≢ b → (a == b) ≡ false
eqb-no a b h = grind (arith, nat_tests)

pub eqb-yes : (a b : ℕ) → a ≡ b → (a == b) ≡ true
eqb-yes a b h = grind (arith, nat_tests)

pub eq_by_cmp-nat : (y x : ℕ) → eq_by_cmp nat_cmp y x ≡ (y == x)
eq_by_cmp-nat y x = grind (arith, nat_tests)

-- what the step of the window's set contains
pub contains-window_with : (w : Window) (x y : ℕ) → set.contains (window_with w x).recorded y
    ≡ (((y == x) || set.contains w.recorded y) && nat_lt (max w.greatest x) (y + 1024))
contains-window_with w x y =
    set.contains-retain (set.insert w.recorded x) (λ z. nat_lt (max w.greatest x) (z + 1024)) y
    (λ z e. rw (nat_cmp-IsAntisymmetric y z e))
    ∙ ap (λ (b : Bool). b && nat_lt (max w.greatest x) (y + 1024))
    (rw (set.contains-insert nat_cmp_total w.recorded x y, eq_by_cmp-nat y x))

any-cond : (t a d l f : Bool) → (t ≡ true → a ≡ d) → f ≡ (l && d) → cond a (t || f) f ≡ ((t || l) && d)
any-cond true true d l f h e = h refl
any-cond true false d l f h e = e ∙ ap (λ (b : Bool). l && b) (sym (h refl)) ∙ and-false l ∙ h refl where
  and-false : (b : Bool) → (b && false) ≡ false
  and-false true = refl
  and-false false = refl
any-cond false true d l f h e = e
any-cond false false d l f h e = e

list_any-cond : (f : ℕ → Bool) (a : Bool) (x : ℕ) (xs : List ℕ) → list_any f (cond a (x ∷ xs) xs)
    ≡ cond a (f x || list_any f xs) (list_any f xs)
list_any-cond f true x xs = refl
list_any-cond f false x xs = refl

-- a filtered list has what passes
list_any-filter : (p : ℕ → Bool) (q : ℕ) (xs : List ℕ) → list_any (λ y. nat_eq y q) (filter p xs)
    ≡ (list_any (λ y. nat_eq y q) xs && p q)
list_any-filter p q [] = refl
list_any-filter p q (x ∷ xs) =
    list_any-cond (λ y. nat_eq y q) (p x) x (filter p xs)
    ∙ any-cond (nat_eq x q) (p x) (p q) _ _ (λ t. let e : x ≡ q = grind (arith, nat_tests) in ap p e)
    (list_any-filter p q xs)

-- the numbers of a range
list_any-range : (lo m q : ℕ) → list_any (λ y. nat_eq y q) (range_with_len lo m) ≡ (nat_le lo q && nat_lt q (lo + m))
list_any-range lo zero q = grind (arith, nat_tests)
list_any-range lo (suc m) q = grind (arith, nat_tests, list_any-range (lo + 1) m q)

-- the numbers in reach of the greatest
in_reach : (g q : ℕ) → (nat_le (g - 1023) q && nat_lt q (g - 1023 + (g + 1 - (g - 1023))))
    ≡ (nat_le q g && nat_lt g (q + 1024))
in_reach g q = grind (arith, nat_tests)

-- what the ring's set contains
pub contains-numbers_of : (g : ℕ) (words : List ℕ) (q : ℕ)
    → set.contains (numbers_of g words) q ≡ ((nat_le q g && nat_lt g (q + 1024)) && is_recorded words q)
contains-numbers_of g words q =
    set.contains-from_list_nat _ q ∙ list_any-filter (is_recorded words) q _
    ∙ ap (λ (b : Bool). b && is_recorded words q) (list_any-range (g - 1023) (g + 1 - (g - 1023)) q ∙ in_reach g q)

pub contains-window_after : (g q : ℕ) → set.contains (window_after g).recorded q ≡ (nat_le q g && nat_lt g (q + 1024))
contains-window_after g q = set.contains-from_list_nat _ q ∙ list_any-range (g - 1023) (g + 1 - (g - 1023)) q
    ∙ in_reach g q

pub contains-window_at : (n q : ℕ) → set.contains (window_at n).recorded q ≡ (q == n)
contains-window_at n q = set.contains-insert nat_cmp_total (set.empty {R = nat_cmp}) n q
    ∙ ap₂ (λ (a b : Bool). a || b) (eq_by_cmp-nat q n) (set.contains-empty nat_cmp q) ∙ or-false (q == n) where
      or-false : (b : Bool) → (b || false) ≡ b
      or-false true = refl
      or-false false = refl

abbrev pub ring : ℕ → List ℕ → Window
ring g words = record { greatest = g; recorded = numbers_of g words }

-- two windows with the same greatest, whose sets answer alike
pub same_window : (g : ℕ) (r t : set.FinSet nat_cmp) → ((q : ℕ) → set.contains r q ≡ set.contains t q)
    → (let w : Window = record { greatest = g; recorded = r } in w) ≡ record { greatest = g; recorded = t }
same_window g r t same = ap (λ (r : set.FinSet nat_cmp). let w : Window = record { greatest = g; recorded = r } in w)
    (set.same_set nat_cmp_total nat_cmp-IsAntisymmetric r t same)

or-nothing : (b : Bool) → (b || false) ≡ b
or-nothing true = refl
or-nothing false = refl

-- two numbers less than 1,024 apart have slots of their own
apart-mod : (q n g : ℕ) → q ≢ n → n ≤ g → g < n + 1024 → q ≤ g → g < q + 1024 → q % 1024 ≢ n % 1024
apart-mod q n g ne a b h k e = ne (omega arith)

pub accepts-ring : (g n : ℕ) (words : List ℕ) → n ≤ g → g - n < 1024
    → not (is_recorded words n) ≡ accepts (ring g words) n
accepts-ring g n words a b = grind (arith, nat_tests, contains-numbers_of g words n)

-- one slot more is set, and no other changes
abbrev pub Records : List ℕ → ℕ → List ℕ → Type 0
Records old n new = (slot : ℕ) → slot < 1024 → is_set new slot ≡ ((slot == n % 1024) || is_set old slot)

-- one slot is cleared, and no other changes
abbrev pub Forgets : List ℕ → ℕ → List ℕ → Type 0
Forgets old n new = (slot : ℕ) → slot < 1024 → is_set new slot ≡ (not (slot == n % 1024) && is_set old slot)

-- what is told of the numbers in reach, if those above `g` are passed over up to `h`
abbrev pub Passes : ℕ → List ℕ → ℕ → List ℕ → Type 0
Passes g old h new = (q : ℕ) → q ≤ h → h < q + 1024 → is_recorded new q ≡ (nat_le q g && is_recorded old q)

pub passes-none : (g : ℕ) (words : List ℕ) → Passes g words g words
passes-none g words q a b = grind (arith, nat_tests)

pub passes-more : (g h : ℕ) (old words new : List ℕ) → g ≤ h → Passes g old h words → Forgets words (h + 1) new
    → Passes g old (h + 1) new
passes-more g h old words new le p f q a b = elim (cases_order q (h + 1)) [
  | inl e ↦ f (q % 1024) (omega arith) ∙ rw e (grind (arith, nat_tests))
  | inr other ↦ let apart : q ≢ h + 1 = elim other [ inl below ↦ omega arith | inr above ↦ omega arith ] in
      f (q % 1024) (omega arith)
      ∙ rw (eqb-no (q % 1024) ((h + 1) % 1024) (apart-mod q (h + 1) (h + 1) apart (omega arith) (omega arith) a b))
      (p q (omega arith) (omega arith))
]

-- a number in reach is recorded by its slot, and no other in reach changes
records-in_reach : (g n q : ℕ) (old new : List ℕ) → Records old n new → n ≤ g → g < n + 1024 → q ≤ g → g < q + 1024
    → is_recorded new q ≡ ((q == n) || is_recorded old q)
records-in_reach g n q old new r a b h k = r (q % 1024) (omega arith) ∙ elim (cases_order q n) [
  | inl e ↦ rw (eqb-yes q n e, eqb-yes (q % 1024) (n % 1024) (ap (λ (x : ℕ). x % 1024) e)) refl
  | inr other ↦ let apart : q ≢ n = elim other [ inl below ↦ omega arith | inr above ↦ omega arith ] in
      rw (eqb-no q n apart, eqb-no (q % 1024) (n % 1024) (apart-mod q n g apart a b h k)) refl
]

-- a window that answers as the step says is the step
ring-with : (g n h : ℕ) (words raised : List ℕ) → max g n ≡ h →
    ((q : ℕ) → ((nat_le q h && nat_lt h (q + 1024)) && is_recorded raised q)
    ≡ (((q == n) || ((nat_le q g && nat_lt g (q + 1024)) && is_recorded words q)) && nat_lt h (q + 1024))) →
    ring h raised ≡ window_with (ring g words) n
ring-with g n h words raised e same =
    rw e (same_window h _ _ (λ q. contains-numbers_of h raised q ∙ same q
    ∙ ap (λ (b : Bool). ((q == n) || b) && nat_lt h (q + 1024)) (sym (contains-numbers_of g words q))
    ∙ sym (rw e at (contains-window_with (ring g words) n q))))

pub ring-near : (g n h : ℕ) (words passed new : List ℕ) → max g n ≡ h → Passes g words h passed → Records passed n new
    → h - n < 1024 → ring h new ≡ window_with (ring g words) n
ring-near g n h words passed new e p r b = ring-with g n h words new e
    (λ q. grind (arith, nat_tests, records-in_reach h n q passed new r, p q))

pub ring-far : (g n h : ℕ) (words passed : List ℕ) → max g n ≡ h → Passes g words h passed → 1024 ≤ h - n
    → ring h passed ≡ window_with (ring g words) n
ring-far g n h words passed e p b = ring-with g n h words passed e (λ q. grind (arith, nat_tests, p q))

-- if one slot is set, or all are
pub ring-new : (n seq : ℕ) (empty new : List ℕ) → n ≡ seq → ((slot : ℕ) → slot < 1024 → is_set empty slot ≡ false)
    → Records empty n new → ring n new ≡ window_at seq
ring-new n seq empty new same none r = same_window n _ _ (λ q. contains-numbers_of n new q
    ∙ grind (arith, nat_tests, records-in_reach n n q empty new r, none (q % 1024))
    ∙ sym (contains-window_at n q)) ∙ ap window_at same

pub ring-after : (n : ℕ) (full : List ℕ) → ((slot : ℕ) → slot < 1024 → is_set full slot ≡ true)
    → ring n full ≡ window_after n
ring-after n full all = same_window n _ _ (λ q. contains-numbers_of n full q
    ∙ rw (all (q % 1024) (omega arith)) (and-true (nat_le q n && nat_lt n (q + 1024)))
    ∙ sym (contains-window_after n q)) where
      and-true : (b : Bool) → (b && true) ≡ b
      and-true true = refl
      and-true false = refl

-- if all slots are cleared
pub passes-all : (g h : ℕ) (old new : List ℕ) → 1024 ≤ h - g
    → ((slot : ℕ) → slot < 1024 → is_set new slot ≡ false) → Passes g old h new
passes-all g h old new far none q a b = none (q % 1024) (omega arith) ∙ grind (arith, nat_tests)

-- what came in another order of asking
came-order : (a b c : Bool) → ((b || a) || c) ≡ (a || (b || c))
came-order true true c = refl
came-order true false c = refl
came-order false true c = refl
came-order false false c = refl

-- a window that knows what came, in its reach, knows it after more numbers
pub accepts-all : (w : Window) (came : ℕ → Bool) (ns : List ℕ) (s : ℕ)
    → ((y : ℕ) → w.greatest < y + 1024 → set.contains w.recorded y ≡ came y) →
    accepts (window_with_all w ns) s ≡ is_new (greatest_of w.greatest ns) (λ y. came y || is_among ns y) s
accepts-all w came [] s h = rw (or-nothing (came s)) (grind (arith, nat_tests, h s))
accepts-all w came (n ∷ ns) s h =
    accepts-all (window_with w n) (λ y. (y == n) || came y) ns s
    (λ y k. contains-window_with w n y ∙ grind (arith, nat_tests, h y))
    ∙ rw (came-order (came s) (s == n) (is_among ns s)) refl

pub accepts-all_at : (m : ℕ) (ns : List ℕ) (s : ℕ) → accepts (window_with_all (window_at m) ns) s
    ≡ is_new (greatest_of m ns) (is_among (m ∷ ns)) s
accepts-all_at m ns s = accepts-all (window_at m) (λ y. y == m) ns s (λ y k. contains-window_at m y)

pub accepts-all_after : (m : ℕ) (ns : List ℕ) (s : ℕ) → accepts (window_with_all (window_after m) ns) s
    ≡ is_new (greatest_of m ns) (λ y. nat_le y m || is_among ns y) s
accepts-all_after m ns s = accepts-all (window_after m) (λ y. nat_le y m) ns s
    (λ y k. contains-window_after m y ∙ grind (arith, nat_tests))
