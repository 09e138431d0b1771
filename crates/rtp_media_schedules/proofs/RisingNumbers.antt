-- Lists of rising numbers, and those of a range that pass a test.
use Rattle.std.proofs.Common.{◌≡◌, ℕ, zero, suc, ◌+◌, ◌-◌, ◌<◌, ◌≤◌, refl, sym, ◌∙◌, ap, ap₂}
use Rattle.std.proofs.Common.{arith, Bool, true, false, cond, List, ◌∷◌, ◌++◌, length, drop, get_or}
use Rattle.std.proofs.Common.{get_or-drop, length-drop, append-nil}
use Rattle.std.specs.Prelude.{filter}
use Rattle.std.specs.List.{list_all, range_with_len}
use Rattle.rtp_media_schedules.specs.TrueNumbers.{Rises}
use Rattle.rtp_media_schedules.proofs.Numbers.{Rises-behind, Rises-from}
use Rattle.rtp_media_schedules.proofs.Ready.{filter-come}

pub apart : (lo hi i j : ℕ) (xs : List ℕ) → Rises lo hi xs → i < j → j < length xs → get_or xs i 0 < get_or xs j 0
apart lo hi i j xs r less inside =
    let k : ℕ = j - suc i in
    let more : get_or xs i 0 + 1 ≤ get_or (drop (suc i) xs) k 0 =
    Rises-from (get_or xs i 0 + 1) hi k (drop (suc i) xs) (omega (arith, length-drop (suc i) xs))
    (Rises-behind lo hi i xs (omega arith) r) in
    let place : suc i + k ≡ j = omega arith in
    omega (arith, more, get_or-drop (suc i) xs k 0, ap (λ (n : ℕ). get_or xs n 0) place)

-- what is behind a place
pub drop-filter : (p : ℕ → Bool) (lo n k : ℕ) → k < length (filter p (range_with_len lo n)) →
    drop (suc k) (filter p (range_with_len lo n))
    ≡ filter p (range_with_len (get_or (filter p (range_with_len lo n)) k 0 + 1)
    (lo + n - (get_or (filter p (range_with_len lo n)) k 0 + 1)))
drop-filter p lo zero k h = absurd (omega arith)
drop-filter p lo (suc n) k h = go (drop-filter p (lo + 1) n) (p lo) refl k h where
  go : ((k : ℕ) → k < length (filter p (range_with_len (lo + 1) n)) →
      drop (suc k) (filter p (range_with_len (lo + 1) n))
      ≡ filter p (range_with_len (get_or (filter p (range_with_len (lo + 1) n)) k 0 + 1)
      (lo + 1 + n - (get_or (filter p (range_with_len (lo + 1) n)) k 0 + 1)))) → (b : Bool) → p lo ≡ b → (k : ℕ)
      → k < length (cond b (lo ∷ filter p (range_with_len (lo + 1) n)) (filter p (range_with_len (lo + 1) n))) →
      drop (suc k) (cond b (lo ∷ filter p (range_with_len (lo + 1) n)) (filter p (range_with_len (lo + 1) n)))
      ≡ filter p (range_with_len
      (get_or (cond b (lo ∷ filter p (range_with_len (lo + 1) n)) (filter p (range_with_len (lo + 1) n))) k 0 + 1)
      (lo + suc n - (get_or (cond b (lo ∷ filter p (range_with_len (lo + 1) n))
      (filter p (range_with_len (lo + 1) n))) k 0 + 1)))
  go ih false e k h =
      let same : lo + 1 + n ≡ lo + suc n = omega arith in
      ih k h ∙ ap (λ (m : ℕ). filter p (range_with_len (get_or (filter p (range_with_len (lo + 1) n)) k 0 + 1)
      (m - (get_or (filter p (range_with_len (lo + 1) n)) k 0 + 1)))) same
  go ih true e zero h =
      let same : n ≡ lo + suc n - (lo + 1) = omega arith in
      ap (λ (m : ℕ). filter p (range_with_len (lo + 1) m)) same
  go ih true e (suc k) h =
      let same : lo + 1 + n ≡ lo + suc n = omega arith in
      ih k (omega arith) ∙ ap (λ (m : ℕ). filter p (range_with_len
      (get_or (filter p (range_with_len (lo + 1) n)) k 0 + 1)
      (m - (get_or (filter p (range_with_len (lo + 1) n)) k 0 + 1)))) same

pub filter-split : (p : ℕ → Bool) (lo a b : ℕ) → filter p (range_with_len lo (a + b))
    ≡ filter p (range_with_len lo a) ++ filter p (range_with_len (lo + a) b)
filter-split p lo zero b =
    let e : lo ≡ lo + 0 = omega arith in
    let k : 0 + b ≡ b = omega arith in
    ap₂ (λ (x n : ℕ). filter p (range_with_len x n)) e k
filter-split p lo (suc a) b =
    let e : lo + 1 + a ≡ lo + suc a = omega arith in
    let k : suc a + b ≡ suc (a + b) = omega arith in
    let rest : filter p (range_with_len (lo + 1) (a + b)) ≡ filter p (range_with_len (lo + 1) a)
    ++ filter p (range_with_len (lo + suc a) b) =
    filter-split p (lo + 1) a b
    ∙ ap (λ (x : ℕ). filter p (range_with_len (lo + 1) a) ++ filter p (range_with_len x b)) e in
    ap (λ (n : ℕ). filter p (range_with_len lo n)) k
    ∙ elim (p lo) as (λ c. cond c (lo ∷ filter p (range_with_len (lo + 1) (a + b)))
    (filter p (range_with_len (lo + 1) (a + b)))
    ≡ cond c (lo ∷ filter p (range_with_len (lo + 1) a)) (filter p (range_with_len (lo + 1) a))
    ++ filter p (range_with_len (lo + suc a) b)) [
      | true ↦ ap (λ (xs : List ℕ). lo ∷ xs) rest
      | false ↦ rest
    ]

pub filter-whole : (p : ℕ → Bool) (lo z : ℕ) → list_all p (range_with_len lo z) ≡ true
    → filter p (range_with_len lo z) ≡ range_with_len lo z
filter-whole p lo z h = let e : z + 0 ≡ z = omega arith in
    ap (λ (n : ℕ). filter p (range_with_len lo n)) (sym e) ∙ filter-come p lo z 0 h ∙ append-nil (range_with_len lo z)
