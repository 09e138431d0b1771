-- Bits, read one by one.
use Rattle.std.proofs.Common.{◌≡◌, ℕ, zero, suc, ◌+◌, ◌-◌, ◌*◌, ◌<◌, ◌≤◌, ◌≢◌, ◌^◌, ◌==◌, List, [], ◌∷◌, ◌++◌, length}
use Rattle.std.proofs.Common.{take}
use Rattle.std.proofs.Common.{drop, true, false, refl, arith, nat_le, nat_lt, min, None, Some, Option, ap, sym, ◌∙◌}
use Rattle.std.proofs.Common.{add-one}
use Rattle.std.proofs.lemmas.List.Sums.{fold-append}
use Rattle.std.proofs.lemmas.Nat.{pow_below}
use Rattle.std.proofs.lemmas.Grind.{pow_more}
use Rattle.std.proofs.Math.Seq.{drop-nil}
use Rattle.codec_headers.specs.Bits.{bits, number, pass, times, u, ue, zeros, Read, read}

-- after the last bit of a byte comes the first of the next
pub bits-byte : (byte : ℕ) (rest : List ℕ) → drop 8 (bits (byte ∷ rest)) ≡ bits rest
unfolding bits
bits-byte byte rest = refl

pub bits-none : bits [] ≡ []
unfolding bits
bits-none = refl

pub drop-none : (n : ℕ) (bytes : List ℕ) → length bytes ≡ 0 → drop n (bits bytes) ≡ []
unfolding bits
drop-none n [] e = drop-nil n
drop-none n (b ∷ bytes) e = absurd (omega arith)

-- a bit after those that are read
take-after : (i : ℕ) (bs : List ℕ) (x : ℕ) (rest : List ℕ) → drop i bs ≡ x ∷ rest
    → take (suc i) bs ≡ take i bs ++ x ∷ []
take-after zero [] x rest e = absurd (cc)
take-after zero (b ∷ bs) x rest e = cc
take-after (suc i) [] x rest e = absurd (cc)
take-after (suc i) (b ∷ bs) x rest e = ap (λ (l : List ℕ). b ∷ l) (take-after i bs x rest e)

drop-after : (i : ℕ) (bs : List ℕ) (x : ℕ) (rest : List ℕ) → drop i bs ≡ x ∷ rest → drop (suc i) bs ≡ rest
drop-after zero [] x rest e = absurd (cc)
drop-after zero (b ∷ bs) x rest e = cc
drop-after (suc i) [] x rest e = absurd (cc)
drop-after (suc i) (b ∷ bs) x rest e = drop-after i bs x rest e

below-length : (i : ℕ) (bs : List ℕ) (x : ℕ) (rest : List ℕ) → drop i bs ≡ x ∷ rest → i < length bs
below-length zero [] x rest e = absurd (cc)
below-length zero (b ∷ bs) x rest e = omega arith
below-length (suc i) [] x rest e = absurd (cc)
below-length (suc i) (b ∷ bs) x rest e = let h : i < length bs = below-length i bs x rest e in omega arith

at-length : (i : ℕ) (bs : List ℕ) → drop i bs ≡ [] → length bs ≤ i
at-length zero [] e = omega arith
at-length zero (b ∷ bs) e = absurd (cc)
at-length (suc i) [] e = omega arith
at-length (suc i) (b ∷ bs) e = let h : length bs ≤ i = at-length i bs e in omega arith

number-more : (bs : List ℕ) (x : ℕ) → number (bs ++ x ∷ []) ≡ 2 * number bs + x
unfolding number
number-more bs x = fold-append (λ (n : ℕ) (b : ℕ). 2 * n + b) 0 bs (x ∷ [])

-- what is read of a number so far
pub record IsTaken (all left : List ℕ) (n taken : ℕ) : Type 0 where
  pub counted : taken ≤ length all
  pub left_is : left ≡ drop taken all
  pub number_is : n ≡ number (take taken all)
  pub fits : n < 2 ^ taken

pub taken-none : (all : List ℕ) → IsTaken all all 0 0
unfolding number
taken-none all = record { counted = omega arith; left_is = refl; number_is = refl; fits = omega arith }

pub taken-more : (all left after : List ℕ) (n taken bit : ℕ) → IsTaken all left n taken → left ≡ bit ∷ after → bit < 2
    → IsTaken all after (2 * n + bit) (taken + 1)
taken-more all left after n taken bit so_far next small =
    let e : drop taken all ≡ bit ∷ after = sym so_far.left_is ∙ next in
    record {
      counted = let h : taken < length all = below-length taken all bit after e in omega arith;
      left_is = rw add-one (sym (drop-after taken all bit after e));
      number_is = rw (add-one, take-after taken all bit after e, number-more (take taken all) bit)
          (ap (λ (m : ℕ). 2 * m + bit) so_far.number_is);
      fits = let h : n < 2 ^ taken = so_far.fits in
          rw pow_more (omega arith);
    }

pub taken-room : (all left : List ℕ) (n taken width : ℕ) → IsTaken all left n taken → taken < width → width ≤ 32
    → 2 * n + 1 < 4294967296
taken-room all left n taken width so_far below few =
    let a : n < 2 ^ taken = so_far.fits in
    let b : 2 ^ taken ≤ 2 ^ 31 = pow_at_most taken (omega arith) in
    omega arith
  where
    pow_at_most : (i : ℕ) → i ≤ 31 → 2 ^ i ≤ 2 ^ 31
    pow_at_most i h = elim (nat_lt i 31) as (λ b. nat_lt i 31 ≡ b → 2 ^ i ≤ 2 ^ 31) [
      | true ↦ λ e. let l : i < 31 = grind (arith, e) in let p : 2 ^ i < 2 ^ 31 = pow_below i 31 l in omega arith
      | false ↦ λ e. let l : i ≡ 31 = grind (arith, e) in rw l (omega arith)
    ] refl

pub taken-short : (all left : List ℕ) (n taken width : ℕ) → IsTaken all left n taken → taken < width → left ≡ []
    → u width all ≡ None
unfolding u
taken-short all left n taken width so_far below empty =
    let h : length all ≤ taken = at-length taken all (sym so_far.left_is ∙ empty) in
    let e : nat_le width (length all) ≡ false = grind arith in
    rw e refl

pub taken-all : (all left : List ℕ) (n taken width : ℕ) → IsTaken all left n taken → taken ≡ width
    → u width all ≡ Some (read n left)
unfolding u
taken-all all left n taken width so_far same =
    let h : taken ≤ length all = so_far.counted in
    let e : nat_le width (length all) ≡ true = grind arith in
    let a : n ≡ number (take width all) = rw (← same) so_far.number_is in
    let b : left ≡ drop width all = rw (← same) so_far.left_is in
    rw (e, a, b) refl

-- bits 0 passed
pub record ArePassed (all left : List ℕ) (passed : ℕ) : Type 0 where
  pub counted : zeros all ≡ passed + zeros left
  pub left_is : left ≡ drop passed all

zeros-more : (left after : List ℕ) → left ≡ 0 ∷ after → zeros left ≡ zeros after + 1
unfolding zeros
zeros-more left after e = rw e refl

pub passed-none : (all : List ℕ) → ArePassed all all 0
passed-none all = record { counted = omega arith; left_is = refl }

pub passed-more : (all left after : List ℕ) (passed : ℕ) → ArePassed all left passed → left ≡ 0 ∷ after
    → ArePassed all after (passed + 1)
passed-more all left after passed so_far next = record {
  counted = let h : zeros left ≡ zeros after + 1 = zeros-more left after next in
      let k : zeros all ≡ passed + zeros left = so_far.counted in omega arith;
  left_is = rw add-one (sym (drop-after passed all 0 after (sym so_far.left_is ∙ next)));
}

pub zeros-none : (left : List ℕ) → left ≡ [] → zeros left ≡ 0
unfolding zeros
zeros-none left e = rw e refl

pub zeros-one : (left after : List ℕ) (bit : ℕ) → left ≡ bit ∷ after → 0 < bit → zeros left ≡ 0
unfolding zeros
zeros-one left after bit e more = let h : (bit == 0) ≡ false = grind arith in rw (e, h) refl

-- a bit 1 in front
pub zeros-first : (n bit byte : ℕ) (bytes rest after left : List ℕ) → drop n (bits bytes) ≡ left → bytes ≡ byte ∷ rest
    → drop n (bits (byte ∷ rest)) ≡ bit ∷ after → bit ≢ 0 → zeros left ≡ 0
zeros-first n bit byte bytes rest after left e f g more =
    let h : left ≡ bit ∷ after = sym e ∙ rw f g in
    zeros-one left after bit h (omega arith)

-- bits passed
pub record IsPassed (all left : List ℕ) (passed : ℕ) : Type 0 where
  pub counted : passed ≤ length all
  pub left_is : left ≡ drop passed all

pub pass-none : (all : List ℕ) → IsPassed all all 0
pass-none all = record { counted = omega arith; left_is = refl }

pub pass-more : (all left after : List ℕ) (passed bit : ℕ) → IsPassed all left passed → left ≡ bit ∷ after
    → IsPassed all after (passed + 1)
pass-more all left after passed bit so_far next =
    let e : drop passed all ≡ bit ∷ after = sym so_far.left_is ∙ next in
    record {
      counted = let h : passed < length all = below-length passed all bit after e in omega arith;
      left_is = rw add-one (sym (drop-after passed all bit after e));
    }

pub pass-short : (all left : List ℕ) (passed width : ℕ) → IsPassed all left passed → passed < width → left ≡ []
    → pass width all ≡ None
unfolding pass
pass-short all left passed width so_far below empty =
    let h : length all ≤ passed = at-length passed all (sym so_far.left_is ∙ empty) in
    let e : nat_le width (length all) ≡ false = grind arith in
    rw e refl

pub pass-all : (all left : List ℕ) (passed width : ℕ) → IsPassed all left passed → passed ≡ width
    → pass width all ≡ Some (read tt left)
unfolding pass
pass-all all left passed width so_far same =
    let h : passed ≤ length all = so_far.counted in
    let e : nat_le width (length all) ≡ true = grind arith in
    let b : left ≡ drop width all = rw (← same) so_far.left_is in
    rw (e, b) refl

-- what a code says (H.264 9.1), once its bits 0 are counted
pub ue-long : (bs : List ℕ) (passed : ℕ) → passed ≡ min 32 (zeros bs) → 31 < passed → ue bs ≡ None
unfolding ue
ue-long bs passed counted many =
    let h : nat_lt 31 (zeros bs) ≡ true = grind (arith, counted) in
    rw h refl

ue-few : (bs : List ℕ) (passed : ℕ) → passed ≡ min 32 (zeros bs) → passed ≤ 31 → zeros bs ≡ passed
ue-few bs passed counted few = omega arith

pub ue-short : (bs left : List ℕ) (passed : ℕ) → passed ≡ min 32 (zeros bs) → passed ≤ 31 → left ≡ drop passed bs
    → u (passed + 1) left ≡ None → ue bs ≡ None
unfolding ue
ue-short bs left passed counted few left_is none =
    let same : zeros bs ≡ passed = ue-few bs passed counted few in
    let h : nat_lt 31 passed ≡ false = grind arith in
    let k : u (passed + 1) (drop passed bs) ≡ None = rw (← left_is) none in
    rw (same, h, k) refl

pub ue-whole : (bs left after : List ℕ) (passed n : ℕ) → passed ≡ min 32 (zeros bs) → passed ≤ 31
    → left ≡ drop passed bs → u (passed + 1) left ≡ Some (read n after) → ue bs ≡ Some (read (n - 1) after)
unfolding ue
ue-whole bs left after passed n counted few left_is some =
    let same : zeros bs ≡ passed = ue-few bs passed counted few in
    let h : nat_lt 31 passed ≡ false = grind arith in
    let k : u (passed + 1) (drop passed bs) ≡ Some (read n after) = rw (← left_is) some in
    rw (same, h, k) refl

-- one thing after another, some of which are read
pub times-more : (n i : ℕ) (p : List ℕ → Option (Read (Unit {0}))) (left after : List ℕ) → i < n
    → p left ≡ Some (read tt after) → times (n - i) p left ≡ times (n - (i + 1)) p after
unfolding times
times-more n i p left after below e =
    let one : n - i ≡ suc (n - (i + 1)) = omega arith in
    rw (one, e) refl

pub times-short : (n i : ℕ) (p : List ℕ → Option (Read (Unit {0}))) (left : List ℕ) → i < n → p left ≡ None
    → times (n - i) p left ≡ None
unfolding times
times-short n i p left below e =
    let one : n - i ≡ suc (n - (i + 1)) = omega arith in
    rw (one, e) refl

pub times-all : (n i : ℕ) (p : List ℕ → Option (Read (Unit {0}))) (left : List ℕ) → n ≤ i
    → times (n - i) p left ≡ Some (read tt left)
unfolding times
times-all n i p left above = let none : n - i ≡ zero = omega arith in rw none refl

pub ruleset bit_steps = (
  bits-byte,
  drop-none,
  taken-none,
  taken-more,
  taken-room,
  taken-short,
  taken-all,
  passed-none,
  passed-more,
  zeros-none,
  zeros-one,
)

pub ruleset code_steps = (ue-long, ue-short, ue-whole)

-- numbers of at most 16 bits
pub within_sixteen : (n v : ℕ) → v < 2 ^ n → n ≤ 16 → v < 65536
within_sixteen n v fits few = elim (nat_lt n 16) as (λ b. nat_lt n 16 ≡ b → v < 65536) [
  | true ↦ λ e. let l : n < 16 = grind (arith, e) in let p : 2 ^ n < 2 ^ 16 = pow_below n 16 l in omega arith
  | false ↦ λ e. let l : n ≡ 16 = grind (arith, e) in let p : v < 2 ^ 16 = rw l at fits in omega arith
] refl
