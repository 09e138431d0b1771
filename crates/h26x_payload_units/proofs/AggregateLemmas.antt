-- What is in an aggregate, unit by unit.
use Rattle.std.proofs.Common.{◌≡◌, ℕ, zero, suc, ◌+◌, ◌*◌, ◌/◌, ◌%◌, ◌<◌, ◌≤◌, Bool, true, false, leb, List, [], ◌∷◌}
use Rattle.std.proofs.Common.{◌++◌, length, take, drop, None, Some, if◌then◌else◌, refl, sym, ap, ◌∙◌, arith}
use Rattle.std.proofs.lemmas.Bool.Decides.{nat_tests}
use Rattle.std.proofs.lemmas.List.{length-append, length-drop}
use Rattle.std.proofs.Math.Seq.{take-append_seam, drop-append_seam}
use Rattle.h26x_payload_units.specs.declared.aggregates.AggregateFault.TheVariants.{CutShort, PastEnd}
use Rattle.h26x_payload_units.specs.Aggregates.{Aggregated, aggregated, aggregated_within, from_size, in_aggregate}
use Rattle.h26x_payload_units.specs.Aggregates.{only_fault, sized, with_first}

abbrev size_of : ℕ → ℕ → ℕ
size_of high low = high * 256 + low

abbrev one_unit : (List ℕ → Aggregated) → ℕ → ℕ → List ℕ → Bool → Aggregated
one_unit others high low rest fits = if fits
    then with_first (take (size_of high low) rest) (others (drop (size_of high low) rest))
    else only_fault (Some PastEnd)

-- what is after the first unit alone matters
same_others : (f g : List ℕ → Aggregated) (n : ℕ) (text : List ℕ) → length text ≤ suc n
    → ((rest : List ℕ) → length rest ≤ n → f rest ≡ g rest) → from_size f text ≡ from_size g text
same_others f g n [] le same = refl
same_others f g n (high ∷ []) le same = refl
same_others f g n (high ∷ low ∷ rest) le same =
    ap (λ a. if leb (size_of high low) (length rest) then with_first (take (size_of high low) rest) a
    else only_fault (Some PastEnd))
    (same (drop (size_of high low) rest) (omega (arith, length-drop (size_of high low) rest)))

-- more units allowed than bytes change nothing
enough : (n m lead later : ℕ) (body : List ℕ) → length body ≤ n → length body ≤ m
    → aggregated_within n lead later body ≡ aggregated_within m lead later body
enough n m lead later [] le le' = refl
enough zero m lead later (b ∷ bs) le le' = absurd (omega arith)
enough (suc n) zero lead later (b ∷ bs) le le' = absurd (omega arith)
enough (suc n) (suc m) lead later (b ∷ bs) le le' =
    same_others (λ rest. aggregated_within n later later rest) (λ rest. aggregated_within m later later rest)
    (length bs) (drop lead (b ∷ bs)) (omega (arith, length-drop lead (b ∷ bs)))
    (λ rest short. enough n m later later rest (omega arith) (omega arith))

pub aggregated-none : (lead later : ℕ) → aggregated lead later [] ≡ only_fault None
unfolding aggregated
aggregated-none lead later = refl

pub aggregated-from : (lead later b : ℕ) (bs : List ℕ) → aggregated lead later (b ∷ bs)
    ≡ from_size (aggregated later later) (drop lead (b ∷ bs))
unfolding aggregated
aggregated-from lead later b bs =
    same_others (λ rest. aggregated_within (length bs) later later rest)
    (λ rest. aggregated_within (length rest) later later rest) (length bs) (drop lead (b ∷ bs))
    (omega (arith, length-drop lead (b ∷ bs)))
    (λ rest short. enough (length bs) (length rest) later later rest short (omega arith))

-- by what follows the lead
pub short_is : (lead later : ℕ) (body : List ℕ) → 0 < length body → length body < lead + 2
    → aggregated lead later body ≡ only_fault (Some CutShort)
short_is lead later [] some short = absurd (omega arith)
short_is lead later (b ∷ bs) some short =
    aggregated-from lead later b bs ∙ by_rest (drop lead (b ∷ bs)) (omega (arith, length-drop lead (b ∷ bs)))
  where
    by_rest : (text : List ℕ) → length text < 2 → from_size (aggregated later later) text ≡ only_fault (Some CutShort)
    by_rest [] less = refl
    by_rest (h ∷ []) less = refl
    by_rest (h ∷ l ∷ text) less = absurd (omega arith)

none_behind : (lead : ℕ) (text : List ℕ) → drop lead [] ≡ text → 0 < length text → ⊥
none_behind lead text is some =
    let same : length (drop lead []) ≡ length text = ap (λ (t : List ℕ). length t) is in
    absurd (omega (arith, same, length-drop {A = ℕ} lead []))

pub past_is : (lead later : ℕ) (body rest : List ℕ) (high low : ℕ) → drop lead body ≡ high ∷ low ∷ rest
    → length rest < size_of high low → aggregated lead later body ≡ only_fault (Some PastEnd)
past_is lead later [] rest high low is past = absurd (none_behind lead (high ∷ low ∷ rest) is (omega arith))
past_is lead later (b ∷ bs) rest high low is past =
    let t : leb (size_of high low) (length rest) ≡ false = grind (arith, nat_tests) in
    aggregated-from lead later b bs ∙ ap (from_size (aggregated later later)) is
    ∙ ap (one_unit (aggregated later later) high low rest) t

pub first_is : (lead later : ℕ) (body rest unit behind : List ℕ) (high low : ℕ) → drop lead body ≡ high ∷ low ∷ rest
    → size_of high low ≤ length rest → unit ≡ take (size_of high low) rest → behind ≡ drop (size_of high low) rest
    → aggregated lead later body ≡ with_first unit (aggregated later later behind)
first_is lead later [] rest unit behind high low is fits front back =
    absurd (none_behind lead (high ∷ low ∷ rest) is (omega arith))
first_is lead later (b ∷ bs) rest unit behind high low is fits front back =
    let t : leb (size_of high low) (length rest) ≡ true = grind (arith, nat_tests) in
    aggregated-from lead later b bs ∙ ap (from_size (aggregated later later)) is
    ∙ ap (one_unit (aggregated later later) high low rest) t
    ∙ ap (λ u. with_first u (aggregated later later (drop (size_of high low) rest))) (sym front)
    ∙ ap (λ r. with_first unit (aggregated later later r)) (sym back)

pub none_is : (lead later : ℕ) (body : List ℕ) → length body ≡ 0 → aggregated lead later body ≡ only_fault None
none_is lead later [] e = aggregated-none lead later
none_is lead later (b ∷ bs) e = absurd (omega arith)

-- units after their sizes are read as they are
pub all_sized : (first later : List ℕ) (units : List (List ℕ))
    → aggregated (length first) (length later) (in_aggregate first later units) ≡ record { units = units; fault = None }
all_sized first later [] = aggregated-none (length first) (length later)
all_sized first later (u ∷ us) =
    let rest : List ℕ = in_aggregate later later us in
    let high : ℕ = length u / 256 in
    let low : ℕ = length u % 256 in
    let size : length u ≡ high * 256 + low = omega arith in
    let front : u ≡ take (high * 256 + low) (u ++ rest) =
    sym (take-append_seam u rest) ∙ ap (λ n. take n (u ++ rest)) size in
    let back : rest ≡ drop (high * 256 + low) (u ++ rest) =
    sym (drop-append_seam u rest) ∙ ap (λ n. drop n (u ++ rest)) size in
    first_is (length first) (length later) (first ++ (sized u ++ rest)) (u ++ rest) u rest high low
    (drop-append_seam first (sized u ++ rest)) (omega (arith, length-append u rest)) front back
    ∙ ap (with_first u) (all_sized later later us)
