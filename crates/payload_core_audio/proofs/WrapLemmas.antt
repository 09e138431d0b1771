-- What is sent for a payload.
use Rattle.std.proofs.Common.{◌≡◌, ℕ, suc, ◌+◌, ◌-◌, ◌<◌, ◌≤◌, Bool, true, false, cond, List, [], ◌∷◌, ◌++◌, Option}
use Rattle.std.proofs.Common.{Some, None, length, map, reverse, refl, sym, ap, ◌∙◌, arith}
use Rattle.std.specs.Prelude.{All, AllPairs, filter, filter_map}
use Rattle.std.specs.List.{cons_option}
use Rattle.std.proofs.lemmas.List.{map-append, reverse-append}
use Rattle.std.proofs.lemmas.List.Elements.{All-append, All-cons, All-head, All-nil, All-tail}
use Rattle.payload_core_audio.specs.Red.{HasRoom}
use Rattle.payload_core_audio.specs.RedHistory.{AreDistances, Kept}
use Rattle.payload_core_audio.specs.RedSending.{fits, masked}
use Rattle.payload_core_audio.specs.RedWrapping.{level, levels}
use Rattle.payload_core_audio.proofs.FitLemmas.{filter-room}

pub map-reverse : {X Y : Type 0} (f : X → Y) (xs : List X) → map f (reverse xs) ≡ reverse (map f xs)
map-reverse f [] = refl
map-reverse f (x ∷ xs) =
    ap (map f) (reverse-append (x ∷ []) xs) ∙ map-append f (reverse xs) (x ∷ [])
    ∙ ap (λ ys. ys ++ f x ∷ []) (map-reverse f xs) ∙ sym (reverse-append (f x ∷ []) (map f xs))

pub All-reverse : {X : Type 0} (P : X → Type 0) (xs : List X) → All P xs → All P (reverse xs)
All-reverse P [] all = all
All-reverse {X} P (x ∷ xs) all =
    let A : List X → Type 0 = All P in
    Rattle.std.proofs.Common.subst A (sym (reverse-append (x ∷ []) xs))
    (All-append P (reverse xs) (x ∷ []) (All-reverse P xs (All-tail P x xs all))
    (All-cons P x [] (All-head P x xs all) (All-nil P)))

length-filter-le : {X : Type 0} (p : X → Bool) (xs : List X) → length (filter p xs) ≤ length xs
length-filter-le p [] = omega arith
length-filter-le p (x ∷ xs) = by_test (p x) (length-filter-le p xs)
  where
    by_test : (t : Bool) → length (filter p xs) ≤ length xs
        → length (cond t (x ∷ filter p xs) (filter p xs)) ≤ suc (length xs)
    by_test true le = omega arith
    by_test false le = omega arith

length-filter_map-le : {X Y : Type 0} (h : X → Option Y) (xs : List X) → length (filter_map h xs) ≤ length xs
length-filter_map-le h [] = omega arith
length-filter_map-le h (x ∷ xs) = by_option (h x) (length-filter_map-le h xs)
  where
    by_option : (o : Option _) → length (filter_map h xs) ≤ length xs
        → length (cons_option o (filter_map h xs)) ≤ suc (length xs)
    by_option None le = omega arith
    by_option (Some y) le = omega arith

-- rising numbers above a and at most 8
rising-few : (a : ℕ) (ds : List ℕ) → a ≤ 8 → AllPairs (λ a b. a < b) ds → All (λ d. (a < d) × (d ≤ 8)) ds
    → length ds ≤ 8 - a
rising-few a [] low pairs all = omega arith
rising-few a (d ∷ ds) low pairs all =
    let here = All-head (λ (d : ℕ). (a < d) × (d ≤ 8)) d ds all in
    let behind : All (λ e. (d < e) × (e ≤ 8)) ds =
    λ k e lt. (pairs 0 (suc k) e (omega arith) (omega arith), (all (suc k) e (omega arith)).1) in
    let pairs' : AllPairs (λ a b. a < b) ds = λ i j e lt lt'. pairs (suc i) (suc j) e (omega arith) (omega arith) in
    omega (arith, here.0, here.1, rising-few d ds here.1 pairs' behind)

-- there are at most eight levels, and each has room
pub levels-few : (h : List Kept) (ds : List ℕ) (time : ℕ) → AreDistances ds → length (levels h ds time) ≤ 8
levels-few h ds time are =
    let few = rising-few 0 ds (omega arith) are.rising are.in_range in
    omega (arith, few, length-filter_map-le (level h time) ds, length-filter-le fits (filter_map (level h time) ds))

pub levels-room : (h : List Kept) (ds : List ℕ) (time : ℕ) → All (λ b. HasRoom (masked b)) (levels h ds time)
levels-room h ds time = filter-room (filter_map (level h time) ds)
