-- Entries of rising numbers.
use Rattle.std.proofs.Common.{Bool, true, false, ◌∙◌, ◌≡◌, ℕ, ◌+◌, ◌<◌, ◌++◌, List, [], ◌∷◌, refl, sym, suc, length}
use Rattle.std.proofs.Common.{take, get_or, map, arith}
use Rattle.std.specs.BTreeMap.{insert_entry}
use Rattle.std.specs.Cmp.{nat_cmp_is}
use Rattle.std.specs.List.Sorted.{IsStrictlyIncreasing}
use Rattle.std.specs.Ordering.{nat_cmp}
use Rattle.std.specs.declared.cmp.Ordering.TheVariants.{Greater}
use Rattle.std.proofs.lemmas.List.{append-nil, get_or-take, length-take, map-append, take_more}
use Rattle.std.proofs.lemmas.List.Elements.{filter-append}
use Rattle.std.proofs.lemmas.Map.Keys.{below_from_sorted, sorted_from_strictly_increasing}
use Rattle.rtp_media_nack.specs.declared.requests.Request.{Request}
use Rattle.rtp_media_nack.specs.Requests.{Requests, after_turn, due, entry_after, is_due, request_in}

-- An entry above all others goes to their end.
pub insert-last : {X : Type 0} (f : ℕ → X) (xs : List ℕ) (k : ℕ) (v : X)
    → ((j : ℕ) → j < length xs → get_or xs j 0 < k)
    → insert_entry nat_cmp (map (λ n. (n, f n)) xs) k v ≡ map (λ n. (n, f n)) xs ++ (k, v) ∷ []
insert-last f [] k v h = refl
insert-last f (x ∷ xs) k v h =
    let above : x < k = h 0 (omega arith) in
    let e : Greater ≡ nat_cmp k x = nat_cmp_is k x Greater above in
    rw (sym e, insert-last f xs k v (λ j l. h (suc j) (omega arith))) refl

below-next : (xs : List ℕ) (i : ℕ) → IsStrictlyIncreasing xs → i < length xs
    → (j : ℕ) → j < length (take i xs) → get_or (take i xs) j 0 < get_or xs i 0
below-next xs i s l j h =
    let n : j < i = omega (arith, length-take i xs) in
    rw (get_or-take i xs j 0 n) (below_from_sorted xs j i 0 (sorted_from_strictly_increasing xs s) n l)

pub insert-next : {X : Type 0} (f : ℕ → X) (xs : List ℕ) (i : ℕ) (v : X) → IsStrictlyIncreasing xs → i < length xs
    → insert_entry nat_cmp (map (λ n. (n, f n)) (take i xs)) (get_or xs i 0) v
    ≡ map (λ n. (n, f n)) (take i xs) ++ (get_or xs i 0, v) ∷ []
insert-next f xs i v s l = insert-last f (take i xs) (get_or xs i 0) v (below-next xs i s l)

-- One missing number more.
pub due-yes : (q : Requests) (now round_trip : ℕ) (xs : List ℕ) (i : ℕ) → i < length xs
    → is_due q.most q.delay now round_trip (request_in q.entries now (get_or xs i 0)) ≡ true
    → due q now round_trip (take (i + 1) xs) ≡ due q now round_trip (take i xs) ++ get_or xs i 0 ∷ []
due-yes q now round_trip xs i l e = rw (take_more xs i 0 l, filter-append, e) refl

pub due-no : (q : Requests) (now round_trip : ℕ) (xs : List ℕ) (i : ℕ) → i < length xs
    → is_due q.most q.delay now round_trip (request_in q.entries now (get_or xs i 0)) ≡ false
    → due q now round_trip (take (i + 1) xs) ≡ due q now round_trip (take i xs)
due-no q now round_trip xs i l e = rw (take_more xs i 0 l, filter-append, e, append-nil) refl

pub after-next : (q : Requests) (now round_trip : ℕ) (xs : List ℕ) (i : ℕ) → IsStrictlyIncreasing xs → i < length xs
    → insert_entry nat_cmp (map (entry_after q now round_trip) (take i xs)) (get_or xs i 0)
    (after_turn q.most q.delay now round_trip (request_in q.entries now (get_or xs i 0)))
    ≡ map (entry_after q now round_trip) (take (i + 1) xs)
after-next q now round_trip xs i s l = rw (take_more xs i 0 l, map-append)
    (insert-next (λ n. after_turn q.most q.delay now round_trip (request_in q.entries now n)) xs i _ s l)

-- One turn of the loop: the call sees the requester as it is.
due-now : (q view : Requests) (now round_trip n : ℕ) (r : Request) (b x : Bool) → view ≡ q
    → r ≡ request_in q.entries now n → b ≡ is_due view.most view.delay now round_trip r → b ≡ x
    → is_due q.most q.delay now round_trip (request_in q.entries now n) ≡ x
due-now q view now round_trip n r b x v e f g = rw (← e, ← v) (sym f ∙ g)

pub turn-yes : (q view : Requests) (now round_trip : ℕ) (xs : List ℕ) (i : ℕ) (r : Request) (b : Bool)
    (items after : List ℕ) → i < length xs → view ≡ q
    → r ≡ request_in q.entries now (get_or xs i 0) → b ≡ is_due view.most view.delay now round_trip r → b ≡ true
    → items ≡ due q now round_trip (take i xs) → after ≡ items ++ get_or xs i 0 ∷ []
    → after ≡ due q now round_trip (take (i + 1) xs)
turn-yes q view now round_trip xs i r b items after l v e f g a p =
    p ∙ rw a (sym (due-yes q now round_trip xs i l (due-now q view now round_trip _ r b true v e f g)))

pub turn-no : (q view : Requests) (now round_trip : ℕ) (xs : List ℕ) (i : ℕ) (r : Request) (b : Bool)
    (items : List ℕ) → i < length xs → view ≡ q
    → r ≡ request_in q.entries now (get_or xs i 0) → b ≡ is_due view.most view.delay now round_trip r → b ≡ false
    → items ≡ due q now round_trip (take i xs) → items ≡ due q now round_trip (take (i + 1) xs)
turn-no q view now round_trip xs i r b items l v e f g a =
    a ∙ sym (due-no q now round_trip xs i l (due-now q view now round_trip _ r b false v e f g))

pub turn-after : (q view : Requests) (now round_trip : ℕ) (xs : List ℕ) (i : ℕ) (r next : Request)
    (old new : List (ℕ × Request)) → IsStrictlyIncreasing xs → i < length xs → view ≡ q
    → r ≡ request_in q.entries now (get_or xs i 0) → next ≡ after_turn view.most view.delay now round_trip r
    → old ≡ map (entry_after q now round_trip) (take i xs) → new ≡ insert_entry nat_cmp old (get_or xs i 0) next
    → new ≡ map (entry_after q now round_trip) (take (i + 1) xs)
turn-after q view now round_trip xs i r next old new s l v e f a p =
    p ∙ rw (a, f, e, v) (after-next q now round_trip xs i s l)
