-- Distances that rise, by a test.
use Rattle.std.proofs.Common.{◌≡◌, ℕ, zero, suc, ◌<◌, ◌≤◌, ◌&&◌, refl, sym, subst, arith, Bool, true, false, List, []}
use Rattle.std.proofs.Common.{◌∷◌, length, true≢false, ◌↔◌}
use Rattle.std.proofs.lemmas.Bool.Decides.{nat_tests}
use Rattle.std.specs.Option.{ForSome}
use Rattle.std.specs.Prelude.{All, AllPairs, Option, Some, None, nat_lt, nat_le, slice_index}
use Rattle.payload_core_audio.proofs.DistanceLemmas.{distances-from}
use Rattle.rtp_media_ends.specs.Params.{IsRedundancy, IsSound, is_picture_id, is_redundancy, is_sound_params}
use Rattle.rtp_media_ends.specs.Params.{rise_above}
use Rattle.rtp_media_ends.specs.declared.params.StreamParams.{StreamParams}

both : (a b : Bool) → a ≡ true → b ≡ true → (a && b) ≡ true
both true b x y = y
both false b x y = absurd (true≢false (sym x))

left : (a b : Bool) → (a && b) ≡ true → a ≡ true
left true b h = refl
left false b h = h

right : (a b : Bool) → (a && b) ≡ true → b ≡ true
right true b h = h
right false b h = absurd (true≢false (sym h))

lt-of : (a b : ℕ) → nat_lt a b ≡ true → a < b
lt-of a b h = grind (arith, nat_tests)

le-of : (a b : ℕ) → nat_le a b ≡ true → a ≤ b
le-of a b h = grind (arith, nat_tests)

of-lt : (a b : ℕ) → a < b → nat_lt a b ≡ true
of-lt a b h = grind (arith, nat_tests)

of-le : (a b : ℕ) → a ≤ b → nat_le a b ≡ true
of-le a b h = grind (arith, nat_tests)

-- each is above the one before it
above : (n : ℕ) (ds : List ℕ) → rise_above n ds ≡ true → (k : ℕ) → k < length ds
    → (slice_index (n ∷ ds) k < slice_index ds k) × (slice_index ds k ≤ 8)
above n [] h k lt = absurd (omega arith)
above n (d ∷ ds) h zero lt = (lt-of n d (left _ _ h), le-of d 8 (left _ _ (right (nat_lt n d) _ h)))
above n (d ∷ ds) h (suc k) lt = above d ds (right (nat_le d 8) _ (right (nat_lt n d) _ h)) k (omega arith)

rises : (n : ℕ) (ds : List ℕ) → AllPairs (λ a b. a < b) ds → All (λ d. (n < d) × (d ≤ 8)) ds → rise_above n ds ≡ true
rises n [] pairs all = refl
rises n (d ∷ ds) pairs all =
    let here = all 0 d (omega arith) in
    both (nat_lt n d) _ (of-lt n d here.0)
    (both (nat_le d 8) _ (of-le d 8 here.1)
    (rises d ds (λ i j e lt within. pairs (suc i) (suc j) e (omega arith) (omega arith))
    (λ k e lt. (pairs 0 (suc k) e (omega arith) (omega arith), (all (suc k) e (omega arith)).1))))

redundancy-from : (red : Option ℕ) (mtu : ℕ) (distances : Option (List ℕ)) → is_redundancy red mtu distances ≡ true
    → IsRedundancy red mtu distances
redundancy-from red mtu None h = tt
redundancy-from None mtu (Some ds) h = absurd (true≢false (sym h))
redundancy-from (Some r) mtu (Some ds) h =
    (le-of 2 mtu (left _ _ h), distances-from ds (above 0 ds (right (nat_le 2 mtu) _ h)))

redundancy-to : (red : Option ℕ) (mtu : ℕ) (distances : Option (List ℕ)) → IsRedundancy red mtu distances
    → is_redundancy red mtu distances ≡ true
redundancy-to red mtu None is = refl
redundancy-to None mtu (Some ds) is = absurd is
redundancy-to (Some r) mtu (Some ds) is =
    both (nat_le 2 mtu) _ (of-le 2 mtu is.0) (rises 0 ds is.1.rising is.1.in_range)

picture-from : (id : Option ℕ) → is_picture_id id ≡ true → ForSome id (λ n. n ≤ 32767)
picture-from None h = λ m e. cc
picture-from (Some n) h = λ m e. (let same : n ≡ m = cc in subst (λ (k : ℕ). k ≤ 32767) same (le-of n 32767 h))

picture-to : (id : Option ℕ) → ForSome id (λ n. n ≤ 32767) → is_picture_id id ≡ true
picture-to None is = refl
picture-to (Some n) is = of-le n 32767 (is n refl)

-- the test is what it says
pub sound_params : (red : Option ℕ) (p : StreamParams) → (is_sound_params red p ≡ true) ↔ IsSound red p
sound_params red p = (
  λ h.
      let r = right (nat_lt p.first 32768) _ h in
      let s = right (nat_lt 0 p.mtu) _ r in
      record {
        first = lt-of p.first 32768 (left _ _ h);
        mtu = lt-of 0 p.mtu (left _ _ r);
        redundancy = redundancy-from red p.mtu p.red (left _ _ s);
        picture_id = picture-from p.picture_id (right (is_redundancy red p.mtu p.red) _ s);
      },
  λ is. both (nat_lt p.first 32768) _ (of-lt p.first 32768 is.first)
      (both (nat_lt 0 p.mtu) _ (of-lt 0 p.mtu is.mtu)
      (both (is_redundancy red p.mtu p.red) _ (redundancy-to red p.mtu p.red is.redundancy)
      (picture-to p.picture_id is.picture_id))),
)
