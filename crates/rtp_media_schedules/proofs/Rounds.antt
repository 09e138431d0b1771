-- Datagrams in order, each followed by polls.
use Rattle.std.proofs.Common.{◌≡◌, ℕ, zero, suc, ◌+◌, ◌-◌, ◌<◌, ◌≤◌, refl, sym, ◌∙◌, ap, subst, arith, Bool, true}
use Rattle.std.proofs.Common.{false}
use Rattle.std.proofs.Common.{List, [], ◌∷◌, ◌++◌, replicate, true≢false, inl, inr, length}
use Rattle.std.specs.Prelude.{None, Some, Ok, ◌==◌, if◌then◌else◌}
use Rattle.std.specs.List.{range_with_len}
use Rattle.std.proofs.lemmas.Bool.Decides.{nat_tests}
use Rattle.std.proofs.lemmas.Bool.{cases_lt}
use Rattle.std.proofs.lemmas.List.Sums.{length-filter}
use Rattle.rtp_media_schedules.specs.InTime.{IsInOrder, IsInOrderArrival, TimedAnswer, round_by_round, rounds}
use Rattle.rtp_media_schedules.specs.InTime.{when_come}
use Rattle.rtp_media_schedules.specs.Orders.{has_come}
use Rattle.rtp_media_schedules.specs.SentSamples.{Timed}
use Rattle.rtp_media_schedules.specs.Sending.{total}
use Rattle.rtp_media_schedules.specs.Turns.{Turn, Ask, IsNear, greatest_of, is_among, waiting}
use Rattle.rtp_media_schedules.proofs.Places.{length-filter-few}
use Rattle.rtp_media_schedules.proofs.Ready.{all-pass, all-passed}

-- sizes that are positive and may be held
abbrev pub AreFit : ℕ → List ℕ → Type 0
AreFit held [] = Unit {0}
AreFit held (z ∷ zs) = (0 < z) × (z ≤ held) × AreFit held zs

abbrev Idle : List ℕ → ℕ → List ℕ → Type 0
Idle past next [] = Unit {0}
Idle past next (z ∷ zs) = has_come past next z ≡ false

-- the frame that is next is under way
abbrev IsUnderWay : ℕ → ℕ → List ℕ → Type 0
IsUnderWay n next [] = Unit {0}
IsUnderWay n next (z ∷ zs) = n < next + z

module _ (first count held : ℕ) (more : ℕ → ℕ) where
  -- exactly the numbers below n came
  record Came (past : List ℕ) (n : ℕ) : Type 0 where
    below : (y : ℕ) → first ≤ y → y < n → is_among past y ≡ true
    above : (y : ℕ) → n ≤ y → is_among past y ≡ false
    top : greatest_of past ≤ n
    near : IsNear past n
    low : first ≤ n

  came-more : (past : List ℕ) (n : ℕ) → Came past n → Came (n ∷ past) (n + 1)
  came-more past n is = record {
    below = λ y a b. elim (cases_lt y n) [
      | inl less ↦ grind (arith, nat_tests, is.below y a less)
      | inr le ↦ grind (arith, nat_tests)
    ];
    above = λ y a. grind (arith, nat_tests, is.above y (omega arith));
    top = omega (arith, is.top);
    near = (omega (arith, is.top), omega (arith, is.top));
    low = omega (arith, is.low);
  }

  ordered-idle : (past : List ℕ) (next z : ℕ) (zs : List ℕ) (ts : List Turn) → has_come past next z ≡ false
      → IsInOrder first count held past next (z ∷ zs) ts → IsInOrder first count held past next (z ∷ zs) (Ask ∷ ts)
  ordered-idle past next z zs ts e is = subst (λ (b : Bool). IsInOrder first count held past
      (if b then next + z else next) (if b then zs else z ∷ zs) ts) (sym e) is

  ordered-whole : (past : List ℕ) (next z : ℕ) (zs : List ℕ) (ts : List Turn) → has_come past next z ≡ true
      → IsInOrder first count held past (next + z) zs ts → IsInOrder first count held past next (z ∷ zs) (Ask ∷ ts)
  ordered-whole past next z zs ts e is = subst (λ (b : Bool). IsInOrder first count held past
      (if b then next + z else next) (if b then zs else z ∷ zs) ts) (sym e) is

  idle-order : (j : ℕ) (past : List ℕ) (next : ℕ) (zs : List ℕ) → Idle past next zs → (rest : List Turn)
      → IsInOrder first count held past next zs rest
      → IsInOrder first count held past next zs (replicate j Ask ++ rest)
  idle-order zero past next zs idle rest is = is
  idle-order (suc j) past next [] idle rest is = idle-order j past next [] idle rest is
  idle-order (suc j) past next (z ∷ zs) idle rest is = ordered-idle past next z zs (replicate j Ask ++ rest) idle
      (idle-order j past next (z ∷ zs) idle rest is)

  idle-answers : (j : ℕ) (past : List ℕ) (next : ℕ) (zs : List ℕ) (us : List Timed) → Idle past next zs
      → (rest : List Turn) → when_come past next zs us (replicate j Ask ++ rest)
      ≡ replicate j (Ok None) ++ when_come past next zs us rest
  idle-answers zero past next zs us idle rest = refl
  idle-answers (suc j) past next [] us idle rest =
      ap (λ (os : List TimedAnswer). Ok None ∷ os) (idle-answers j past next [] us idle rest)
  idle-answers (suc j) past next (z ∷ zs) [] idle rest =
      ap (λ (os : List TimedAnswer). Ok None ∷ os) (idle-answers j past next (z ∷ zs) [] idle rest)
  idle-answers (suc j) past next (z ∷ zs) (u ∷ us) idle rest =
      ap (λ (b : Bool). if b then Ok (Some u) ∷ when_come past (next + z) zs us (replicate j Ask ++ rest)
      else Ok None ∷ when_come past next (z ∷ zs) (u ∷ us) (replicate j Ask ++ rest)) idle
      ∙ ap (λ (os : List TimedAnswer). Ok None ∷ os) (idle-answers j past next (z ∷ zs) (u ∷ us) idle rest)

  lacks : (past : List ℕ) (n next z : ℕ) → Came past n → first ≤ next → n < next + z → 0 < z
      → has_come past next z ≡ false
  lacks past n next z is low under some = go (has_come past next z) refl where
    go : (b : Bool) → has_come past next z ≡ b → has_come past next z ≡ false
    go false e = e
    go true e = absurd (true≢false (sym (all-pass (is_among past) next z e (next + z - 1) (omega arith) (omega arith))
        ∙ is.above (next + z - 1) (omega arith)))

  idle-is : (past : List ℕ) (n next : ℕ) (zs : List ℕ) → Came past n → first ≤ next → IsUnderWay n next zs
      → AreFit held zs
      → Idle past next zs
  idle-is past n next [] is low under fit = tt
  idle-is past n next (z ∷ zs) is low under fit = lacks past n next z is low under fit.0

  few-waiting : (past : List ℕ) (n next z : ℕ) → Came past n → n ≤ next + z → z ≤ held
      → waiting first count past next ≤ held
  few-waiting past n next z is under fit = omega (
    arith,
    length-filter (is_among past) (range_with_len next (first + count - next)),
    length-filter-few (is_among past) next (first + count - next) z (λ y h. is.above y (omega arith)),
  )

  under-next : (next : ℕ) (zs : List ℕ) → AreFit held zs → IsUnderWay next next zs
  under-next next [] fit = tt
  under-next next (z ∷ zs) fit = omega (arith, fit.0)

  record Runs (k n : ℕ) (past : List ℕ) (next : ℕ) (zs : List ℕ) : Type 0 where
    ordered : IsInOrder first count held past next zs (rounds more n k)
    answers : (us : List Timed) → length us ≡ length zs → when_come past next zs us (rounds more n k)
        ≡ round_by_round more n next zs us k

  runs : (k n : ℕ) (past : List ℕ) (next : ℕ) (zs : List ℕ) → Came past n → first ≤ next → next ≤ n
      → IsUnderWay n next zs
      → AreFit held zs → next + total zs ≡ first + count → n + k ≤ first + count → Runs k n past next zs
  runs zero n past next zs is low le under fit same few = record { ordered = tt; answers = λ us e. refl }
  runs (suc k) n past next [] is low le under fit same few = absurd (omega (arith, same))
  runs (suc k) n past next (z ∷ zs) is low le under fit same few =
      go (n + 1 == next + z) refl
      (λ e. runs k (n + 1) (n ∷ past) (next + z) zs (came-more past n is) (omega arith) (omega (arith, e))
      (subst (λ (m : ℕ). IsUnderWay m (next + z) zs) (sym e) (under-next (next + z) zs fit.2)) fit.2
      (omega (arith, same)) (omega arith))
      (λ h. runs k (n + 1) (n ∷ past) next (z ∷ zs) (came-more past n is) low (omega arith) h fit same (omega arith))
    where
      arrival : IsInOrderArrival first count past n
      arrival = record {
        from_first = is.low;
        before_end = omega (arith, few);
        near = is.near;
        in_order = is.below;
      }

      go : (b : Bool) → (n + 1 == next + z) ≡ b
          → (n + 1 ≡ next + z → Runs k (n + 1) (n ∷ past) (next + z) zs)
          → (n + 1 < next + z → Runs k (n + 1) (n ∷ past) next (z ∷ zs)) → Runs (suc k) n past next (z ∷ zs)
      go true e last middle =
          let same_end : n + 1 ≡ next + z = grind (arith, nat_tests, e) in
          let rest : Runs k (n + 1) (n ∷ past) (next + z) zs = last same_end in
          let whole : has_come (n ∷ past) next z ≡ true =
          all-passed (is_among (n ∷ past)) next z
          (λ y a b. (came-more past n is).below y (omega arith) (omega (arith, same_end))) in
          let idle : Idle (n ∷ past) (next + z) zs =
          idle-is (n ∷ past) (n + 1) (next + z) zs (came-more past n is) (omega arith)
          (subst (λ (m : ℕ). IsUnderWay m (next + z) zs) (sym same_end) (under-next (next + z) zs fit.2)) fit.2 in
          record {
            ordered = (
              arrival,
              few-waiting (n ∷ past) (n + 1) next z (came-more past n is) (omega (arith, same_end)) fit.1,
              ordered-whole (n ∷ past) next z zs (replicate (more n) Ask ++ rounds more (n + 1) k) whole
                  (idle-order (more n) (n ∷ past) (next + z) zs idle (rounds more (n + 1) k) rest.ordered),
            );
            answers = answers-whole rest whole idle;
          } where
            answers-whole : Runs k (n + 1) (n ∷ past) (next + z) zs → has_come (n ∷ past) next z ≡ true
                → Idle (n ∷ past) (next + z) zs → (us : List Timed) → length us ≡ length (z ∷ zs)
                → when_come past next (z ∷ zs) us (rounds more n (suc k))
                ≡ round_by_round more n next (z ∷ zs) us (suc k)
            answers-whole rest whole idle [] h = absurd (omega (arith, h))
            answers-whole rest whole idle (u ∷ us) h = rw (whole, e)
                (ap (λ (os : List TimedAnswer). Ok (Some u) ∷ os)
                (idle-answers (more n) (n ∷ past) (next + z) zs us idle (rounds more (n + 1) k)
                ∙ ap (λ (os : List TimedAnswer). replicate (more n) (Ok None) ++ os)
                (rest.answers us (omega (arith, h)))))
      go false e last middle =
          let before : n + 1 < next + z = grind (arith, nat_tests, e, under) in
          let rest : Runs k (n + 1) (n ∷ past) next (z ∷ zs) = middle before in
          let idle : has_come (n ∷ past) next z ≡ false =
          lacks (n ∷ past) (n + 1) next z (came-more past n is) low before fit.0 in
          record {
            ordered = (
              arrival,
              few-waiting (n ∷ past) (n + 1) next z (came-more past n is) (omega (arith, before)) fit.1,
              ordered-idle (n ∷ past) next z zs (replicate (more n) Ask ++ rounds more (n + 1) k) idle
                  (idle-order (more n) (n ∷ past) next (z ∷ zs) idle (rounds more (n + 1) k) rest.ordered),
            );
            answers = answers-idle rest idle;
          } where
            answers-idle : Runs k (n + 1) (n ∷ past) next (z ∷ zs) → has_come (n ∷ past) next z ≡ false
                → (us : List Timed) → length us ≡ length (z ∷ zs)
                → when_come past next (z ∷ zs) us (rounds more n (suc k))
                ≡ round_by_round more n next (z ∷ zs) us (suc k)
            answers-idle rest idle [] h = absurd (omega (arith, h))
            answers-idle rest idle (u ∷ us) h = rw (idle, e)
                (ap (λ (os : List TimedAnswer). Ok None ∷ os)
                (idle-answers (more n) (n ∷ past) next (z ∷ zs) (u ∷ us) idle (rounds more (n + 1) k)
                ∙ ap (λ (os : List TimedAnswer). replicate (more n) (Ok None) ++ os)
                (rest.answers (u ∷ us) h)))

  pub rounds-run : (zs : List ℕ) (us : List Timed) (k : ℕ) → first < 65536 → AreFit held zs → total zs ≡ count
      → k ≤ count
      → length us ≡ length zs → IsInOrder first count held [] first zs (rounds more first k)
      × (when_come [] first zs us (rounds more first k) ≡ round_by_round more first first zs us k)
  rounds-run zs us k begins fit all few h =
      let is : Runs k first [] first zs = runs k first [] first zs (record {
        below = λ y a b. absurd (omega arith);
        above = λ y a. refl;
        top = omega arith;
        near = begins;
        low = omega arith;
      }) (omega arith) (omega arith) (under-next first zs fit) fit (omega (arith, all)) (omega arith) in
      (is.ordered, is.answers us h)
