-- Under a tame schedule every frame comes in time.
use Rattle.std.proofs.Common.{◌≡◌, ℕ, ◌+◌, ◌-◌, ◌<◌, ◌≤◌, refl, sym, ◌∙◌, ap, ap₂}
use Rattle.std.proofs.Common.{arith, Bool, true, false, List, [], ◌∷◌, length, true≢false}
use Rattle.std.proofs.Common.{inl, inr}
use Rattle.std.specs.Prelude.{if◌then◌else◌}
use Rattle.std.proofs.lemmas.Bool.Decides.{nat_tests}
use Rattle.std.proofs.lemmas.Bool.{cases_lt}
use Rattle.payload_core_base.specs.Format.{Format}
use Rattle.payload_core_buffer.specs.Buffered.{Holding}
use Rattle.rtp_media_schedules.specs.InTime.{IsInTime, ended_frames}
use Rattle.rtp_media_schedules.specs.InTime.{hold_back_at}
use Rattle.rtp_media_schedules.specs.Orders.{IsGoodPoll, IsTame, first_size, has_come}
use Rattle.rtp_media_schedules.specs.Sending.{AreFrames, SentFrame}
use Rattle.rtp_media_schedules.specs.Sending.{sizes, total}
use Rattle.rtp_media_schedules.specs.Turns.{Turn, Arrive, Ask, IsGoodArrival, is_among}
use Rattle.rtp_media_schedules.proofs.Ready.{Misses}
use Rattle.rtp_media_schedules.proofs.Ready.{misses}
use Rattle.rtp_media_schedules.proofs.Windows.{among-more}
use Rattle.rtp_wire.specs.Replay.{reach, reach_below}
use Rattle.rtp_media_schedules.proofs.Places.{eqb-no}

-- Every number that is out of reach below one that came, came.
abbrev IsReachClosed : ℕ → List ℕ → Type 0
IsReachClosed first past = (y z : ℕ) → is_among past z ≡ true → first ≤ y → y + reach ≤ z → is_among past y ≡ true

closed-more : (first count : ℕ) (past : List ℕ) (x : ℕ) → IsReachClosed first past → IsGoodArrival first count past x
    → IsReachClosed first (x ∷ past)
closed-more first count past x closed good y z came low far = go (is_among past z) refl where
  go : (b : Bool) → is_among past z ≡ b → is_among (x ∷ past) y ≡ true
  go true e = among-more past x y (closed y z e low far)
  go false e = let same : z ≡ x = grind (arith, nat_tests, came, e) in
      among-more past x y (good.in_reach y low (omega (arith, far, same)))

module _ (format : Format) (first count opening : ℕ) (holding : Holding) where
  -- if no number came from here on, only frames that end before it have ended
  few-ended : (past : List ℕ) (top : ℕ) → ((z : ℕ) → top ≤ z → is_among past z ≡ false) → (m : ℕ)
      (fs : List SentFrame) → AreFrames format fs → ended_frames past m (sizes fs) ≤ top - m
  few-ended past top none m [] are = omega arith
  few-ended past top none m (f ∷ fs) are =
      go (is_among past (m + length f.packets - 1)) refl
      (few-ended past top none (m + length f.packets) fs are.1) where
        go : (b : Bool) → is_among past (m + length f.packets - 1) ≡ b
            → ended_frames past (m + length f.packets) (sizes fs) ≤ top - (m + length f.packets)
            → (if b then 1 + ended_frames past (m + length f.packets) (sizes fs)
            else ended_frames past (m + length f.packets) (sizes fs)) ≤ top - m
        go true e rest = elim (cases_lt (m + length f.packets - 1) top) [
          | inl below ↦ omega (arith, rest, below, are.0.not_empty)
          | inr above ↦ absurd (true≢false (sym e ∙ none (m + length f.packets - 1) above))
        ]
        go false e rest = omega (arith, rest)

  -- while a datagram of the next frame is missing, at most 1,023 frames have ended
  few-with-missing : (past : List ℕ) (next x : ℕ) (f : SentFrame) (fs : List SentFrame) → IsReachClosed first past
      → AreFrames format (f ∷ fs) → first ≤ x → next ≤ x → x < next + length f.packets → is_among past x ≡ false
      → ended_frames past next (sizes (f ∷ fs)) ≤ reach_below
  few-with-missing past next x f fs closed are low from to missing =
      go (is_among past (next + length f.packets - 1)) refl
      (few-ended past (x + reach) none (next + length f.packets) fs are.1) where
        none : (z : ℕ) → x + reach ≤ z → is_among past z ≡ false
        none z far = by (is_among past z) refl where
          by : (b : Bool) → is_among past z ≡ b → is_among past z ≡ false
          by false e = e
          by true e = absurd (true≢false (sym (closed x z e low far) ∙ missing))

        go : (b : Bool) → is_among past (next + length f.packets - 1) ≡ b
            → ended_frames past (next + length f.packets) (sizes fs) ≤ x + reach - (next + length f.packets)
            → (if b then 1 + ended_frames past (next + length f.packets) (sizes fs)
            else ended_frames past (next + length f.packets) (sizes fs)) ≤ reach_below
        go true e rest = elim (cases_lt x (next + length f.packets - 1)) [
          | inl before ↦ omega (arith, rest, before)
          | inr le ↦ let same : next + length f.packets - 1 ≡ x = omega (arith, le, to) in
              absurd (true≢false (sym e ∙ ap (is_among past) same ∙ missing))
        ]
        go false e rest = omega (arith, rest, to)

  in-time-by : (past : List ℕ) (next : ℕ) (f : SentFrame) (fs : List SentFrame) → IsReachClosed first past
      → first ≤ next → (next ≡ first → length f.packets ≡ opening) → AreFrames format (f ∷ fs)
      → next + total (sizes (f ∷ fs)) ≡ first + count → IsGoodPoll first count holding.hold_back past opening
      → has_come past next (length f.packets) ≡ false
      → ended_frames past next (sizes (f ∷ fs)) ≤ hold_back_at first holding.hold_back next
  in-time-by past next f fs closed low opens are end good lacks = elim (cases_lt first next) [
    | inr le ↦
        let begins : next ≡ first = omega (arith, le, low) in
        absurd (true≢false (sym (ap₂ (has_come past) begins (opens begins) ∙ good.begun) ∙ lacks))
    | inl later ↦
        let m : Misses (is_among past) next (length f.packets) =
        misses (is_among past) next (length f.packets) lacks in
        let same : hold_back_at first holding.hold_back next ≡ holding.hold_back =
        ap (λ (b : Bool). if b then 0 else holding.hold_back) (eqb-no next first (λ e. omega (arith, e, later))) in
        elim good.held_back [
          | inl enough ↦ omega (
            arith,
            enough,
            same,
            few-with-missing past next m.number f fs closed are (omega (arith, low, m.low)) m.low m.high m.missing,
          )
          | inr all ↦ absurd (true≢false (sym (all m.number (omega (arith, low, m.low))
              (omega (arith, m.high, end))) ∙ m.missing))
        ]
  ]

  poll-by : (past : List ℕ) (next : ℕ) (f : SentFrame) (fs : List SentFrame) (ts : List Turn) →
      ((next : ℕ) (fs : List SentFrame) → first ≤ next → (next ≡ first → first_size (sizes fs) ≡ opening)
      → AreFrames format fs → next + total (sizes fs) ≡ first + count
      → IsTame first count holding opening past next (sizes fs) ts
      → IsInTime first count holding past next (sizes fs) ts) →
      IsReachClosed first past → first ≤ next → (next ≡ first → length f.packets ≡ opening)
      → AreFrames format (f ∷ fs) → next + total (sizes (f ∷ fs)) ≡ first + count
      → IsTame first count holding opening past next (sizes (f ∷ fs)) (Ask ∷ ts)
      → (b : Bool) → has_come past next (length f.packets) ≡ b
      → IsInTime first count holding past next (sizes (f ∷ fs)) (Ask ∷ ts)
  poll-by past next f fs ts ih closed low opens are end tame true e = rw e (
    inl refl,
    ih (next + length f.packets) fs (omega (arith, low)) (λ q. absurd (omega (arith, q, low, are.0.not_empty))) are.1
        (omega (arith, end)) (rw e at tame.1),
  )
  poll-by past next f fs ts ih closed low opens are end tame false e =
      let few : ended_frames past next (sizes (f ∷ fs)) ≤ hold_back_at first holding.hold_back next =
      in-time-by past next f fs closed low opens are end tame.0 e in
      rw e (inr few, ih next (f ∷ fs) low opens are end (rw e at tame.1))

  pub tame-in-time : (ts : List Turn) (past : List ℕ) (next : ℕ) (fs : List SentFrame) → IsReachClosed first past
      → first ≤ next → (next ≡ first → first_size (sizes fs) ≡ opening) → AreFrames format fs
      → next + total (sizes fs) ≡ first + count → IsTame first count holding opening past next (sizes fs) ts
      → IsInTime first count holding past next (sizes fs) ts
  tame-in-time [] past next fs closed low opens are end tame = tt
  tame-in-time (Arrive x ∷ ts) past next fs closed low opens are end tame = (
    tame.0,
    tame.1,
    tame-in-time ts (x ∷ past) next fs (closed-more first count past x closed tame.0) low opens are end tame.2,
  )
  tame-in-time (Ask ∷ ts) past next [] closed low opens are end tame =
      (tt, tame-in-time ts past next [] closed low opens are end tame.1)
  tame-in-time (Ask ∷ ts) past next (f ∷ fs) closed low opens are end tame =
      poll-by past next f fs ts (λ next fs. tame-in-time ts past next fs closed) closed low opens are end tame
      (has_come past next (length f.packets)) refl
