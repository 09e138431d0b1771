-- Datagrams in order come in time.
use Rattle.std.proofs.Common.{◌≡◌, ℕ, ◌+◌, ◌-◌, ◌<◌, ◌≤◌, refl, sym, ◌∙◌, ap}
use Rattle.std.proofs.Common.{arith, Bool, true, false, List, [], ◌∷◌, length, true≢false}
use Rattle.std.proofs.Common.{inl, inr}
use Rattle.std.proofs.lemmas.Bool.Decides.{nat_tests}
use Rattle.std.proofs.lemmas.Bool.{cases_lt}
use Rattle.payload_core_base.specs.Format.{Format}
use Rattle.payload_core_buffer.specs.Buffered.{Holding}
use Rattle.rtp_media_schedules.specs.InTime.{IsInOrder, IsInOrderArrival, IsInTime, ended_frames}
use Rattle.rtp_media_schedules.specs.Orders.{has_come}
use Rattle.rtp_media_schedules.specs.Sending.{AreFrames, SentFrame}
use Rattle.rtp_media_schedules.specs.Sending.{sizes}
use Rattle.rtp_media_schedules.specs.Turns.{Turn, Arrive, Ask, IsGoodArrival, is_among}
use Rattle.rtp_media_schedules.proofs.Ready.{Misses}
use Rattle.rtp_media_schedules.proofs.Ready.{misses}
use Rattle.rtp_media_schedules.proofs.Windows.{among-more}

abbrev IsClosed : ℕ → List ℕ → Type 0
IsClosed first past = (y z : ℕ) → is_among past y ≡ true → first ≤ z → z < y → is_among past z ≡ true

none-above : (first : ℕ) (past : List ℕ) (x y : ℕ) → IsClosed first past → first ≤ x → is_among past x ≡ false → x ≤ y
    → is_among past y ≡ false
none-above first past x y closed low missing above = go (is_among past y) refl where
  go : (b : Bool) → is_among past y ≡ b → is_among past y ≡ false
  go false e = e
  go true e = elim (cases_lt x y) [
    | inl less ↦ absurd (true≢false (sym (closed y x e low less) ∙ missing))
    | inr le ↦ let same : y ≡ x = omega arith in ap (is_among past) same ∙ missing
  ]

module _ (format : Format) (first : ℕ) (past : List ℕ) (x : ℕ) (closed : IsClosed first past) (low : first ≤ x)
    (missing : is_among past x ≡ false) where
  none-ended : (next : ℕ) (f : SentFrame) (fs : List SentFrame) → AreFrames format (f ∷ fs)
      → x < next + length f.packets → ended_frames past next (sizes (f ∷ fs)) ≤ 0
  none-ended next f [] are below =
      rw (none-above first past x (next + length f.packets - 1) closed low missing (omega arith)) (omega arith)
  none-ended next f (g ∷ gs) are below =
      rw (none-above first past x (next + length f.packets - 1) closed low missing (omega arith))
      (none-ended (next + length f.packets) g gs are.1 (omega (arith, are.1.0.not_empty)))

closed-more : (first count : ℕ) (past : List ℕ) (x : ℕ) → IsClosed first past → IsInOrderArrival first count past x
    → IsClosed first (x ∷ past)
closed-more first count past x closed good y z came low below = go (is_among past y) refl where
  go : (b : Bool) → is_among past y ≡ b → is_among (x ∷ past) z ≡ true
  go true e = among-more past x z (closed y z e low below)
  go false e = let same : y ≡ x = grind (arith, nat_tests, came, e) in
      among-more past x z (good.in_order z low (omega (arith, same)))

good-arrival : (first count : ℕ) (past : List ℕ) (x : ℕ) → IsInOrderArrival first count past x
    → IsGoodArrival first count past x
good-arrival first count past x is = record {
  from_first = is.from_first;
  before_end = is.before_end;
  near = is.near;
  in_reach = λ y a b. is.in_order y a (omega arith);
}

module _ (format : Format) (first count : ℕ) (holding : Holding) where
  poll-in-order : (past : List ℕ) (next : ℕ) (f : SentFrame) (fs : List SentFrame) (ts : List Turn) →
      ((next : ℕ) (fs : List SentFrame) → first ≤ next → AreFrames format fs
      → IsInOrder first count holding.held past next (sizes fs) ts
      → IsInTime first count holding past next (sizes fs) ts) →
      IsClosed first past → first ≤ next → AreFrames format (f ∷ fs)
      → IsInOrder first count holding.held past next (sizes (f ∷ fs)) (Ask ∷ ts)
      → (b : Bool) → has_come past next (length f.packets) ≡ b
      → IsInTime first count holding past next (sizes (f ∷ fs)) (Ask ∷ ts)
  poll-in-order past next f fs ts ih closed low are ordered true e = rw e (
    inl refl,
    ih (next + length f.packets) fs (omega arith) are.1 (rw e at ordered),
  )
  poll-in-order past next f fs ts ih closed low are ordered false e =
      let m : Misses (is_among past) next (length f.packets) = misses (is_among past) next (length f.packets) e in
      let none : ended_frames past next (sizes (f ∷ fs)) ≤ 0 =
      none-ended format first past m.number closed (omega (arith, m.low)) m.missing next f fs are m.high in
      rw e (inr (omega (arith, none)), ih next (f ∷ fs) low are (rw e at ordered))

  pub in-order-in-time : (ts : List Turn) (past : List ℕ) (next : ℕ) (fs : List SentFrame) → IsClosed first past
      → first ≤ next → AreFrames format fs → IsInOrder first count holding.held past next (sizes fs) ts
      → IsInTime first count holding past next (sizes fs) ts
  in-order-in-time [] past next fs closed low are ordered = tt
  in-order-in-time (Arrive x ∷ ts) past next fs closed low are ordered = (
    good-arrival first count past x ordered.0,
    ordered.1,
    in-order-in-time ts (x ∷ past) next fs (closed-more first count past x closed ordered.0) low are ordered.2,
  )
  in-order-in-time (Ask ∷ ts) past next [] closed low are ordered =
      (tt, in-order-in-time ts past next [] closed low are ordered)
  in-order-in-time (Ask ∷ ts) past next (f ∷ fs) closed low are ordered =
      poll-in-order past next f fs ts (λ next fs. in-order-in-time ts past next fs closed) closed low are ordered
      (has_come past next (length f.packets)) refl
