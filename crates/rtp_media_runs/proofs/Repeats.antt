-- A datagram that comes again changes nothing.
use Rattle.std.proofs.Common.{◌≡◌, ℕ, ◌+◌, ◌%◌, ◌<◌, ◌≤◌, ◌^◌, sym, ◌∙◌, ap, arith, Bool, true, false, ◌&&◌, ◌||◌}
use Rattle.std.proofs.Common.{not, true≢false, List, [], ◌∷◌, ◌++◌, map, refl}
use Rattle.std.proofs.lemmas.Bool.Decides.{nat_tests}
use Rattle.std.specs.FinSet as set
use Rattle.std.specs.Prelude.{if◌then◌else◌, nat_lt, Option, Some, None}
use Rattle.payload_core_base.specs.Format.{Format}
use Rattle.rtp_wire.specs.Replay.{Window, is_accepted, reach}
use Rattle.payload_core_buffer.specs.Buffered.{Holding}
use Rattle.rtp_media_schedules.specs.Hearing.{Stream, after_events, fresh, heard_step, number_at}
use Rattle.rtp_media_schedules.specs.Orders.{IsSane, IsSaneArrival}
use Rattle.rtp_media_schedules.specs.TrueNumbers.{AreRecorded, AreTrueNumbers, arrived}
use Rattle.rtp_media_schedules.specs.Turns.{Arrive, Ask, Sender, Turn, event_of, is_among}
use Rattle.rtp_media_schedules.proofs.TrueNumbers.{true-numbers}
use Rattle.rtp_media_schedules.proofs.Windows.{among-le-greatest}

-- what came before a last arrival is sane, and so is that arrival
sane-front : (first count x : ℕ) (past : List ℕ) (ts : List Turn) → IsSane first count past (ts ++ Arrive x ∷ [])
    → IsSane first count past ts
sane-front first count x past [] sane = tt
sane-front first count x past (Arrive y ∷ ts) sane = (sane.0, sane-front first count x (y ∷ past) ts sane.1)
sane-front first count x past (Ask ∷ ts) sane = sane-front first count x past ts sane

sane-last : (first count x : ℕ) (past : List ℕ) (ts : List Turn) → IsSane first count past (ts ++ Arrive x ∷ [])
    → IsSaneArrival first count (arrived past ts) x
sane-last first count x past [] sane = sane.0
sane-last first count x past (Arrive y ∷ ts) sane = sane-last first count x (y ∷ past) ts sane.1
sane-last first count x past (Ask ∷ ts) sane = sane-last first count x past ts sane

nothing-new : (greatest x : ℕ) (r : Bool) → x ≤ greatest → (greatest < x + reach → r ≡ true)
    → (nat_lt greatest x || (nat_lt greatest (x + reach) && not r)) ≡ false
nothing-new greatest x r le there =
    go (nat_lt greatest x) (nat_lt greatest (x + reach)) (grind (arith, nat_tests, le)) refl where
      in-reach : nat_lt greatest (x + reach) ≡ true → greatest < x + reach
      in-reach e = grind (arith, nat_tests, e)

      go : (a b : Bool) → a ≡ false → nat_lt greatest (x + reach) ≡ b → (a || (b && not r)) ≡ false
      go true b h e = absurd (true≢false h)
      go false true h e = ap not (there (in-reach e))
      go false false h e = refl

not-accepted : (past : List ℕ) (o : Option Window) (x : ℕ) → AreRecorded past o → is_among past x ≡ true
    → is_accepted o x ≡ false
not-accepted [] o x recorded among = absurd (true≢false (sym among))
not-accepted (y ∷ ys) None x recorded among = absurd recorded
not-accepted (y ∷ ys) (Some w) x recorded among =
    let le : x ≤ w.greatest = omega (arith, recorded.greatest, among-le-greatest (y ∷ ys) x among) in
    nothing-new w.greatest x (set.contains w.recorded x) le
    (λ (lt : w.greatest < x + reach). recorded.recorded x lt ∙ among)

module _ (format : Format) (sender : Sender) (holding : Holding) (first count x : ℕ) (turns : List Turn)
    (fits : first + count ≤ 2 ^ 62) (sane : IsSane first count [] (turns ++ Arrive x ∷ []))
    (among : is_among (arrived [] turns) x ≡ true) where
  abbrev s : Stream
  s = after_events format (fresh holding) (map (event_of sender) turns)

  are : AreTrueNumbers sender first count (arrived [] turns) s
  are = true-numbers format sender first count fits holding turns (sane-front first count x [] turns sane)

  pub refused : is_accepted s.window (number_at s (x % 65536)) ≡ false
  refused =
      ap (is_accepted s.window) (are.widened x (sane-last first count x [] turns sane))
      ∙ not-accepted (arrived [] turns) s.window x are.window among

  if-else : {A : Type 0} (b : Bool) (x y : A) → b ≡ false → (if b then x else y) ≡ y
  if-else true x y h = absurd (true≢false h)
  if-else false x y h = refl

  pub stays : heard_step format s (event_of sender (Arrive x)) ≡ s
  stays = if-else (is_accepted s.window (number_at s (x % 65536))) _ s refused
