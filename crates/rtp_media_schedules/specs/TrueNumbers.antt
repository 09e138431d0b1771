-- The numbers of a stream under a sane schedule.
use Rattle.std.specs.Prelude.{ℕ, ◌≡◌, ◌+◌, ◌%◌, ◌<◌, ◌≤◌, List, [], ◌∷◌, map, Option, None, Some}
use Rattle.std.specs.FinSet as set
use Rattle.rtp_wire.specs.Replay.{Window, reach}
use Rattle.rtp_media_schedules.specs.Hearing.{packet_of}
use Rattle.rtp_media_schedules.specs.Turns.{Sender, Turn, Arrive, Ask, greatest_of, is_among}
use Rattle.rtp_media_schedules.specs.Hearing.{Stream, number_at}
use Rattle.rtp_media_schedules.specs.Orders.{IsSaneArrival}

-- The numbers that came in some turns, newest first, in front of those that came before.
abbrev pub arrived : List ℕ → List Turn → List ℕ
arrived past [] = past
arrived past (Arrive x ∷ ts) = arrived (x ∷ past) ts
arrived past (Ask ∷ ts) = arrived past ts

-- The greatest recorded number is the greatest that came; and within its reach, exactly the numbers that came are
-- recorded.
pub record IsRecorded (past : List ℕ) (w : Window) : Type 0 where
  pub greatest : w.greatest ≡ greatest_of past
  pub recorded : (y : ℕ) → w.greatest < y + reach → set.contains w.recorded y ≡ is_among past y

abbrev pub AreRecorded : List ℕ → Option Window → Type 0
AreRecorded [] None = Unit {0}
AreRecorded [] (Some w) = ⊥
AreRecorded (y ∷ ys) None = ⊥
AreRecorded (y ∷ ys) (Some w) = IsRecorded (y ∷ ys) w

-- Increasing numbers, from lo on and below hi.
abbrev pub Rises : ℕ → ℕ → List ℕ → Type 0
Rises lo hi [] = Unit {0}
Rises lo hi (x ∷ xs) = (lo ≤ x) × (x < hi) × Rises (x + 1) hi xs

-- The first number after the cutoff.
abbrev pub behind : ℕ → Option ℕ → ℕ
behind first None = first
behind first (Some c) = c + 1

-- The invariant: the window matches what came; each held packet is the sender's with that number and is above the
-- cutoff; and the low bits of the next arrival stand for its number.
pub record AreTrueNumbers (sender : Sender) (first count : ℕ) (past : List ℕ) (s : Stream) : Type 0 where
  pub window : AreRecorded past s.window
  pub numbers : List ℕ
  pub rising : Rises (behind first s.cutoff) (first + count) numbers
  pub held : s.held ≡ map (λ x. packet_of x (sender x)) numbers
  pub widened : (x : ℕ) → IsSaneArrival first count past x → number_at s (x % 65536) ≡ x
