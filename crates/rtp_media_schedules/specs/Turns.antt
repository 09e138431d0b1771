-- Arrivals and polls by true numbers.
use Rattle.std.specs.Prelude.{ℕ, ◌≡◌, ◌+◌, ◌-◌, ◌%◌, ◌<◌, ◌≤◌, max, Bool, true, false, ◌||◌, ◌==◌, List, [], ◌∷◌}
use Rattle.std.specs.Prelude.{count_by}
use Rattle.std.specs.List.{range_with_len}
use Rattle.rtp_wire.specs.Replay.{reach}
use Rattle.rtp_media_schedules.specs.Hearing.{Content, Event, Comes, Poll}

-- An arrival of the datagram of this true number, or a poll.
pub data Turn : Type 0 where
  Arrive : (number : ℕ) → Turn
  Ask : Turn

-- What the sender's datagrams bring, by true number.
abbrev pub Sender : Type 0
Sender = ℕ → Content

-- What a turn is to the stream, which sees only 16 bits of the number (RFC 3550 5.1).
abbrev pub event_of : Sender → Turn → Event
event_of sender (Arrive x) = Comes (x % 65536) (sender x)
event_of sender Ask = Poll

-- Is this number among those?
abbrev pub is_among : List ℕ → ℕ → Bool
is_among [] x = false
is_among (y ∷ ys) x = (x == y) || is_among ys x

abbrev pub greatest_of : List ℕ → ℕ
greatest_of [] = 0
greatest_of (y ∷ ys) = max y (greatest_of ys)

-- Less than 32,768 away from the greatest earlier number; or, as the first arrival, below 65,536.
abbrev pub IsNear : List ℕ → ℕ → Type 0
IsNear [] x = x < 65536
IsNear (y ∷ ys) x = (x < greatest_of (y ∷ ys) + 32768) × (greatest_of (y ∷ ys) < x + 32768)

-- An arrival of one of the stream's numbers, near the earlier ones (newest first); every number 1,024 or more below it
-- came before.
pub record IsGoodArrival (first count : ℕ) (past : List ℕ) (x : ℕ) : Type 0 where
  pub from_first : first ≤ x
  pub before_end : x < first + count
  pub near : IsNear past x
  pub in_reach : (y : ℕ) → first ≤ y → y + reach ≤ x → is_among past y ≡ true

-- Each number of the stream came.
abbrev pub AllCame : ℕ → ℕ → List ℕ → Type 0
AllCame first count past = (y : ℕ) → first ≤ y → y < first + count → is_among past y ≡ true

-- Good arrivals, which in the end include all numbers.
abbrev pub AreGoodArrivals : ℕ → ℕ → List ℕ → List ℕ → Type 0
AreGoodArrivals first count past [] = AllCame first count past
AreGoodArrivals first count past (x ∷ xs) = IsGoodArrival first count past x × AreGoodArrivals first count (x ∷ past) xs

-- How many of the numbers that came were not handed out, if `next` is the first that was not.
abbrev pub waiting : ℕ → ℕ → List ℕ → ℕ → ℕ
waiting first count past next = count_by (is_among past) (range_with_len next (first + count - next))
