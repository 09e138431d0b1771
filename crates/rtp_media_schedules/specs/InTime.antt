-- Orders in which every frame comes in time, and what a stream then answers to each poll, by true numbers alone.
use Rattle.std.specs.Prelude.{ℕ, zero, suc, ◌++◌, replicate, ◌≡◌, ◌+◌, ◌-◌, ◌<◌, ◌≤◌, ◌⊎◌, ◌==◌, true, if◌then◌else◌}
use Rattle.std.specs.Prelude.{List, [], ◌∷◌}
use Rattle.std.specs.Prelude.{Option, None, Some, Result, Ok, Err}
use Rattle.payload_core_base.specs.declared.error.PacketError.{PacketError}
use Rattle.payload_core_buffer.specs.Buffered.{Holding}
use Rattle.payload_core_buffer.specs.Steps.{Answer}
use Rattle.rtp_media_schedules.specs.Orders.{has_come, left_after, next_after}
use Rattle.rtp_media_schedules.specs.SentSamples.{Timed, timed}
use Rattle.rtp_media_schedules.specs.Turns.{Turn, Arrive, Ask, IsGoodArrival, IsNear, is_among, waiting}

-- How many of the frames with these sizes have ended: their last datagram came. The first of them begins with the
-- number `next`.
abbrev pub ended_frames : List ℕ → ℕ → List ℕ → ℕ
ended_frames past next [] = 0
ended_frames past next (size ∷ sizes) =
    if is_among past (next + size - 1) then 1 + ended_frames past (next + size) sizes
    else ended_frames past (next + size) sizes

-- How many frames a stream holds back while it waits for the next one: none before the first unit.
abbrev pub hold_back_at : ℕ → ℕ → ℕ → ℕ
hold_back_at first hold_back next = if next == first then 0 else hold_back

-- The next frame came whole, or no more frames have ended than the stream holds back.
abbrev pub IsNextInTime : (first hold_back : ℕ) → List ℕ → ℕ → List ℕ → Type 0
IsNextInTime first hold_back past next [] = Unit {0}
IsNextInTime first hold_back past next (size ∷ sizes) =
    (has_come past next size ≡ true) ⊎ (ended_frames past next (size ∷ sizes) ≤ hold_back_at first hold_back next)

-- past: the numbers that came, newest first; next: the first number not yet handed out; left: the sizes of the frames
-- from there on
abbrev pub IsInTime : (first count : ℕ) → Holding → List ℕ → ℕ → List ℕ → List Turn → Type 0
IsInTime first count holding past next left [] = Unit {0}
IsInTime first count holding past next left (Arrive x ∷ ts) =
    IsGoodArrival first count past x × (waiting first count (x ∷ past) next ≤ holding.held)
    × IsInTime first count holding (x ∷ past) next left ts
IsInTime first count holding past next left (Ask ∷ ts) =
    IsNextInTime first holding.hold_back past next left
    × IsInTime first count holding past (next_after past next left) (left_after past next left) ts

-- An arrival of one of the stream's datagrams after all lower ones: the next one, or one that came before.
pub record IsInOrderArrival (first count : ℕ) (past : List ℕ) (x : ℕ) : Type 0 where
  pub from_first : first ≤ x
  pub before_end : x < first + count
  pub near : IsNear past x
  pub in_order : (y : ℕ) → first ≤ y → y < x → is_among past y ≡ true

-- Datagrams in order, and polls anywhere, as long as no more datagrams wait than may be held.
abbrev pub IsInOrder : (first count held : ℕ) → List ℕ → ℕ → List ℕ → List Turn → Type 0
IsInOrder first count held past next left [] = Unit {0}
IsInOrder first count held past next left (Arrive x ∷ ts) =
    IsInOrderArrival first count past x × (waiting first count (x ∷ past) next ≤ held)
    × IsInOrder first count held (x ∷ past) next left ts
IsInOrder first count held past next left (Ask ∷ ts) =
    IsInOrder first count held past (next_after past next left) (left_after past next left) ts

-- What a poll returns, without numbers and the codec's own values.
abbrev pub TimedAnswer : Type 0
TimedAnswer = Result (Option Timed) PacketError

abbrev pub timed_answer : Answer → TimedAnswer
timed_answer (Ok None) = Ok None
timed_answer (Ok (Some u)) = Ok (Some (timed u.time u.values u.bytes))
timed_answer (Err e) = Err e

-- Each poll returns the next unit if all of its datagrams came, and otherwise None.
abbrev pub when_come : List ℕ → ℕ → List ℕ → List Timed → List Turn → List TimedAnswer
when_come past next sizes units [] = []
when_come past next sizes units (Arrive x ∷ ts) = when_come (x ∷ past) next sizes units ts
when_come past next [] units (Ask ∷ ts) = Ok None ∷ when_come past next [] units ts
when_come past next (size ∷ sizes) [] (Ask ∷ ts) = Ok None ∷ when_come past next (size ∷ sizes) [] ts
when_come past next (size ∷ sizes) (unit ∷ units) (Ask ∷ ts) =
    if has_come past next size then Ok (Some unit) ∷ when_come past (next + size) sizes units ts
    else Ok None ∷ when_come past next (size ∷ sizes) (unit ∷ units) ts

-- Datagrams in order, numbered from n on, each followed by a poll and by `more` of its number further polls.
abbrev pub rounds : (ℕ → ℕ) → ℕ → ℕ → List Turn
rounds more n zero = []
rounds more n (suc count) = Arrive n ∷ Ask ∷ (replicate (more n) Ask ++ rounds more (n + 1) count)

-- After each datagram: the next unit if that was its last datagram, and otherwise None; then None until the next
-- datagram comes.
abbrev pub round_by_round : (ℕ → ℕ) → ℕ → ℕ → List ℕ → List Timed → ℕ → List TimedAnswer
round_by_round more n next sizes units zero = []
round_by_round more n next [] units (suc count) =
    Ok None ∷ (replicate (more n) (Ok None) ++ round_by_round more (n + 1) next [] units count)
round_by_round more n next (size ∷ sizes) [] (suc count) =
    Ok None ∷ (replicate (more n) (Ok None) ++ round_by_round more (n + 1) next (size ∷ sizes) [] count)
round_by_round more n next (size ∷ sizes) (unit ∷ units) (suc count) =
    if n + 1 == next + size
    then Ok (Some unit) ∷ (replicate (more n) (Ok None) ++ round_by_round more (n + 1) (next + size) sizes units count)
    else Ok None
    ∷ (replicate (more n) (Ok None) ++ round_by_round more (n + 1) next (size ∷ sizes) (unit ∷ units) count)
