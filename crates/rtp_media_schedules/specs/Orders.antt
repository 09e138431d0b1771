-- Which orders of arrivals and polls are sane, and which are tame, by true numbers alone.
use Rattle.std.specs.Prelude.{ℕ, ◌≡◌, ◌+◌, ◌<◌, ◌≤◌, ◌⊎◌, Bool, true, if◌then◌else◌, List, [], ◌∷◌}
use Rattle.std.specs.List.{range_with_len, list_all}
use Rattle.payload_core_buffer.specs.Buffered.{Holding}
use Rattle.rtp_wire.specs.Replay.{reach_below}
use Rattle.rtp_media_schedules.specs.Turns.{Turn, Arrive, Ask, AllCame, IsGoodArrival, IsNear, is_among, waiting}

-- An arrival of one of the stream's datagrams, near the earlier ones.
pub record IsSaneArrival (first count : ℕ) (past : List ℕ) (x : ℕ) : Type 0 where
  pub from_first : first ≤ x
  pub before_end : x < first + count
  pub near : IsNear past x

-- past: the numbers that came, newest first
abbrev pub IsSane : ℕ → ℕ → List ℕ → List Turn → Type 0
IsSane first count past [] = Unit {0}
IsSane first count past (Arrive x ∷ ts) = IsSaneArrival first count past x × IsSane first count (x ∷ past) ts
IsSane first count past (Ask ∷ ts) = IsSane first count past ts

-- All the numbers from `next` to `next + size` (exclusive) came.
abbrev pub has_come : List ℕ → ℕ → ℕ → Bool
has_come past next size = list_all (is_among past) (range_with_len next size)

-- The number of the next frame after a poll, and the frames from there on.
abbrev pub next_after : List ℕ → ℕ → List ℕ → ℕ
next_after past next [] = next
next_after past next (size ∷ sizes) = if has_come past next size then next + size else next

abbrev pub left_after : List ℕ → ℕ → List ℕ → List ℕ
left_after past next [] = []
left_after past next (size ∷ sizes) = if has_come past next size then sizes else size ∷ sizes

abbrev pub first_size : List ℕ → ℕ
first_size [] = 0
first_size (size ∷ sizes) = size

-- A poll that keeps a schedule tame: the first frame is complete; and enough frames are held back, or everything has
-- come.
pub record IsGoodPoll (first count hold_back : ℕ) (past : List ℕ) (size : ℕ) : Type 0 where
  pub begun : has_come past first size ≡ true
  pub held_back : (reach_below ≤ hold_back) ⊎ AllCame first count past

-- past: the numbers that came, newest first; next: the first number not yet handed out; left: the sizes of the frames
-- from there on; opening: the size of the very first frame
abbrev pub IsTame : (first count : ℕ) → Holding → (opening : ℕ) → List ℕ → ℕ → List ℕ → List Turn → Type 0
IsTame first count holding opening past next left [] = AllCame first count past
IsTame first count holding opening past next left (Arrive x ∷ ts) =
    IsGoodArrival first count past x × (waiting first count (x ∷ past) next ≤ holding.held)
    × IsTame first count holding opening (x ∷ past) next left ts
IsTame first count holding opening past next left (Ask ∷ ts) =
    IsGoodPoll first count holding.hold_back past opening
    × IsTame first count holding opening past (next_after past next left) (left_after past next left) ts
