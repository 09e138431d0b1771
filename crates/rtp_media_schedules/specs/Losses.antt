-- What a stream answers though datagrams are lost or late, by true numbers alone.
use Rattle.std.specs.Prelude.{ℕ, ◌≡◌, ◌+◌, ◌<◌, ◌≤◌, ◌⊎◌, true, false, if◌then◌else◌, List, [], ◌∷◌}
use Rattle.std.specs.Prelude.{None, Some, Ok, Err, nat_le}
use Rattle.payload_core_buffer.specs.Buffered.{Holding}
use Rattle.payload_core_buffer.specs.Steps.{Answer, MediaUnit}
use Rattle.rtp_wire.specs.Replay.{reach}
use Rattle.rtp_media_schedules.specs.InTime.{ended_frames, hold_back_at}
use Rattle.rtp_media_schedules.specs.Legal.{IsFinalRunOf}
use Rattle.rtp_media_schedules.specs.Orders.{has_come}
use Rattle.rtp_media_schedules.specs.Samples.{whole_unit}
use Rattle.rtp_media_schedules.specs.Sending.{Canonical}
use Rattle.rtp_media_schedules.specs.SentSamples.{timed}
use Rattle.rtp_media_schedules.specs.Turns.{Turn, Arrive, Ask, greatest_of, waiting}

-- The numbers that came in time, with this one: one that is 1,024 or more below the greatest comes too late.
abbrev pub in_time_with : List ℕ → ℕ → List ℕ
in_time_with past x = if nat_le (x + reach) (greatest_of past) then past else x ∷ past

-- How many of the frames came whole.
abbrev pub whole_frames : List ℕ → ℕ → List ℕ → ℕ
whole_frames past next [] = 0
whole_frames past next (size ∷ sizes) = if has_come past next size then 1 + whole_frames past (next + size) sizes
    else whole_frames past (next + size) sizes

-- A poll that returns None: the next frame lacks a datagram, and no more frames came whole than are held back.
abbrev pub Waits : (first hold_back : ℕ) → List ℕ → ℕ → List ℕ → Type 0
Waits first hold_back past next [] = Unit {0}
Waits first hold_back past next (size ∷ sizes) =
    (has_come past next size ≡ false) × (whole_frames past next (size ∷ sizes) ≤ hold_back_at first hold_back next)

-- A poll may hand a unit out: the next frame came whole, or more frames have ended than are held back.
abbrev pub MayHandOut : (first hold_back : ℕ) → List ℕ → ℕ → List ℕ → Type 0
MayHandOut first hold_back past next [] = ⊥
MayHandOut first hold_back past next (size ∷ sizes) =
    (has_come past next size ≡ true) ⊎ (hold_back_at first hold_back next < ended_frames past next (size ∷ sizes))

-- The unit is that of the next frame, whole if it came whole, and else a final run of its parts. Or the next frame is
-- skipped, since it lacks a datagram and more frames after it have ended than are held back, and the unit is that of a
-- later frame. The rest of the run follows from the unit's frame on.
abbrev pub HandsOut : (held_back : ℕ) → List ℕ → ℕ → List ℕ → List Canonical → MediaUnit
    → (ℕ → List ℕ → List Canonical → Type 0) → Type 0
HandsOut held_back past next [] cs u Rest = ⊥
HandsOut held_back past next (size ∷ sizes) [] u Rest = ⊥
HandsOut held_back past next (size ∷ sizes) (c ∷ cs) u Rest =
    (IsFinalRunOf c u × (has_come past next size ≡ true → timed u.time u.values u.bytes ≡ whole_unit c)
    × Rest (next + size) sizes cs)
    ⊎ ((has_come past next size ≡ false) × (held_back < ended_frames past (next + size) sizes)
    × HandsOut held_back past (next + size) sizes cs u Rest)

-- The answers to the polls of a sane schedule, as long as no more datagrams wait than may be held.
-- past: the numbers that came in time, newest first; next: the first number of a frame not yet handed out or skipped
abbrev pub Follows : (first count : ℕ) → Holding → List ℕ → ℕ → List ℕ → List Canonical → List Turn → List Answer
    → Type 0
Follows first count holding past next sizes cs [] [] = Unit {0}
Follows first count holding past next sizes cs [] (o ∷ os) = ⊥
Follows first count holding past next sizes cs (Arrive x ∷ ts) os =
    waiting first count (in_time_with past x) next ≤ holding.held
    → Follows first count holding (in_time_with past x) next sizes cs ts os
Follows first count holding past next sizes cs (Ask ∷ ts) [] = ⊥
Follows first count holding past next sizes cs (Ask ∷ ts) (Ok None ∷ os) =
    Waits first holding.hold_back past next sizes × Follows first count holding past next sizes cs ts os
Follows first count holding past next sizes cs (Ask ∷ ts) (Ok (Some u) ∷ os) =
    MayHandOut first holding.hold_back past next sizes
    × HandsOut (hold_back_at first holding.hold_back next) past next sizes cs u
    (λ n zs ds. Follows first count holding past n zs ds ts os)
Follows first count holding past next sizes cs (Ask ∷ ts) (Err e ∷ os) = ⊥
