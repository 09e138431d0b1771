-- Whole recordings, and the order of their units.
use Rattle.std.specs.Prelude.{◌≡◌, ℕ, ◌≤◌, false, List, [], ◌∷◌, ◌++◌, Option, Some, None, Ok, Err}
use Rattle.payload_core_base.specs.Format.{Format, Fragment}
use Rattle.payload_core_buffer.specs.Buffered.{is_done, pushed}
use Rattle.payload_core_buffer.specs.Packets.{Packet}
use Rattle.payload_core_buffer.specs.Pops.{PopState, pop_state}
use Rattle.stream_recording.specs.Recorded.{NoneDue, Outcome, Takes, TakesDue, Waiting}

-- Packets that come one after another, and what is recorded of them until then.
pub data Records (format : Format) (waiting : Waiting) : PopState → List Packet → List Outcome → PopState → Type 0
  where
    NoMore : {s : PopState} → Records format waiting s [] [] s
    Comes : {s m t : PopState} {p : Packet} {ps : List Packet} {more : List Outcome} (os : List Outcome)
        (one : TakesDue format waiting
        (pop_state (pushed waiting.most s.cutoff s.held p) s.cutoff s.fragment) os m)
        (rest : Records format waiting m ps more t)
        → Records format waiting s (p ∷ ps) (os ++ more) t

-- The recording of a stream whose packets came in this order, with the frames that are left at its end.
pub record IsRecordingOf (format : Format) (waiting : Waiting) (fragment : Fragment) (packets : List Packet)
    (recorded : List Outcome) : Type 0
  where
    pub middle : PopState
    pub end : PopState
    pub first : List Outcome
    pub rest : List Outcome
    pub come : Records format waiting (pop_state [] None fragment) packets first middle
    pub left : Takes format 0 NoneDue middle rest end
    pub all : recorded ≡ first ++ rest

-- Each unit's packets have numbers above those of the units before it, of which the last is cutoff with.
abbrev pub AreInOrder : Option ℕ → List Outcome → Type 0
AreInOrder cutoff [] = Unit {0}
AreInOrder cutoff (Ok u ∷ os) = (is_done cutoff u.first ≡ false) × (u.first ≤ u.last) × AreInOrder (Some u.last) os
AreInOrder cutoff (Err e ∷ os) = AreInOrder cutoff os

-- A recording goes on packet by packet.
abbrev pub StepLaw : Type 0
StepLaw = (format : Format) (waiting : Waiting) (s m t : PopState) (packets : List Packet) (p : Packet)
    (recorded more : List Outcome) → Records format waiting s packets recorded m
    → TakesDue format waiting (pop_state (pushed waiting.most m.cutoff m.held p) m.cutoff m.fragment) more t
    → Records format waiting s (packets ++ p ∷ []) (recorded ++ more) t

-- And it ends with the frames that are left.
abbrev pub EndLaw : Type 0
EndLaw = (format : Format) (waiting : Waiting) (fragment : Fragment) (packets : List Packet) (middle end : PopState)
    (first rest : List Outcome) → Records format waiting (pop_state [] None fragment) packets first middle
    → Takes format 0 NoneDue middle rest end → IsRecordingOf format waiting fragment packets (first ++ rest)

abbrev pub RecordingLaw : Type 0
RecordingLaw = (format : Format) (waiting : Waiting) (fragment : Fragment) (packets : List Packet)
    (recorded : List Outcome) → IsRecordingOf format waiting fragment packets recorded
    → AreInOrder None recorded
