-- Which answers are legal for canonical units.
use Rattle.std.specs.Prelude.{ℕ, suc, ◌≡◌, ◌<◌, ◌≤◌, List, [], ◌∷◌, length, drop, map, slice_index, slice_index_or}
use Rattle.std.specs.Prelude.{None, Some, Ok}
use Rattle.payload_core_base.specs.Law.{joined}
use Rattle.payload_core_buffer.specs.Steps.{MediaUnit, Answer}
use Rattle.rtp_media_schedules.specs.Hearing.{handed_out}
use Rattle.rtp_media_schedules.specs.Sending.{Canonical}

-- What is handed out is the unit, or, if it has several parts, a nonempty suffix of them, with its timestamp and header
-- extension values; its numbers are among those of its sample's datagrams.
pub record IsFinalRunOf (c : Canonical) (u : MediaUnit) : Type 0 where
  pub from : c.first ≤ u.first
  pub in_order : u.first ≤ u.last
  pub within : u.last < c.end
  pub time : u.time ≡ c.time
  pub values : u.values ≡ c.values
  pub part : ℕ
  pub some_part : part < length c.parts
  pub bytes : u.bytes ≡ joined (drop part c.parts)

-- The answers are a legal selection of the units: None is ignored, no poll returns a fault, and each unit is skipped or
-- handed out, in order and at most once.
pub data IsLegal : List Canonical → List Answer → Type 0 where
  Ended : {cs : List Canonical} → IsLegal cs []
  Silent : {cs : List Canonical} {os : List Answer} (rest : IsLegal cs os) → IsLegal cs (Ok None ∷ os)
  PassedOver : {c : Canonical} {cs : List Canonical} {os : List Answer} (rest : IsLegal cs os) → IsLegal (c ∷ cs) os
  HandedOut : {c : Canonical} {cs : List Canonical} {u : MediaUnit} {os : List Answer} (is : IsFinalRunOf c u)
      (rest : IsLegal cs os) → IsLegal (c ∷ cs) (Ok (Some u) ∷ os)

-- The same in other words: no poll returns a fault, and there are strictly increasing indices, one for each unit handed
-- out, such that it is a suffix of the canonical unit with that index.
pub record IsSelection (cs : List Canonical) (os : List Answer) : Type 0 where
  pub units : List MediaUnit
  pub no_fault : handed_out os ≡ map Ok units
  pub places : List ℕ
  pub as_many : length places ≡ length units
  pub rising : (i : ℕ) → suc i < length places → slice_index places i < slice_index places (suc i)
  pub inside : (i : ℕ) → i < length places → slice_index places i < length cs
  pub each : (i : ℕ) (c : Canonical) (u : MediaUnit) → i < length places
      → IsFinalRunOf (slice_index_or cs (slice_index places i) c) (slice_index_or units i u)
