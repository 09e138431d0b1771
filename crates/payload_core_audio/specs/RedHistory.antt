-- What a RED sender keeps.
use Rattle.std.specs.Prelude.{ℕ, ◌<◌, ◌≤◌, List, ◌∷◌, All, AllPairs, take}
use Rattle.payload_core_audio.specs.declared.history.KeptPayload.{KeptPayload}

-- A payload that was wrapped, with its payload type and its timestamp.
pub record Kept : Type 0 where
  pub pt : ℕ
  pub time : ℕ
  pub payload : List ℕ

abbrev pub kept_of : KeptPayload → Kept
kept_of k = record { pt = k.pt; time = k.time; payload = k.payload.items }

-- A RED sender: the distances of the payloads it repeats, and the payloads it wrapped, newest first.
pub record Redundancy : Type 0 where
  pub distances : List ℕ
  pub history : List Kept

-- Distances are strictly increasing, from 1 to 8.
pub record AreDistances (distances : List ℕ) : Type 0 where
  pub rising : AllPairs (λ a b. a < b) distances
  pub in_range : All (λ d. (0 < d) × (d ≤ 8)) distances

-- The sender after one more payload; it keeps the newest eight.
abbrev pub keeping : Redundancy → ℕ → List ℕ → ℕ → Redundancy
keeping r pt payload time = record {
  distances = r.distances;
  history =
      take 8 (record { pt = pt; time = time; payload = payload } ∷ r.history);
}
