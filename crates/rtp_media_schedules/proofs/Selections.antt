-- A legal selection as rising places.
use Rattle.std.proofs.Common.{◌≡◌, ℕ, zero, suc, ◌<◌, refl, sym, ◌∙◌, ap, subst, arith, List, [], ◌∷◌, length, map}
use Rattle.std.specs.Prelude.{Result, Ok, slice_index, slice_index_or}
use Rattle.std.proofs.lemmas.List.{get_or-map, length-map}
use Rattle.payload_core_base.specs.declared.error.PacketError.{PacketError}
use Rattle.payload_core_buffer.specs.Steps.{MediaUnit, Answer}
use Rattle.rtp_media_schedules.specs.Legal.{IsFinalRunOf, IsLegal, IsSelection, Ended, Silent, PassedOver, HandedOut}
use Rattle.rtp_media_schedules.specs.Sending.{Canonical}

later : (ps : List ℕ) (i : ℕ) → i < length ps → slice_index (map suc ps) i ≡ suc (slice_index ps i)
later ps i h = get_or-map suc ps i 0 0 h

later-rising : (ps : List ℕ) → ((i : ℕ) → suc i < length ps → slice_index ps i < slice_index ps (suc i)) → (i : ℕ)
    → suc i < length (map suc ps) → slice_index (map suc ps) i < slice_index (map suc ps) (suc i)
later-rising ps rising i h =
    let inside : suc i < length ps = omega (arith, length-map ps suc) in
    omega (arith, later ps i (omega arith), later ps (suc i) inside, rising i inside)

later-each : (cs : List Canonical) (us : List MediaUnit) (ps : List ℕ)
    → ((i : ℕ) (c : Canonical) (u : MediaUnit) → i < length ps
    → IsFinalRunOf (slice_index_or cs (slice_index ps i) c) (slice_index_or us i u)) →
    (d : Canonical) (i : ℕ) (c : Canonical) (u : MediaUnit) → i < length (map suc ps)
    → IsFinalRunOf (slice_index_or (d ∷ cs) (slice_index (map suc ps) i) c) (slice_index_or us i u)
later-each cs us ps each d i c u h =
    let inside : i < length ps = omega (arith, length-map ps suc) in
    subst (λ (p : ℕ). IsFinalRunOf (slice_index_or (d ∷ cs) p c) (slice_index_or us i u)) (sym (later ps i inside))
    (each i c u inside)

later-inside : (n : ℕ) (ps : List ℕ) → ((i : ℕ) → i < length ps → slice_index ps i < n) → (i : ℕ)
    → i < length (map suc ps) → slice_index (map suc ps) i < suc n
later-inside n ps inside i h =
    let lt : i < length ps = omega (arith, length-map ps suc) in
    omega (arith, later ps i lt, inside i lt)

first-rising : (ps : List ℕ) → ((i : ℕ) → suc i < length ps → slice_index ps i < slice_index ps (suc i)) → (i : ℕ)
    → suc i < length (0 ∷ map suc ps) → slice_index (0 ∷ map suc ps) i < slice_index (0 ∷ map suc ps) (suc i)
first-rising ps rising zero h = omega (arith, later ps 0 (omega (arith, length-map ps suc)))
first-rising ps rising (suc i) h = later-rising ps rising i (omega arith)

first-inside : (n : ℕ) (ps : List ℕ) → ((i : ℕ) → i < length ps → slice_index ps i < n) → (i : ℕ)
    → i < length (0 ∷ map suc ps) → slice_index (0 ∷ map suc ps) i < suc n
first-inside n ps inside zero h = omega arith
first-inside n ps inside (suc i) h = later-inside n ps inside i (omega arith)

first-each : (cs : List Canonical) (us : List MediaUnit) (ps : List ℕ)
    → ((i : ℕ) (c : Canonical) (u : MediaUnit) → i < length ps
    → IsFinalRunOf (slice_index_or cs (slice_index ps i) c) (slice_index_or us i u)) →
    (d : Canonical) (v : MediaUnit) → IsFinalRunOf d v → (i : ℕ) (c : Canonical) (u : MediaUnit)
    → i < length (0 ∷ map suc ps) → IsFinalRunOf (slice_index_or (d ∷ cs) (slice_index (0 ∷ map suc ps) i) c)
    (slice_index_or (v ∷ us) i u)
first-each cs us ps each d v is zero c u h = is
first-each cs us ps each d v is (suc i) c u h = later-each cs us ps each d i c u (omega arith)

pub selection : {cs : List Canonical} {os : List Answer} → IsLegal cs os → IsSelection cs os
selection Ended = record {
  units = [];
  no_fault = refl;
  places = [];
  as_many = refl;
  rising =
      λ i h. absurd (omega arith);
  inside = λ i h. absurd (omega arith);
  each = λ i c u h. absurd (omega arith);
}
selection (Silent rest) =
    let r = selection rest in
    record {
      units = r.units;
      no_fault = r.no_fault;
      places = r.places;
      as_many = r.as_many;
      rising =
          r.rising;
      inside = r.inside;
      each = r.each;
    }
selection (PassedOver {c = d} {cs = cs} {os = os} rest) =
    let r : IsSelection cs os = selection rest in
    record {
      units = r.units;
      no_fault = r.no_fault;
      places = map suc r.places;
      as_many = length-map r.places suc ∙ r.as_many;
      rising = later-rising r.places r.rising;
      inside = later-inside (length cs) r.places r.inside;
      each = later-each cs r.units r.places r.each d;
    }
selection (HandedOut {c = d} {cs = cs} {u = v} {os = os} is rest) =
    let r : IsSelection cs os = selection rest in
    record {
      units = v ∷ r.units;
      no_fault = ap (λ (rs : List (Result MediaUnit PacketError)). Ok v ∷ rs) r.no_fault;
      places = 0 ∷ map suc r.places;
      as_many = ap suc (length-map r.places suc ∙ r.as_many);
      rising = first-rising r.places r.rising;
      inside = first-inside (length cs) r.places r.inside;
      each = first-each cs r.units r.places r.each d v is;
    }
