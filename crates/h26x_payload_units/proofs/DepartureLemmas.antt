-- What leaves of units.
use Rattle.std.proofs.Common.{◌≡◌, ℕ, Bool, true, false, List, [], ◌∷◌, ◌++◌, if◌then◌else◌, refl}
use Rattle.h26x_payload_units.specs.Departures.{Departure, EachUnit, Role, Rules, Waiting, alone, are_ready}
use Rattle.h26x_payload_units.specs.Departures.{departing, departures, sets_in, together, waiting_behind}
use Rattle.h26x_payload_units.specs.Departures.Departure.{Together, Alone}
use Rattle.h26x_payload_units.specs.Departures.Role.{Unsent, Waits, Leaves}

abbrev pub Each : (Departure → Type 0) → List Departure → Type 0
Each P [] = Unit {0}
Each P (d ∷ ds) = P d × Each P ds

each_behind : (P : Departure → Type 0) (ds es : List Departure) → Each P ds → Each P es → Each P (ds ++ es)
each_behind P [] es all others = others
each_behind P (d ∷ ds) es all others = (all.0, each_behind P ds es all.1 others)

-- what leaves of units that are all so: sets if the needed ones wait and they can join, and units that can leave
module _ (rules : Rules) (limit : ℕ) (P : Departure → Type 0) (IsSo : List ℕ → Type 0)
    (sets : (ws : Waiting) → are_ready rules.needed ws ≡ true → rules.can_join limit (sets_in ws) ≡ true
    → P (Together (sets_in ws)))
    (unit : (u : List ℕ) → IsSo u → rules.can_leave limit u ≡ true → P (Alone u)) where
  sets_by : (ws : Waiting) (ready joins : Bool) → are_ready rules.needed ws ≡ ready
      → rules.can_join limit (sets_in ws) ≡ joins
      → Each P (if ready then (if joins then Together (sets_in ws) ∷ [] else []) else [])
  sets_by ws false joins r j = tt
  sets_by ws true false r j = tt
  sets_by ws true true r j = (sets ws r j, tt)

  unit_by : (u : List ℕ) (leaves : Bool) → rules.can_leave limit u ≡ leaves → IsSo u
      → Each P (if leaves then Alone u ∷ [] else [])
  unit_by u false l is = tt
  unit_by u true l is = (unit u is l, tt)

  departing_each : (role : Role) (ws : Waiting) (u : List ℕ) → IsSo u → Each P (departing rules limit role ws u)
  departing_each Unsent ws u is = tt
  departing_each (Waits k) ws u is = tt
  departing_each Leaves ws u is =
      each_behind P (if are_ready rules.needed ws then together rules limit (sets_in ws) else []) (alone rules limit u)
      (sets_by ws (are_ready rules.needed ws) (rules.can_join limit (sets_in ws)) refl refl)
      (unit_by u (rules.can_leave limit u) refl is)

  pub departures-each : (ws : Waiting) (us : List (List ℕ)) → EachUnit IsSo us → Each P (departures rules limit ws us)
  departures-each ws [] all = tt
  departures-each ws (u ∷ us) all =
      each_behind P (departing rules limit (rules.role u) ws u)
      (departures rules limit (waiting_behind rules (rules.role u) ws u) us)
      (departing_each (rules.role u) ws u all.0) (departures-each (waiting_behind rules (rules.role u) ws u) us all.1)
