-- Which units of a sample are sent and which are held back (RFC 6184 5.2, RFC 7798 4.4, RFC 9328 4.3), by a codec's
-- rules: a recursion over the units, without packets.
use Rattle.std.specs.Prelude.{ℕ, zero, suc, ◌&&◌, ◌||◌, not, is_some, Bool, true, false, List, [], ◌∷◌, ◌++◌, map}
use Rattle.std.specs.Prelude.{Option, Some, None, if◌then◌else◌}
use Rattle.std.specs.List.{flat_map}

-- What happens to a unit: a delimiter or filler is not sent, a parameter set is held back in the slot of its kind, any
-- other unit is sent.
pub data Role : Type 0 where
  Unsent : Role
  Waits : ℕ → Role
  Leaves : Role

-- For each kind of parameter set, the latest one held back, if any.
abbrev pub Waiting : Type 0
Waiting = List (Option (List ℕ))

-- A parameter set replaces the one held in this slot.
abbrev pub put_at : ℕ → List ℕ → Waiting → Waiting
put_at k set [] = []
put_at zero set (w ∷ ws) = Some set ∷ ws
put_at (suc k) set (w ∷ ws) = w ∷ put_at k set ws

-- The held-back parameter sets, in slot order.
abbrev pub sets_in : Waiting → List (List ℕ)
sets_in [] = []
sets_in (None ∷ ws) = sets_in ws
sets_in (Some set ∷ ws) = set ∷ sets_in ws

-- Every slot that is needed holds a set.
abbrev pub are_ready : List Bool → Waiting → Bool
are_ready [] ws = true
are_ready (needed ∷ others) [] = false
are_ready (needed ∷ others) (w ∷ ws) = (not needed || is_some w) && are_ready others ws

abbrev pub emptied : Waiting → Waiting
emptied ws = map (λ w. None) ws

-- A codec's rules: what happens to a unit; which slots need a set; whether sets fit one packet at a limit; and whether
-- a unit can be sent at it, whole or in fragments.
pub record Rules : Type 0 where
  pub role : List ℕ → Role
  pub needed : List Bool
  pub can_join : ℕ → List (List ℕ) → Bool
  pub can_leave : ℕ → List ℕ → Bool

-- Parameter sets sent together, or one unit.
pub data Departure : Type 0 where
  Together : (sets : List (List ℕ)) → Departure
  Alone : (unit : List ℕ) → Departure

-- The sets are sent together, or dropped if they can't be.
abbrev pub together : Rules → ℕ → List (List ℕ) → List Departure
together rules limit sets = if rules.can_join limit sets then Together sets ∷ [] else []

-- The unit is sent, or dropped if it can't be.
abbrev pub alone : Rules → ℕ → List ℕ → List Departure
alone rules limit unit = if rules.can_leave limit unit then Alone unit ∷ [] else []

-- Before a unit is sent, all held-back sets are sent, if the needed ones are there.
abbrev pub departing : Rules → ℕ → Role → Waiting → List ℕ → List Departure
departing rules limit Unsent ws unit = []
departing rules limit (Waits k) ws unit = []
departing rules limit Leaves ws unit = (if are_ready rules.needed ws then together rules limit (sets_in ws) else [])
    ++ alone rules limit unit

-- The sets held back after a unit.
abbrev pub waiting_behind : Rules → Role → Waiting → List ℕ → Waiting
waiting_behind rules Unsent ws unit = ws
waiting_behind rules (Waits k) ws unit = put_at k unit ws
waiting_behind rules Leaves ws unit = if are_ready rules.needed ws then emptied ws else ws

-- The departures of a list of units, in order, and the sets held back after them.
abbrev pub departures : Rules → ℕ → Waiting → List (List ℕ) → List Departure
departures rules limit ws [] = []
departures rules limit ws (u ∷ us) = departing rules limit (rules.role u) ws u
    ++ departures rules limit (waiting_behind rules (rules.role u) ws u) us

abbrev pub waiting_after : Rules → Waiting → List (List ℕ) → Waiting
waiting_after rules ws [] = ws
waiting_after rules ws (u ∷ us) = waiting_after rules (waiting_behind rules (rules.role u) ws u) us

abbrev pub units_in : Departure → List (List ℕ)
units_in (Together sets) = sets
units_in (Alone unit) = unit ∷ []

-- The units sent for these units, given the sets held back before them.
abbrev pub units_sent : Rules → ℕ → Waiting → List (List ℕ) → List (List ℕ)
units_sent rules limit ws us = flat_map units_in (departures rules limit ws us)

-- Every unit satisfies this.
abbrev pub EachUnit : (List ℕ → Type 0) → List (List ℕ) → Type 0
EachUnit IsSo [] = Unit {0}
EachUnit IsSo (u ∷ us) = IsSo u × EachUnit IsSo us
