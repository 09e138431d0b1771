-- Values read one after another.
use Rattle.std.specs.Prelude.{◌≡◌, List, [], ◌∷◌, Option, Some, None}

-- Reading from here gives these values in order, and leaves this.
abbrev pub Holds : {A S : Type 0} → (S → Option (A × S)) → S → List A → S → Type 0
Holds step from [] rest = rest ≡ from
Holds {A} {S} step from (a ∷ items) rest = (next : S) × (step from ≡ Some (a, next)) × Holds step next items rest

-- And these are all: nothing more can be read from what is left.
abbrev pub HoldsAll : {A S : Type 0} → (S → Option (A × S)) → S → List A → S → Type 0
HoldsAll step from items rest = Holds step from items rest × (step rest ≡ None)
