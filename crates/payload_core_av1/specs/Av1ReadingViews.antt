-- How the reader's code stores what it reads.
use Rattle.std.specs.Prelude.{◌≡◌, ℕ, Bool, List, ◌++◌, length, take, Option, Some, None}
use Rattle.payload_core_base.specs.Format.{Fragment}
use Rattle.payload_core_av1.specs.Av1Reading.{Begun, all_given, complete, opened}

-- These bytes were appended to the old ones.
abbrev pub Gathers : List ℕ → Option (List ℕ) → List ℕ → Type 0
Gathers old None new = ⊥
Gathers old (Some bytes) new = new ≡ old ++ bytes

-- Elements in front of others, if these are there.
abbrev pub all_in_front : List (List ℕ) → Option (List (List ℕ)) → Option (List (List ℕ))
all_in_front es None = None
all_in_front es (Some others) = Some (es ++ others)

-- The first fragment if there is one, otherwise the second.
abbrev pub or_else : Option (List ℕ) → Option (List ℕ) → Option (List ℕ)
or_else None other = other
or_else (Some bytes) other = Some bytes

-- The new bytes start with the old ones.
abbrev pub Keeps : List ℕ → List ℕ → Type 0
Keeps old new = take (length old) new ≡ old

-- Elements with which no fragment stays open, and elements beside which it does.
abbrev pub fresh : List (List ℕ) → Begun
fresh es = record { open_still = None; elements = es }

abbrev pub beside : Fragment → List (List ℕ) → Begun
beside fragment es = record { open_still = fragment; elements = es }

-- What such elements give if the last one opens a fragment or doesn't, and the fragment that is open then.
abbrev pub given_of : Bool → Begun → Option (List ℕ)
given_of y b = all_given (complete y b.elements)

abbrev pub opened_of : Bool → Begun → Fragment
opened_of y b = opened y b.open_still b.elements
