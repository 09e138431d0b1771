-- What packets give as they are read, and their units in a list.
use Rattle.std.proofs.Common.{◌≡◌, ℕ, ◌<◌, ◌≤◌, Bool, true, false, List, []}
use Rattle.std.proofs.Common.{◌∷◌, ◌++◌, map, length, None, Some, Ok, Err}
use Rattle.std.proofs.Common.{Result, refl, sym, ap, arith}
use mathlib.Core.Bool.{false≢true}
use Rattle.std.specs.List.{flat_map}
use Rattle.std.proofs.lemmas.List.{append-nil}
use Rattle.payload_core_base.specs.Format.{Fragment}
use Rattle.payload_core_base.specs.Law.{joined}
use Rattle.payload_core_base.specs.declared.error.PacketError.{PacketError}
use Rattle.h26x_payload_units.specs.Cut.{AreUnits}
use Rattle.h26x_payload_units.specs.Departures.{EachUnit}
use Rattle.h26x_payload_units.specs.Fragments.{behind_code, continued}
use Rattle.h26x_payload_units.specs.Reading.{Given}

-- what is open after an accepted packet, and what it wrote
abbrev pub open_of : Result Given PacketError → Fragment
open_of (Ok g) = g.fragment
open_of (Err e) = None

abbrev pub written_of : Result Given PacketError → List ℕ
written_of (Ok g) = g.written
written_of (Err e) = []

is_ok : Result Given PacketError → Bool
is_ok (Ok g) = true
is_ok (Err e) = false

pub refused_not : {A : Type 0} (e : PacketError) (g : Given) → Err e ≡ Ok g → A
unfolding is_ok
refused_not e g is = absurd (false≢true (ap is_ok is))

pub nothing_goes_on : (f : Fragment) → f ≡ continued f []
nothing_goes_on None = refl
nothing_goes_on (Some w) = ap Some (sym (append-nil w))

-- units after their start codes
pub joined_codes : (us : List (List ℕ)) → joined (map behind_code us) ≡ flat_map behind_code us
joined_codes [] = refl
joined_codes (u ∷ us) = ap (λ t. behind_code u ++ t) (joined_codes us)

pub some_parts : (us : List (List ℕ)) → 0 < length us → 0 < length (map behind_code us)
some_parts [] some = absurd (omega arith)
some_parts (u ∷ us) some = omega arith

-- the units of a text have bytes
abbrev pub HasByte : List ℕ → Type 0
HasByte u = 0 < length u

pub have_bytes : (us : List (List ℕ)) → AreUnits us → EachUnit HasByte us
have_bytes [] are = tt
have_bytes (u ∷ []) are = (are.is_nonempty, tt)
have_bytes (u ∷ v ∷ us) are = (are.0.0.is_nonempty, have_bytes (v ∷ us) are.1)

-- each packet has a byte and is within the limit
abbrev pub IsWithin : ℕ → List ℕ → Type 0
IsWithin limit p = (0 < length p) × (length p ≤ limit)
