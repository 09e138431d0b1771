-- What leaves of H.265 and H.266 units.
use Rattle.std.proofs.Common.{◌≡◌, ℕ, ◌<◌, ◌≤◌, Bool, true, false, leb, List, [], ◌∷◌, length, Some, None, refl}
use Rattle.std.proofs.Common.{arith}
use Rattle.std.specs.Prelude.{◌&&◌}
use mathlib.Core.Bool.{false≢true}
use Rattle.std.proofs.lemmas.Bool.Decides.{nat_tests}
use Rattle.std.specs.List.{list_all}
use Rattle.h26x_payload_units.specs.Departures.{Departure, EachUnit, Waiting, are_ready, departures, sets_in}
use Rattle.h26x_payload_units.specs.Departures.Departure.{Together, Alone}
use Rattle.h26x_payload_units.proofs.DepartureLemmas.{Each, departures-each}
use Rattle.h26x_payload_units.specs.declared.layout.Layout.{Layout}
use Rattle.h26x_payload_units.specs.Headers.{needs_vps}
use Rattle.h26x_payload_formats.specs.Coding.{AreSendable, IsSendable}
use Rattle.h26x_payload_formats.specs.Packing.{aggregate, can_join, can_leave, h265_h266_rules}
use Rattle.h26x_payload_units.proofs.ReadingLemmas.{HasByte}

-- what leaves at a limit
abbrev pub IsFitting : Layout → Bool → ℕ → Departure → Type 0
IsFitting l donl limit (Together sets) = (0 < length sets) × (length (aggregate l donl 0 sets) ≤ limit)
IsFitting l donl limit (Alone unit) = (0 < length unit) × (can_leave donl limit unit ≡ true)

-- a unit that leaves by itself is sendable
abbrev pub IsGood : Layout → Departure → Type 0
IsGood l (Together sets) = Unit {0}
IsGood l (Alone unit) = IsSendable l unit

both : (x y : Bool) → (x && y) ≡ true → (x ≡ true) × (y ≡ true)
both true true e = (refl, refl)
both true false e = absurd (false≢true e)
both false y e = absurd (false≢true e)

some_sets : (vps : Bool) (ws : Waiting) → are_ready (vps ∷ true ∷ true ∷ []) ws ≡ true → 0 < length (sets_in ws)
some_sets vps [] e = absurd (false≢true e)
some_sets vps (Some set ∷ ws) e = omega arith
some_sets vps (None ∷ Some set ∷ ws) e = omega arith
some_sets true (None ∷ []) e = absurd (false≢true e)
some_sets false (None ∷ []) e = absurd (false≢true e)
some_sets true (None ∷ None ∷ ws) e = absurd (false≢true e)
some_sets false (None ∷ None ∷ ws) e = absurd (false≢true e)

sets_within : (l : Layout) (donl : Bool) (limit : ℕ) (sets : List (List ℕ)) → can_join l donl limit sets ≡ true
    → length (aggregate l donl 0 sets) ≤ limit
sets_within l donl limit sets e =
    let fits : leb (length (aggregate l donl 0 sets)) limit ≡ true =
    (both (list_all (λ unit. leb (length unit) 65535) sets) (leb (length (aggregate l donl 0 sets)) limit) e).1 in
    grind (arith, nat_tests)

pub departures-fit : (l : Layout) (donl : Bool) (limit : ℕ) (ws : Waiting) (us : List (List ℕ)) → EachUnit HasByte us
    → Each (IsFitting l donl limit) (departures (h265_h266_rules l donl) limit ws us)
departures-fit l donl limit = departures-each (h265_h266_rules l donl) limit (IsFitting l donl limit) HasByte
    (λ ws ready joins. (some_sets (needs_vps l) ws ready, sets_within l donl limit (sets_in ws) joins))
    (λ u some leaves. (some, leaves))

pub departures-good : (l : Layout) (donl : Bool) (limit : ℕ) (ws : Waiting) (us : List (List ℕ)) → AreSendable l us
    → Each (IsGood l) (departures (h265_h266_rules l donl) limit ws us)
departures-good l donl limit = departures-each (h265_h266_rules l donl) limit (IsGood l) (IsSendable l)
    (λ ws ready joins. tt)
    (λ u is leaves. is)
