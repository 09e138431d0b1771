-- What leaves of H.264 units.
use Rattle.std.proofs.Common.{◌≡◌, ℕ, ◌<◌, ◌≤◌, Bool, true, false, leb, List, [], ◌∷◌, length, Some, None, refl}
use Rattle.std.proofs.Common.{arith}
use Rattle.std.specs.Prelude.{◌&&◌}
use mathlib.Core.Bool.{false≢true}
use Rattle.std.proofs.lemmas.Bool.Decides.{nat_tests}
use Rattle.std.specs.List.{list_all}
use Rattle.h26x_payload_units.specs.Departures.{Departure, EachUnit, Waiting, are_ready, departures, sets_in}
use Rattle.h26x_payload_units.specs.Departures.Departure.{Together, Alone}
use Rattle.h26x_payload_units.proofs.DepartureLemmas.{Each, departures-each}
use Rattle.h26x_payload_formats.specs.H264Coding.{AreSendable, IsSendable}
use Rattle.h26x_payload_formats.specs.H264Packing.{can_join, can_leave, h264_rules, stap_a}
use Rattle.h26x_payload_units.proofs.ReadingLemmas.{HasByte}

-- what leaves at a limit
abbrev pub IsFitting : ℕ → Departure → Type 0
IsFitting limit (Together sets) = (0 < length sets) × (length (stap_a sets) ≤ limit)
IsFitting limit (Alone unit) = (0 < length unit) × (can_leave limit unit ≡ true)

-- a unit that leaves by itself is sendable
abbrev pub IsGood : Departure → Type 0
IsGood (Together sets) = Unit {0}
IsGood (Alone unit) = IsSendable unit

both : (x y : Bool) → (x && y) ≡ true → (x ≡ true) × (y ≡ true)
both true true e = (refl, refl)
both true false e = absurd (false≢true e)
both false y e = absurd (false≢true e)

some_sets : (ws : Waiting) → are_ready (true ∷ true ∷ []) ws ≡ true → 0 < length (sets_in ws)
some_sets [] e = absurd (false≢true e)
some_sets (None ∷ ws) e = absurd (false≢true e)
some_sets (Some set ∷ ws) e = omega arith

sets_within : (limit : ℕ) (sets : List (List ℕ)) → can_join limit sets ≡ true → length (stap_a sets) ≤ limit
sets_within limit sets e =
    let fits : leb (length (stap_a sets)) limit ≡ true =
    (both (list_all (λ unit. leb (length unit) 65535) sets) (leb (length (stap_a sets)) limit) e).1 in
    grind (arith, nat_tests)

pub departures-fit : (limit : ℕ) (ws : Waiting) (us : List (List ℕ)) → EachUnit HasByte us
    → Each (IsFitting limit) (departures h264_rules limit ws us)
departures-fit limit = departures-each h264_rules limit (IsFitting limit) HasByte
    (λ ws ready joins. (some_sets ws ready, sets_within limit (sets_in ws) joins)) (λ u some leaves. (some, leaves))

pub departures-good : (limit : ℕ) (ws : Waiting) (us : List (List ℕ)) → AreSendable us
    → Each IsGood (departures h264_rules limit ws us)
departures-good limit = departures-each h264_rules limit IsGood IsSendable (λ ws ready joins. tt) (λ u is leaves. is)
