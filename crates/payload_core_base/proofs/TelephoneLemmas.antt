-- A telephone event report that is read and written again.
use Rattle.std.proofs.Common.{◌≡◌, ℕ, ◌+◌, ◌*◌, ◌/◌, ◌%◌, ◌<◌, ◌≤◌, Bool, true, false, ltb, leb, List, [], ◌∷◌, Some}
use Rattle.std.proofs.Common.{None, if◌then◌else◌, refl, sym, ap, ◌∙◌, arith}
use mathlib.Core.Bool.{false≢true}
use Rattle.std.proofs.Math.Nat.{div-mul-le_self, lt-div-mul-add}
use Rattle.std.proofs.lemmas.Bool.Decides.{nat_tests}
use Rattle.payload_core_base.specs.Telephone.{nanoseconds_of, ticks_of, without_r, ReportsComeBack}

-- by the product of the quotient and the rate
ticks_from : (ticks rate product : ℕ) → rate < 1000000000 → product ≤ ticks * 1000000000
    → ticks * 1000000000 < product + rate → (product + 999999999) / 1000000000 ≡ ticks
ticks_from ticks rate product small le lt = omega arith

ticks_back : (rate ticks : ℕ) → 0 < rate → rate < 1000000000 → ticks_of rate (nanoseconds_of rate ticks) ≡ ticks
ticks_back rate ticks some small = ticks_from ticks rate (ticks * 1000000000 / rate * rate) small
    (div-mul-le_self (ticks * 1000000000) rate) (lt-div-mul-add some)

flags_back : (flags : ℕ) → flags < 256 → (if leb 128 flags then 128 + flags % 64 else flags % 64) ≡ without_r flags
flags_back flags small = grind (arith, nat_tests)

in_room : (loud long : Bool) (bytes : List ℕ) → loud ≡ false → long ≡ false
    → (if loud then None else (if long then None else Some bytes)) ≡ Some bytes
in_room true long bytes e f = absurd (false≢true (sym e))
in_room false true bytes e f = absurd (false≢true (sym f))
in_room false false bytes e f = refl

pub reports_come_back : ReportsComeBack
reports_come_back rate event flags high low some small flags_fit high_fits low_fits =
    let ticks : ℕ = high * 256 + low in
    let back = ticks_back rate ticks some small in
    let bytes : ℕ → List ℕ = λ n. event ∷ (if leb 128 flags then 128 + flags % 64 else flags % 64) ∷ n / 256
    ∷ n % 256 ∷ [] in
    let high_back : ticks / 256 ≡ high = omega arith in
    let low_back : ticks % 256 ≡ low = omega arith in
    let quiet : ltb 63 (flags % 64) ≡ false = grind (arith, nat_tests) in
    let short : ltb 65535 ticks ≡ false = grind (arith, nat_tests) in
    ap (λ n. if ltb 63 (flags % 64) then None else (if ltb 65535 n then None else Some (bytes n))) back
    ∙ in_room _ _ (bytes ticks) quiet short
    ∙ ap (λ f. Some (event ∷ f ∷ ticks / 256 ∷ ticks % 256 ∷ [])) (flags_back flags flags_fit)
    ∙ ap (λ h. Some (event ∷ without_r flags ∷ h ∷ ticks % 256 ∷ [])) high_back
    ∙ ap (λ l. Some (event ∷ without_r flags ∷ high ∷ l ∷ [])) low_back
