-- A packet that is a unit as it is.
use Rattle.std.proofs.Common.{◌≡◌, ℕ, ◌<◌, List, [], ◌∷◌, ◌++◌, length, refl, sym, ap, subst, arith, Result}
use Rattle.payload_core_base.specs.Format.{Format, Fragment, IsPlain, Reading, read_all, run_after}
use Rattle.payload_core_base.specs.declared.error.PacketError.{PacketError}
use Rattle.payload_core_buffer.specs.Frames.{packets_between}
use Rattle.payload_core_buffer.specs.Packets.{packets_of}
use Rattle.payload_core_buffer.specs.Pops.{IsReadAs, no_extra, run_of}
use Rattle.payload_core_buffer.specs.Slots.{slot_at}
use Rattle.payload_core_buffer.specs.Steps.{sole_unit, unit_between}
use Rattle.payload_core_buffer.specs.declared.frame.Frame.{Frame}
use Rattle.payload_core_buffer.specs.declared.held.Held.{Held}

with_none : (xs : List ℕ) → xs ≡ xs ++ []
with_none [] = refl
with_none (x ∷ xs) = ap (λ (ys : List ℕ). x ∷ ys) (with_none xs)

read_one : (format : Format) → IsPlain format → (fragment : Fragment) (p : List ℕ) → 0 < length p
    → IsReadAs (read_all format fragment no_extra (p ∷ [])) p no_extra fragment
read_one format plain fragment [] lt = absurd (omega (arith, lt))
read_one format plain fragment (b ∷ bs) lt =
    subst (λ (r : Result Reading PacketError).
    IsReadAs (run_after fragment no_extra r (λ f x. read_all format f x [])) (b ∷ bs) no_extra fragment)
    (sym (plain fragment no_extra b bs))
    (record { no_fault = refl; bytes = with_none (b ∷ bs); extra = refl; fragment = refl })

frame_is : (f : Frame) → f.start ≡ 0 → f.end ≡ 1 → f ≡ record { start = 0; end = 1 }
frame_is f s e = λ i. record { start = s i; end = e i }

pub sole_read : (format : Format) → IsPlain format → (fragment : Fragment) (hs : List Held) (f : Frame) → f.start ≡ 0
    → f.end ≡ 1 → 0 < length hs → 0 < length (slot_at hs 0).payload
    → IsReadAs (run_of format fragment (packets_between (packets_of hs) f)) (slot_at hs 0).payload no_extra fragment
sole_read format plain fragment [] f s e lt some = absurd (omega (arith, lt))
sole_read format plain fragment (h ∷ hs) f s e lt some =
    subst (λ (g : Frame).
    IsReadAs (run_of format fragment (packets_between (packets_of (h ∷ hs)) g)) h.payload no_extra fragment)
    (sym (frame_is f s e)) (read_one format plain fragment h.payload some)

pub sole_is : (hs : List Held) (f : Frame) → f.start ≡ 0 → f.end ≡ 1 → 0 < length hs
    → sole_unit (slot_at hs 0) ≡ unit_between (packets_of hs) f (slot_at hs 0).payload no_extra
sole_is [] f s e lt = absurd (omega (arith, lt))
sole_is (h ∷ hs) f s e lt =
    subst (λ (g : Frame). sole_unit h ≡ unit_between (packets_of (h ∷ hs)) g h.payload no_extra)
    (sym (frame_is f s e)) refl
