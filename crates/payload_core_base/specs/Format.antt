-- What packets give a receiver.
use Rattle.std.specs.Prelude.{◌≡◌, ◌≢◌, ℕ, Bool, List, [], ◌∷◌, ◌++◌, Option, Some, None, Result, Ok, Err}
use Rattle.payload_core_base.specs.declared.error.PacketError.{PacketError}
use Rattle.payload_core_base.specs.declared.error.PacketError.TheVariants.{Memory}
use Rattle.payload_core_base.specs.declared.extra.CodecExtra.{CodecExtra}

-- The bytes of a unit, or part of one, that has started but not ended, if there is one.
abbrev pub Fragment : Type 0
Fragment = Option (List ℕ)

-- What an accepted packet gives: the bytes written, and the extra and the open fragment after it.
pub record Reading : Type 0 where
  pub written : List ℕ
  pub extra : CodecExtra
  pub fragment : Fragment

-- A payload format as a receiver sees it: which packets are heads; which are tails, by marker bit and bytes; and what a
-- packet gives, or why it is refused.
pub record Format : Type 0 where
  pub head : List ℕ → Bool
  pub tail : Bool → List ℕ → Bool
  pub read : Fragment → CodecExtra → List ℕ → Result Reading PacketError

-- The packet is read as this, and its bytes are appended to the output.
abbrev pub Gives : Result Reading PacketError → List ℕ → List ℕ → CodecExtra → Fragment → Type 0
Gives (Ok r) old new extra fragment = (new ≡ old ++ r.written) × (extra ≡ r.extra) × (fragment ≡ r.fragment)
Gives (Err e) old new extra fragment = ⊥

-- The packet is refused with this error, or memory runs out.
abbrev pub Refuses : Result Reading PacketError → PacketError → Type 0
Refuses r e = e ≢ Memory → r ≡ Err e

-- A packet that isn't empty is a unit as it is.
abbrev pub IsPlain : Format → Type 0
IsPlain format = (fragment : Fragment) (extra : CodecExtra) (b : ℕ) (bs : List ℕ)
    → format.read fragment extra (b ∷ bs) ≡ Ok (record { written = b ∷ bs; extra = extra; fragment = fragment })

-- What packets give in order, up to the first one refused: the bytes, then the codec data, the open fragment and the
-- fault after them.
pub record Run : Type 0 where
  pub written : List ℕ
  pub extra : CodecExtra
  pub fragment : Fragment
  pub fault : Option PacketError

-- The run with these bytes prepended.
abbrev pub run_behind : List ℕ → Run → Run
run_behind before r = record { written = before ++ r.written; extra = r.extra; fragment = r.fragment; fault = r.fault }

-- The run that starts with one packet's reading.
abbrev pub run_after : Fragment → CodecExtra → Result Reading PacketError → (Fragment → CodecExtra → Run) → Run
run_after fragment extra (Ok r) rest = run_behind r.written (rest r.fragment r.extra)
run_after fragment extra (Err e) rest = record { written = []; extra = extra; fragment = fragment; fault = Some e }

-- What packets give in their order.
abbrev pub read_all : Format → Fragment → CodecExtra → List (List ℕ) → Run
read_all format fragment extra [] = record { written = []; extra = extra; fragment = fragment; fault = None }
read_all format fragment extra (p ∷ ps) =
    run_after fragment extra (format.read fragment extra p) (λ f x. read_all format f x ps)
