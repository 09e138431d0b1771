-- What begins a keyframe.
use Rattle.std.proofs.Common.{◌≡◌, ℕ, ◌/◌, ◌%◌, Bool, true, false, eqb, List, [], ◌∷◌, drop, refl}
use Rattle.std.specs.Prelude.{◌&&◌}
use mathlib.Core.Bool.{false≢true}
use Rattle.std.proofs.lemmas.Bool.{eqb-true}
use Rattle.payload_core_vpx.specs.Vp8Descriptor.{begins_frame, begins_keyframe, described_in, keyframe_in}
use Rattle.payload_core_vpx.specs.Vp8Descriptor.{layout_size, shape_of, with_frame}
use Rattle.payload_core_vpx.specs.Vp8KeyframeLaw.{KeyframeLaw}

both : (a b : Bool) → (a && b) ≡ true → (a ≡ true) × (b ≡ true)
both true b e = (refl, e)
both false b e = absurd (false≢true e)

module _ (first : ℕ) (rest : List ℕ) where
  abbrev payload : List ℕ
  payload = first ∷ rest

  by_frame : (frame : List ℕ) → keyframe_in (with_frame (described_in (shape_of payload) payload) frame) payload ≡ true
      → begins_frame first ≡ true
  by_frame [] e = absurd (false≢true e)
  by_frame (b ∷ bs) e = (both (begins_frame first) (begins_keyframe (drop (layout_size (shape_of payload)) payload))
      e).0

pub keyframe_law : KeyframeLaw
keyframe_law first rest e =
    let begins = by_frame first rest (drop (layout_size (shape_of (first ∷ rest))) (first ∷ rest)) e in
    let facts = both (eqb (first / 16 % 2) 1) (eqb (first % 8) 0) begins in
    (eqb-true (first / 16 % 2) 1 facts.0, eqb-true (first % 8) 0 facts.1)
