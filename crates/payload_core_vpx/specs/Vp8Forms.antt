-- VP8 with and without the id 0.
use Rattle.std.specs.Prelude.{◌≡◌, ℕ, ◌<◌, Bool, false, List}
use Rattle.payload_core_base.specs.Packing.{Sender}
use Rattle.payload_core_vpx.specs.Vp8.{vp8_units}

-- If the limit leaves room after every descriptor, the units are the same.
abbrev pub SameUnits : Type 0
SameUnits = (has_id zero_id : Bool) (s : Sender) (limit : ℕ) (sample : List ℕ) → 4 < limit
    → vp8_units has_id zero_id s limit sample ≡ vp8_units has_id false s limit sample
