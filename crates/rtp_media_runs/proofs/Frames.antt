-- Frames of VP8 and VP9 that are sent again.
use Rattle.std.proofs.Common.{◌≡◌, ℕ, ◌<◌, Bool, true, false, List, [], ◌∷◌, length, refl, ap, arith}
use Rattle.std.specs.Prelude.{nat_le, if◌then◌else◌}
use Rattle.payload_core_base.specs.Frames.{after_frame}
use Rattle.payload_core_base.specs.Packing.{Sender}
use Rattle.payload_core_vpx.specs.Vp8 as vpx
use Rattle.payload_core_vpx.specs.Vp8.{tells_id, vp8_coding}
use Rattle.payload_core_vpx.specs.Vp9 as vp9
use Rattle.payload_core_vpx.specs.Vp9.{tells_prediction, vp9_coding}
use Rattle.rtp_media_runs.specs.Again.{AnySample, ComesAgain, GivesAgain, IsSame}
use Rattle.rtp_media_runs.proofs.Whole.{as-it-is, from-one, none-sent}

vp8-frame : (has_id zero_id : Bool) (s : Sender) (limit : ℕ) (x : List ℕ) → 0 < length x
    → ComesAgain (vp8_coding has_id zero_id) IsSame limit s s x
vp8-frame has_id zero_id s limit [] good = absurd (omega arith)
vp8-frame has_id zero_id s limit (b ∷ bs) good =
    go (nat_le limit (vpx.descriptor_size (tells_id has_id zero_id s.number) s.number)) refl where
      go : (none : Bool) → nat_le limit (vpx.descriptor_size (tells_id has_id zero_id s.number) s.number) ≡ none
          → ComesAgain (vp8_coding has_id zero_id) IsSame limit s s (b ∷ bs)
      go true e = none-sent (vp8_coding has_id zero_id) s limit (b ∷ bs)
          (ap (λ (n : Bool). if n then [] else ((b ∷ bs) ∷ []) ∷ []) e)
          (ap (λ (n : Bool). if n then s else after_frame s) e)
      go false e = as-it-is (vp8_coding has_id zero_id) s limit (b ∷ bs) good
          (ap (λ (n : Bool). if n then [] else ((b ∷ bs) ∷ []) ∷ []) e)

pub vp8-again : (has_id zero_id : Bool) → GivesAgain (vp8_coding has_id zero_id) IsSame AnySample
vp8-again has_id zero_id = from-one (vp8_coding has_id zero_id) AnySample (vp8-frame has_id zero_id)

vp9-frame : (prediction : Bool) (s : Sender) (limit : ℕ) (x : List ℕ) → 0 < length x
    → ComesAgain (vp9_coding prediction) IsSame limit s s x
vp9-frame prediction s limit [] good = absurd (omega arith)
vp9-frame prediction s limit (b ∷ bs) good =
    go (nat_le limit (vp9.descriptor_size (tells_prediction prediction (b ∷ bs)))) refl where
      go : (none : Bool) → nat_le limit (vp9.descriptor_size (tells_prediction prediction (b ∷ bs))) ≡ none
          → ComesAgain (vp9_coding prediction) IsSame limit s s (b ∷ bs)
      go true e = none-sent (vp9_coding prediction) s limit (b ∷ bs)
          (ap (λ (n : Bool). if n then [] else ((b ∷ bs) ∷ []) ∷ []) e)
          (ap (λ (n : Bool). if n then s else after_frame s) e)
      go false e = as-it-is (vp9_coding prediction) s limit (b ∷ bs) good
          (ap (λ (n : Bool). if n then [] else ((b ∷ bs) ∷ []) ∷ []) e)

pub vp9-again : (prediction : Bool) → GivesAgain (vp9_coding prediction) IsSame AnySample
vp9-again prediction = from-one (vp9_coding prediction) AnySample (vp9-frame prediction)
