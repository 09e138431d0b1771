-- Packetizers that were configured.
use Rattle.std.proofs.Common.{◌≡◌, ℕ, zero, suc, ◌<◌, refl, subst, arith, [], ◌∷◌, length}
use Rattle.std.specs.List.{Contains}
use Rattle.std.specs.Prelude.{slice_index_or}
use Rattle.media_types.specs.declared.codec.Codec.{Codec}
use Rattle.media_types.specs.declared.codec.Codec.TheVariants as codecs
use Rattle.h26x_payload.specs.Codings.{first_sender}
use Rattle.h26x_payload.specs.Packetizers.{codecs_of, sender_under}
use Rattle.h26x_payload.specs.declared.codec_packetizer.CodecPacketizer.{CodecPacketizer}
use Rattle.h26x_payload.specs.declared.codec_packetizer.CodecPacketizer.TheVariants.{G711, G722, Opus, ComfortNoise}
use Rattle.h26x_payload.specs.declared.codec_packetizer.CodecPacketizer.TheVariants.{AmrWb, Telephone, Vp8, Vp9, Av1}
use Rattle.h26x_payload.specs.declared.codec_packetizer.CodecPacketizer.TheVariants.{H264, H265, H266, Boxed}

only : (x y : Codec) → Contains (x ∷ []) y → x ≡ y
only x y has = go has.0 has.1 has.2 where
  go : (k : ℕ) → k < length (x ∷ []) → slice_index_or (x ∷ []) k y ≡ y → x ≡ y
  go zero lt e = e
  go (suc k) lt e = absurd (omega arith)

-- what a packetizer keeps before the first sample is the same after it was configured
pub first-kept : {B : Type 0} (p : CodecPacketizer B) (codec : Codec) (n : ℕ) → Contains (codecs_of p) codec
    → sender_under (first_sender n codec) p ≡ first_sender n codec
first-kept (G711 p) codec n has = refl
first-kept (G722 p) codec n has = refl
first-kept (Opus p) codec n has = refl
first-kept (ComfortNoise p) codec n has = refl
first-kept (AmrWb p) codec n has = refl
first-kept (Telephone p) codec n has = refl
first-kept (Vp8 p) codec n has = refl
first-kept (Vp9 p) codec n has = refl
first-kept (Av1 p) codec n has = refl
first-kept (H264 p) codec n has = refl
first-kept (H265 p) codec n has = counts codec (only codecs.H265 codec has) where
  counts : (c : Codec) → codecs.H265 ≡ c → record { number = 0; waiting = (first_sender n c).waiting }
      ≡ first_sender n c
  counts c same = subst (λ (d : Codec). record { number = 0; waiting = (first_sender n d).waiting }
      ≡ first_sender n d) same refl
first-kept (H266 p) codec n has = counts codec (only codecs.H266 codec has) where
  counts : (c : Codec) → codecs.H266 ≡ c → record { number = 0; waiting = (first_sender n c).waiting }
      ≡ first_sender n c
  counts c same = subst (λ (d : Codec). record { number = 0; waiting = (first_sender n d).waiting }
      ≡ first_sender n d) same refl
first-kept (Boxed b) codec n has = refl
