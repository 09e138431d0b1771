-- A well-formed sample for each codec, and the unit it becomes.
use Rattle.std.specs.Prelude.{◌≡◌, ℕ, false, List, [], ◌∷◌}
use Rattle.h26x_payload.specs.Codings.{coding_of, first_sender, first_settings}
use Rattle.media_types.specs.declared.codec.Codec.{Codec}
use Rattle.media_types.specs.declared.codec.Codec.TheVariants.{Opus, PCMU, PCMA, G722, CN, AmrWb, H264, H265}
use Rattle.media_types.specs.declared.codec.Codec.TheVariants.{H266, Vp8, Vp9, Av1, Tele}
use Rattle.rtp_media_runs.specs.Again.{unit_bytes}
use Rattle.rtp_media_runs.specs.Codecs.{is_kept_in}

-- With default settings and packets of at most 1,200 bytes, the sample is well-formed, its units survive two hops, and
-- a new stream sends exactly this unit for it.
pub record Becomes (codec : Codec) (sample unit : List ℕ) : Type 0 where
  pub well_formed : (coding_of first_settings false codec).IsWellFormed 1200 sample
  pub kept : is_kept_in first_settings codec 1200 sample
  pub units : unit_bytes (coding_of first_settings false codec) (first_sender 0 codec) 1200 sample ≡ unit ∷ []

-- Sound in two or three bytes; comfort noise of one level.
pub record SoundIsCarried : Type 0 where
  pub opus : Becomes Opus (8 ∷ 255 ∷ []) (8 ∷ 255 ∷ [])
  pub pcmu : Becomes PCMU (255 ∷ 127 ∷ []) (255 ∷ 127 ∷ [])
  pub pcma : Becomes PCMA (213 ∷ 85 ∷ []) (213 ∷ 85 ∷ [])
  pub g722 : Becomes G722 (250 ∷ 250 ∷ []) (250 ∷ 250 ∷ [])
  pub noise : Becomes CN (64 ∷ []) (64 ∷ [])
  -- a frame of silence: frame type 9 with its 40 bits (RFC 4867 4.4.2)
  pub amr_wb : Becomes AmrWb (76 ∷ 1 ∷ 2 ∷ 3 ∷ 4 ∷ 5 ∷ []) (76 ∷ 1 ∷ 2 ∷ 3 ∷ 4 ∷ 5 ∷ [])
  -- event 5 at its end, for 800 ticks (RFC 4733 2.3)
  pub events : Becomes Tele (5 ∷ 138 ∷ 3 ∷ 32 ∷ []) (5 ∷ 138 ∷ 3 ∷ 32 ∷ [])

-- Video: AV1 loses its temporal delimiter; H.264, H.265 and H.266 units each follow a four-byte start code.
pub record PicturesAreCarried : Type 0 where
  pub vp8 : Becomes Vp8 (16 ∷ 2 ∷ 0 ∷ 157 ∷ 1 ∷ 42 ∷ []) (16 ∷ 2 ∷ 0 ∷ 157 ∷ 1 ∷ 42 ∷ [])
  pub vp9 : Becomes Vp9 (130 ∷ 73 ∷ 131 ∷ 66 ∷ []) (130 ∷ 73 ∷ 131 ∷ 66 ∷ [])
  pub av1 : Becomes Av1 (18 ∷ 0 ∷ 50 ∷ 2 ∷ 170 ∷ 187 ∷ []) (50 ∷ 2 ∷ 170 ∷ 187 ∷ [])
  pub h264 : Becomes H264 (0 ∷ 0 ∷ 1 ∷ 101 ∷ 136 ∷ []) (0 ∷ 0 ∷ 0 ∷ 1 ∷ 101 ∷ 136 ∷ [])
  pub h265 : Becomes H265 (0 ∷ 0 ∷ 1 ∷ 38 ∷ 1 ∷ 175 ∷ []) (0 ∷ 0 ∷ 0 ∷ 1 ∷ 38 ∷ 1 ∷ 175 ∷ [])
  pub h266 : Becomes H266 (0 ∷ 0 ∷ 1 ∷ 0 ∷ 57 ∷ 175 ∷ []) (0 ∷ 0 ∷ 0 ∷ 1 ∷ 0 ∷ 57 ∷ 175 ∷ [])
