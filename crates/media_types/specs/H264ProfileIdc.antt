-- The profile_idc values in the profile table (RFC 6184 8.1).
use Rattle.std.specs.Prelude.{ℕ, List, [], ◌∷◌}
use Rattle.media_types.specs.declared.h264.H264ProfileIdc.{H264ProfileIdc}
use Rattle.media_types.specs.declared.h264.H264ProfileIdc.TheVariants.{X42, X4D, X58, X64, XF4}

abbrev pub profile_idcs : List H264ProfileIdc
profile_idcs = X42 ∷ X4D ∷ X58 ∷ X64 ∷ XF4 ∷ []

abbrev pub profile_idc : H264ProfileIdc → ℕ
profile_idc X42 = 66
profile_idc X4D = 77
profile_idc X58 = 88
profile_idc X64 = 100
profile_idc XF4 = 244
