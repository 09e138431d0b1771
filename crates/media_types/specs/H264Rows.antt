-- The H.264 profile table, with masks.
use Rattle.std.specs.Prelude.{ℕ, ◌==◌, ◌&&◌, List, bit_and, find, option_map, Option}
use Rattle.media_types.specs.declared.h264.H264Profile.{H264Profile}
use Rattle.media_types.specs.declared.h264.ProfileRow.{ProfileRow}

-- The profile of the row whose masked bits the two bytes match.
abbrev pub masked_profile : List ProfileRow → ℕ → ℕ → Option H264Profile
masked_profile rows idc iop = option_map (λ r. r.profile)
    (find (λ r. (r.idc == idc) && (bit_and iop r.mask == r.bits)) rows)
