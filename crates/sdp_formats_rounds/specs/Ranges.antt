-- Formats and rows whose numbers are of their widths.
use Rattle.std.specs.Prelude.{◌≡◌, ◌<◌, ◌≤◌, ◌^◌, ◌⊎◌, ℕ, Option, Some, None, IfSome}
use Rattle.sdp_formats_rows.specs.declared.format.FormatParams.{FormatParams}
use Rattle.sdp_formats_rows.specs.Rows.{Row}

-- At least one of nine modes (RFC 4867 8.2).
abbrev pub IsModes : ℕ → Type 0
IsModes modes = (0 < modes) × (modes < 2 ^ 9)

-- At most one of them is given.
abbrev pub AtMostOne : {A B : Type 0} → Option A → Option B → Type 0
AtMostOne (Some a) (Some b) = ⊥
AtMostOne (Some a) None = Unit {0}
AtMostOne None b = Unit {0}

-- Each number of its width.
abbrev pub IsInRange : FormatParams → Type 0
IsInRange f = IfSome f.min_p_time (λ n. n < 2 ^ 8) × IfSome f.packetization_mode (λ n. n < 2 ^ 8)
    × IfSome f.profile_level_id (λ n. n < 2 ^ 32) × IfSome f.profile_id (λ n. n < 2 ^ 32)
    × IfSome f.profile (λ n. n < 2 ^ 8) × IfSome f.level_idx (λ n. n < 2 ^ 8) × IfSome f.tier (λ n. n < 2 ^ 8)
    × IfSome f.sprop_max_don_diff (λ n. n ≤ 32767) × IfSome f.telephone_event_max (λ n. n < 2 ^ 8)
    × IfSome f.mode_set IsModes

-- One profile, tier and level at most, and no `profile-id` beside it.
abbrev pub OneLevel : FormatParams → Type 0
OneLevel f = ((f.h265_profile_tier_level ≡ None) × (f.h266_profile_tier_level ≡ None))
    ⊎ ((f.profile_id ≡ None) × AtMostOne f.h265_profile_tier_level f.h266_profile_tier_level)

-- A nonzero 32-bit clock rate, and 8-bit channels, as the program's types ensure for every row.
abbrev pub IsSized : Row → Type 0
IsSized row = (0 < row.spec.clock_rate) × (row.spec.clock_rate < 2 ^ 32) × IfSome row.spec.channels (λ n. n < 2 ^ 8)
