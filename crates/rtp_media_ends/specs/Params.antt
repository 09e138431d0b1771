use Rattle.std.specs.Prelude.{ℕ, ◌<◌, ◌≤◌, Bool, true, false, ◌&&◌, nat_lt, nat_le, List, [], ◌∷◌, Option, Some, None}
use Rattle.std.specs.Option.{ForSome}
use Rattle.payload_core_audio.specs.RedHistory.{AreDistances}
use Rattle.rtp_media_ends.specs.declared.params.StreamParams.{StreamParams}

-- Redundancy needs a row with a RED type; the payload limit must be at least 2; the distances must be increasing, from
-- 1 to 8.
abbrev pub IsRedundancy : Option ℕ → ℕ → Option (List ℕ) → Type 0
IsRedundancy red mtu None = Unit {0}
IsRedundancy None mtu (Some distances) = ⊥
IsRedundancy (Some red) mtu (Some distances) = (2 ≤ mtu) × AreDistances distances

-- Valid parameters for a stream of a row with this RED type, or none.
pub record IsSound (red : Option ℕ) (p : StreamParams) : Type 0 where
  pub first : p.first < 32768
  pub mtu : 0 < p.mtu
  pub redundancy : IsRedundancy red p.mtu p.red
  pub picture_id : ForSome p.picture_id (λ id. id ≤ 32767)

abbrev pub is_picture_id : Option ℕ → Bool
is_picture_id None = true
is_picture_id (Some id) = nat_le id 32767

-- Whether the numbers are increasing, above this one, and at most 8.
abbrev pub rise_above : ℕ → List ℕ → Bool
rise_above least [] = true
rise_above least (d ∷ ds) = nat_lt least d && (nat_le d 8 && rise_above d ds)

abbrev pub is_redundancy : Option ℕ → ℕ → Option (List ℕ) → Bool
is_redundancy red mtu None = true
is_redundancy None mtu (Some distances) = false
is_redundancy (Some red) mtu (Some distances) = nat_le 2 mtu && rise_above 0 distances

-- The same as a test.
abbrev pub is_sound_params : Option ℕ → StreamParams → Bool
is_sound_params red p = nat_lt p.first 32768
    && (nat_lt 0 p.mtu && (is_redundancy red p.mtu p.red && is_picture_id p.picture_id))
