-- Static payload types (RFC 3551 6).
use Rattle.std.specs.Prelude.{ℕ, ◌≡◌, is_some}
use Rattle.sdp_formats_data.specs.Consistency.{is_static}
use Rattle.sdp_formats_rows.specs.Codecs.{static_spec}

-- A section may list such a type without an `a=rtpmap` line if and only if rows know its codec.
abbrev pub StaticTypesAgree : Type 0
StaticTypesAgree = (pt : ℕ) → is_static pt ≡ is_some (static_spec pt)
