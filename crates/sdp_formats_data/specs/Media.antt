-- Media sections.
use Rattle.std.specs.Prelude.{Bool, true, false}
use Rattle.rtp_wire.specs.declared.direction.Direction.{Direction}
use Rattle.rtp_wire.specs.declared.direction.Direction.TheVariants as way
use Rattle.sdp_formats_data.specs.declared.media.MediaAttribute.{MediaAttribute}
use Rattle.sdp_formats_data.specs.declared.media.MediaAttribute.TheVariants.{Mid, RecvOnly, SendRecv, SendOnly}
use Rattle.sdp_formats_data.specs.declared.media.MediaAttribute.TheVariants.{Inactive}

-- The name of a section (RFC 5888 4).
unfoldable pub is_mid : MediaAttribute → Bool
is_mid (Mid m) = true
is_mid _ = false

-- One of the four directions (RFC 8866 6.7).
abbrev pub is_direction : MediaAttribute → Bool
is_direction RecvOnly = true
is_direction SendRecv = true
is_direction SendOnly = true
is_direction Inactive = true
is_direction _ = false

abbrev pub direction_attribute : Direction → MediaAttribute
direction_attribute way.SendOnly = SendOnly
direction_attribute way.RecvOnly = RecvOnly
direction_attribute way.SendRecv = SendRecv
direction_attribute way.Inactive = Inactive
