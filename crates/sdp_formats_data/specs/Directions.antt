-- The direction of a section and its change (RFC 8866 6.7).
use Rattle.std.specs.Prelude.{Bool, List, is_some}
use Rattle.std.specs.List.{position_or_len, slice_set}
use Rattle.rtp_wire.specs.declared.direction.Direction.{Direction}
use Rattle.sdp_formats_data.specs.Lookups.{direction_in}
use Rattle.sdp_formats_data.specs.Media.{direction_attribute}
use Rattle.sdp_formats_data.specs.declared.media.MediaAttribute.{MediaAttribute}
use Rattle.sdp_formats_data.specs.declared.media.MediaLine.{MediaLine}

abbrev pub gives_direction : MediaAttribute → Bool
gives_direction a = is_some (direction_in a)

-- The first direction attribute is replaced by this one; all others stay.
abbrev pub directed : Direction → List MediaAttribute → List MediaAttribute
directed direction attrs = slice_set attrs (position_or_len gives_direction attrs) (direction_attribute direction)

-- The section with other attributes.
abbrev pub with_attrs : MediaLine → List MediaAttribute → MediaLine
with_attrs m attrs =
    record { typ = m.typ; disabled = m.disabled; proto = m.proto; pts = m.pts; bw = m.bw; attrs = attrs }
