-- What the attributes of a section say.
use Rattle.std.specs.Prelude.{ℕ, List, [], ◌∷◌, Option, Some, None}
use Rattle.std.specs.Option.{option_or, unwrap_or}
use Rattle.rtp_wire.specs.declared.direction.Direction.{Direction}
use Rattle.rtp_wire.specs.declared.direction.Direction.TheVariants as way
use Rattle.sdp_formats_data.specs.declared.media.MediaAttribute.{MediaAttribute}
use Rattle.sdp_formats_data.specs.declared.media.MediaAttribute.TheVariants as a
use Rattle.sdp_formats_values.specs.declared.setup.Setup as setup
use Rattle.sdp_formats_values.specs.declared.streams.Msid as names

-- The first value that any attribute gives.
abbrev pub first_of : {A B : Type 0} → (A → Option B) → List A → Option B
first_of f [] = None
first_of f (x ∷ xs) = option_or (f x) (first_of f xs)

unfoldable pub mid_in : MediaAttribute → Option (List ℕ)
mid_in (a.Mid mid) = Some mid
mid_in _ = None

unfoldable pub direction_in : MediaAttribute → Option Direction
direction_in a.SendRecv = Some way.SendRecv
direction_in a.SendOnly = Some way.SendOnly
direction_in a.RecvOnly = Some way.RecvOnly
direction_in a.Inactive = Some way.Inactive
direction_in _ = None

unfoldable pub msid_in : MediaAttribute → Option names.Msid
msid_in (a.Msid names) = Some names
msid_in _ = None

unfoldable pub setup_in : MediaAttribute → Option setup.Setup
setup_in (a.Setup setup) = Some setup
setup_in _ = None

-- The first direction attribute; inactive if there is none (RFC 8866 6.7 would have a reader assume `sendrecv`).
abbrev pub direction_of : List MediaAttribute → Direction
direction_of attributes = unwrap_or (first_of direction_in attributes) way.Inactive
