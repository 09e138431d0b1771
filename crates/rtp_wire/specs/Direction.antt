use Rattle.std.specs.Prelude.{ℕ, Bool, true, false, List, codes, if◌then◌else◌}
use Rattle.std.specs.Str.{bytes_eq}
use Rattle.rtp_wire.specs.declared.direction.Direction.{Direction}
use Rattle.rtp_wire.specs.declared.direction.Direction.TheVariants.{SendOnly, RecvOnly, SendRecv, Inactive}

-- The word of a direction in a session text (RFC 8866 6.7).
abbrev pub text_of : Direction → List ℕ
text_of SendOnly = codes "sendonly"
text_of RecvOnly = codes "recvonly"
text_of SendRecv = codes "sendrecv"
text_of Inactive = codes "inactive"

-- The direction of an SDP word; inactive for any other text.
abbrev pub direction_of : List ℕ → Direction
direction_of text =
    if bytes_eq text (codes "sendonly") then SendOnly
    else if bytes_eq text (codes "recvonly") then RecvOnly
    else if bytes_eq text (codes "sendrecv") then SendRecv
    else Inactive

-- The direction as seen from the other side.
abbrev pub inverted : Direction → Direction
inverted SendOnly = RecvOnly
inverted RecvOnly = SendOnly
inverted SendRecv = SendRecv
inverted Inactive = Inactive

abbrev pub sends : Direction → Bool
sends SendOnly = true
sends RecvOnly = false
sends SendRecv = true
sends Inactive = false

abbrev pub receives : Direction → Bool
receives SendOnly = false
receives RecvOnly = true
receives SendRecv = true
receives Inactive = false
