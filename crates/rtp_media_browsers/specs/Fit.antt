-- Valid ICE credentials, and the DTLS role.
use Rattle.std.specs.Prelude.{ℕ, Bool, true, false, not, ◌&&◌, ◌||◌, ◌==◌, nat_le, List, length, Option, Some, None}
use Rattle.std.specs.List.{list_all}
use Rattle.sdp_formats_values.specs.declared.setup.Setup.{Setup}
use Rattle.sdp_formats_values.specs.declared.setup.Setup.TheVariants.{ActPass, Active, Passive}

-- An ASCII letter or digit, `+` or `/` (RFC 8839 5.1).
abbrev pub is_ice_char : ℕ → Bool
is_ice_char b = (nat_le 48 b && nat_le b 57)
    || ((nat_le 65 b && nat_le b 90) || ((nat_le 97 b && nat_le b 122) || ((b == 43) || (b == 47))))

-- At least so many ICE characters, and at most 256 (RFC 8839 5.4).
abbrev pub are_ice_chars : ℕ → List ℕ → Bool
are_ice_chars least text = nat_le least (length text) && (nat_le (length text) 256 && list_all is_ice_char text)

-- Whether both roles are given and equal.
abbrev pub is_setup : Setup → Option Setup → Bool
is_setup Active (Some Active) = true
is_setup Passive (Some Passive) = true
is_setup _ _ = false

-- Whether an end's text may state this DTLS role. Only an offer may say `actpass`. An answer keeps the role answered
-- before, if there is one, and doesn't take the browser's own role (RFC 8842 5.3).
abbrev pub may_say : Bool → Setup → Option Setup → Option Setup → Bool
may_say is_answer ActPass before remote = not is_answer
may_say is_answer setup None remote = not (is_setup setup remote)
may_say is_answer setup (Some before) remote = is_setup setup (Some before) && not (is_setup setup remote)

-- The DTLS role settled after an end's text: `actpass` settles none.
abbrev pub settled : Option Setup → Setup → Option Setup
settled before ActPass = before
settled before setup = Some setup

-- The DTLS role that a browser's answer leaves to the end, if none was settled before.
abbrev pub left_over : Option Setup → Option Setup → Option Setup
left_over (Some setup) remote = Some setup
left_over None (Some Active) = Some Passive
left_over None (Some Passive) = Some Active
left_over None _ = None
