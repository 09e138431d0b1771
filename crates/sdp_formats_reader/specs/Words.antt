-- Words for choices.
use Rattle.std.specs.Prelude.{ℕ, List, codes, Option, Some, None, if◌then◌else◌}
use Rattle.std.specs.Str.{bytes_eq}
use Rattle.sdp_formats_values.specs.declared.setup.Setup.{Setup}
use Rattle.sdp_formats_values.specs.declared.setup.Setup.TheVariants.{ActPass, Active, Passive}

-- Which end opens the connection: the DTLS role (RFC 4145 4).
abbrev pub setup_word : List ℕ → Option Setup
setup_word t =
    if bytes_eq t (codes "actpass") then Some ActPass
    else if bytes_eq t (codes "active") then Some Active
    else if bytes_eq t (codes "passive") then Some Passive
    else None
