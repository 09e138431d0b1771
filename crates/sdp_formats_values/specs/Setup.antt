-- Which end opens the connection: the DTLS role (RFC 4145 4).
use Rattle.std.specs.Prelude.{ℕ, List, codes, Option, Some, None}
use Rattle.sdp_formats_values.specs.declared.setup.Setup.{Setup}
use Rattle.sdp_formats_values.specs.declared.setup.Setup.TheVariants.{ActPass, Active, Passive}

abbrev pub setup_text : Setup → List ℕ
setup_text ActPass = codes "actpass"
setup_text Active = codes "active"
setup_text Passive = codes "passive"

-- The role as the other end sees it.
abbrev pub inverted : Setup → Setup
inverted ActPass = ActPass
inverted Active = Passive
inverted Passive = Active

-- The role an end takes given the other's (RFC 4145 4.1).
abbrev pub towards : Setup → Setup → Option Setup
towards ActPass ActPass = None
towards ActPass Active = Some Passive
towards ActPass Passive = Some Active
towards Active ActPass = Some Active
towards Active Active = None
towards Active Passive = Some Active
towards Passive ActPass = Some Passive
towards Passive Active = Some Passive
towards Passive Passive = None
