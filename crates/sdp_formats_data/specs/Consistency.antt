-- Inconsistencies of a section.
use Rattle.std.specs.Prelude.{ℕ, ◌==◌, Bool, true, false, not, ◌&&◌, ◌||◌, List, Option, Some, None, is_none}
use Rattle.std.specs.Prelude.{count_by, nat_lt, length, if◌then◌else◌}
use Rattle.std.specs.List.{list_all, list_any}
use Rattle.sdp_formats_values.specs.declared.FormatParam.{FormatParam}
use Rattle.sdp_formats_values.specs.declared.FormatParam.TheVariants.{Apt}
use Rattle.sdp_formats_data.specs.Media.{is_direction, is_mid}
use Rattle.sdp_formats_values.specs.MediaTypes.{is_rtp}
use Rattle.sdp_formats_data.specs.declared.faults.Counted.{Counted}
use Rattle.sdp_formats_data.specs.declared.faults.Counted.TheVariants as counted
use Rattle.sdp_formats_data.specs.declared.faults.Inconsistency.{Inconsistency}
use Rattle.sdp_formats_data.specs.declared.faults.Inconsistency.TheVariants as fault
use Rattle.sdp_formats_data.specs.declared.media.MediaAttribute.{MediaAttribute}
use Rattle.sdp_formats_data.specs.declared.media.MediaAttribute.TheVariants.{Setup, RtpMap, Fmtp}
use Rattle.sdp_formats_data.specs.declared.media.MediaLine.{MediaLine}

unfoldable pub is_setup : MediaAttribute → Bool
is_setup (Setup s) = true
is_setup _ = false

unfoldable pub is_direction_of : MediaAttribute → Bool
is_direction_of a = is_direction a

-- What is counted in a section.
abbrev pub is_of : Counted → MediaAttribute → Bool
is_of counted.Mid a = is_mid a
is_of counted.Setup a = is_setup a
is_of counted.Direction a = is_direction_of a

abbrev pub count_of : Counted → MediaLine → ℕ
count_of kind m = count_by (is_of kind) m.attrs

-- A line that maps this payload type.
abbrev pub maps_type : ℕ → MediaAttribute → Bool
maps_type pt (RtpMap mapped value) = mapped == pt
maps_type pt _ = false

-- A static payload type: G.711, G.722 or comfort noise (RFC 3551 6).
abbrev pub is_static : ℕ → Bool
is_static pt = (pt == 0) || ((pt == 8) || ((pt == 9) || (pt == 13)))

-- Mapped exactly once; or not at all, if it is a static payload type.
abbrev pub is_mapped : List MediaAttribute → ℕ → Bool
is_mapped attrs pt = (count_by (maps_type pt) attrs == 1) || ((count_by (maps_type pt) attrs == 0) && is_static pt)

abbrev pub are_mapped : List MediaAttribute → List ℕ → Bool
are_mapped attrs pts = list_all (is_mapped attrs) pts

-- An `apt` parameter that names another payload type than this one (RFC 4588 8.6).
abbrev pub apt_differs : ℕ → FormatParam → Bool
apt_differs apt (Apt other) = not (other == apt)
apt_differs apt _ = false

-- A line that doesn't give this payload type another `apt`.
abbrev pub attribute_agrees : ℕ → ℕ → MediaAttribute → Bool
attribute_agrees pt apt (Fmtp other values) = not (other == pt) || not (list_any (apt_differs apt) values)
attribute_agrees pt apt _ = true

abbrev pub apts_agree_with : List MediaAttribute → ℕ → ℕ → Bool
apts_agree_with attrs pt apt = list_all (attribute_agrees pt apt) attrs

abbrev pub values_agree : List MediaAttribute → ℕ → FormatParam → Bool
values_agree attrs pt (Apt apt) = apts_agree_with attrs pt apt
values_agree attrs pt _ = true

abbrev pub gives_apt : List MediaAttribute → MediaAttribute → Bool
gives_apt attrs (Fmtp pt values) = list_all (values_agree attrs pt) values
gives_apt attrs _ = true

-- Every RTX payload type has at most one `apt`.
abbrev pub apts_agree : List MediaAttribute → Bool
apts_agree attrs = list_all (gives_apt attrs) attrs

abbrev pub last_fault_of : MediaLine → Option Inconsistency
last_fault_of m =
    if not (are_mapped m.attrs m.pts) then Some fault.RtpMaps
    else if not (apts_agree m.attrs) then Some fault.ConflictingApts
    else None

abbrev pub later_fault_of : MediaLine → Option Inconsistency
later_fault_of m =
    if is_rtp m.proto && not (count_of counted.Direction m == 1) then Some fault.Directions
    else if (is_rtp m.proto && (length m.pts == 0)) && not m.disabled then Some fault.NoPayloadType
    else last_fault_of m

-- The first inconsistency of a section, in this order.
abbrev pub fault_of : MediaLine → Option Inconsistency
fault_of m =
    if count_of counted.Mid m == 0 then Some fault.MissingMid
    else if nat_lt 1 (count_of counted.Mid m) then Some fault.SeveralMids
    else if nat_lt 1 (count_of counted.Setup m) then Some fault.SeveralSetups
    else later_fault_of m

abbrev pub is_consistent : MediaLine → Bool
is_consistent m = is_none (fault_of m)
