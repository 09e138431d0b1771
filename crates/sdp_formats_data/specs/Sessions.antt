-- What the attributes of a session say.
use Rattle.std.specs.Prelude.{ℕ, Bool, true, false, List, Option, Some, None}
use Rattle.sdp_formats_data.specs.Creds.{with_name}
use Rattle.sdp_formats_data.specs.Lookups.{first_of}
use Rattle.sdp_formats_data.specs.declared.session.SessionAttribute.{SessionAttribute}
use Rattle.sdp_formats_data.specs.declared.session.SessionAttribute.TheVariants as a
use Rattle.sdp_formats_values.specs.declared.fingerprint.Fingerprint as print
use Rattle.sdp_formats_values.specs.declared.setup.Setup as setup

unfoldable pub setup_in : SessionAttribute → Option (setup.Setup)
setup_in (a.Setup value) = Some value
setup_in _ = None

unfoldable pub ice_ufrag_in : SessionAttribute → Option (List ℕ)
ice_ufrag_in (a.IceUfrag value) = Some value
ice_ufrag_in _ = None

unfoldable pub ice_pwd_in : SessionAttribute → Option (List ℕ)
ice_pwd_in (a.IcePwd value) = Some value
ice_pwd_in _ = None

unfoldable pub fingerprint_in : SessionAttribute → Option (print.Fingerprint)
fingerprint_in (a.Fingerprint value) = Some value
fingerprint_in _ = None

unfoldable pub ends_candidates : SessionAttribute → Bool
ends_candidates a.EndOfCandidates = true
ends_candidates _ = false

unfoldable pub is_lite : SessionAttribute → Bool
is_lite a.IceLite = true
is_lite _ = false

abbrev pub creds_of : List SessionAttribute → Option (List ℕ × List ℕ)
creds_of attrs = with_name (first_of ice_ufrag_in attrs) (first_of ice_pwd_in attrs)
