-- What the attributes of a section say.
use Rattle.std.specs.Prelude.{ℕ, Bool, true, false, List, [], ◌∷◌, map, Option, Some, None}
use Rattle.std.specs.Borrow.{Bor}
use Rattle.rtp_wire.specs.Name.{name_of}
use Rattle.rtp_wire.specs.declared.extension.Extension.{Extension}
use Rattle.sdp_formats_data.specs.Creds.{with_name}
use Rattle.sdp_formats_data.specs.Lookups.{first_of}
use Rattle.sdp_formats_data.specs.declared.media.MediaAttribute.{MediaAttribute}
use Rattle.sdp_formats_data.specs.declared.media.MediaAttribute.TheVariants as a
use Rattle.sdp_formats_values.specs.declared.fingerprint.Fingerprint as print
use Rattle.sdp_formats_values.specs.declared.streams.Simulcast as simulcast

unfoldable pub sctp_init_in : MediaAttribute → Option (List ℕ)
sctp_init_in (a.SctpInit value) = Some value
sctp_init_in _ = None

unfoldable pub ice_ufrag_in : MediaAttribute → Option (List ℕ)
ice_ufrag_in (a.IceUfrag value) = Some value
ice_ufrag_in _ = None

unfoldable pub ice_pwd_in : MediaAttribute → Option (List ℕ)
ice_pwd_in (a.IcePwd value) = Some value
ice_pwd_in _ = None

unfoldable pub fingerprint_in : MediaAttribute → Option (print.Fingerprint)
fingerprint_in (a.Fingerprint value) = Some value
fingerprint_in _ = None

unfoldable pub simulcast_in : MediaAttribute → Option (simulcast.Simulcast)
simulcast_in (a.Simulcast value) = Some value
simulcast_in _ = None

unfoldable pub max_message_size_in : MediaAttribute → Option (ℕ)
max_message_size_in (a.MaxMessageSize value) = Some value
max_message_size_in _ = None

unfoldable pub ends_candidates : MediaAttribute → Bool
ends_candidates a.EndOfCandidates = true
ends_candidates _ = false

abbrev pub creds_of : List MediaAttribute → Option (List ℕ × List ℕ)
creds_of attrs = with_name (first_of ice_ufrag_in attrs) (first_of ice_pwd_in attrs)

-- The numbers of header extensions, and the extensions (RFC 8285 8).
unfoldable pub extmap_in : MediaAttribute → List (ℕ × Extension)
extmap_in (a.ExtMap id ext) = (id, ext) ∷ []
extmap_in _ = []

abbrev pub extmap_view : ℕ × Bor Extension → ℕ × Extension
extmap_view x = (x.0, x.1.now)

abbrev pub extmaps_view : List (ℕ × Bor Extension) → List (ℕ × Extension)
extmaps_view xs = map extmap_view xs

-- The names of streams (RFC 8851 4), eight bytes of each.
unfoldable pub rid_in : MediaAttribute → List (List ℕ)
rid_in (a.Rid id direction pts restrictions) = name_of 8 id.0 ∷ []
rid_in _ = []
