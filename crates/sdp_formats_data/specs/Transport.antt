-- What an SDP says at session level, or else in its first section that says it.
use Rattle.std.specs.Prelude.{ℕ, List, [], ◌∷◌, map, Option}
use Rattle.std.specs.List.{filter_map}
use Rattle.std.specs.Option.{option_or}
use Rattle.sdp_formats_data.specs.Sections as sections
use Rattle.sdp_formats_data.specs.Sessions as session
use Rattle.sdp_formats_data.specs.Lookups.{first_of, setup_in}
use Rattle.sdp_formats_values.specs.declared.fingerprint.Fingerprint.{Fingerprint}
use Rattle.sdp_formats_data.specs.declared.media.MediaLine.{MediaLine}
use Rattle.sdp_formats_data.specs.declared.session.Sdp.{Sdp}
use Rattle.sdp_formats_data.specs.declared.session.Session.{Session}
use Rattle.sdp_formats_values.specs.declared.setup.Setup as setup

abbrev pub session_prints : Session → List Fingerprint
session_prints s = filter_map session.fingerprint_in s.attrs

abbrev pub section_prints : MediaLine → List Fingerprint
section_prints m = filter_map sections.fingerprint_in m.attrs

-- The first list that isn't empty.
abbrev pub first_listed : {A : Type 0} → List (List A) → List A
first_listed [] = []
first_listed ([] ∷ lists) = first_listed lists
first_listed ((x ∷ xs) ∷ lists) = x ∷ xs

abbrev pub prints_of : Sdp → List Fingerprint
prints_of sdp = first_listed (session_prints sdp.session ∷ map section_prints sdp.media_lines)

abbrev pub section_creds : MediaLine → Option (List ℕ × List ℕ)
section_creds m = sections.creds_of m.attrs

abbrev pub section_setup : MediaLine → Option setup.Setup
section_setup m = first_of setup_in m.attrs

abbrev pub creds_of : Sdp → Option (List ℕ × List ℕ)
creds_of sdp = option_or (session.creds_of sdp.session.attrs) (first_of section_creds sdp.media_lines)

abbrev pub setup_of : Sdp → Option setup.Setup
setup_of sdp = option_or (first_of session.setup_in sdp.session.attrs) (first_of section_setup sdp.media_lines)
