-- What a browser gets for a text of an end (RFC 8829 5.2, 5.3, RFC 8839 5, RFC 8842 5, RFC 5761 5.1.1).
use Rattle.std.specs.Prelude.{ℕ, Bool, not, List, [], ◌∷◌, ◌++◌, codes, filter, map, if◌then◌else◌}
use Rattle.std.specs.List.{flat_map}
use Rattle.sdp_formats_data.specs.Media.{is_mid}
use Rattle.sdp_formats_data.specs.declared.media.MediaAttribute.{MediaAttribute}
use Rattle.sdp_formats_data.specs.declared.media.MediaAttribute.TheVariants as line
use Rattle.sdp_formats_data.specs.declared.media.MediaLine.{MediaLine}
use Rattle.sdp_formats_data.specs.declared.session.Sdp.{Sdp}
use Rattle.sdp_formats_data.specs.declared.session.Session.{Session}
use Rattle.sdp_formats_data.specs.declared.session.SessionAttribute.{SessionAttribute}
use Rattle.sdp_formats_data.specs.declared.session.SessionAttribute.TheVariants as session
use Rattle.rtp_media_browsers.specs.Identities.{identified}
use Rattle.rtp_media_browsers.specs.Lines.{is_bundle_name, mixed_words}
use Rattle.rtp_media_browsers.specs.Listing.{listed_for}
use Rattle.rtp_media_browsers.specs.Names.{mids_of}
use Rattle.rtp_media_browsers.specs.Places.{placed}
use Rattle.rtp_media_browsers.specs.declared.state.BrowserState.{BrowserState}
use Rattle.rtp_media_browsers.specs.declared.transport.Gathering.{Gathering}
use Rattle.rtp_media_browsers.specs.declared.transport.Gathering.TheVariants.{Trickling, Done}
use Rattle.rtp_media_browsers.specs.declared.transport.Transport.{Transport}

-- ICE candidates are still to come, or these are all.
unfoldable pub gathering_lines : Gathering → List MediaAttribute
gathering_lines Trickling = line.IceOptions (codes "trickle") ∷ []
gathering_lines (Done candidates) = map line.Candidate candidates ++ line.EndOfCandidates ∷ []

unfoldable pub transport_lines : Transport → List MediaAttribute
transport_lines t = line.IceUfrag t.creds.ufrag ∷ line.IcePwd t.creds.pass ∷ (gathering_lines t.gathering
    ++ line.Fingerprint t.fingerprint ∷ line.Setup t.setup ∷ line.RtcpMux ∷ [])

-- An attribute; `a=mid` is followed by the transport's lines.
unfoldable pub attribute_with_transport : Transport → MediaAttribute → List MediaAttribute
attribute_with_transport t attribute = attribute ∷ (if is_mid attribute then transport_lines t else [])

unfoldable pub section_with_transport : Transport → MediaLine → MediaLine
section_with_transport t m = record m { attrs = flat_map (attribute_with_transport t) m.attrs }

-- Lines added to the session: `a=extmap-allow-mixed`, and `a=ice-lite`.
abbrev pub mixed_line : Bool → List SessionAttribute
mixed_line mixed = if mixed then session.Unused mixed_words ∷ [] else []

abbrev pub lite_line : Bool → List SessionAttribute
lite_line lite = if lite then session.IceLite ∷ [] else []

-- A BUNDLE group of these sections (RFC 9143 7.3).
unfoldable pub bundled_as : List (List ℕ) → SessionAttribute → SessionAttribute
bundled_as names (session.Group typ mids) = session.Group typ (if is_bundle_name typ then names else mids)
bundled_as names attribute = attribute

-- The session, with the sections that are in use in its bundle.
unfoldable pub session_with_transport : List (List ℕ) → Bool → Bool → Session → Session
session_with_transport names mixed lite s =
    record s { attrs = map (bundled_as names) s.attrs ++ mixed_line mixed ++ lite_line lite }

unfoldable pub is_in_use : MediaLine → Bool
is_in_use m = not m.disabled

abbrev pub names_in_use : List MediaLine → List (List ℕ)
names_in_use ms = mids_of (filter is_in_use ms)

-- A session text with these sections.
unfoldable pub shown : BrowserState → Transport → Session → List MediaLine → Sdp
shown state t s ms = record {
  session = session_with_transport (names_in_use ms) state.allows_mixed t.is_lite s;
  media_lines = ms;
}

-- An end's text with the transport's lines added to its sections, and the removed sections put back in their places.
-- A section of an end as its browser is told of it.
abbrev pub told_section : BrowserState → Transport → MediaLine → MediaLine
told_section state t m = identified state.identity (listed_for state.is_answering state.sections
    (section_with_transport t m))

abbrev pub for_browser : BrowserState → Transport → Sdp → Sdp
for_browser state t sdp =
    shown state t sdp.session (placed state.places state.sections (map (told_section state t) sdp.media_lines))
