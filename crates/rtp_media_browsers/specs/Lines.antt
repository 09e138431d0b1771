-- The lines of a section and of a session that are about its transport, and those that say how it is bundled.
use Rattle.std.specs.Prelude.{ℕ, Bool, true, false, not, ◌&&◌, List, codes, nat_eq, is_some, Option, Some, None}
use Rattle.std.specs.Prelude.{if◌then◌else◌}
use Rattle.std.specs.Cmp.Lexicographic.{pointwise}
use Rattle.sdp_formats_data.specs.declared.media.MediaAttribute.{MediaAttribute}
use Rattle.sdp_formats_data.specs.declared.media.MediaAttribute.TheVariants as line
use Rattle.sdp_formats_data.specs.declared.session.SessionAttribute.{SessionAttribute}
use Rattle.sdp_formats_data.specs.declared.session.SessionAttribute.TheVariants as session
use Rattle.sdp_formats_grammar.specs.Split.{behind}

-- The attribute that allows one-byte and two-byte header extensions in one stream (RFC 8285 6).
abbrev pub mixed_words : List ℕ
mixed_words = codes "extmap-allow-mixed"

abbrev pub says_mixed : List ℕ → Bool
says_mixed text = pointwise nat_eq text mixed_words

-- ICE (RFC 8839 5), DTLS (RFC 8842 5) and rtcp-mux (RFC 5761 5.1.1).
unfoldable pub is_transport : MediaAttribute → Bool
is_transport (line.IceUfrag value) = true
is_transport (line.IcePwd value) = true
is_transport (line.IceOptions value) = true
is_transport (line.Fingerprint value) = true
is_transport (line.Setup value) = true
is_transport line.RtcpMux = true
is_transport (line.Candidate value) = true
is_transport line.EndOfCandidates = true
is_transport _ = false

-- The same at session level, and `a=extmap-allow-mixed`.
unfoldable pub is_session_transport : SessionAttribute → Bool
is_session_transport session.AllowMixedExts = true
is_session_transport session.IceLite = true
is_session_transport (session.IceUfrag value) = true
is_session_transport (session.IcePwd value) = true
is_session_transport (session.IceOptions value) = true
is_session_transport (session.Fingerprint value) = true
is_session_transport (session.Setup value) = true
is_session_transport (session.Candidate value) = true
is_session_transport session.EndOfCandidates = true
is_session_transport (session.Unused value) = says_mixed value
is_session_transport _ = false

abbrev pub stays_in_session : SessionAttribute → Bool
stays_in_session attribute = not (is_session_transport attribute)

-- Whether one-byte and two-byte header extensions may be mixed.
unfoldable pub allows_mixed : SessionAttribute → Bool
allows_mixed session.AllowMixedExts = true
allows_mixed (session.Unused value) = says_mixed value
allows_mixed _ = false

-- `a=bundle-only`: port 0 doesn't mean that the section is rejected (RFC 9143 6).
unfoldable pub is_bundle_only : MediaAttribute → Bool
is_bundle_only (line.Unused value) = pointwise nat_eq value (codes "bundle-only")
is_bundle_only _ = false

-- `a=crypto`: a key in the text (RFC 4568 4).
unfoldable pub is_crypto : MediaAttribute → Bool
is_crypto (line.Unused value) = is_some (behind (codes "crypto:") value)
is_crypto _ = false

-- An attribute that a section keeps for an end: not one of the transport; and not `a=bundle-only`, if port 0 is
-- replaced as well.
abbrev pub stays : Bool → MediaAttribute → Bool
stays closed attribute = not (is_transport attribute) && not (closed && is_bundle_only attribute)

abbrev pub is_bundle_name : List ℕ → Bool
is_bundle_name typ = pointwise nat_eq typ (codes "BUNDLE")

-- A group of sections that share one transport (RFC 9143 7).
unfoldable pub is_bundle : SessionAttribute → Bool
is_bundle (session.Group typ mids) = is_bundle_name typ
is_bundle _ = false

-- The names of such a group.
unfoldable pub bundle_in : SessionAttribute → Option (List (List ℕ))
bundle_in (session.Group typ mids) = if is_bundle_name typ then Some mids else None
bundle_in _ = None
