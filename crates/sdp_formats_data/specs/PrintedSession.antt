-- Session texts as they are printed (RFC 8866 5).
use Rattle.std.specs.Prelude.{ℕ, List, [], ◌∷◌, ◌++◌, map, codes, if◌then◌else◌}
use Rattle.std.specs.Fmt.{decimal}
use Rattle.std.specs.Option.{option_map}
use Rattle.sdp_formats_grammar.specs.Joined.{spelled, joined, maybe_text}
use Rattle.sdp_formats_values.specs.Setup.{setup_text}
use Rattle.sdp_formats_values.specs.PrintedValues.{line_end, fingerprint_text, is_empty}
use Rattle.sdp_formats_values.specs.Lists.{bandwidth_text, words_text, named}
use Rattle.sdp_formats_values.specs.PrintedCandidates.{candidate_text}
use Rattle.sdp_formats_data.specs.PrintedMedia.{section_text}
use Rattle.sdp_formats_data.specs.declared.media.MediaLine.{MediaLine}
use Rattle.sdp_formats_data.specs.declared.session.Sdp.{Sdp}
use Rattle.sdp_formats_data.specs.declared.session.Session.{Session}
use Rattle.sdp_formats_data.specs.declared.session.SessionAttribute.{SessionAttribute}
use Rattle.sdp_formats_data.specs.declared.session.SessionAttribute.TheVariants.{Group, MsidSemantic}
use Rattle.sdp_formats_data.specs.declared.session.SessionAttribute.TheVariants.{AllowMixedExts}
use Rattle.sdp_formats_data.specs.declared.session.SessionAttribute.TheVariants.{IceLite, IceUfrag, IcePwd}
use Rattle.sdp_formats_data.specs.declared.session.SessionAttribute.TheVariants.{IceOptions}
use Rattle.sdp_formats_data.specs.declared.session.SessionAttribute.TheVariants.{Fingerprint, Setup, Candidate}
use Rattle.sdp_formats_data.specs.declared.session.SessionAttribute.TheVariants.{EndOfCandidates, Unused}

-- `a=group:TYPE MID MID` (RFC 5888 5)
abbrev pub group_text : List ℕ → List (List ℕ) → List ℕ
group_text typ mids = if is_empty mids then named (codes "a=group:") typ
    else spelled (codes "a=group:" ∷ typ ∷ codes " " ∷ words_text mids ∷ line_end ∷ [])

-- The line of an attribute.
unfoldable pub attribute_text : SessionAttribute → List ℕ
attribute_text (Group typ mids) = group_text typ mids
attribute_text (MsidSemantic semantic streams) = spelled (codes "a=msid-semantic: " ∷ semantic ∷ codes " "
    ∷ words_text streams ∷ line_end ∷ [])
attribute_text AllowMixedExts = codes "a=extmap-allow-mixed\r\n"
attribute_text IceLite = codes "a=ice-lite\r\n"
attribute_text (IceUfrag value) = named (codes "a=ice-ufrag:") value
attribute_text (IcePwd value) = named (codes "a=ice-pwd:") value
attribute_text (IceOptions value) = named (codes "a=ice-options:") value
attribute_text (Fingerprint value) = named (codes "a=fingerprint:") (fingerprint_text value)
attribute_text (Setup value) = named (codes "a=setup:") (setup_text value)
attribute_text (Candidate value) = named (codes "a=") (candidate_text value)
attribute_text EndOfCandidates = codes "a=end-of-candidates\r\n"
attribute_text (Unused value) = named (codes "a=") value

abbrev pub attributes_text : List SessionAttribute → List ℕ
attributes_text attributes = joined [] (map attribute_text attributes)

abbrev pub sections_text : List MediaLine → List ℕ
sections_text sections = joined [] (map section_text sections)

-- Version, originator with the session's number, name, bandwidth if there is one, time, attributes.
unfoldable pub session_text : Session → List ℕ
session_text s = spelled (codes "v=0\r\no=str0m-0.25.0 " ∷ decimal s.id ∷ codes " 2 IN IP4 0.0.0.0\r\ns=-\r\n"
    ∷ maybe_text [] (option_map bandwidth_text s.bw) ∷ codes "t=0 0\r\n" ∷ attributes_text s.attrs ∷ [])

abbrev pub sdp_text : Sdp → List ℕ
sdp_text s = session_text s.session ++ sections_text s.media_lines
