-- What a browser is told of an end, beside what the end's own texts say (RFC 8866 5.2, RFC 7022, RFC 8830 2).
use Rattle.std.specs.Prelude.{ℕ, ◌+◌, ◌-◌, ◌^◌, ◌==◌, Bool, List, [], ◌++◌, codes, filter, map, nat_eq}
use Rattle.std.specs.Prelude.{Option, None, Some, if◌then◌else◌}
use Rattle.std.specs.Cmp.Lexicographic.{pointwise}
use Rattle.std.specs.Fmt.{decimal}
use Rattle.std.specs.Option.{unwrap_or}
use Rattle.rtp_media_sections.specs.Lines.{mid_of}
use Rattle.rtp_wire.specs.Direction.{sends}
use Rattle.sdp_formats_data.specs.Lookups.{direction_of}
use Rattle.sdp_formats_data.specs.PrintedSession.{sdp_text}
use Rattle.sdp_formats_data.specs.WholeTexts.{is_name}
use Rattle.sdp_formats_data.specs.declared.media.MediaAttribute.{MediaAttribute}
use Rattle.sdp_formats_data.specs.declared.media.MediaAttribute.TheVariants as line
use Rattle.sdp_formats_data.specs.declared.media.MediaLine.{MediaLine}
use Rattle.sdp_formats_data.specs.declared.session.Sdp.{Sdp}
use Rattle.sdp_formats_grammar.specs.Split.{halves}
use Rattle.rtp_media_browsers.specs.declared.identity.Identity.{Identity}
use Rattle.rtp_media_browsers.specs.declared.identity.Said.{Said}
use Rattle.rtp_media_browsers.specs.declared.identity.Track.{Track}

-- The value of a source's attribute: that of `cname` is the end's.
abbrev pub named_value : List ℕ → List ℕ → List ℕ → List ℕ
named_value cname attr value = if pointwise nat_eq attr (codes "cname") then cname else value

unfoldable pub named_line : List ℕ → MediaAttribute → MediaAttribute
named_line cname (line.Ssrc ssrc attr value) = line.Ssrc ssrc attr (named_value cname attr value)
named_line cname attribute = attribute

abbrev pub is_track_of : List ℕ → Track → Bool
is_track_of mid t = is_name t.mid mid

abbrev pub track_line : Track → MediaAttribute
track_line t = line.Msid t.msid

-- The streams and tracks of a section.
abbrev pub track_lines : List Track → List ℕ → List MediaAttribute
track_lines tracks mid = map track_line (filter (is_track_of mid) tracks)

-- The tracks of a section that sends.
abbrev pub tracks_sent : Bool → List Track → List ℕ → List MediaAttribute
tracks_sent sending tracks mid = if sending then track_lines tracks mid else []

-- A section with the end's CNAME and, if it sends, its tracks.
abbrev pub identified : Option Identity → MediaLine → MediaLine
identified None m = m
identified (Some i) m = record m {
  attrs = map (named_line i.cname) m.attrs ++ tracks_sent (sends (direction_of m.attrs)) i.tracks (mid_of m);
}

-- The user name of `o=`; without an identity that of an end's own texts.
abbrev pub user_of : Option Identity → List ℕ
user_of None = codes "str0m-0.25.0"
user_of (Some i) = i.user

-- The lines `v=` and `o=` (RFC 8866 5.1 and 5.2), and what follows them.
abbrev pub with_origin : List ℕ → ℕ → ℕ → List ℕ → List ℕ
with_origin user id version body = codes "v=0\r\no=" ++ (user ++ (codes " " ++ (decimal id ++ (codes " "
    ++ (decimal version ++ (codes " IN IP4 0.0.0.0\r\n" ++ body))))))

-- A text without its first line.
abbrev pub behind_line : List ℕ → List ℕ
behind_line text = unwrap_or (halves 10 text).1 []

-- A text of this user name and this version: the printed one, of which the first two lines are others.
abbrev pub text_of : List ℕ → ℕ → Sdp → List ℕ
text_of user version sdp = with_origin user sdp.session.id version (behind_line (behind_line (sdp_text sdp)))

-- The next version; the last one that there is stays.
abbrev pub next_version : ℕ → ℕ
next_version version = if version == 2 ^ 64 - 1 then version else version + 1

-- The version of a text: 2 for the first, that of the last text for the same, and the next one for any other (RFC 3264
-- 8, RFC 8829 5.2.2).
abbrev pub version_of : Option Said → List ℕ → ℕ
version_of None text = 2
version_of (Some last) text = if pointwise nat_eq last.text text then last.version else next_version last.version

-- What is remembered of a text.
abbrev pub said_of : Option Identity → Option Said → Sdp → Said
said_of identity last sdp = record {
  version = version_of last (text_of (user_of identity) 0 sdp);
  text = text_of (user_of identity) 0 sdp;
}

-- What a browser gets.
abbrev pub told_text : Option Identity → Option Said → Sdp → List ℕ
told_text identity last sdp = text_of (user_of identity) (said_of identity last sdp).version sdp
