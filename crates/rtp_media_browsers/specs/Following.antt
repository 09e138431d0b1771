-- The sections of an end. What an end once agreed on stays in all its texts, in its place (RFC 3264 8), whatever the
-- browser does with it.
use Rattle.std.specs.Prelude.{ℕ, Bool, true, false, not, List, ◌∷◌, ◌++◌, filter, find, map, Option, None}
use Rattle.std.specs.Option.{unwrap_or}
use Rattle.rtp_media_sections.specs.Lines.{mid_of}
use Rattle.sdp_formats_data.specs.WholeTexts.{is_name}
use Rattle.sdp_formats_data.specs.declared.media.MediaAttribute.{MediaAttribute}
use Rattle.sdp_formats_data.specs.declared.media.MediaAttribute.TheVariants as line
use Rattle.sdp_formats_data.specs.declared.media.MediaLine.{MediaLine}
use Rattle.rtp_media_browsers.specs.Names.{is_among, mids_of}

abbrev pub has_name : List ℕ → MediaLine → Bool
has_name mid m = is_name mid (mid_of m)

-- The section of a name.
abbrev pub section_named : List MediaLine → List ℕ → Option MediaLine
section_named ms mid = find (has_name mid) ms

-- A line that says what a payload type is.
unfoldable pub is_of_type : MediaAttribute → Bool
is_of_type (line.RtpMap pt value) = true
is_of_type (line.Fmtp pt values) = true
is_of_type (line.RtcpFb pt value) = true
is_of_type _ = false

-- A section that is stopped, as its end goes on with it: inactive, with its payload types alone.
abbrev pub halted : MediaLine → MediaLine
halted m = record m {
  disabled = false;
  bw = None;
  attrs = line.Mid (mid_of m) ∷ line.Inactive ∷ filter is_of_type m.attrs;
}

-- What an end is handed for one of its sections: the browser's section of that name, or else a stopped one.
abbrev pub current : List MediaLine → MediaLine → MediaLine
current ms old = unwrap_or (section_named ms (mid_of old)) (halted old)

-- A section whose name none of these has.
abbrev pub is_new : List MediaLine → MediaLine → Bool
is_new olds m = not (is_among (mids_of olds) (mid_of m))

-- The sections of an end, each as it is now, and the new ones after them.
abbrev pub following : List MediaLine → List MediaLine → List MediaLine
following olds ms = map (current ms) olds ++ filter (is_new olds) ms
