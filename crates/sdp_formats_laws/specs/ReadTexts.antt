-- How printed SDP is read back.
use Rattle.std.specs.Prelude.{List, map}
use Rattle.sdp_formats_reader.specs.AsRead.{as_read}
use Rattle.sdp_formats_data.specs.declared.media.MediaLine.{MediaLine}
use Rattle.sdp_formats_data.specs.declared.session.Sdp.{Sdp}
use Rattle.sdp_formats_data.specs.declared.session.SessionAttribute.{SessionAttribute}

-- The section itself, except for the parameters of `a=fmtp`: a profile, tier and level comes first, a range of
-- telephone events is a bare range, and a RED type is a bare list of types.
abbrev pub section_as_read : MediaLine → MediaLine
section_as_read m = record m { attrs = map as_read m.attrs }

abbrev pub text_as_read : Sdp → Sdp
text_as_read sdp = record { session = sdp.session; media_lines = map section_as_read sdp.media_lines }

-- The same, with these attributes in the session.
abbrev pub text_read : Sdp → List SessionAttribute → Sdp
text_read sdp attrs = record {
  session = record sdp.session { attrs = attrs };
  media_lines = map section_as_read sdp.media_lines;
}
