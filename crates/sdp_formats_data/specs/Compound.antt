-- Media-level attributes that hold several values.
use Rattle.std.specs.Prelude.{Bool, true, false}
use Rattle.sdp_formats_data.specs.declared.media.MediaAttribute.{MediaAttribute}
use Rattle.sdp_formats_data.specs.declared.media.MediaAttribute.TheVariants as a

-- The kinds that hold several values.
unfoldable pub is_compound : MediaAttribute → Bool
is_compound (a.ExtMap id ext) = true
is_compound (a.RtpMap pt value) = true
is_compound (a.RtcpFb pt value) = true
is_compound (a.Fmtp pt values) = true
is_compound (a.Rid id direction pt restriction) = true
is_compound (a.SsrcGroup semantics ssrcs) = true
is_compound (a.Ssrc ssrc attr value) = true
is_compound _ = false

-- Attributes about sources (RFC 5576).
unfoldable pub is_source : MediaAttribute → Bool
is_source (a.SsrcGroup semantics ssrcs) = true
is_source (a.Ssrc ssrc attr value) = true
is_source _ = false
