-- Media-level attributes: what follows `a=`.
use Rattle.std.specs.Prelude.{◌^◌, List, [], ◌∷◌, codes}
use Rattle.rtp_wire.specs.Name.{name_of}
use Rattle.sdp_formats_grammar.specs.Form.{any_text, number, made}
use Rattle.sdp_formats_grammar.specs.Kinds.{Kind, Named, OneOf, made_kind}
use Rattle.sdp_formats_grammar.specs.Tables.{Table}
use Rattle.sdp_formats_reader.specs.Maps.{rtpmap, rtcp_fb}
use Rattle.sdp_formats_reader.specs.Parameters.{fmtp}
use Rattle.sdp_formats_reader.specs.Rids.{rid}
use Rattle.sdp_formats_reader.specs.Simulcasts.{simulcast}
use Rattle.sdp_formats_reader.specs.Sources.{extmap, msid, ssrc, ssrc_group}
use Rattle.sdp_formats_reader.specs.Transport.{in_section, ice_ufrag, ice_pwd, ice_options, fingerprints, setup}
use Rattle.sdp_formats_reader.specs.Transport.{candidates, end_of_candidates}
use Rattle.sdp_formats_data.specs.declared.media.MediaAttribute.{MediaAttribute}
use Rattle.sdp_formats_data.specs.declared.media.MediaAttribute.TheVariants.{Inactive, MaxMessageSize, Mid, Msid}
use Rattle.sdp_formats_data.specs.declared.media.MediaAttribute.TheVariants.{RecvOnly, Rtcp, RtcpMux, RtcpMuxOnly}
use Rattle.sdp_formats_data.specs.declared.media.MediaAttribute.TheVariants.{RtcpRsize, SctpInit, SctpPort, SendOnly}
use Rattle.sdp_formats_data.specs.declared.media.MediaAttribute.TheVariants.{SendRecv, Simulcast}

-- The direction of media (RFC 8866 6.7).
abbrev pub direction_words : Table MediaAttribute
direction_words =
    (codes "recvonly", RecvOnly) ∷ (codes "sendrecv", SendRecv) ∷ (codes "sendonly", SendOnly)
    ∷ (codes "inactive", Inactive) ∷ []

-- How RTCP is sent (RFC 5761 5.1.1, RFC 8858 3, RFC 5506 5).
abbrev pub rtcp_words : Table MediaAttribute
rtcp_words =
    (codes "rtcp-mux", RtcpMux) ∷ (codes "rtcp-mux-only", RtcpMuxOnly) ∷ (codes "rtcp-rsize", RtcpRsize) ∷ []

-- In the order in which they are tried.
abbrev pub media_kinds : List (Kind MediaAttribute)
media_kinds =
    made_kind in_section ice_ufrag
    ∷ made_kind in_section ice_pwd
    ∷ made_kind in_section ice_options
    ∷ made_kind in_section fingerprints
    ∷ made_kind in_section setup
    ∷ Named (codes "mid") (made (λ t. Mid (name_of 16 t)) any_text)
    ∷ Named (codes "sctp-port") (made SctpPort (number (2 ^ 16)))
    ∷ Named (codes "max-message-size") (made MaxMessageSize (number (2 ^ 64)))
    ∷ Named (codes "sctp-init") (made SctpInit any_text)
    ∷ Named (codes "extmap") extmap
    ∷ OneOf direction_words
    ∷ Named (codes "msid") (made Msid msid)
    ∷ Named (codes "rtcp") (made Rtcp any_text)
    ∷ OneOf rtcp_words
    ∷ made_kind in_section candidates
    ∷ made_kind in_section end_of_candidates
    ∷ Named (codes "rtpmap") rtpmap
    ∷ Named (codes "rtcp-fb") rtcp_fb
    ∷ Named (codes "fmtp") fmtp
    ∷ Named (codes "rid") rid
    ∷ Named (codes "simulcast") (made Simulcast simulcast)
    ∷ Named (codes "ssrc-group") ssrc_group
    ∷ Named (codes "ssrc") ssrc
    ∷ []
