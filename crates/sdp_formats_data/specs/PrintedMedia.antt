-- Sections as they are printed (RFC 8866 5.13, 5.14).
use Rattle.std.specs.Prelude.{ℕ, not, List, [], ◌∷◌, map, codes, if◌then◌else◌}
use Rattle.std.specs.Fmt.{decimal}
use Rattle.std.specs.Option.{option_map}
use Rattle.sdp_formats_grammar.specs.Joined.{spelled, joined, maybe_text}
use Rattle.media_types.specs.Codecs.{codec_name}
use Rattle.sdp_formats_values.specs.PrintedParameters.{param_text}
use Rattle.sdp_formats_values.specs.declared.FormatParam.{FormatParam}
use Rattle.rtp_wire.specs.Kinds.{uri_of}
use Rattle.sdp_formats_values.specs.MediaTypes.{is_channel, media_type_text, proto_text}
use Rattle.sdp_formats_values.specs.Setup.{setup_text}
use Rattle.sdp_formats_values.specs.PrintedValues.{line_end, fingerprint_text, way_text, simulcast_text}
use Rattle.sdp_formats_values.specs.PrintedValues.{is_empty, msid_text}
use Rattle.sdp_formats_values.specs.Lists.{bandwidth_text, named, numbers_text, rid_types_text}
use Rattle.sdp_formats_values.specs.Lists.{rid_restrictions_text}
use Rattle.sdp_formats_values.specs.PrintedCandidates.{candidate_text}
use Rattle.sdp_formats_data.specs.declared.media.RtpMap as map_of
use Rattle.sdp_formats_data.specs.declared.media.MediaLine.{MediaLine}
use Rattle.sdp_formats_data.specs.declared.media.MediaAttribute.{MediaAttribute}
use Rattle.sdp_formats_data.specs.declared.media.MediaAttribute.TheVariants.{Rtcp, IceUfrag, IcePwd, IceOptions}
use Rattle.sdp_formats_data.specs.declared.media.MediaAttribute.TheVariants.{Fingerprint, Setup, Mid, SctpPort}
use Rattle.sdp_formats_data.specs.declared.media.MediaAttribute.TheVariants.{MaxMessageSize, SctpInit, ExtMap}
use Rattle.sdp_formats_data.specs.declared.media.MediaAttribute.TheVariants.{RecvOnly, SendRecv, SendOnly, Inactive}
use Rattle.sdp_formats_data.specs.declared.media.MediaAttribute.TheVariants.{Msid, RtcpMux, RtcpMuxOnly, RtcpRsize}
use Rattle.sdp_formats_data.specs.declared.media.MediaAttribute.TheVariants.{Candidate, EndOfCandidates, RtpMap}
use Rattle.sdp_formats_data.specs.declared.media.MediaAttribute.TheVariants.{RtcpFb, Fmtp, Rid, Simulcast, SsrcGroup}
use Rattle.sdp_formats_data.specs.declared.media.MediaAttribute.TheVariants.{Ssrc, Unused}

-- `CODEC/RATE[/CHANNELS]` (RFC 8866 6.6)
abbrev pub rtp_map_text : map_of.RtpMap → List ℕ
rtp_map_text m = spelled (codec_name m.codec ∷ codes "/" ∷ decimal m.clock_rate
    ∷ maybe_text (codes "/") (option_map decimal m.channels) ∷ [])

-- Parameters separated by semicolons (RFC 8866 6.15).
abbrev pub params_text : List FormatParam → List ℕ
params_text params = joined (codes ";") (map param_text params)

-- An attribute with a list.
unfoldable pub listed_text : MediaAttribute → List ℕ
listed_text (Fmtp pt values) = if is_empty values then []
    else spelled (codes "a=fmtp:" ∷ decimal pt ∷ codes " " ∷ params_text values ∷ line_end ∷ [])
listed_text (Rid id direction pt restriction) = spelled (codes "a=rid:" ∷ id.0 ∷ codes " " ∷ way_text direction
    ∷ rid_types_text pt ∷ rid_restrictions_text (not (is_empty pt)) restriction ∷ line_end ∷ [])
listed_text (SsrcGroup semantics ssrcs) = spelled (codes "a=ssrc-group:" ∷ semantics ∷ codes " "
    ∷ numbers_text (codes " ") ssrcs ∷ line_end ∷ [])
listed_text _ = []

-- The prefix of an attribute with a single text.
abbrev pub name_before : MediaAttribute → List ℕ
name_before (Rtcp value) = codes "a=rtcp:"
name_before (IceUfrag value) = codes "a=ice-ufrag:"
name_before (IcePwd value) = codes "a=ice-pwd:"
name_before (IceOptions value) = codes "a=ice-options:"
name_before (SctpInit value) = codes "a=sctp-init:"
name_before (Unused value) = codes "a="
name_before _ = []

-- The line of an attribute without a value.
abbrev pub flag_text : MediaAttribute → List ℕ
flag_text RecvOnly = codes "a=recvonly\r\n"
flag_text SendRecv = codes "a=sendrecv\r\n"
flag_text SendOnly = codes "a=sendonly\r\n"
flag_text Inactive = codes "a=inactive\r\n"
flag_text RtcpMux = codes "a=rtcp-mux\r\n"
flag_text RtcpMuxOnly = codes "a=rtcp-mux-only\r\n"
flag_text RtcpRsize = codes "a=rtcp-rsize\r\n"
flag_text EndOfCandidates = codes "a=end-of-candidates\r\n"
flag_text _ = []

-- An attribute of several parts.
abbrev pub parted_text : MediaAttribute → List ℕ
parted_text (ExtMap id ext) = spelled (codes "a=extmap:" ∷ decimal id ∷ codes " " ∷ uri_of ext ∷ line_end ∷ [])
parted_text (RtpMap pt value) = spelled (codes "a=rtpmap:" ∷ decimal pt ∷ codes " " ∷ rtp_map_text value
    ∷ line_end ∷ [])
parted_text (RtcpFb pt value) = spelled (codes "a=rtcp-fb:" ∷ decimal pt ∷ codes " " ∷ value ∷ line_end ∷ [])
parted_text (Ssrc ssrc attr value) = spelled (codes "a=ssrc:" ∷ decimal ssrc ∷ codes " " ∷ attr ∷ codes ":" ∷ value
    ∷ line_end ∷ [])
parted_text _ = []

-- The line of an attribute.
unfoldable pub attribute_text : MediaAttribute → List ℕ
attribute_text (Rtcp value) = named (codes "a=rtcp:") value
attribute_text (IceUfrag value) = named (codes "a=ice-ufrag:") value
attribute_text (IcePwd value) = named (codes "a=ice-pwd:") value
attribute_text (IceOptions value) = named (codes "a=ice-options:") value
attribute_text (Fingerprint value) = named (codes "a=fingerprint:") (fingerprint_text value)
attribute_text (Setup value) = named (codes "a=setup:") (setup_text value)
attribute_text (Mid value) = named (codes "a=mid:") value
attribute_text (SctpPort port) = named (codes "a=sctp-port:") (decimal port)
attribute_text (MaxMessageSize size) = named (codes "a=max-message-size:") (decimal size)
attribute_text (SctpInit value) = named (codes "a=sctp-init:") value
attribute_text (ExtMap id ext) = spelled (codes "a=extmap:" ∷ decimal id ∷ codes " " ∷ uri_of ext ∷ line_end ∷ [])
attribute_text RecvOnly = codes "a=recvonly\r\n"
attribute_text SendRecv = codes "a=sendrecv\r\n"
attribute_text SendOnly = codes "a=sendonly\r\n"
attribute_text Inactive = codes "a=inactive\r\n"
attribute_text (Msid value) = named (codes "a=msid:") (msid_text value)
attribute_text RtcpMux = codes "a=rtcp-mux\r\n"
attribute_text RtcpMuxOnly = codes "a=rtcp-mux-only\r\n"
attribute_text RtcpRsize = codes "a=rtcp-rsize\r\n"
attribute_text (Candidate value) = named (codes "a=") (candidate_text value)
attribute_text EndOfCandidates = codes "a=end-of-candidates\r\n"
attribute_text (RtpMap pt value) = spelled (codes "a=rtpmap:" ∷ decimal pt ∷ codes " " ∷ rtp_map_text value
    ∷ line_end ∷ [])
attribute_text (RtcpFb pt value) = spelled (codes "a=rtcp-fb:" ∷ decimal pt ∷ codes " " ∷ value ∷ line_end ∷ [])
attribute_text (Simulcast value) = simulcast_text value
attribute_text (Ssrc ssrc attr value) = spelled (codes "a=ssrc:" ∷ decimal ssrc ∷ codes " " ∷ attr ∷ codes ":" ∷ value
    ∷ line_end ∷ [])
attribute_text (Unused value) = named (codes "a=") value
attribute_text a = listed_text a

abbrev pub attributes_text : List MediaAttribute → List ℕ
attributes_text attributes = joined [] (map attribute_text attributes)

-- The format list of an `m=` line.
unfoldable pub formats_text : MediaLine → List ℕ
formats_text m = if is_channel m.typ then codes "webrtc-datachannel"
    else if is_empty m.pts then codes "0" else numbers_text (codes " ") m.pts

abbrev pub port_of : MediaLine → ℕ
port_of m = if m.disabled then 0 else 9

-- `m=TYPE PORT PROTO FORMATS`, the address, the bandwidth if there is one, and the attributes
unfoldable pub section_text : MediaLine → List ℕ
section_text m = spelled (codes "m=" ∷ media_type_text m.typ ∷ codes " " ∷ decimal (port_of m) ∷ codes " "
    ∷ proto_text m.proto ∷ codes " " ∷ formats_text m ∷ line_end ∷ codes "c=IN IP4 0.0.0.0" ∷ line_end
    ∷ maybe_text [] (option_map bandwidth_text m.bw) ∷ attributes_text m.attrs ∷ [])
