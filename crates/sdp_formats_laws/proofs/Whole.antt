-- Every printable attribute is read as it is printed.
use Rattle.std.proofs.Common.{[], ◌∷◌}
use Rattle.sdp_formats_reader.specs.AttributesChoice.{attribute_line}
use Rattle.sdp_formats_reader.specs.AsRead.{as_read}
use Rattle.sdp_formats_data.specs.PrintedMedia.{attribute_text}
use Rattle.sdp_formats_data.specs.declared.media.MediaAttribute.{MediaAttribute}
use Rattle.sdp_formats_data.specs.declared.media.MediaAttribute.TheVariants as a
use Rattle.sdp_formats_reader.specs.PrintedPairs.{RestrictionsComeBack}
use Rattle.sdp_formats_laws.proofs.CandidateLines.{candidate_line}
use Rattle.sdp_formats_laws.proofs.Printed.{IsPrintedAs}
use Rattle.sdp_formats_laws.proofs.Restrictions.{rid_line}
use Rattle.sdp_formats_laws.proofs.Simulcasts.{simulcast_line}
use Rattle.sdp_formats_laws.proofs.PlainKinds.{rtcp, ice_ufrag, ice_pwd, ice_options, sctp_init, mid, sctp_port}
use Rattle.sdp_formats_laws.proofs.PlainKinds.{max_message_size, setup_line, recvonly, sendrecv, sendonly, inactive}
use Rattle.sdp_formats_laws.proofs.PlainKinds.{rtcp_mux, rtcp_mux_only, rtcp_rsize, end_of_candidates}
use Rattle.sdp_formats_laws.proofs.PartedKinds.{rtcp_fb, msid, extmap_line, ssrc, ssrc_group, fmtp_line, rtpmap_line}
use Rattle.sdp_formats_laws.proofs.PartedKinds.{fingerprint_line, unused}
use Rattle.sdp_formats_laws.specs.PrintedParameters.{ReadableListsComeBack}
use Rattle.sdp_formats_laws.specs.Printable.{IsPrintable}

-- what is read of lists of restrictions and of parameters
abbrev pub ListsComeBack : Type 0
ListsComeBack = RestrictionsComeBack × ReadableListsComeBack

pub printed : ListsComeBack → (x : MediaAttribute) → IsPrintable x
    → IsPrintedAs attribute_line (attribute_text x) (as_read x)
unfolding attribute_text
printed back (a.Rtcp v) h = rtcp v h
printed back (a.IceUfrag v) h = ice_ufrag v h
printed back (a.IcePwd v) h = ice_pwd v h
printed back (a.IceOptions v) h = ice_options v h
printed back (a.SctpInit v) h = sctp_init v h
printed back (a.Setup v) h = setup_line v
printed back (a.Fingerprint f) h = fingerprint_line f h
printed back (a.Mid m) h = mid m h.0 h.1
printed back (a.SctpPort p) h = sctp_port p h
printed back (a.MaxMessageSize n) h = max_message_size n h
printed back (a.ExtMap id ext) h = extmap_line id ext h.0 h.1 h.2
printed back a.RecvOnly h = recvonly
printed back a.SendRecv h = sendrecv
printed back a.SendOnly h = sendonly
printed back a.Inactive h = inactive
printed back (a.Msid m) h = msid m h.0 h.1
printed back a.RtcpMux h = rtcp_mux
printed back a.RtcpMuxOnly h = rtcp_mux_only
printed back a.RtcpRsize h = rtcp_rsize
printed back a.EndOfCandidates h = end_of_candidates
printed back (a.RtpMap pt m) h = rtpmap_line pt m h.0 h.1
printed back (a.RtcpFb pt v) h = rtcp_fb pt v h.0 h.1
printed back (a.Fmtp pt (p ∷ ps)) h =
    let list = back.1 (p ∷ ps) h.1 in fmtp_line pt p ps h.0 list.0 list.2
printed back (a.SsrcGroup semantics (s ∷ ss)) h = ssrc_group semantics s ss h.0 h.1
printed back (a.Ssrc s attr v) h = ssrc s attr v h.0 h.1 h.2 h.3
printed back (a.Candidate c) h = candidate_line c h
printed back (a.Rid id d pts rs) h = rid_line back.0 id d pts rs h.0 h.1 h.2
printed back (a.Simulcast s) h = simulcast_line s h.0 h.1
printed back (a.Unused v) h = unused v h.0 h.1
printed back (a.Fmtp pt []) h = absurd h
printed back (a.SsrcGroup semantics []) h = absurd h
