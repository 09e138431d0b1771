-- Every printable attribute of a session is read as it is printed.
use Rattle.std.proofs.Common.{[], ◌∷◌}
use Rattle.sdp_formats_reader.specs.ReaderChoice.{attribute_line}
use Rattle.sdp_formats_data.specs.PrintedSession.{attribute_text}
use Rattle.sdp_formats_data.specs.declared.session.SessionAttribute.{SessionAttribute}
use Rattle.sdp_formats_data.specs.declared.session.SessionAttribute.TheVariants as a
use Rattle.sdp_formats_laws.proofs.CandidateLines.{session_candidate_line}
use Rattle.sdp_formats_laws.proofs.Printed.{IsPrintedAs}
use Rattle.sdp_formats_laws.proofs.SessionKinds.{ice_lite, end_of_candidates, ice_ufrag, ice_pwd, ice_options}
use Rattle.sdp_formats_laws.proofs.SessionKinds.{setup_line}
use Rattle.sdp_formats_laws.proofs.SessionKinds.{fingerprint_line, unused, group_line, msid_semantic_line}
use Rattle.sdp_formats_laws.specs.PrintableSession.{IsPrintable}

pub printed : (x : SessionAttribute) → IsPrintable x → IsPrintedAs attribute_line (attribute_text x) x
unfolding attribute_text
printed (a.Group typ mids) h = group_line typ mids h.0 h.1
printed (a.MsidSemantic semantic (s ∷ ss)) h = msid_semantic_line semantic s ss h.0 h.1
printed a.IceLite h = ice_lite
printed (a.IceUfrag v) h = ice_ufrag v h
printed (a.IcePwd v) h = ice_pwd v h
printed (a.IceOptions v) h = ice_options v h
printed (a.Setup v) h = setup_line v
printed (a.Fingerprint f) h = fingerprint_line f h
printed a.EndOfCandidates h = end_of_candidates
printed (a.Candidate c) h = session_candidate_line c h
printed (a.Unused v) h = unused v h.0 h.1
printed (a.MsidSemantic semantic []) h = absurd h
printed a.AllowMixedExts h = absurd h
