-- Transport attributes, allowed at session and at media level.
use Rattle.std.specs.Prelude.{List, [], ◌∷◌, codes}
use Rattle.sdp_formats_grammar.specs.Form.{told, any_text, made}
use Rattle.sdp_formats_grammar.specs.Kinds.{Kind, Named, OneOf}
use Rattle.sdp_formats_values.specs.Candidates.{candidate}
use Rattle.sdp_formats_reader.specs.Digest.{fingerprint}
use Rattle.sdp_formats_reader.specs.Words.{setup_word}
use Rattle.sdp_formats_reader.specs.declared.transport.TransportAttribute.{TransportAttribute}
use Rattle.sdp_formats_reader.specs.declared.transport.TransportAttribute.TheVariants.{IceUfrag, IcePwd, IceOptions}
use Rattle.sdp_formats_reader.specs.declared.transport.TransportAttribute.TheVariants.{Fingerprint, Setup}
use Rattle.sdp_formats_reader.specs.declared.transport.TransportAttribute.TheVariants.{Candidate, EndOfCandidates}
use Rattle.sdp_formats_data.specs.declared.media.MediaAttribute.{MediaAttribute}
use Rattle.sdp_formats_data.specs.declared.media.MediaAttribute.TheVariants as section
use Rattle.sdp_formats_data.specs.declared.session.SessionAttribute.{SessionAttribute}
use Rattle.sdp_formats_data.specs.declared.session.SessionAttribute.TheVariants as session

abbrev pub in_session : TransportAttribute → SessionAttribute
in_session (IceUfrag text) = session.IceUfrag text
in_session (IcePwd text) = session.IcePwd text
in_session (IceOptions text) = session.IceOptions text
in_session (Fingerprint print) = session.Fingerprint print
in_session (Setup end) = session.Setup end
in_session (Candidate c) = session.Candidate c
in_session EndOfCandidates = session.EndOfCandidates

abbrev pub in_section : TransportAttribute → MediaAttribute
in_section (IceUfrag text) = section.IceUfrag text
in_section (IcePwd text) = section.IcePwd text
in_section (IceOptions text) = section.IceOptions text
in_section (Fingerprint print) = section.Fingerprint print
in_section (Setup end) = section.Setup end
in_section (Candidate c) = section.Candidate c
in_section EndOfCandidates = section.EndOfCandidates

abbrev pub ice_ufrag : Kind TransportAttribute
ice_ufrag = Named (codes "ice-ufrag") (made IceUfrag any_text)

abbrev pub ice_pwd : Kind TransportAttribute
ice_pwd = Named (codes "ice-pwd") (made IcePwd any_text)

abbrev pub ice_options : Kind TransportAttribute
ice_options = Named (codes "ice-options") (made IceOptions any_text)

abbrev pub fingerprints : Kind TransportAttribute
fingerprints = Named (codes "fingerprint") (made Fingerprint fingerprint)

abbrev pub setup : Kind TransportAttribute
setup = Named (codes "setup") (made Setup (told setup_word))

abbrev pub candidates : Kind TransportAttribute
candidates = Named (codes "candidate") (made Candidate (told candidate))

abbrev pub end_of_candidates : Kind TransportAttribute
end_of_candidates = OneOf ((codes "end-of-candidates", EndOfCandidates) ∷ [])

abbrev pub transport_kinds : List (Kind TransportAttribute)
transport_kinds =
    ice_ufrag ∷ ice_pwd ∷ ice_options ∷ fingerprints ∷ setup ∷ candidates ∷ end_of_candidates ∷ []
