-- Lines `a=candidate` of sections and of sessions are read as they are printed.
use Rattle.std.proofs.Common.{codes, refl, ap, lit<}
use Rattle.std.specs.Option.{option_map}
use Rattle.sdp_formats_reader.specs.AttributesChoice.{attribute_line}
use Rattle.sdp_formats_reader.specs.AttributesChoice.{media_attribute}
use Rattle.sdp_formats_reader.specs.Transport.{in_section, in_session}
use Rattle.sdp_formats_reader.specs.declared.transport.TransportAttribute.TheVariants as transport
use Rattle.sdp_formats_reader.specs.ReaderChoice.{attribute_line as session_line, session_attribute}
use Rattle.sdp_formats_data.specs.PrintedMedia.{attribute_text}
use Rattle.sdp_formats_data.specs.PrintedSession.{attribute_text as session_text}
use Rattle.sdp_formats_values.specs.declared.candidate.Candidate as candidate
use Rattle.sdp_formats_data.specs.declared.media.MediaAttribute.TheVariants.{Candidate}
use Rattle.sdp_formats_data.specs.declared.session.SessionAttribute.TheVariants as session
use Rattle.sdp_formats_laws.proofs.CandidatesLemmas.{candidate_body, candidate_named, candidate_read, feed}
use Rattle.sdp_formats_laws.proofs.CandidatesLemmas.{lacks_candidate}
use Rattle.sdp_formats_laws.proofs.CandidatesLemmas.{return}
use Rattle.sdp_formats_laws.proofs.PlainKinds.{first_fits}
use Rattle.sdp_formats_laws.proofs.Printed.{IsPrintedAs, at_text, named_by, named_line}
use Rattle.std.proofs.Common.{ℕ, List, Option, Some, None, IfSome}
use Rattle.sdp_formats_values.specs.declared.candidate.RelatedAddress.{RelatedAddress}
use Rattle.sdp_formats_laws.specs.CandidateWords.{IsOneWord}
use Rattle.sdp_formats_laws.specs.Printable.{IsPrintableCandidate, IsPrintableRelated, IsWord}
use Rattle.sdp_formats_laws.specs.ValueTexts.{IsOfWords, IsRelatedOfWords}

-- the texts of a printable one are words
one_word : (w : List ℕ) → IsWord w → IsOneWord w
one_word w h = (h.0.0, h.1)

words_related : (r : Option RelatedAddress) → IfSome r IsPrintableRelated → IfSome r IsRelatedOfWords
words_related None h = tt
words_related (Some r) h = (one_word r.addr h.0, h.1)

words_ufrag : (u : Option (List ℕ)) → IfSome u IsWord → IfSome u IsOneWord
words_ufrag None h = tt
words_ufrag (Some w) h = one_word w h

printable_words : (c : candidate.Candidate) → IsPrintableCandidate c → IsOfWords c
printable_words c h = (
  one_word c.foundation h.0,
  h.1,
  h.2,
  one_word c.addr h.3,
  h.4,
  words_related c.related h.5,
  words_ufrag c.ufrag h.6,
)

pub candidate_line : (c : candidate.Candidate) → IsPrintableCandidate c
    → IsPrintedAs attribute_line (attribute_text (Candidate c)) (Candidate c)
unfolding media_attribute attribute_text
candidate_line c h = at_text attribute_line _ _ _ (candidate_named c)
    (named_line attribute_line (codes "a=candidate:") (candidate_body c) (Candidate c)
    (named_by (codes "a=candidate:") refl)
    (lacks_candidate 10 c (lit< tt) feed h) (lacks_candidate 13 c (lit< tt) return h)
    (first_fits _ _ _ (ap (λ o. option_map in_section (option_map transport.Candidate o))
    (candidate_read c (printable_words c h)))))

pub session_candidate_line : (c : candidate.Candidate) → IsPrintableCandidate c
    → IsPrintedAs session_line (session_text (session.Candidate c)) (session.Candidate c)
unfolding session_attribute session_text
session_candidate_line c h = at_text session_line _ _ _ (candidate_named c)
    (named_line session_line (codes "a=candidate:") (candidate_body c) (session.Candidate c)
    (named_by (codes "a=candidate:") refl)
    (lacks_candidate 10 c (lit< tt) feed h) (lacks_candidate 13 c (lit< tt) return h)
    (first_fits _ _ _ (ap (λ o. option_map in_session (option_map transport.Candidate o))
    (candidate_read c (printable_words c h)))))
