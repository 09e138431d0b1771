use Rattle.sdp_formats_data.proofs.AlikeSessionAttributes.{session_attributes_alike}
use Rattle.sdp_formats_data.proofs.equality.session_attribute_equality_law.Goals as goal

pub returns : goal.returns
returns c = session_attributes_alike c.texts_law.ensures c.text_lists_law.ensures c.mid_lists_law.ensures
    c.setups_law.ensures c.fingerprints_law.ensures c.candidate_equality_law.ensures
