use Rattle.sdp_formats_data.proofs.AlikeAttributes.{attributes_alike}
use Rattle.sdp_formats_data.proofs.equality.attribute_equality_law.Goals as goal

pub returns : goal.returns
returns c = attributes_alike c.texts_law.ensures c.mids_law.ensures c.setups_law.ensures c.directions_law.ensures
    c.fingerprints_law.ensures c.pair_lists_law.ensures c.restriction_ids_law.ensures c.simulcasts_law.ensures
    c.msids_law.ensures c.candidate_equality_law.ensures c.type_lists_law.ensures c.source_lists_law.ensures
    c.param_lists_law.ensures c.extensions_law.ensures c.rtp_maps_law.ensures
