use Rattle.sdp_formats_laws.proofs.SettledPairs.{entries_last}
use Rattle.sdp_formats_laws.proofs.repeated_keys.entry_values_law.Goals as goal

pub returns : goal.returns
returns c = entries_last c.last_value_law.ensures c.settled_pairs_law.ensures
