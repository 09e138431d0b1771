use Rattle.payload_core_av1.proofs.leb128.+size_within.Given as goal

abbrev pub decreases-size_within : goal.decreases-size_within
decreases-size_within l = l.most
