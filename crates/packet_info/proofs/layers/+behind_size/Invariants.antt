use Rattle.packet_info.proofs.layers.+behind_size.Given as goal

abbrev pub decreases-behind_size : goal.decreases-behind_size
decreases-behind_size l = l.most
