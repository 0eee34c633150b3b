use Rattle.aig_bin.proofs.delta.+delta_bytes.Given as goal

abbrev pub decreases-delta_bytes : goal.decreases-delta_bytes
decreases-delta_bytes g l = l.most
