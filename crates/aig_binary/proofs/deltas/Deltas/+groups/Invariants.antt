use Rattle.aig_binary.proofs.deltas.Deltas.+groups.Given as goal

abbrev pub decreases-groups : goal.decreases-groups
decreases-groups l = l.most
