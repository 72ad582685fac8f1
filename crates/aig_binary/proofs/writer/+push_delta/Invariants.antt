use Rattle.aig_binary.proofs.writer.+push_delta.Given as goal

abbrev pub decreases-push_delta : goal.decreases-push_delta
decreases-push_delta l = l.most
