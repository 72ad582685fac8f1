use Rattle.dq_formula.proofs.xors.+put_parity.Given as goal

abbrev pub decreases-put_parity : goal.decreases-put_parity
decreases-put_parity l = l.n
