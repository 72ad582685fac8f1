use Rattle.proof_checker.proofs.laws.proved_circuit_shows_true.Goals as goal

pub returns : goal.returns
returns c candidate symbols steps formed kept complete is reads none =
    c.skolem_circuit_shows_true.ensures candidate.formula candidate.circuit.netlist symbols formed.prefix kept complete
    (c.proved_circuit_is_skolem.ensures candidate symbols steps formed kept complete is reads none)
