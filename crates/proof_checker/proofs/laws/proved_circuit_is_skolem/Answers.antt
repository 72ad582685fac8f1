use Rattle.proof_checker.proofs.laws.proved_circuit_is_skolem.Goals as goal

pub returns : goal.returns
returns c candidate symbols steps formed kept complete is reads none =
    c.tested_circuit_is_skolem.ensures candidate symbols formed.prefix is reads
    (λ k below m row. c.refuted_negation_solves.ensures candidate symbols steps formed kept complete is none m)
