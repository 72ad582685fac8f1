use Rattle.std.proofs.Common.{subst}
use Rattle.proof_checker.specs.ProvedCircuit.{IsProvedCircuit}
use Rattle.lifted_proofs.proofs.LiftedCircuits.{lifted-proof}
use Rattle.lifted_proofs.proofs.circuits.lifted_parts.Goals as goal

pub returns : goal.returns
returns c =
    let both = lifted-proof c.in_ok-table.table c.args.f.now c.args.trace.now c.args.file.now c.args.p.now
    c.in_ok-circuit.proof c.in_ok-circuit.circuit c.allowed_lines_are_numbered.ensures
    c.refuted_negation_solves.ensures c.in_ok-table.ensures.right c.in_ok-table.ensures.formula
    c.in_ok-table.ensures.trace
    (subst (λ g. IsProvedCircuit g c.args.file.now c.args.p.now) c.requires.left c.requires.proved)
    c.in_ok-circuit.ensures in
    record { settled = both.0; lifted = both.1 }
