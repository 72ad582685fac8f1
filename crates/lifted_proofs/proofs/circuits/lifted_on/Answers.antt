use Rattle.std.proofs.Common.{arith}
use Rattle.cert_text.specs.CircuitProof.{first_proof_id, is_proof_variable}
use Rattle.proof_deletions.proofs.NumberedLines.{from_one}
use Rattle.lifted_proofs.proofs.LiftableCircuits.{is-liftable}
use Rattle.lifted_proofs.proofs.LiftedCircuits.{derives-by}
use Rattle.lifted_proofs.proofs.circuits.lifted_on.Goals as goal

pub settled-requires-clause-mapped : goal.settled-requires-clause-mapped
settled-requires-clause-mapped c =
    (is-liftable c.args.table.now c.args.file.now c.args.g.now c.args.p.now c.args.bench.now c.requires.right
    c.requires.left c.requires.bench).mapped

pub lifted_lines-requires-clause-can : goal.lifted_lines-requires-clause-can
lifted_lines-requires-clause-can c = search (arith, is-liftable)

pub lifted_lines-requires-clause-derives : goal.lifted_lines-requires-clause-derives
lifted_lines-requires-clause-derives c = search (arith, derives-by)

pub of_lines-requires : goal.of_lines-requires
of_lines-requires c =
    let f = c.args.table.now.formula.now in
    let net = c.args.bench.now.circuit.netlist in
    from_one (is_proof_variable f net) (first_proof_id f net) c.in_ok-steps.steps (omega arith)
    c.in_ok-steps.ensures.allowed
