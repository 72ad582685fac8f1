use Rattle.std.proofs.Common.{refl, sym, subst}
use Rattle.aig_graph.specs.Outputs.{outputs_of}
use Rattle.circuit_cnf.specs.Failing.{IsFailure}
use Rattle.circuit_cnf.proofs.OutputValues.{failure_is, no_failure}
use Rattle.circuit_cnf.proofs.trying.failure_at.Goals as goal

pub returns-in_ok-row-in-Some-clause-fails : goal.returns-in_ok-row-in-Some-clause-fails
returns-in_ok-row-in-Some-clause-fails c =
    let f = c.args.f.now in
    let outputs = outputs_of f c.args.graph.now c.args.outputs.now in
    subst (λ row. IsFailure f outputs row c.in_ok-values.values c.in-Some.j) (sym c.in_ok-row-in-Some.ensures)
    (failure_is f c.args.graph.now c.args.outputs.now c.args.row.now c.in_ok-values.values c.in-Some.j
    c.requires.formula.prefix c.requires.a_node_an_existential c.requires.whole
    c.in_ok-values.ensures c.in-Some.ensures.some)

pub returns-in-None-clause-holds : goal.returns-in-None-clause-holds
returns-in-None-clause-holds c e =
    no_failure c.args.f.now c.args.graph.now c.args.outputs.now c.args.row.now c.in_ok-values.values
    c.requires.formula.prefix c.requires.a_node_an_existential c.requires.whole
    c.in_ok-values.ensures (c.in-None.ensures.none refl)
