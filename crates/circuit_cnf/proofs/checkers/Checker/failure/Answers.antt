use Rattle.std.proofs.Common.{◌≡◌, map, refl, sym, ◌∙◌, ap, subst, arith}
use Rattle.std.proofs.lemmas.Bool.{false≢true}
use Rattle.list_laws.proofs.Sequences.{mapped_long}
use Rattle.dq_lits.specs.Literal.{variable_of}
use Rattle.dq_lits.specs.Row.{bit_of}
use Rattle.aig_graph.specs.Graph.{node_value}
use Rattle.circuit_cnf.specs.Failing.{HasFalseClause}
use Rattle.circuit_cnf.proofs.OutputValues.{failure_is}
use Rattle.circuit_cnf.proofs.checkers.Checker.failure.Goals as goal

pub returns-in-Some-clause-some : goal.returns-in-Some-clause-some
returns-in-Some-clause-some g c =
    search (
      arith,
      (failure_is c.args.circuit.now.f.now c.args.circuit.now.graph.now c.args.circuit.now.outputs.now c.in_ok-row.row c.in_ok-values.values c.in-Some.j c.requires.formula.prefix c.args.circuit.now.a_node_an_existential),
      mapped_long,
    )

pub returns-in-None-clause-none : goal.returns-in-None-clause-none
returns-in-None-clause-none g c is false_there =
    let values = g.O.Oracle.values c.args.oracle.now in
    let inputs = c.args.self.now.inputs.items in
    let row_is : c.in_ok-row.row ≡ map (λ l. values (variable_of l)) inputs =
    c.in_ok-row.ensures ∙ ap (map (λ l. values (variable_of l))) c.deref.ensures.value in
    let values_are : c.in_ok-values.values ≡ map (node_value c.args.circuit.now.graph.now
    (bit_of (map (λ l. values (variable_of l)) inputs))) c.args.circuit.now.outputs.now =
    c.in_ok-values.ensures ∙ ap (λ r. map (node_value c.args.circuit.now.graph.now (bit_of r))
    c.args.circuit.now.outputs.now) row_is in
    let failing = subst (λ r. HasFalseClause c.args.circuit.now.f.now r c.in_ok-values.values) (sym row_is)
    (subst (λ vs. HasFalseClause c.args.circuit.now.f.now (map (λ l. values (variable_of l)) inputs) vs)
    (sym values_are) false_there) in
    false≢true (sym failing.2 ∙ c.in-None.ensures.none refl failing.0 failing.1)
