use Rattle.std.proofs.Common.{sym, ap, subst, arith}
use Rattle.aig_graph.specs.Putting.{gate_of}
use Rattle.aig_graph.specs.declared.nodes.Node.TheVariants.{Gate}
use Rattle.definition_proofs.specs.Leaves.{StandsFor}
use Rattle.definition_proofs.proofs.NodeLiterals.{found_stands, input_stands, input_signed, gate_signed}
use Rattle.definition_proofs.proofs.leaves.Inputs.literal.Goals as goal

pub returns-in-Input : goal.returns-in-Input
returns-in-Input c = search (arith, input_signed, input_stands)

pub returns-in-Some : goal.returns-in-Some
returns-in-Some c = λ entries are known.
    let f = c.args.self.now.f.now in
    let graph = c.args.self.now.graph.now in
    let g = c.in-Gate.g in
    let negated = c.in-Gate.negated in
    subst (λ n. StandsFor f graph entries n c.signed-in-Some.result) (sym c.in-Gate.is)
    (subst (StandsFor f graph entries (Gate g negated)) (sym c.signed-in-Some.ensures)
    (gate_signed f graph entries g c.in-Some.l.now negated
    (found_stands f graph entries c.args.literals.now g c.in-Some.l.now (known g (ap gate_of c.in-Gate.is))
    c.in-Some.ensures.value)))
