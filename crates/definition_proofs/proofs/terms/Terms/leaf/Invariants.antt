use Rattle.definition_proofs.proofs.NodeLiterals.{AreLiteralsFrom}
use Rattle.definition_proofs.proofs.terms.Terms.leaf.Given as goal

abbrev pub invariant-loop-at : goal.invariant-loop-at
invariant-loop-at g l = (g.O.Oracle.Fits l.oracle l.log) × AreLiteralsFrom l.inputs.f.now l.inputs.graph.now
    l.gates.items l.fn.self l.fn.log l.self l.log l.literals l.at

abbrev pub decreases-loop-at : goal.decreases-loop-at
decreases-loop-at g l = l.at
