use Rattle.std.proofs.Common.{Contains}
use Rattle.dq_lits.specs.Formula.{declared}
use Rattle.gate_definitions.proofs.Readable.{holds_there}
use Rattle.gate_definitions.proofs.literals.nodes_of.Goals as goal

pub node_of-requires-clause-declared : goal.node_of-requires-clause-declared
node_of-requires-clause-declared c = holds_there (Contains (declared c.args.f.now)) c.args.lits.now c.loop-l.l-index
    c.l-item.result c.requires.declared c.loop-l-test.true c.l-item.is
