use Rattle.expansion.specs.Table.{point_bits}
use Rattle.candidate_functions.proofs.AllOutputs.{OutputsSoFar}
use Rattle.candidate_functions.proofs.outputs.outputs_beside.Given as goal

abbrev pub invariant-loop-place : goal.invariant-loop-place
invariant-loop-place l = OutputsSoFar l.known.f.now l.known.table.now.rows
    (point_bits l.known.points.now) l.known.definitions.now l.others.nodes.now l.fn.graph l.graph
    l.classes.classes.items l.nodes.items l.place
