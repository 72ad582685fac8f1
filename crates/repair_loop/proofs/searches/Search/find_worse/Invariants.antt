use Rattle.aig_graph.specs.Outputs.{outputs_of}
use Rattle.circuit_cnf.specs.Failing.{IsFailure}
use Rattle.repair_loop.proofs.searches.Search.find_worse.Given as goal

abbrev pub invariant-loop-place : goal.invariant-loop-place
invariant-loop-place l =
    IsFailure l.self.f.now (outputs_of l.self.f.now l.candidates.graph.now l.candidates.outputs.now) l.worst.row
    l.worst.values l.worst.j
