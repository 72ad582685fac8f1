use Rattle.std.proofs.Common.{take}
use Rattle.aig_graph.specs.Made.{Extends}
use Rattle.interpolants.specs.Parts.{IsSharedPart}
use Rattle.interpolants.proofs.shared.shared_part.Given as goal

abbrev pub invariant-loop-l : goal.invariant-loop-l
invariant-loop-l l = record {
  extends : Extends l.fn.graph l.graph;
  part : IsSharedPart l.shared l.graph (take l.l-index l.clause) l.node;
}
