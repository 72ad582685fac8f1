use Rattle.std.proofs.Common.{take}
use Rattle.aig_graph.specs.Made.{Extends}
use Rattle.interpolants.specs.Parts.{IsAsked}
use Rattle.interpolants.proofs.shared.with_asked.Given as goal

abbrev pub invariant-loop-l : goal.invariant-loop-l
invariant-loop-l l = record {
  extends : Extends l.fn.graph l.graph;
  asked : IsAsked l.shared l.assumed (take l.l-index l.clause) l.fn.graph l.graph l.fn.p l.node;
}
