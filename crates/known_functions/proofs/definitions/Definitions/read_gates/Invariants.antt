use Rattle.aig_graph.specs.Made.{Extends}
use Rattle.known_functions.specs.Forcing.{AreKnownIn}
use Rattle.known_functions.proofs.definitions.Definitions.read_gates.Given as goal

abbrev pub invariant-loop-place : goal.invariant-loop-place
invariant-loop-place l = record {
  extends : Extends l.fn.graph l.graph;
  known : AreKnownIn l.f l.graph l.self;
}
