use Rattle.known_functions.specs.Guessing.{HasAsked}
use Rattle.known_functions.specs.Searching.{AreKnown}
use Rattle.known_functions.proofs.definitions.Definitions.find_all.Given as goal

abbrev pub invariant-loop-place : goal.invariant-loop-place
invariant-loop-place g l = record {
  fit : g.O.Oracle.Fits l.oracle l.log;
  asked : HasAsked l.order.f.now l.fn.graph l.graph l.order.definability.now l.fn.log l.log;
  known : AreKnown l.order.f.now l.self.ranks.items l.graph l.self.nodes.items l.self.rules.items l.self.guesses.items;
}
