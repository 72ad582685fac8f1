use Rattle.known_functions.specs.Guessing.{HasAsked, LeavesKnown}
use Rattle.known_functions.proofs.definitions.Definitions.first_guess.Given as goal

abbrev pub invariant-loop-number : goal.invariant-loop-number
invariant-loop-number g l = record {
  fit : g.O.Oracle.Fits l.oracle l.log;
  asked : HasAsked l.existential.f.now l.fn.graph l.graph l.existential.definability.now l.fn.log l.log;
  left : LeavesKnown l.fn.self l.self;
}
