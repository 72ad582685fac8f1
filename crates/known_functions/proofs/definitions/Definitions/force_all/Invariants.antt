use Rattle.known_functions.specs.Forcing.{HasForced}
use Rattle.known_functions.proofs.definitions.Definitions.force_all.Given as goal

abbrev pub invariant-loop-place : goal.invariant-loop-place
invariant-loop-place g l = record {
  fit : g.O.Oracle.Fits l.oracle l.log;
  forced : HasForced l.f l.definability l.fn.self l.self l.fn.log l.log;
}
