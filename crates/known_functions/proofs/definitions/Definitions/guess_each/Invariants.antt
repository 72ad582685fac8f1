use Rattle.std.proofs.Common.{◌≡◌, length}
use Rattle.known_functions.specs.Guessing.{HasAsked}
use Rattle.known_functions.specs.Searching.{AreKnown}
use Rattle.known_functions.proofs.definitions.Definitions.guess_each.Given as goal

abbrev pub invariant-loop-place : goal.invariant-loop-place
invariant-loop-place g l = record {
  fit : g.O.Oracle.Fits l.oracle l.log;
  asked : HasAsked l.f l.fn.graph l.graph l.definability l.fn.log l.log;
  known : AreKnown l.f l.self.ranks.items l.graph l.self.nodes.items l.self.rules.items l.self.guesses.items;
  many : length l.self.guesses.items ≡ length l.f.existentials;
}
