use Rattle.std.proofs.Common.{◌≡◌, ◌-◌}
use Rattle.hint_log.specs.Entries.{steps_of}
use Rattle.known_functions.specs.Forcing.{AreKnownIn}
use Rattle.repair_loop.specs.Turning.{HasGoneOn, IsSearch}
use Rattle.repair_loop.proofs.searches.Search.all_rounds.Given as goal

abbrev pub invariant-loop-verdict : goal.invariant-loop-verdict
invariant-loop-verdict g l = record {
  fit : g.O.Oracle.Fits l.oracle l.log;
  search : IsSearch l.self.f.now l.graph l.database l.checker l.self.definability.now l.self.may_ask l.log.entries;
  known : AreKnownIn l.self.f.now l.graph l.known.definitions;
  inputs : l.graph.inputs ≡ l.initial.graph.inputs;
  went : HasGoneOn l.self.f.now l.initial.database l.database l.initial.checker l.checker l.self.definability.now l.self.may_ask
      l.initial.log l.log;
}

abbrev pub decreases-loop-verdict : goal.decreases-loop-verdict
decreases-loop-verdict g l = l.log.limit - steps_of l.log.entries
