use Rattle.std.proofs.Common.{◌≡◌, take}
use Rattle.aig_graph.specs.Made.{Extends}
use Rattle.expansion.specs.Table.{point_bits}
use Rattle.candidate_functions.specs.Pairs.{IsPlacedClass}
use Rattle.candidate_functions.specs.Differing.{ArePatches}
use Rattle.candidate_functions.proofs.classes.Class.pairs_to_patch.Given as goal

abbrev pub invariant-loop-at : goal.invariant-loop-at
invariant-loop-at l = record {
  grown : Extends l.fn.graph l.graph;
  y : l.self.y ≡ l.fn.self.y;
  rounds : l.self.rounds ≡ l.fn.self.rounds;
  class : IsPlacedClass l.known.table.now.rows l.graph l.places l.self;
  pairs : ArePatches l.known.table.now.rows l.own.values.now
      (point_bits l.known.points.now) l.graph l.places l.own.y l.own.place
      (take l.at l.fn.self.rounds.items) l.pairs.items;
}
