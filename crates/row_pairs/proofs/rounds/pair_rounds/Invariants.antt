use Rattle.row_pairs.specs.Pairs.{ArePairRounds}
use Rattle.row_pairs.proofs.rounds.pair_rounds.Given as goal

abbrev pub invariant-loop-k : goal.invariant-loop-k
invariant-loop-k l = ArePairRounds l.table.rows l.places l.k l.list.rounds.items
