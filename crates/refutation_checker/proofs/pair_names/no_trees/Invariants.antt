use Rattle.std.proofs.Common.{◌≡◌, [], replicate}
use Rattle.refutation_checker.proofs.pair_names.no_trees.Given as goal

abbrev pub invariant-loop : goal.invariant-loop
invariant-loop l = l.trees.items ≡ replicate l.counter []
