use Rattle.std.proofs.Common.{◌≡◌, drop}
use Rattle.refutation_checker.specs.Rows.{agree_over}
use Rattle.refutation_checker.proofs.row_trees.first_difference.Given as goal

abbrev pub invariant-loop-x : goal.invariant-loop-x
invariant-loop-x l = agree_over l.f (drop l.x-index l.sees) l.first l.second ≡ agree_over l.f l.sees l.first l.second
