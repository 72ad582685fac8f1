use Rattle.std.proofs.Common.{◌≡◌, ◌+◌, length, []}
use Rattle.refutation_checker.specs.Bindings.{AreBindings}
use Rattle.refutation_checker.proofs.bindings.bind_universals.Given as goal

abbrev pub invariant-loop-x : goal.invariant-loop-x
invariant-loop-x l = (length l.of.items ≡ l.f.variables + 1) × AreBindings l.f [] l.of.items 0
