use Rattle.std.proofs.Common.{◌≡◌, []}
use Rattle.planted_formulas.specs.Planted.{formula_of_gates}
use Rattle.planted_formulas.proofs.formulas.add_universals.Given as goal

abbrev pub invariant-loop-place : goal.invariant-loop-place
invariant-loop-place l = l.f ≡ formula_of_gates l.fn.f.variables l.place []
