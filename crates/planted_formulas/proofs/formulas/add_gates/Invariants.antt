use Rattle.std.proofs.Common.{◌≡◌, ◌+◌, ◌*◌, ◌<◌, ◌^◌}
use Rattle.planted_formulas.specs.Planted.{state_after, planted_gates, formula_of_gates}
use Rattle.planted_formulas.proofs.formulas.add_gates.Given as goal

abbrev pub invariant-loop-place : goal.invariant-loop-place
invariant-loop-place l = record {
  formula : l.f ≡ formula_of_gates (l.size + 1 + l.size) (l.size + 1) (planted_gates l.seed (l.size + 1) l.place);
  state : l.draws.state ≡ state_after l.seed (3 * l.place);
  fits : l.draws.state < 2 ^ 31;
}
