use Rattle.std.proofs.Common.{◌≡◌, ◌<◌, ◌*◌, ◌^◌, ℕ, true, length}
use Rattle.skolem_checker.specs.Tables.{RowTest}
use Rattle.skolem_checker.proofs.rows.first_bad_row.Given as goal

abbrev pub invariant-loop-block : goal.invariant-loop-block
invariant-loop-block l = record {
  values_length : length l.values ≡ length l.initial.values;
  held : (j : ℕ) → j < 256 * l.block → j < 2 ^ length l.tested.formula.now.universals →
      RowTest l.tested.formula.now l.tested.circuit.now l.tested.literals.now l.places j true;
}
