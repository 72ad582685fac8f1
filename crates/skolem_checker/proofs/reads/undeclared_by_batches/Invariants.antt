use Rattle.std.proofs.Common.{◌≡◌, ℕ, ◌*◌, ◌<◌, length}
use Rattle.skolem_checker.specs.Checks.{existential_at, ReadsDeclaredBefore}
use Rattle.skolem_checker.specs.Cones.{IsCone}
use Rattle.skolem_checker.specs.Reads.{HasWords}
use Rattle.skolem_checker.specs.Tables.{ReadsByTables}
use Rattle.skolem_checker.proofs.reads.undeclared_by_batches.Given as goal

abbrev pub invariant-loop-batch : goal.invariant-loop-batch
invariant-loop-batch l = record {
  words : HasWords l.tested.circuit.now l.tested.formula.now l.words;
  settled : l.words.settled.items ≡ l.fn.words.settled.items;
  cone : IsCone l.tested.formula.now l.tested.circuit.now l.tested.literals.now l.words.reached.items l.words.cone;
  first : (p : ℕ) → p < l.batch * 64 → p < length l.tested.formula.now.existentials
      → ReadsDeclaredBefore (ReadsByTables l.tested.circuit.now l.tested.literals.now l.places) l.tested.formula.now
      (existential_at l.tested.formula.now p) (length l.tested.formula.now.universals);
}
