use Rattle.std.proofs.Common.{◌≡◌, ◌<◌, ℕ, suc, true, false, length, slice_index_or}
use Rattle.dq_lits.specs.Literal.{positive}
use Rattle.learning_trail.specs.Steps.{literals_of}
use Rattle.dq_lits.specs.Truth.{literal_value}
use Rattle.dq_lits.specs.declared.truth_values.TruthValue.TheVariants.{True}
use Rattle.learning_trail.proofs.models.keep_values.Given as goal

abbrev pub invariant-loop-i : goal.invariant-loop-i
invariant-loop-i l = record {
  len : length l.model ≡ length l.fn.model;
  values : (j : ℕ) → j < l.i → (slice_index_or l.model j false ≡ true →
      literal_value (literals_of l.trail.steps) (positive (suc j)) ≡ True)
      × (literal_value (literals_of l.trail.steps) (positive (suc j)) ≡ True → slice_index_or l.model j false ≡ true);
}
