-- The values that a trail gives are a model, where a search found that all is true.
use Rattle.std.proofs.Common.{◌≡◌, true, List, refl, ap}
use Rattle.std.proofs.lemmas.Bool.{false≢true}
use Rattle.dq_lits.specs.Literal.{Literal, positive}
use Rattle.hint_log.specs.Entries.{ProofLog, clause_at}
use Rattle.oracle.specs.Calls.{IsModelUnder}
use Rattle.dq_lits.specs.Truth.{literal_value}
use Rattle.dq_lits.specs.declared.truth_values.TruthValue.{TruthValue}
use Rattle.dq_lits.specs.declared.truth_values.TruthValue.TheVariants.{True, False, Unassigned}
use Rattle.learning_trail.specs.Growing.{HasLearned}
use Rattle.learning_trail.specs.Resting.{HeldFit}
use Rattle.learning_trail.specs.Searching.{Searched, AreAssumptions, IsSatisfied}
use Rattle.learning_trail.specs.Steps.{literals_of}
use Rattle.learning_trail.proofs.FoundModels.{found_model}
use Rattle.cdcl_core.specs.Solver.{is_on, value_on}

on_is_true : (value : TruthValue) → is_on value ≡ true → value ≡ True
on_is_true True e = refl
on_is_true False e = absurd (false≢true e)
on_is_true Unassigned e = absurd (false≢true e)

pub found_on_trail : (assumptions : List Literal) (s : Searched) (old new : ProofLog) →
    HeldFit s.clauses s.resting s.variables new.entries → HasLearned old new → AreAssumptions old assumptions →
    IsSatisfied assumptions s → IsModelUnder (value_on s.trail.steps) (clause_at new.entries) assumptions
found_on_trail assumptions s old new fit learned are satisfied =
    found_model assumptions s (value_on s.trail.steps) old new fit learned are satisfied (λ v low high. (
      on_is_true (literal_value (literals_of s.trail.steps) (positive v)),
      λ e. ap is_on e,
    ))
