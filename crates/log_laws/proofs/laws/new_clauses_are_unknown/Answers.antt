use Rattle.std.proofs.lemmas.Bool.{cases_Bool}
use Rattle.std.proofs.Common.{inl, inr}
use Rattle.dq_lits.specs.Literal.{opposite}
use Rattle.dq_lits.specs.Derivation.{holds}
use Rattle.log_laws.proofs.SettledClauses.{beside, unknown}
use Rattle.log_laws.proofs.laws.new_clauses_are_unknown.Goals as goal

pub returns : goal.returns
returns c earlier clause new = record {
  consistent = λ l h. elim (cases_Bool (holds clause (opposite l)))
      [ inl both ↦ absurd (beside earlier clause new l h both) | inr none ↦ none ];
  unknown = unknown earlier clause new;
}
