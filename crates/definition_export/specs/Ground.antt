-- Words of private contracts: origins whose clauses a block's proof may start from.
use Rattle.std.specs.Prelude.{ℕ, ◌≤◌, List, length}
use Rattle.std.specs.List.{Contains}
use Rattle.dq_lits.specs.Formula.{Dqbf}
use Rattle.hint_log.specs.declared.origins.Origin.{Origin}
use Rattle.hint_log.specs.declared.origins.Origin.TheVariants.{Copy, TermGate, Differ}

abbrev pub HasDefinitionId : Dqbf → List ℕ → Origin → Type 0
HasDefinitionId f gates (Copy side j) = j ≤ length f.matrix
HasDefinitionId f gates (TermGate v i) = Contains gates v × (i ≤ 3)
HasDefinitionId f gates (Differ y leaf part) = part ≤ 2
HasDefinitionId f gates _ = ⊥
