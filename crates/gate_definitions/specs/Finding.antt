-- What is found of an existential.
use Rattle.std.specs.Prelude.{◌≡◌, ℕ, List}
use Rattle.dq_lits.specs.Literal.{variable_of}
use Rattle.dq_lits.specs.Formula.{Existential, Dqbf}
use Rattle.gate_definitions.specs.declared.forms.Gate.{Gate}
use Rattle.gate_definitions.specs.declared.forms.Gate.TheVariants.{Conjunction, Choice}
use Rattle.gate_definitions.specs.Stating.{IsConjunction, IsChoice}

-- the clauses say so of the existential with this variable
abbrev pub IsGate : Dqbf → List ℕ → ℕ → Existential → Gate → Type 0
IsGate f ranks y e (Conjunction l cube) =
    (variable_of l ≡ y) × IsConjunction f ranks e l cube.items
IsGate f ranks y e (Choice choice) = IsChoice f ranks e choice
