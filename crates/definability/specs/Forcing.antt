-- What a call answers that asks whether an existential is forced to have a bit at a row.
use Rattle.std.specs.Prelude.{◌≡◌, Bool, true, not, List}
use Rattle.dq_lits.specs.Expansion.{row_assignment}
use Rattle.dq_lits.specs.Formula.{Dqbf, Existential}
use Rattle.dq_lits.specs.Henkin.{restriction}
use Rattle.dq_formula.specs.Rules.{IsRule, cube_true}
use Rattle.dq_formula.specs.declared.rules.Rule.{Rule}
use Rattle.hint_log.specs.Naming.{round_assignment}
use Rattle.definability.specs.Defining.{IsSample}
use Rattle.definability.specs.declared.forcing.Forced.{Forced}
use Rattle.definability.specs.declared.forcing.Forced.TheVariants.{Rule as ByRule, Loose}

-- a rule that forces the existential to this bit, and whose cube is true at the row
pub record IsForcedBy (f : Dqbf) (y : Existential) (row : List Bool) (bit : Bool)
    (rule : Rule) : Type 0 where
  pub variable_is : rule.y ≡ y.variable
  pub bit_is : rule.bit ≡ bit
  pub at_row : cube_true (row_assignment f row) rule.cube ≡ true
  pub is_rule : IsRule f rule

-- a sample that gives the existential the same bits to see as the row does, and in which it has the
-- other bit
pub record IsLoose (f : Dqbf) (y : Existential) (row : List Bool) (bit : Bool)
    (other values : List Bool) : Type 0 where
  pub sample : IsSample f other values
  pub agree : restriction y (row_assignment f other) ≡ restriction y (row_assignment f row)
  pub differs : round_assignment f other values y.variable ≡ not bit

-- the answer is right
abbrev pub IsForced : Dqbf → Existential → List Bool → Bool → Forced → Type 0
IsForced f y row bit (ByRule rule) = IsForcedBy f y row bit rule
IsForced f y row bit (Loose other values) = IsLoose f y row bit other values
