-- How a clause stands, as its literals are read one by one.
use Rattle.std.specs.Prelude.{◌≡◌, ℕ, ◌≤◌, List}
use Rattle.dq_lits.specs.Literal.{Literal, variable_of}
use Rattle.dq_lits.specs.Derivation.{ClauseStatus, falsified, unit, stuck}
use Rattle.dq_lits.specs.Truth.{literal_value}
use Rattle.dq_lits.specs.declared.truth_values.TruthValue.TheVariants.{Unassigned}
use Rattle.rup_core.specs.declared.statuses.ClauseStatus.{ClauseStatus as Stands}
use Rattle.rup_core.specs.declared.statuses.ClauseStatus.TheVariants.{Falsified, Unit as UnitClause, Stuck}

abbrev pub seen : Stands → ClauseStatus
seen Falsified = falsified
seen (UnitClause l) = unit l
seen Stuck = stuck

-- the literal of a unit clause is unassigned
abbrev pub UnitIsFree : List Literal → ClauseStatus → Type 0
UnitIsFree trues falsified = Unit {0}
UnitIsFree trues (unit l) = literal_value trues l ≡ Unassigned
UnitIsFree trues stuck = Unit {0}

-- its variable is one up to n
abbrev pub UnitStandsWithin : ℕ → ClauseStatus → Type 0
UnitStandsWithin n falsified = Unit {0}
UnitStandsWithin n (unit l) = variable_of l ≤ n
UnitStandsWithin n stuck = Unit {0}
