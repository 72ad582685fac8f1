-- The value of a literal where some literals are true.
use Rattle.std.specs.Prelude.{◌≡◌, Bool, true, false, List, if◌then◌else◌}
use Rattle.dq_lits.specs.Literal.{Literal, opposite}
use Rattle.dq_lits.specs.Derivation.{holds}
use Rattle.dq_lits.specs.declared.truth_values.TruthValue.{TruthValue}
use Rattle.dq_lits.specs.declared.truth_values.TruthValue.TheVariants.{True, False, Unassigned}

abbrev pub literal_value : List Literal → Literal → TruthValue
literal_value trues l =
    if holds trues (opposite l) then False else (if holds trues l then True else Unassigned)

-- neither the literal nor its negation is true
abbrev pub IsFree : List Literal → Literal → Type 0
IsFree trues l = (holds trues l ≡ false) × (holds trues (opposite l) ≡ false)

abbrev pub is_assigned : TruthValue → Bool
is_assigned True = true
is_assigned False = true
is_assigned Unassigned = false
