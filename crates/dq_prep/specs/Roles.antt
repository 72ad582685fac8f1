-- What the literals of a clause are where some literals were taken.
use Rattle.std.specs.Prelude.{◌≡◌, ◌≤◌, Bool, true, false, not, ◌&&◌, List, [], ◌∷◌, length, if◌then◌else◌}
use Rattle.std.specs.List.{filter}
use Rattle.dq_lits.specs.Literal.{Literal, variable_of, opposite}
use Rattle.dq_lits.specs.Formula.{Dqbf, is_universal}
use Rattle.dq_lits.specs.Derivation.{holds}
use Rattle.dq_lits.specs.declared.truth_values.TruthValue.{TruthValue}
use Rattle.dq_lits.specs.declared.truth_values.TruthValue.TheVariants.{True as IsTrueValue, False as IsFalseValue, Unassigned}
use Rattle.dq_prep.specs.declared.roles.Role.{Role}
use Rattle.dq_prep.specs.declared.roles.Role.TheVariants.{Universal, True, False, Open}
use Rattle.dq_prep.specs.declared.roles.Opens.{Opens}
use Rattle.dq_prep.specs.declared.roles.Opens.TheVariants.{Satisfied, Nothing, One, More}
use Rattle.dq_prep.specs.Units.{is_satisfied}

abbrev pub is_true_role : Role → Bool
is_true_role Universal = false
is_true_role True = true
is_true_role False = false
is_true_role Open = false

abbrev pub is_false_role : Role → Bool
is_false_role Universal = false
is_false_role True = false
is_false_role False = true
is_false_role Open = false

-- of a literal on an existential with this value, by its sign
abbrev pub role_by : TruthValue → Bool → Role
role_by Unassigned negative = Open
role_by IsTrueValue negative = if negative then False else True
role_by IsFalseValue negative = if negative then True else False

-- of a literal on an existential
abbrev pub truth_role : List Literal → Literal → Role
truth_role trues l =
    if holds trues l then True else (if holds trues (opposite l) then False else Open)

abbrev pub role_of : Dqbf → List Literal → Literal → Role
role_of f trues l = if is_universal f (variable_of l) then Universal else truth_role trues l

-- a literal on an existential that isn't false
abbrev pub is_open : Dqbf → List Literal → Literal → Bool
is_open f trues l = not (is_universal f (variable_of l)) && not (holds trues (opposite l))

abbrev pub open_literals : Dqbf → List Literal → List Literal → List Literal
open_literals f trues clause = filter (is_open f trues) clause

-- of a clause that is satisfied or not, and has these open literals
abbrev pub IsOpening : Bool → List Literal → Opens → Type 0
IsOpening satisfied open_ones Satisfied = satisfied ≡ true
IsOpening satisfied open_ones Nothing = (satisfied ≡ false) × (open_ones ≡ [])
IsOpening satisfied open_ones (One l) = (satisfied ≡ false) × (open_ones ≡ l ∷ [])
IsOpening satisfied open_ones More = 2 ≤ length open_ones

abbrev pub AreOpen : Dqbf → List Literal → List Literal → Opens → Type 0
AreOpen f trues clause opens =
    IsOpening (is_satisfied trues clause) (open_literals f trues clause) opens

-- with one more literal, of this role
abbrev pub with_open : Opens → Literal → Opens
with_open Satisfied l = Satisfied
with_open Nothing l = One l
with_open (One _) l = More
with_open More l = More

abbrev pub with_role : Opens → Role → Literal → Opens
with_role opens Universal l = opens
with_role opens False l = opens
with_role opens True l = Satisfied
with_role opens Open l = with_open opens l
