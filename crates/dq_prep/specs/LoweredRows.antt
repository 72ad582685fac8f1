-- A row under which the clause of a formula says what is left of it says under another row.
use Rattle.std.specs.Prelude.{◌≡◌, ℕ, Bool, true, false, not, ◌&&◌, List, map, Some, if◌then◌else◌}
use Rattle.std.specs.List.{list_any}
use Rattle.dq_lits.specs.Literal.{Assignment, Literal, positive, negative, variable_of}
use Rattle.dq_lits.specs.Formula.{Existential, Dqbf, is_universal, existential_of, IsWellFormed}
use Rattle.dq_lits.specs.Derivation.{holds, is_tautology}
use Rattle.dq_lits.specs.Expansion.{row_assignment, universal_literal_true, agree_on}
use Rattle.dq_prep.specs.declared.traces.Taken.{Taken}
use Rattle.dq_prep.specs.Reduction.{is_seen}
use Rattle.dq_prep.specs.Units.{taken_literals, without_false, is_satisfied, left_of, AreUnits}

-- universal reduction takes the literals on the variable
abbrev pub is_lost : Dqbf → List Literal → ℕ → Bool
is_lost f clause v = is_universal f v && not (is_seen f clause v)

-- the same bits, but that the literals which universal reduction takes are false
abbrev pub lowered : Dqbf → List Literal → Assignment → Assignment
lowered f clause m v =
    if is_lost f clause v && holds clause (negative v) then true
    else (if is_lost f clause v && holds clause (positive v) then false else m v)

abbrev pub lowered_row : Dqbf → List Literal → List Bool → List Bool
lowered_row f clause row = map (lowered f clause (row_assignment f row)) f.universals

-- where what is left of a clause has no true universal literal under a row, the clause has none under
-- the lowered row, and existentials whose literals aren't false see the same bits there
abbrev pub LoweredRowsServe : Type 0
LoweredRowsServe =
    (f : Dqbf) (units : List Taken) (clause : List Literal) (row : List Bool) → IsWellFormed f
    → AreUnits f units → is_satisfied (taken_literals units) clause ≡ false
    → is_tautology clause ≡ false
    → list_any (universal_literal_true f row) (left_of f (taken_literals units) clause) ≡ false
    → (list_any (universal_literal_true f
    (lowered_row f (without_false (taken_literals units) clause) row)) clause ≡ false)
    × ((l : Literal) (y : Existential) → holds (without_false (taken_literals units) clause) l ≡ true
    → existential_of f (variable_of l) ≡ Some y
    → agree_on f y row (lowered_row f (without_false (taken_literals units) clause) row) ≡ true)
