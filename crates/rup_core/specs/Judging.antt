-- A line that is judged hint by hint, the hinted clauses handed in one by one.
use Rattle.std.specs.Prelude.{Bool, true, false, not, ◌&&◌, List, [], ◌∷◌, map, Option}
use Rattle.dq_lits.specs.Literal.{Literal, opposite}
use Rattle.dq_lits.specs.Derivation.{ClauseStatus, falsified, unit, stuck, status_of, is_tautology}
use Rattle.rup_core.specs.declared.progress.Progress.{Progress}
use Rattle.rup_core.specs.declared.progress.Progress.TheVariants.{Going, Refuted, Faulty}

-- the clauses that have the hinted ids; none where no clause has one
abbrev pub Hinted : Type 0
Hinted = List (Option (List Literal))

abbrev pub is_last : Hinted → Bool
is_last [] = true
is_last (_ ∷ _) = false

-- each clause but the last propagates, and the last one is falsified
abbrev pub refute_by : ClauseStatus → Bool → (Literal → Bool) → Bool
refute_by falsified last next = last
refute_by (unit l) last next = next l
refute_by stuck last next = false

abbrev pub refute : List Literal → Hinted → Bool
refute trues [] = false
refute trues (clause ∷ clauses) =
    refute_by (status_of trues clause) (is_last clauses) (λ l. refute (l ∷ trues) clauses)

-- the line is derived by these clauses
abbrev pub derive_line : List Literal → Hinted → Bool
derive_line literals clauses =
    not (is_tautology literals) && refute (map opposite literals) clauses

-- what is true now, and how the hints so far stand
pub record LineState : Type 0 where
  pub trues : List Literal
  pub progress : Progress

abbrev pub no_line : LineState
no_line = record { trues = []; progress = Faulty }

abbrev pub refute_from : Progress → List Literal → Hinted → Bool
refute_from Going trues clauses = refute trues clauses
refute_from Refuted trues clauses = is_last clauses
refute_from Faulty trues clauses = false

-- whether the line is derived if these clauses are hinted next
abbrev pub is_derived_by : LineState → Hinted → Bool
is_derived_by line clauses = refute_from line.progress line.trues clauses

abbrev pub is_faulty_so_far : Progress → Bool
is_faulty_so_far Going = false
is_faulty_so_far Refuted = false
is_faulty_so_far Faulty = true

-- whichever clauses are hinted next, the line isn't derived
abbrev pub is_faulty : LineState → Bool
is_faulty line = is_faulty_so_far line.progress

-- by the next clause's status
abbrev pub refute_next : Progress → ClauseStatus → List Literal → Hinted → Bool
refute_next Going status trues clauses =
    refute_by status (is_last clauses) (λ l. refute (l ∷ trues) clauses)
refute_next Refuted status trues clauses = false
refute_next Faulty status trues clauses = false
