-- Lines of a lifted refutation, and which clauses stand behind them.
use Rattle.std.specs.Prelude.{◌≡◌, ◌≤◌, ◌<◌, ◌+◌, ◌*◌, ℕ, Bool, List, [], ◌∷◌, length, map, Some}
use Rattle.std.specs.List.{filter_map}
use Rattle.dq_lits.specs.Literal.{Literal, variable_of, on_variable}
use Rattle.dq_lits.specs.Formula.{Dqbf}
use Rattle.dq_lits.specs.Derivation.{LiveClauses, with_clause, IsDerived, ProofStep}
use Rattle.dq_lits.specs.Expansion.{pair_literal, instance_at}
use Rattle.dq_prep.specs.declared.traces.Taken.{Taken}
use Rattle.dq_prep.specs.Roles.{open_literals}
use Rattle.cert_text.specs.Grammar.{AreSteps}
use Rattle.cert_text.specs.Pairs.{is_pair_number}
use Rattle.cert_text.specs.Scan.{first_id}
use Rattle.refutation_checker.specs.Pairs.{pair_of}
use Rattle.refutation_checker.specs.Refutation.{normal_step}
use Rattle.refutation_checker.specs.Rows.{row_of}
use Rattle.lifted_proofs.specs.UnitTables.{first_literals}
use Rattle.lifted_proofs.specs.Goals.{clause_at, left_by}
use Rattle.lifted_proofs.specs.declared.goals.Goal.{Goal}

-- what is left, as an instance under the goal's row
abbrev pub goal_line : Dqbf → List Taken → List (List Bool) → Goal → List Literal
goal_line f units rows g =
    filter_map (pair_literal f rows (row_of rows g.row)) (left_by f units g.source)

-- a literal on the pair of its existential with a row
abbrev pub paired : Dqbf → List (List Bool) → List Bool → Literal → Literal
paired f rows row l = on_variable (pair_of f rows row (variable_of l)) l

-- the same by the row's own number
abbrev pub numbered_literal : Dqbf → ℕ → Literal → Literal
numbered_literal f row l = on_variable (row * f.variables + variable_of l) l

-- the literals of a goal's line, as they are written
abbrev pub written_literals : Dqbf → List Taken → Goal → List Literal
written_literals f units g =
    map (numbered_literal f g.row)
    (open_literals f (first_literals units g.source.taken) (clause_at f g.source.place))

abbrev pub behind_steps : LiveClauses → List ProofStep → LiveClauses
behind_steps live [] = live
behind_steps live (s ∷ ss) = behind_steps (with_clause live s.id s.literals) ss

abbrev pub AreDerived : LiveClauses → List ProofStep → Type 0
AreDerived live [] = Unit {0}
AreDerived live (s ∷ ss) =
    IsDerived live s.literals s.hints × AreDerived (with_clause live s.id s.literals) ss

abbrev pub normal_steps : Dqbf → List (List Bool) → List ProofStep → List ProofStep
normal_steps f rows steps = map (normal_step f rows) steps

-- lines so far, each derived from the instances and the lines before it
pub record AreLines (f : Dqbf) (rows : List (List Bool)) (steps : List ProofStep) : Type 0 where
  pub derived : AreDerived (instance_at f rows) (normal_steps f rows steps)
  pub allowed : AreSteps (is_pair_number f (length rows)) (first_id f (length rows)) steps

-- the id has the goal's clause
pub record HasLine (f : Dqbf) (units : List Taken) (rows : List (List Bool))
    (steps : List ProofStep) (g : Goal) (id : ℕ) : Type 0 where
  pub from_one : 1 ≤ id
  pub before : id < first_id f (length rows) + length steps
  pub is : behind_steps (instance_at f rows) (normal_steps f rows steps) id
      ≡ Some (goal_line f units rows g)
