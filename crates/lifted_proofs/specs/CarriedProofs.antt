-- Lines of a circuit's proof over what is left of a formula, by the ids and variables of the formula.
use Rattle.std.specs.Prelude.{ℕ, ◌+◌, ◌-◌, nat_le, List, length, map, slice_index_or, if◌then◌else◌}
use Rattle.dq_lits.specs.Literal.{Literal, variable_of, on_variable}
use Rattle.dq_lits.specs.Derivation.{ProofStep}

-- What ids and variables of the one negated matrix become in the other.
pub record Carrying : Type 0 where
  -- how many ids the gates' clauses have, and the circuit's largest variable
  pub gates : ℕ
  pub largest : ℕ
  -- the places of the clauses that are kept, among so many
  pub places : List ℕ
  pub clauses : ℕ
  -- the ids of the clauses that literals of kept clauses are false
  pub ids : List ℕ
  -- the id of the line that some clause which is kept is false; the proof's own lines come next
  pub some_false : ℕ

-- a variable of the circuit stays, and one of a clause is that of the clause's place
abbrev pub carried_variable : ℕ → ℕ → List ℕ → ℕ → ℕ
carried_variable largest clauses places v =
    if nat_le v largest then v
    else largest + 1 + slice_index_or places (v - largest - 1) (v - largest - 1 + clauses)

abbrev pub carried_literal : Carrying → Literal → Literal
carried_literal c l =
    on_variable (carried_variable c.largest c.clauses c.places (variable_of l)) l

abbrev pub carried_id : Carrying → ℕ → ℕ
carried_id c id =
    if nat_le id c.gates then id
    else slice_index_or c.ids (id - c.gates - 1) (id - c.gates - 1 - length c.ids + c.some_false)

abbrev pub carried_line : Carrying → ProofStep → ProofStep
carried_line c step = record {
  id = carried_id c step.id;
  literals = map (carried_literal c) step.literals;
  hints = map (carried_id c) step.hints;
}
