-- Lines that are held: ids with clauses, the ids in ascending order.
use Rattle.std.specs.Prelude.{ℕ, zero, suc, ◌+◌, ◌==◌, List, [], ◌∷◌, ◌++◌, Option, None, Some, if◌then◌else◌}
use Rattle.dq_lits.specs.Literal.{Literal}

-- the clause that has an id
abbrev pub clause_of_id : List (ℕ × List Literal) → ℕ → Option (List Literal)
clause_of_id [] id = None
clause_of_id (line ∷ lines) id = if line.0 == id then Some line.1 else clause_of_id lines id

-- Words of private contracts: the lines whose clauses stand at places from 0 on, where the place 0
-- has the id `first`.

abbrev pub line_at : ℕ → Option (List Literal) → List (ℕ × List Literal)
line_at id None = []
line_at id (Some clause) = (id, clause) ∷ []

abbrev pub lines_below : ℕ → ℕ → (ℕ → Option (List Literal)) → List (ℕ × List Literal)
lines_below first zero at = []
lines_below first (suc n) at = lines_below first n at ++ line_at (first + n) (at n)
