-- Words of private contracts: the clauses of the negated matrix one at a time, in the forms that
-- take no memory.
use Rattle.std.specs.Prelude.{ℕ, ◌+◌, ◌==◌, not, List, map, length, Option, None, Some}
use Rattle.std.specs.List.{filter, range_with_len}
use Rattle.dq_lits.specs.Literal.{Literal, positive}
use Rattle.cert_text.specs.NegatedMatrix.{as_literal}
use Rattle.skolem_checker.specs.Checks.{Candidate}
use Rattle.proof_checker.specs.declared.negated.NegatedClause.{NegatedClause}
use Rattle.proof_checker.specs.declared.negated.NegatedClause.TheVariants.{Missing, Short, Last}

-- a circuit's literals without the false ones
abbrev pub kept_literals : List ℕ → List Literal
kept_literals literals = map as_literal (filter (λ l. not (l == 0)) literals)

-- a short clause stands for its literals
abbrev pub short_literals : List Literal → List Literal
short_literals clause = clause

-- the clause that some clause of the formula is false
abbrev pub last_literals : Candidate → List Literal
last_literals c =
    map (λ bad. positive bad)
    (range_with_len (c.circuit.netlist.max_var + 1) (length c.formula.matrix))

-- the literals of a clause in one of these forms
abbrev pub literals_of : Candidate → NegatedClause → Option (List Literal)
literals_of c Missing = None
literals_of c (Short clause) = Some (short_literals clause)
literals_of c Last = Some (last_literals c)
