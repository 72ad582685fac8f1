-- The clauses from which a definition's proof derives the empty clause: the matrix, the gates
-- (Tseitin encoding; G. Tseitin, 1968), and that the existential and the output differ.
use Rattle.std.specs.Prelude.{ℕ, zero, suc, ◌-◌, ◌*◌, nat_lt, List, [], ◌∷◌, ◌++◌, length, None, if◌then◌else◌, slice_get}
use Rattle.std.specs.List.{flat_map}
use Rattle.std.specs.Option.{option_and_then}
use Rattle.dq_lits.specs.Derivation.{LiveClauses}
use Rattle.dq_lits.specs.Formula.{Dqbf}
use Rattle.cert_text.specs.DefinitionBlocks.{Definition}
use Rattle.cert_text.specs.NegatedMatrix.{gate_clauses, opposite_of, without_constants}

-- the clauses over AIGER's literals
abbrev pub definition_clauses : Definition → List (List ℕ)
definition_clauses d =
    flat_map gate_clauses d.gates
    ++ ((2 * d.existential ∷ d.output ∷ [])
    ∷ (opposite_of (2 * d.existential) ∷ opposite_of d.output ∷ []) ∷ [])

-- the clauses have the ids from 1 on, the matrix before the others
abbrev pub definition_base : Dqbf → Definition → LiveClauses
definition_base f d zero = None
definition_base f d (suc i) =
    if nat_lt i (length f.matrix) then slice_get f.matrix i else
    option_and_then without_constants
    (slice_get (definition_clauses d) (i - length f.matrix))
