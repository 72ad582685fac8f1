-- How many clauses the negated matrix has.
use Rattle.std.proofs.Common.{◌≡◌, ℕ, ◌+◌, ◌*◌, List, [], ◌∷◌, length, refl, arith, length-append}
use Rattle.std.specs.List.{flat_map, sum_by}
use Rattle.std.proofs.lemmas.List.{length-map}
use Rattle.std.proofs.lemmas.List.Sums.{sum_by-cons}
use Rattle.dq_lits.specs.Formula.{Dqbf}
use Rattle.dq_lits.specs.Literal.{Literal}
use Rattle.circuit_plain.specs.Netlist.{Netlist}
use Rattle.circuit_plain.specs.declared.circuits.Gate.{Gate}
use Rattle.cert_text.specs.NegatedMatrix.{gate_clauses, opposite_of, literal_under, falsity_clauses, all_falsity_clauses, negated_clauses, negated_clause_count}

pub gates_counted : (gates : List Gate) → length (flat_map gate_clauses gates) ≡ 3 * length gates
gates_counted [] = refl
gates_counted (g ∷ gates) = omega (arith, gates_counted gates)

pub falsity_counted : (circuit_literal : ℕ → ℕ) (bad : ℕ) (clauses : List (List Literal)) →
    length (all_falsity_clauses circuit_literal bad clauses) ≡ sum_by length clauses
falsity_counted circuit_literal bad [] = refl
falsity_counted circuit_literal bad (clause ∷ clauses) =
    let first : length (falsity_clauses circuit_literal bad clause) ≡ length clause =
    length-map clause (λ l. opposite_of (2 * bad) ∷ opposite_of (literal_under circuit_literal l) ∷ []) in
    omega (
      arith,
      length-append (falsity_clauses circuit_literal bad clause)
          (all_falsity_clauses circuit_literal (bad + 1) clauses),
      first,
      falsity_counted circuit_literal (bad + 1) clauses,
      sum_by-cons length clause clauses,
    )

pub clauses_counted : (f : Dqbf) (net : Netlist) (circuit_literal : ℕ → ℕ) →
    length (negated_clauses f net circuit_literal) ≡ negated_clause_count f net
clauses_counted f net circuit_literal = search (arith, length-append, gates_counted, falsity_counted)
