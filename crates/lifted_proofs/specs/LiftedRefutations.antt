-- Words of private contracts: refutations that are lifted.
use Rattle.std.specs.Prelude.{◌≡◌, Bool, false, List, length, map, reverse, None}
use Rattle.dq_lits.specs.Literal.{Literal}
use Rattle.dq_lits.specs.Derivation.{ProofStep}
use Rattle.dq_lits.specs.Expansion.{instance_at}
use Rattle.dq_prep.specs.Simplified.{kept_clauses, simplified_formula}
use Rattle.rup_core.specs.Items.{derived, items_fault}
use Rattle.cert_text.specs.Grammar.{AreSteps, IsDqrOf}
use Rattle.cert_text.specs.Pairs.{is_pair_number}
use Rattle.cert_text.specs.Scan.{first_id}
use Rattle.cert_text.specs.declared.refutations.Dqr.{Dqr}
use Rattle.refutation_checker.specs.Refutation.{refutation_fault, normal_item}
use Rattle.lifted_proofs.specs.declared.units.UnitTable.{UnitTable}

-- what is left of the matrix
abbrev pub kept_matrix : UnitTable → List (List Literal)
kept_matrix t = kept_clauses t.formula.now (reverse t.units.now) 0 t.formula.now.matrix

-- a refutation of what is left of the formula
pub record Refutes (t : UnitTable) (d : Dqr) : Type 0 where
  pub allowed : IsDqrOf (simplified_formula t.formula.now (reverse t.units.now)) d
  pub refutes : refutation_fault (simplified_formula t.formula.now (reverse t.units.now)) d ≡ None

-- lines of a refutation under these rows
pub record AreLifted (t : UnitTable) (rows : List (List Bool)) (steps : List ProofStep)
    : Type 0 where
  pub allowed : AreSteps (is_pair_number t.formula.now (length rows))
      (first_id t.formula.now (length rows)) steps
  pub refutes : items_fault false (instance_at t.formula.now rows)
      (map (normal_item t.formula.now rows) (map derived steps)) ≡ None
