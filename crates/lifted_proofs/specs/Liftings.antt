-- Words of private contracts: what a lifting keeps, and what its ids are.
use Rattle.std.specs.Prelude.{◌≡◌, ℕ, ◌<◌, ◌≤◌, ◌==◌, ◌⊎◌, ◌+◌, true, false, List, [], ◌∷◌, ◌++◌, length, reverse, take, drop, Option, None, Some, slice_index, slice_index_or, Bool, ◌≢◌}
use Rattle.std.specs.List.{AllZip, list_any, slice_get}
use Rattle.dq_lits.specs.Literal.{Literal, opposite}
use Rattle.dq_lits.specs.Formula.{Dqbf}
use Rattle.dq_lits.specs.Derivation.{holds, ProofStep}
use Rattle.cert_text.specs.CircuitProof.{first_proof_id}
use Rattle.cert_text.specs.NegatedMatrix.{literal_under, falsity_clauses}
use Rattle.dq_prep.specs.declared.traces.Taken.{Taken}
use Rattle.dq_prep.specs.Units.{taken_literals}
use Rattle.skolem_checker.specs.Checks.{Candidate}
use Rattle.proof_checker.specs.CircuitProof.{circuit_literal}
use Rattle.lifted_proofs.specs.Goals.{clause_at}
use Rattle.lifted_proofs.specs.KeptPlaces.{IsPart, kept_places}
use Rattle.lifted_proofs.specs.Liftables.{IsLiftable, IsLiteralId, lifted_base, left_falsities, AreLiftedNames, some_false_line, weaker_line, falsity}
use Rattle.lifted_proofs.specs.NamedIds.{IsTrueBy}
use Rattle.lifted_proofs.specs.NegatedBases.{AreLengthsBefore, IsBaseOf}
use Rattle.lifted_proofs.specs.UnitTables.{IsUnitTable}
use Rattle.lifted_proofs.specs.declared.liftings.Lifting.{Lifting}
use Rattle.lifted_proofs.specs.declared.names.Named.{Named}

abbrev pub formula_of : Lifting → Dqbf
formula_of l = l.table.now.formula.now

abbrev pub units_of : Lifting → List Taken
units_of l = reverse l.table.now.units.now

pub record IsLifting (l : Lifting) : Type 0 where
  pub right : IsUnitTable l.table.now
  pub can : IsLiftable (formula_of l) (units_of l) l.bench.now
  pub outputs : l.outputs ≡ l.bench.now.circuit.mapping.outputs
  pub kept : l.kept.items ≡ kept_places (formula_of l) (units_of l)
  pub before : AreLengthsBefore (formula_of l).matrix l.before.items
  pub base : IsBaseOf (formula_of l) l.bench.now.circuit.netlist l.base

-- an existential has an output, and no input
pub record HasOutput (c : Candidate) (v : ℕ) : Type 0 where
  pub no_input : list_any (λ x. x == v) c.circuit.mapping.inputs ≡ false
  pub output : list_any (λ y. y == v) c.circuit.mapping.outputs ≡ true
  pub enough : length c.circuit.mapping.outputs ≤ length c.circuit.netlist.outputs

-- a literal that wasn't taken, or was constant; or what it was
abbrev pub IsSettledBy : Candidate → List Literal → Literal → Option ℕ → Type 0
IsSettledBy c trues l None =
    (holds trues l ≡ false) ⊎ (literal_under (circuit_literal c.circuit) l < 2)
IsSettledBy c trues l (Some was) =
    (was ≡ literal_under (circuit_literal c.circuit) l) × (2 ≤ was) × (holds trues l ≡ true)

abbrev pub IsSettledFrom : Lifting → Literal → Option ℕ → Type 0
IsSettledFrom l literal was = IsSettledBy l.bench.now (taken_literals (units_of l)) literal was

-- a literal of the kept clause at a place, with its id in the formula
pub record IsNameable (l : Lifting) (j : ℕ) (literal : Literal) (id : ℕ) : Type 0 where
  pub place : ℕ
  pub at : slice_get (kept_places (formula_of l) (units_of l)) j ≡ Some place
  pub is : IsLiteralId (formula_of l) l.bench.now place literal id
  pub none_false : holds (taken_literals (units_of l)) (opposite literal) ≡ false
  pub before : id < first_proof_id (formula_of l) l.bench.now.circuit.netlist

-- ids and lines for these clauses
abbrev pub AreNamedIn : Lifting → List (List ℕ) → Named → Type 0
AreNamedIn l falsities w =
    AreLiftedNames (formula_of l) (units_of l) l.bench.now falsities w.ids.items w.steps

-- the clause that a literal of a kept clause is false is named, too
abbrev pub NamesMore : Lifting → ℕ → Literal → Named → Named → Type 0
NamesMore l j literal old new = (falsities : List (List ℕ)) → AreNamedIn l falsities old
    → AreNamedIn l (falsities ++ falsity (circuit_literal l.bench.now.circuit)
    (l.bench.now.circuit.netlist.max_var + 1 + j) literal ∷ []) new

-- those of the first kept clauses, so many
abbrev pub AreFirstNamed : Lifting → ℕ → Named → Type 0
AreFirstNamed l j w =
    AreNamedIn l (left_falsities l.bench.now (take j l.bench.now.formula.matrix)) w

abbrev pub left_at : Lifting → ℕ → List Literal
left_at l j = slice_index_or l.bench.now.formula.matrix j []

abbrev pub place_at : Lifting → ℕ → ℕ
place_at l j = slice_index l.kept.items j

-- behind them those of the first literals, so many, that are left of the next clause, which are found
-- among the first ones of the formula's clause
pub record IsNaming (l : Lifting) (j found q : ℕ) (w : Named) : Type 0 where
  pub named : AreNamedIn l
      (left_falsities l.bench.now (take j l.bench.now.formula.matrix)
      ++ falsity_clauses (circuit_literal l.bench.now.circuit)
      (l.bench.now.circuit.netlist.max_var + 1 + j) (take found (left_at l j))) w
  pub rest : IsPart (drop found (left_at l j)) (drop q (clause_at (formula_of l) (place_at l j)))
  pub low : found ≤ length (left_at l j)

-- whether the next literal of them is this one
abbrev pub IsNextLeft : Lifting → ℕ → ℕ → Literal → Bool → Type 0
IsNextLeft l j found literal true = slice_get (left_at l j) found ≡ Some literal
IsNextLeft l j found literal false =
    (other : Literal) → slice_get (left_at l j) found ≡ Some other → other ≢ literal

-- a name by a line, with a hint
pub record IsNamedBy (l : Lifting) (j was hint : ℕ) (old new : Named) : Type 0 where
  pub steps : new.steps
      ≡ old.steps ++ weaker_line (formula_of l) l.bench.now (place_at l j) was hint old.steps ∷ []
  pub ids : new.ids.items ≡ old.ids.items ++ (l.base.first + length old.steps) ∷ []

-- by clause that goes, the id of a literal that is true
abbrev pub AreTrueIds : Lifting → List ℕ → List ℕ → Type 0
AreTrueIds l places ids =
    AllZip (IsTrueBy (lifted_base (formula_of l) (units_of l) l.bench.now)
    (l.bench.now.circuit.netlist.max_var + 1)
    (first_proof_id (formula_of l) l.bench.now.circuit.netlist)) places ids

-- the line that some clause which is kept is false, behind these
pub record AddsSomeFalse (l : Lifting) (dropped : List ℕ) (old new : List ProofStep) : Type 0 where
  pub hints : List ℕ
  pub are : AreTrueIds l dropped hints
  pub is : new ≡ old ++ some_false_line (formula_of l) (units_of l) l.bench.now hints old ∷ []
