-- A derivation of the empty clause from the instances shows that no choice solves the formula.
use Rattle.std.proofs.Common.{◌≡◌, ℕ, zero, suc, ◌/◌, ◌%◌, Bool, true, List, length, Option, Some, None, sym, ◌∙◌, ap, subst}
use Rattle.std.proofs.lemmas.Option.{slice_get_within, get_or_from_slice_get}
use Rattle.std.specs.List.{All, slice_get}
use Rattle.std.specs.Option.{option_and_then}
use Rattle.list_laws.proofs.Options.{then_some}
use Rattle.dq_lits.specs.Literal.{Assignment, Literal, clause_true}
use Rattle.dq_lits.specs.Formula.{Dqbf}
use Rattle.dq_lits.specs.Expansion.{instance_clause, instance_at, InstanceHolds, IsExpansionModel, IsExpansionUnsatisfiable}
use Rattle.dq_lits.specs.Derivation.{ProofStep, MakesTrue, Derives}
use Rattle.dq_lits.proofs.Derivations.{derivation_refutes}

pub clause_holds : (m : Assignment) (o : Option (List Literal)) (clause : List Literal) → InstanceHolds m o →
    o ≡ Some clause → clause_true m clause ≡ true
clause_holds m None clause h is = cc
clause_holds m (Some c) clause h is = let same : c ≡ clause = cc in ap (clause_true m) (sym same) ∙ h

-- what holds of each element holds of one that is found
found_holds : {X : Type 0} (P : X → Type 0) (xs : List X) (i : ℕ) (x : X) → All P xs → slice_get xs i ≡ Some x → P x
found_holds P xs i x all is = subst P (get_or_from_slice_get xs i x x is) (all i x (slice_get_within xs i x is))

-- a model of the expansion makes every instance true
pub model_makes_true : (f : Dqbf) (rows : List (List Bool)) (m : Assignment) → IsExpansionModel f rows m →
    MakesTrue m (instance_at f rows)
model_makes_true f rows m model zero clause is = cc
model_makes_true f rows m model (suc i) clause is =
    let j = i % length f.matrix in
    let k = i / length f.matrix in
    let at_row = then_some (λ row. option_and_then (instance_clause f rows row) (slice_get f.matrix j))
    (slice_get rows k) clause is in
    let row = at_row.0 in
    let at_clause = then_some (instance_clause f rows row) (slice_get f.matrix j) clause at_row.2 in
    let Holds : List Literal → Type 0 = λ c. InstanceHolds m (instance_clause f rows row c) in
    let AllHold : List Bool → Type 0 = λ r. All (λ c. InstanceHolds m (instance_clause f rows r c)) f.matrix in
    clause_holds m (instance_clause f rows row at_clause.0) clause
    (found_holds Holds f.matrix j at_clause.0 (found_holds AllHold rows k row model at_row.1) at_clause.1)
    at_clause.2

pub derivation_refutes_expansion : (f : Dqbf) (rows : List (List Bool)) (steps : List ProofStep) →
    Derives (instance_at f rows) steps → IsExpansionUnsatisfiable f rows
derivation_refutes_expansion f rows steps derives m model = derivation_refutes (instance_at f rows) steps derives m
    (model_makes_true f rows m model)
