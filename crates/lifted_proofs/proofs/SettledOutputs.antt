-- The literals of a circuit whose outputs are settled.
use Rattle.std.proofs.Common.{◌≡◌, ℕ, zero, suc, ◌+◌, ◌*◌, ◌<◌, ◌≤◌, ◌==◌, true, false, inl, inr, List, [], ◌∷◌, length, refl, sym, ◌∙◌, ap, arith}
use Rattle.std.specs.Prelude.{slice_index}
use Rattle.std.specs.List.{All, Contains, list_any, position_or_len}
use Rattle.std.proofs.lemmas.Bool.{true≢false, cases_eq, cases_Bool, eq-eqb, ne_eqb, or_cases}
use Rattle.std.proofs.lemmas.List.{length-map}
use Rattle.std.proofs.lemmas.List.Elements.{All-contains}
use Rattle.dq_lits.specs.Literal.{Literal, positive, negative, variable_of, opposite}
use Rattle.dq_lits.specs.Formula.{Dqbf, is_universal, IsWellFormed}
use Rattle.dq_lits.specs.Derivation.{holds}
use Rattle.dq_lits.proofs.Truth.{same_literal-sound}
use Rattle.dq_formula.specs.Prefix.{existential_variables}
use Rattle.dq_formula.proofs.Places.{has-contains, contains-has}
use Rattle.circuit_plain.specs.Netlist.{IsNetlist, IsVariable, IsLiteral}
use Rattle.cert_text.specs.NegatedMatrix.{literal_under}
use Rattle.dq_prep.specs.declared.traces.Taken.{Taken}
use Rattle.dq_prep.specs.Units.{AreUnits, taken_literals}
use Rattle.dq_prep.proofs.ToldValues.{unit-existential}
use Rattle.skolem_checker.specs.Checks.{Candidate}
use Rattle.skolem_checker.specs.SkolemCircuit.{MappedCircuit}
use Rattle.skolem_checker.specs.Tables.{IsMapping}
use Rattle.proof_checker.specs.CircuitProof.{circuit_literal}
use Rattle.lifted_proofs.specs.SettledCircuits.{settled_output, settled_outputs, settled_candidate}
use Rattle.lifted_proofs.specs.Liftings.{HasOutput}
use Rattle.lifted_proofs.proofs.NegatedIds.{opposite-fits}

abbrev place_in : List ℕ → ℕ → ℕ
place_in vs v = position_or_len (λ y. y == v) vs

pub as-long : (trues : List Literal) (vs outs : List ℕ) → length (settled_outputs trues vs outs) ≡ length outs
as-long trues [] [] = refl
as-long trues (v ∷ vs) [] = refl
as-long trues [] (o ∷ os) = refl
as-long trues (v ∷ vs) (o ∷ os) = ap suc (as-long trues vs os)

next-place : (x : ℕ) (xs : List ℕ) (n : ℕ) → slice_index (x ∷ xs) (1 + n) ≡ slice_index xs n
next-place x xs n = let next : 1 + n ≡ suc n = omega arith in ap (slice_index (x ∷ xs)) next

-- the output of an existential without a unit stays
out-same : (trues : List Literal) (vs outs : List ℕ) (v : ℕ) → holds trues (positive v) ≡ false
    → holds trues (negative v) ≡ false
    → slice_index (settled_outputs trues vs outs) (place_in vs v) ≡ slice_index outs (place_in vs v)
out-same trues [] [] v p n = refl
out-same trues [] (o ∷ os) v p n = refl
out-same trues (w ∷ vs) [] v p n = refl
out-same trues (w ∷ vs) (o ∷ os) v p n =
    search (arith, cases_eq, eq-eqb, ne_eqb, next-place, (out-same trues vs os v p n))

-- that of one with a unit is settled
out-settled : (trues : List Literal) (vs outs : List ℕ) (v : ℕ) → list_any (λ y. y == v) vs ≡ true
    → length vs ≤ length outs
    → slice_index (settled_outputs trues vs outs) (place_in vs v)
    ≡ settled_output trues v (slice_index outs (place_in vs v))
out-settled trues [] outs v there long = absurd (true≢false (sym there))
out-settled trues (w ∷ vs) [] v there long = absurd (omega (arith, long))
out-settled trues (w ∷ vs) (o ∷ os) v there long =
    search (arith, cases_eq, eq-eqb, ne_eqb, next-place, (out-settled trues vs os v))

-- ---- a candidate's literals

pub literal-same : (f : Dqbf) (trues : List Literal) (c : Candidate) (l : Literal) → holds trues l ≡ false
    → holds trues (opposite l) ≡ false
    → literal_under (circuit_literal (settled_candidate f trues c).circuit) l
    ≡ literal_under (circuit_literal c.circuit) l
literal-same f trues c (positive v) p n = search (arith, out-same)
literal-same f trues c (negative v) n p = search (arith, out-same)

pub literal-settled : (f : Dqbf) (trues : List Literal) (c : Candidate) (l : Literal) → HasOutput c (variable_of l)
    → holds trues l ≡ true → holds trues (opposite l) ≡ false
    → literal_under (circuit_literal (settled_candidate f trues c).circuit) l ≡ 1
literal-settled f trues c (positive v) has yes-is no-is = search (arith, out-settled)
literal-settled f trues c (negative v) has yes-is no-is = search (arith, out-settled)

-- the units' existentials are those of the formula
unit-variable : (f : Dqbf) (units : List Taken) (l : Literal) → IsWellFormed f → AreUnits f units
    → holds (taken_literals units) l ≡ true
    → Contains (existential_variables f) (variable_of l) × (is_universal f (variable_of l) ≡ false)
unit-variable f [] l well are held = absurd (true≢false (sym held))
unit-variable f (u ∷ us) l well are held =
    search (
      arith,
      or_cases,
      (same_literal-sound l u.literal),
      (unit-existential f us u well are.0),
      (unit-variable f us l well are.1),
    )

pub unit-output : (f : Dqbf) (units : List Taken) (c : Candidate) (l : Literal) → IsWellFormed f → AreUnits f units
    → IsMapping f c.circuit.netlist c.circuit.mapping → holds (taken_literals units) l ≡ true
    → HasOutput c (variable_of l)
unit-output f units c l well are mapping held =
    let v = variable_of l in
    let it = unit-variable f units l well are held in
    let long : length c.circuit.mapping.outputs ≡ length (existential_variables f) = mapping.outputs.same_length in
    let map-long = length-map f.existentials (λ y. y.variable) in
    record {
      no_input = elim (cases_Bool (list_any (λ x. x == v) c.circuit.mapping.inputs)) [
        | inr none ↦ none
        | inl some ↦
            let known : Contains f.universals v =
            All-contains (Contains f.universals) c.circuit.mapping.inputs v mapping.inputs.declared_alone
            (contains-has c.circuit.mapping.inputs v some) in
            absurd (true≢false (sym (has-contains f.universals v known) ∙ it.1))
      ];
      output = has-contains c.circuit.mapping.outputs v (mapping.outputs.onto v it.0);
      enough = omega (arith, long, map-long, mapping.outputs_length);
    }

-- ---- numbers in range

index-fits : (max : ℕ) (xs : List ℕ) (i : ℕ) → All (IsLiteral max) xs → slice_index xs i ≤ 2 * max + 1
index-fits max [] i all = omega arith
index-fits max (x ∷ xs) zero all = all 0 0 (omega arith)
index-fits max (x ∷ xs) (suc i) all = index-fits max xs i (λ k d below. all (suc k) d (omega (arith, below)))

input-fits : (max : ℕ) (xs : List ℕ) (i : ℕ) → All (IsVariable max) xs → 2 * slice_index xs i ≤ 2 * max + 1
input-fits max [] i all = omega arith
input-fits max (x ∷ xs) zero all = omega (arith, (all 0 0 (omega arith)).1)
input-fits max (x ∷ xs) (suc i) all = input-fits max xs i (λ k d below. all (suc k) d (omega (arith, below)))

variable-fits : (c : MappedCircuit) (v : ℕ) → IsNetlist c.netlist → circuit_literal c v ≤ 2 * c.netlist.max_var + 1
variable-fits c v lawful =
    search (arith, (input-fits c.netlist.max_var c.netlist.inputs), (index-fits c.netlist.max_var c.netlist.outputs))

pub literal-in-range : (c : MappedCircuit) (l : Literal) → IsNetlist c.netlist
    → literal_under (circuit_literal c) l ≤ 2 * c.netlist.max_var + 1
literal-in-range c (positive v) lawful = variable-fits c v lawful
literal-in-range c (negative v) lawful = search (arith, opposite-fits, variable-fits)

-- the outputs by their places
pub settled-at : (trues : List Literal) (vs outs : List ℕ) (i : ℕ) → i < length vs → i < length outs
    → slice_index (settled_outputs trues vs outs) i ≡ settled_output trues (slice_index vs i) (slice_index outs i)
settled-at trues [] outs i in-vs in-outs = absurd (omega (arith, in-vs))
settled-at trues (v ∷ vs) [] i in-vs in-outs = absurd (omega (arith, in-outs))
settled-at trues (v ∷ vs) (o ∷ os) zero in-vs in-outs = refl
settled-at trues (v ∷ vs) (o ∷ os) (suc i) in-vs in-outs = search (arith, (settled-at trues vs os i))
