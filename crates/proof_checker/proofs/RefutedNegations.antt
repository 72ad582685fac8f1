-- A refutation of the negated matrix shows that the circuit makes every clause true.
use Rattle.std.proofs.Common.{◌≡◌, ℕ, suc, ◌+◌, ◌*◌, ◌<◌, Bool, true, false, not, cond, inl, inr, List, [], ◌∷◌, length, get_or, eqb, None, refl, sym, ◌∙◌, ap, subst, arith, Result, Ok, Err}
use Rattle.std.specs.List.{All, AllByRecursion, Contains, IsDistinct, list_all}
use Rattle.std.specs.Prelude.{slice_index}
use Rattle.std.proofs.lemmas.Bool.{cases_Bool}
use Rattle.std.proofs.lemmas.Bool.Decides.{Decides-eqb}
use Rattle.std.proofs.lemmas.List.{get_or-map, length-map}
use Rattle.std.proofs.lemmas.List.Elements.{All-contains, Contains-append_cases}
use Rattle.std.proofs.lemmas.Map.Made.{IsDistinct-from_AllPairs}
use Rattle.dq_lits.specs.Derivation.{LiveClauses, MakesTrue}
use Rattle.rup_core.specs.Items.{ProofItem, ItemsDerive}
use Rattle.dq_lits.specs.Formula.{Existential, Dqbf, declared, IsWellFormed}
use Rattle.dq_lits.specs.Henkin.{MatrixHolds}
use Rattle.dq_lits.specs.Literal.{Assignment, Literal, variable_of, clause_true}
use Rattle.dq_formula.specs.Prefix.{existential_variables}
use Rattle.dq_formula.proofs.Places.{has, place, place-get_or, has-contains, contains-has}
use Rattle.dq_formula.proofs.Sorted.{get_or-place, place-below}
use Rattle.circuit_plain.specs.Netlist.{Netlist, IsNetlist, literal_variable, signed_bit, literal_bit}
use Rattle.circuit_plain.specs.Value.{HasValue, constant, input}
use Rattle.aiger_text.specs.Symbol.{SymbolTable}
use Rattle.cert_text.specs.NegatedMatrix.{negated_matrix}
use Rattle.skolem_checker.specs.Checks.{Candidate, with_mapping, candidate_of}
use Rattle.skolem_checker.specs.Mapping.{Mapping, mapping_of}
use Rattle.skolem_checker.specs.SkolemCircuit.{MappedCircuit, IsComplete, input_bits, HasOutputValue, FollowsCircuit}
use Rattle.skolem_checker.specs.Tables.{IsMapping}
use Rattle.skolem_checker.specs.declared.mapping.MapError.{MapError}
use Rattle.skolem_checker.proofs.OntoLaws.{IsMapped, mapped}
use Rattle.skolem_checker.proofs.TablesLaws.{list_all-each}
use Rattle.proof_checker.specs.CircuitProof.{circuit_literal, circuit_proof_fault}
use Rattle.proof_checker.proofs.NegatedClauses.{even_bit, HasItsBit, MeetsGate, TellFalsity, negated_true, makes_true}
use Rattle.proof_checker.proofs.WitnessAssignments.{each, witness, witness_value, witness_tells, witness_meets}
use Rattle.list_laws.proofs.Members.{in_one_part}

mapping_or : Mapping → Result Candidate MapError → Mapping
mapping_or other (Ok c) = c.circuit.mapping
mapping_or other (Err _) = other

candidate_mapped : (f : Dqbf) (net : Netlist) (r : Result Mapping MapError) (c : Candidate) → IsMapped f net r →
    with_mapping f net r ≡ Ok c
    → IsMapping f net c.circuit.mapping
unfolding mapping_or
candidate_mapped f net (Ok mapping) c h is = search (arith, mapping_or)
candidate_mapped f net (Err fault) c h is = cc

module _ (f : Dqbf) (c : MappedCircuit) (formed : IsWellFormed f) (kept : IsNetlist c.netlist)
    (complete : IsComplete c.netlist)
    (is_mapping : IsMapping f c.netlist c.mapping) (m : Assignment) (follows : FollowsCircuit f c m) where
  -- whether the clause at a place is false
  abbrev clause_fails : ℕ → Bool
  clause_fails j = not (clause_true m (get_or f.matrix j []))

  abbrev bits : ℕ → Bool
  bits = input_bits c.mapping m

  -- the circuit's values, and which clauses are false
  abbrev whole : ℕ → Bool
  whole = witness c.netlist kept complete bits clause_fails

  value_is : (v : ℕ) (b : Bool) → HasValue c.netlist bits v b → whole v ≡ b
  value_is = witness_value c.netlist kept complete bits clause_fails

  universal_bit : (v : ℕ) → Contains f.universals v → literal_bit whole (circuit_literal c v) ≡ m v
  universal_bit v universal =
      let among : has c.mapping.inputs v ≡ true = has-contains c.mapping.inputs v
      (is_mapping.inputs.onto v universal) in
      let p = place c.mapping.inputs v in
      let in_net : p < length c.netlist.inputs =
      omega (arith, place-below c.mapping.inputs v among, is_mapping.inputs_length, is_mapping.inputs.same_length) in
      ap (λ t. literal_bit whole (cond t (2 * slice_index c.netlist.inputs p)
      (slice_index c.netlist.outputs (place c.mapping.outputs v)))) among
      ∙ even_bit whole (slice_index c.netlist.inputs p)
      ∙ value_is (slice_index c.netlist.inputs p) (bits p) (input p in_net refl)
      ∙ ap m (get_or-place c.mapping.inputs v 0 among)

  no_input : (v : ℕ) → Contains (existential_variables f) v → has c.mapping.inputs v ≡ false
  no_input v existential =
      elim (cases_Bool (has c.mapping.inputs v)) [
        | inl among ↦
            absurd (in_one_part f.universals (existential_variables f) v formed.prefix.declared_once (All-contains (Contains f.universals) c.mapping.inputs v is_mapping.inputs.declared_alone
            (contains-has c.mapping.inputs v among)) existential)
        | inr none ↦ none
      ]

  output_of : (v : ℕ) → Contains (existential_variables f) v → HasOutputValue c m v (m v)
  output_of v existential =
      let p = existential.0 in
      let listed : length (existential_variables f) ≡ length f.existentials =
      length-map f.existentials (λ (y : Existential). y.variable) in
      let below : p < length f.existentials = omega (arith, existential.1, listed) in
      let d : Existential = record { variable = v; sees = [] } in
      let is : (get_or f.existentials p d).variable ≡ v =
      sym (get_or-map (λ (y : Existential). y.variable) f.existentials p d v below) ∙ existential.2 in
      subst (λ w. HasOutputValue c m w (m w)) is (follows p d below)

  existential_bit : (v : ℕ) → Contains (existential_variables f) v → literal_bit whole (circuit_literal c v) ≡ m v
  existential_bit v existential =
      let none : has c.mapping.inputs v ≡ false = no_input v existential in
      let o = output_of v existential in
      let distinct : IsDistinct eqb c.mapping.outputs = IsDistinct-from_AllPairs Decides-eqb c.mapping.outputs
      is_mapping.outputs.distinct in
      let at : place c.mapping.outputs v ≡ o.out =
      ap (place c.mapping.outputs) (sym o.stands_for) ∙ place-get_or c.mapping.outputs o.out 0 distinct o.in_range in
      let l = slice_index c.netlist.outputs o.out in
      ap (λ t. literal_bit whole (cond t (2 * slice_index c.netlist.inputs (place c.mapping.inputs v))
      (slice_index c.netlist.outputs (place c.mapping.outputs v)))) none
      ∙ ap (λ k. literal_bit whole (slice_index c.netlist.outputs k)) at
      ∙ ap (signed_bit l) (value_is (literal_variable l) o.variable_bit o.value)
      ∙ sym o.signed

  has_its_bit : (l : Literal) → Contains (declared f) (variable_of l) → HasItsBit whole m (circuit_literal c) l
  has_its_bit l known =
      elim (Contains-append_cases f.universals (existential_variables f) (variable_of l) known) [
        | inl universal ↦ universal_bit (variable_of l) universal
        | inr existential ↦ existential_bit (variable_of l) existential
      ]

  tell_from : (bad : ℕ) (clauses : List (List Literal))
      → ((j : ℕ) → j < length clauses → whole (bad + j) ≡ not (clause_true m (get_or clauses j [])))
      → TellFalsity whole m (circuit_literal c) bad clauses
  tell_from bad [] h = tt
  tell_from bad (clause ∷ clauses) h =
      let first : bad ≡ bad + 0 = omega arith in (
        ap whole first ∙ h 0 (omega arith),
        tell_from (bad + 1) clauses (λ j below.
            let next : bad + 1 + j ≡ bad + suc j = omega arith in
            ap whole next ∙ h (suc j) (omega (arith, below))),
      )

  pub solves : (items : List ProofItem)
      → ((live : LiveClauses) (items : List ProofItem) → ItemsDerive live items → (a : Assignment) →
      MakesTrue a live → ⊥)
      → ItemsDerive (negated_matrix f c.netlist (circuit_literal c)) items → MatrixHolds f m
  solves items sound derives =
      elim (cases_Bool (list_all (clause_true m) f.matrix)) [
        | inl holds ↦ list_all-each (clause_true m) f.matrix holds
        | inr fails ↦
            absurd (sound (negated_matrix f c.netlist (circuit_literal c)) items derives whole
            (makes_true whole (value_is 0 false constant) f c.netlist (circuit_literal c)
            (negated_true whole m (circuit_literal c) f c.netlist
            (each (MeetsGate whole) c.netlist.gates (witness_meets c.netlist kept complete bits clause_fails))
            (each (AllByRecursion (HasItsBit whole m (circuit_literal c))) f.matrix (λ clause clause_in.
            each (HasItsBit whole m (circuit_literal c)) clause (λ l l_in.
            has_its_bit l (bound_in clause clause_in l l_in))))
            (tell_from (c.netlist.max_var + 1) f.matrix (λ j below. witness_tells c.netlist kept complete bits
            clause_fails j))
            fails)))
      ]
    where
      bound_in : (clause : List Literal) → Contains f.matrix clause → (l : Literal) → Contains clause l →
          Contains (declared f) (variable_of l)
      bound_in clause clause_in l l_in =
          All-contains (λ k. Contains (declared f) (variable_of k)) clause l
          (All-contains (λ ls. All (λ k. Contains (declared f) (variable_of k)) ls) f.matrix clause formed.bound
          clause_in) l_in

pub refuted_solves : (c : Candidate) (symbols : SymbolTable) (items : List ProofItem)
    → ((live : LiveClauses) (items : List ProofItem) → ItemsDerive live items → (a : Assignment) → MakesTrue a live → ⊥)
    → IsWellFormed c.formula → IsNetlist c.circuit.netlist → IsComplete c.circuit.netlist
    → candidate_of c.formula c.circuit.netlist symbols ≡ Ok c → circuit_proof_fault c items ≡ None
    → (m : Assignment) → FollowsCircuit c.formula c.circuit m → MatrixHolds c.formula m
refuted_solves c symbols items sound formed kept complete is derives m follows =
    solves c.formula c.circuit formed kept complete
    (candidate_mapped c.formula c.circuit.netlist (mapping_of c.formula c.circuit.netlist symbols) c
    (mapped c.formula c.circuit.netlist symbols formed.prefix) is)
    m follows items sound derives
