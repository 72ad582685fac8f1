-- The clauses of what is left, as clauses of the formula over the settled circuit.
use Rattle.std.proofs.Common.{◌≡◌, ℕ, zero, suc, ◌+◌, ◌*◌, ◌<◌, ◌≤◌, ◌⊎◌, true, false, inl, inr, List, [], ◌∷◌, map, length, get_or, Some, slice_get, refl, sym, ◌∙◌, ap, subst, arith}
use Rattle.std.specs.List.{range_with_len, sum_by}
use Rattle.std.proofs.lemmas.Bool.{true≢false, cases_Bool}
use Rattle.std.proofs.lemmas.Option.{slice_get_within, slice_get-get_or}
use Rattle.dq_lits.specs.Literal.{Literal, positive, negative, variable_of, on_variable, opposite}
use Rattle.dq_lits.specs.Formula.{Dqbf}
use Rattle.dq_lits.specs.Derivation.{holds}
use Rattle.cert_text.specs.CircuitProof.{first_proof_id}
use Rattle.cert_text.specs.NegatedMatrix.{opposite_of, literal_under, as_literal, without_constants}
use Rattle.cert_text.proofs.NegatedClauses.{falsity_counted}
use Rattle.dq_prep.specs.declared.traces.Taken.{Taken}
use Rattle.dq_prep.specs.Units.{taken_literals}
use Rattle.skolem_checker.specs.Checks.{Candidate}
use Rattle.proof_checker.specs.CircuitProof.{negated_candidate, circuit_literal}
use Rattle.proof_checker.proofs.ShortenedClauses.{range_clause}
use Rattle.lifted_proofs.specs.CarriedProofs.{carried_variable}
use Rattle.lifted_proofs.specs.KeptPlaces.{kept_places}
use Rattle.lifted_proofs.specs.Liftables.{falsity, is_false as false_at, IsLiteralId, IsLiftable, lifted_base, lifted_literal, left_falsities}
use Rattle.lifted_proofs.specs.SettledCircuits.{settled_candidate}
use Rattle.lifted_proofs.proofs.CarriedProofs.{carried-circuit, carried-clause}
use Rattle.lifted_proofs.proofs.KeptPlaces.{units-agree}
use Rattle.lifted_proofs.proofs.NegatedIds.{Stands, is_false, is_true, is_free, stands-by, at-literal, falsity-false, falsity-true, falsity-free, in-gates, in-falsity, in-last, behind-all, AreOn, gate-clause-fits, literal-fits, opposite-fits}
use Rattle.lifted_proofs.proofs.SettledOutputs.{literal-same, literal-settled, unit-output, literal-in-range}
use Rattle.list_laws.proofs.Sequences.{before_below}

-- a circuit's literals stay
on-same : (n : ℕ) (l : Literal) → n ≡ variable_of l → on_variable n l ≡ l
on-same n (positive v) same = ap positive same
on-same n (negative v) same = ap negative same

pub clause-stays : (largest clauses : ℕ) (places : List ℕ) (ls : List Literal) → AreOn largest ls
    → map (λ l. on_variable (carried_variable largest clauses places (variable_of l)) l) ls ≡ ls
clause-stays largest clauses places [] all = refl
clause-stays largest clauses places (l ∷ ls) all =
    search (arith, on-same, carried-circuit, (clause-stays largest clauses places ls all.1))

module _ (f : Dqbf) (units : List Taken) (c : Candidate) (can : IsLiftable f units c) where
  abbrev largest : ℕ
  largest = c.circuit.netlist.max_var

  abbrev trues : List Literal
  trues = taken_literals units

  abbrev was : Literal → ℕ
  was l = literal_under (circuit_literal c.circuit) l

  abbrev becomes : Literal → ℕ
  becomes l = literal_under (circuit_literal (settled_candidate f trues c).circuit) l

  abbrev to : Literal → Literal
  to = lifted_literal f units c

  base-literal : (p : ℕ) (l : Literal) (id : ℕ) → IsLiteralId f c p l id
      → lifted_base f units c id ≡ without_constants (falsity (circuit_literal (settled_candidate f trues c).circuit)
      (largest + 1 + p) l)
  base-literal p l id it = search (arith, at-literal, before_below, slice_get_within)

  -- a literal that was taken is true
  pub base-true : (p : ℕ) (l : Literal) (id : ℕ) → IsLiteralId f c p l id → holds (taken_literals units) l ≡ true
      → lifted_base f units c id ≡ Some (negative (c.circuit.netlist.max_var + 1 + p) ∷ [])
  base-true p l id it held =
      base-literal p l id it
      ∙ falsity-true (largest + 1 + p) (becomes l) (omega arith)
      (literal-settled f trues c l (unit-output f units c l can.well can.units_are can.mapped held) held
      (units-agree f units l can.units_are held))

  named-at : (j p : ℕ) → slice_get (kept_places f units) j ≡ Some p
      → to (negative (largest + 1 + j)) ≡ negative (largest + 1 + p)
  named-at j p at = search (arith, carried-clause)

  fits : (l : Literal) → was l ≤ 2 * largest + 1
  fits l = literal-in-range c.circuit l can.lawful

  other-stays : (l : Literal) → to (as_literal (opposite_of (was l))) ≡ as_literal (opposite_of (was l))
  other-stays l =
      let m = as_literal (opposite_of (was l)) in
      on-same (carried_variable largest (length f.matrix) (kept_places f units) (variable_of m)) m
      (carried-circuit largest (length f.matrix) (kept_places f units) (variable_of m)
      (literal-fits (opposite_of (was l)) largest (opposite-fits (was l) largest (fits l))))

  -- by what the literal stood for
  old-free : (j p : ℕ) (l : Literal) (clause : List Literal) → slice_get (kept_places f units) j ≡ Some p
      → 2 ≤ was l → without_constants (falsity (circuit_literal c.circuit) (largest + 1 + j) l) ≡ Some clause
      → negative (largest + 1 + p) ∷ as_literal (opposite_of (was l)) ∷ [] ≡ map to clause
  old-free j p l clause at free is = search (arith, falsity-free, (named-at j p at), (other-stays l))

  old-true : (j p : ℕ) (l : Literal) (clause : List Literal) → slice_get (kept_places f units) j ≡ Some p
      → was l ≡ 1 → without_constants (falsity (circuit_literal c.circuit) (largest + 1 + j) l) ≡ Some clause
      → negative (largest + 1 + p) ∷ [] ≡ map to clause
  old-true j p l clause at one is = search (arith, falsity-true, named-at)

  old-false : (j : ℕ) (l : Literal) (clause : List Literal) → was l ≡ 0
      → without_constants (falsity (circuit_literal c.circuit) (largest + 1 + j) l) ≡ Some clause → ⊥
  old-false j l clause none is = search (arith, falsity-false)

  -- a literal whose clause the formula has
  pub base-names : (j p : ℕ) (l : Literal) (id : ℕ) (clause : List Literal)
      → slice_get (kept_places f units) j ≡ Some p
      → IsLiteralId f c p l id → holds (taken_literals units) (opposite l) ≡ false
      → (holds (taken_literals units) l ≡ false) ⊎ (literal_under (circuit_literal c.circuit) l < 2)
      → without_constants (falsity (circuit_literal c.circuit) (c.circuit.netlist.max_var + 1 + j) l) ≡ Some clause
      → lifted_base f units c id ≡ Some (map (lifted_literal f units c) clause)
  base-names j p l id clause at it none kind is = elim (cases_Bool (holds trues l)) [
    | inr open' ↦ apart open' (stands-by (was l))
    | inl held ↦ base-true p l id it held ∙ ap Some (constant held kind (stands-by (was l)))
  ]
    where
      apart : holds trues l ≡ false → Stands (was l) → lifted_base f units c id ≡ Some (map to clause)
      apart open' (is_false zero-is) = absurd (old-false j l clause zero-is is)
      apart open' (is_true one) =
          base-literal p l id it
          ∙ falsity-true (largest + 1 + p) (becomes l) (omega arith) (literal-same f trues c l open' none ∙ one)
          ∙ ap Some (old-true j p l clause at one is)
      apart open' (is_free free) =
          let same : becomes l ≡ was l = literal-same f trues c l open' none in
          base-literal p l id it
          ∙ falsity-free (largest + 1 + p) (becomes l) (omega arith) (subst (λ x. 2 ≤ x) (sym same) free)
          ∙ ap (λ x. Some (negative (largest + 1 + p) ∷ as_literal (opposite_of x) ∷ [])) same
          ∙ ap Some (old-free j p l clause at free is)

      constant : holds trues l ≡ true → (holds trues l ≡ false) ⊎ (was l < 2) → Stands (was l)
          → negative (largest + 1 + p) ∷ [] ≡ map to clause
      constant held (inl open') s = absurd (true≢false (sym held ∙ open'))
      constant held (inr low) (is_false zero-is) = absurd (old-false j l clause zero-is is)
      constant held (inr low) (is_true one) = old-true j p l clause at one is
      constant held (inr low) (is_free free) = absurd (omega (arith, low, free))

  -- one that a weaker line names
  pub weaker-names : (j p : ℕ) (l : Literal) (x : ℕ) (clause : List Literal)
      → slice_get (kept_places f units) j ≡ Some p → x ≡ literal_under (circuit_literal c.circuit) l → 2 ≤ x
      → without_constants (falsity (circuit_literal c.circuit) (c.circuit.netlist.max_var + 1 + j) l) ≡ Some clause
      → negative (c.circuit.netlist.max_var + 1 + p) ∷ as_literal (opposite_of x) ∷ []
      ≡ map (lifted_literal f units c) clause
  weaker-names j p l x clause at x-is free is = search (arith, old-free)

  pub base-last : (id : ℕ) → id + 1 ≡ first_proof_id f c.circuit.netlist
      → lifted_base f units c id ≡ Some (map positive (range_with_len (c.circuit.netlist.max_var + 1) (length f.matrix)))
  base-last id is = search (arith, in-last, range_clause)

  -- the clauses of gates stay
  pub gate-there : (id : ℕ) (clause : List Literal) → id ≤ 3 * length c.circuit.netlist.gates
      → negated_candidate c id ≡ Some clause
      → lifted_base f units c id ≡ Some (map (lifted_literal f units c) clause)
  gate-there zero clause low is = cc
  gate-there (suc i) clause low is =
      let below : i < 3 * length c.circuit.netlist.gates = omega (arith, low) in
      let old = in-gates c.formula c.circuit.netlist (circuit_literal c.circuit) (suc i) i refl below in
      let new = in-gates f (settled_candidate f trues c).circuit.netlist
      (circuit_literal (settled_candidate f trues c).circuit) (suc i) i refl below in
      new ∙ sym old ∙ is
      ∙ ap Some (sym (clause-stays largest (length f.matrix) (kept_places f units) clause
      (gate-clause-fits c.circuit.netlist i clause can.lawful (sym old ∙ is))))

  -- those of literals
  pub literal-there : (id k : ℕ) (clause : List Literal) → id ≡ 3 * length c.circuit.netlist.gates + k + 1
      → k < sum_by length c.formula.matrix → negated_candidate c id ≡ Some clause
      → (xs : List ℕ) × (slice_get (left_falsities c c.formula.matrix) k ≡ Some xs)
      × (without_constants xs ≡ Some clause)
  literal-there id k clause is below at =
      let fs = left_falsities c c.formula.matrix in
      let xs = get_or fs k [] in
      let there : slice_get fs k ≡ Some xs = slice_get-get_or fs k [] (omega (arith, below, falsity_counted (circuit_literal c.circuit) (largest + 1) c.formula.matrix)) in (
        xs,
        there,
        sym (in-falsity c.formula c.circuit.netlist (circuit_literal c.circuit) id k (Some xs) is below there) ∙ at,
      )

  pub last-there : (id : ℕ) (clause : List Literal)
      → id ≡ 3 * length c.circuit.netlist.gates + sum_by length c.formula.matrix + 1 → negated_candidate c id ≡ Some clause
      → clause ≡ map positive (range_with_len (c.circuit.netlist.max_var + 1) (length c.formula.matrix))
  last-there id clause is at = search (arith, in-last, range_clause)

  pub none-behind : (id : ℕ) (clause : List Literal)
      → 3 * length c.circuit.netlist.gates + sum_by length c.formula.matrix + 1 < id → negated_candidate c id ≡ Some clause
      → ⊥
  none-behind id clause behind at = search (arith, behind-all)

  -- the first line has the last clause's literals
  false-carried : (j : ℕ) (ps : List ℕ)
      → ((k p : ℕ) → slice_get ps k ≡ Some p → slice_get (kept_places f units) (j + k) ≡ Some p)
      → map to (map positive (range_with_len (largest + 1 + j) (length ps))) ≡ map (false_at (largest + 1)) ps
  false-carried j [] there = refl
  false-carried j (p ∷ ps) there =
      let own : slice_get (kept_places f units) j ≡ Some p =
      ap (slice_get (kept_places f units)) (omega arith) ∙ there 0 p refl in
      let next : largest + 1 + j + 1 ≡ largest + 1 + (j + 1) = omega arith in
      ap (λ n. positive n ∷ map to (map positive (range_with_len (largest + 1 + j + 1) (length ps))))
      (carried-clause largest (length f.matrix) (kept_places f units) (largest + 1 + j) j p refl own)
      ∙ ap (λ n. false_at (largest + 1) p ∷ map to (map positive (range_with_len n (length ps)))) next
      ∙ ap (λ ls. false_at (largest + 1) p ∷ ls)
      (false-carried (j + 1) ps (λ k q at.
      ap (slice_get (kept_places f units)) (omega arith) ∙ there (suc k) q at))

  pub last-carried : map (lifted_literal f units c)
      (map positive (range_with_len (c.circuit.netlist.max_var + 1) (length (kept_places f units))))
      ≡ map (false_at (c.circuit.netlist.max_var + 1)) (kept_places f units)
  last-carried = search (arith, (false-carried 0))
