-- The clauses of the negated matrix by their places.
use Rattle.std.proofs.Common.{◌≡◌, ◌≢◌, ℕ, zero, suc, ◌+◌, ◌-◌, ◌*◌, ◌/◌, ◌%◌, ◌<◌, ◌≤◌, List, [], ◌∷◌, ◌++◌, map, drop, length, get_or, slice_get, None, Some, IsSome, refl, sym, ◌∙◌, ap, subst, arith, length-append}
use Rattle.std.specs.List.{AllByRecursion, flat_map}
use Rattle.std.specs.Option.{option_map, option_and_then}
use Rattle.std.proofs.lemmas.List.{length-map, map-append, append_assoc}
use Rattle.std.proofs.lemmas.Option.{slice_get-map, slice_get-get_or, slice_get_past}
use Rattle.list_laws.proofs.Elements.{get-append_left, get-append_right, drop_at}
use Rattle.dq_lits.specs.Literal.{Literal}
use Rattle.circuit_plain.specs.Netlist.{Netlist, gate_at}
use Rattle.circuit_plain.specs.declared.circuits.Gate.{Gate}
use Rattle.cert_text.specs.NegatedMatrix.{opposite_of, gate_clauses, literal_under, falsity_clauses, all_falsity_clauses, some_clause_false, negated_clauses, without_constants}
use Rattle.cert_text.proofs.NegatedClauses.{gates_counted}
use Rattle.skolem_checker.specs.Checks.{Candidate}
use Rattle.proof_checker.specs.CircuitProof.{circuit_literal, negated_candidate}
use Rattle.proof_checker.specs.ClauseLiterals.{clause_literals, formula_clauses}

pub gate_found : (gates : List Gate) (i : ℕ) (d : Gate) → i / 3 < length gates
    → slice_get (flat_map gate_clauses gates) i ≡ slice_get (gate_clauses (get_or gates (i / 3) d)) (i % 3)
gate_found [] i d below = absurd (omega (arith, below))
gate_found (g ∷ gates) zero d below = refl
gate_found (g ∷ gates) (suc zero) d below = refl
gate_found (g ∷ gates) (suc (suc zero)) d below = refl
gate_found (g ∷ gates) (suc (suc (suc i))) d below =
    let half : suc (suc (suc i)) / 3 ≡ suc (i / 3) = omega arith in
    let rest : suc (suc (suc i)) % 3 ≡ i % 3 = omega arith in
    gate_found gates i d (omega (arith, below, half))
    ∙ sym (ap (λ p. slice_get (gate_clauses (get_or (g ∷ gates) p d)) (suc (suc (suc i)) % 3)) half
    ∙ ap (slice_get (gate_clauses (get_or gates (i / 3) d))) rest)

module _ (net : Netlist) (i : ℕ) (below : i / 3 < length net.gates) (t : ℕ × ℕ × ℕ)
    (is : t ≡ (2 * (gate_at net (i / 3)).variable, (gate_at net (i / 3)).left, (gate_at net (i / 3)).right)) where
  abbrev here : Gate
  here = gate_at net (i / 3)

  found_at : (r : ℕ) → i % 3 ≡ r → slice_get (flat_map gate_clauses net.gates) i ≡ slice_get (gate_clauses here) r
  found_at r rest = gate_found net.gates i _ below ∙ ap (slice_get (gate_clauses here)) rest

  pub gate_left : (o : ℕ) (items : List ℕ) → i % 3 ≡ 0 → o ≡ opposite_of t.0 → items ≡ o ∷ t.1 ∷ []
      → slice_get (flat_map gate_clauses net.gates) i ≡ Some items
  gate_left o items rest o_is items_is = search (arith, found_at)

  pub gate_right : (o : ℕ) (items : List ℕ) → i % 3 ≡ 1 → o ≡ opposite_of t.0 → items ≡ o ∷ t.2 ∷ []
      → slice_get (flat_map gate_clauses net.gates) i ≡ Some items
  gate_right o items rest o_is items_is = search (arith, found_at)

  pub gate_both : (o p : ℕ) (items : List ℕ) → i % 3 ≡ 2 → o ≡ opposite_of t.1 → p ≡ opposite_of t.2 →
      items ≡ t.0 ∷ o ∷ p ∷ []
      → slice_get (flat_map gate_clauses net.gates) i ≡ Some items
  gate_both o p items rest o_is p_is items_is = search (arith, found_at)

-- where the variable is true, the literal is false
abbrev falsity_clause : (ℕ → ℕ) → ℕ × Literal → List ℕ
falsity_clause outputs o = opposite_of (2 * o.0) ∷ opposite_of (literal_under outputs o.1) ∷ []

-- clauses of the formula
one_mapped : (outputs : ℕ → ℕ) (bad : ℕ) (clause : List Literal) →
    falsity_clauses outputs bad clause ≡ map (falsity_clause outputs) (map (λ l. (bad, l)) clause)
one_mapped outputs bad [] = refl
one_mapped outputs bad (l ∷ clause) = search (arith, (one_mapped outputs bad clause))

falsity_mapped : (outputs : ℕ → ℕ) (bad : ℕ) (clauses : List (List Literal)) →
    all_falsity_clauses outputs bad clauses ≡ map (falsity_clause outputs) (clause_literals bad clauses)
falsity_mapped outputs bad [] = refl
falsity_mapped outputs bad (clause ∷ clauses) =
    search (arith, one_mapped, (falsity_mapped outputs (bad + 1) clauses), map-append)

abbrev IsBelow : ℕ → ℕ × Literal → Type 0
IsBelow n o = o.0 < n

numbers_below : (bad : ℕ) (clauses : List (List Literal)) → AllByRecursion
    (λ (o : ℕ × Literal). o.0 < bad + length clauses) (clause_literals bad clauses)
numbers_below bad [] = tt
numbers_below bad (clause ∷ clauses) =
    both (map (λ l. (bad, l)) clause) (clause_literals (bad + 1) clauses) (own clause)
    (later (clause_literals (bad + 1) clauses) (numbers_below (bad + 1) clauses))
  where
    both : (xs ys : List (ℕ × Literal)) → AllByRecursion (IsBelow (bad + length (clause ∷ clauses))) xs →
        AllByRecursion (IsBelow (bad + length (clause ∷ clauses))) ys →
        AllByRecursion (IsBelow (bad + length (clause ∷ clauses))) (xs ++ ys)
    both [] ys h k = k
    both (x ∷ xs) ys h k = (h.0, both xs ys h.1 k)

    own : (ls : List Literal) → AllByRecursion (IsBelow (bad + length (clause ∷ clauses))) (map (λ l. (bad, l)) ls)
    own [] = tt
    own (l ∷ ls) = (omega arith, own ls)

    later : (os : List (ℕ × Literal)) → AllByRecursion (λ (o : ℕ × Literal). o.0 < bad + 1 + length clauses) os →
        AllByRecursion (IsBelow (bad + length (clause ∷ clauses))) os
    later [] h = tt
    later (o ∷ os) h = (omega (arith, h.0), later os h.1)

at_place : {X : Type 0} (P : X → Type 0) (xs : List X) → AllByRecursion P xs → (i : ℕ) (d : X) → i < length xs →
    P (get_or xs i d)
at_place P [] h i d below = absurd (omega (arith, below))
at_place P (x ∷ xs) h zero d below = h.0
at_place P (x ∷ xs) h (suc i) d below = at_place P xs h.1 i d (omega (arith, below))

pub number_below : (bad : ℕ) (clauses : List (List Literal)) (literals : List (ℕ × Literal)) (i : ℕ) (o : ℕ × Literal) →
    literals ≡ clause_literals bad clauses
    → i < length literals → o ≡ get_or literals i o → o.0 < bad + length clauses
number_below bad clauses literals i o are below is =
    subst (λ (x : ℕ × Literal). x.0 < bad + length clauses) (sym is)
    (at_place (λ (x : ℕ × Literal). x.0 < bad + length clauses) literals
    (subst (AllByRecursion (λ (x : ℕ × Literal). x.0 < bad + length clauses)) (sym are) (numbers_below bad clauses)) i
    o below)

-- the clauses behind those of the gates
module _ (c : Candidate) (literals : List (ℕ × Literal)) (are : literals ≡ clause_literals
    (c.circuit.netlist.max_var + 1) c.formula.matrix) (i : ℕ) where
  abbrev outputs : ℕ → ℕ
  outputs = circuit_literal c.circuit

  abbrev falsity : List (List ℕ)
  falsity = all_falsity_clauses (circuit_literal c.circuit) (c.circuit.netlist.max_var + 1) c.formula.matrix

  mapped : falsity ≡ map (falsity_clause outputs) literals
  mapped = falsity_mapped outputs (c.circuit.netlist.max_var + 1) c.formula.matrix ∙ ap (map (falsity_clause outputs))
      (sym are)

  long : length falsity ≡ length literals
  long = ap length mapped ∙ length-map literals (falsity_clause outputs)

  pub falsity_found : (o : ℕ × Literal) (k l x : ℕ) (items : List ℕ) → i < length literals → o ≡ get_or literals i o →
      items ≡ k ∷ l ∷ []
      → k ≡ opposite_of (2 * o.0) → l ≡ opposite_of x → x ≡ literal_under outputs o.1 →
      Some items ≡ slice_get (formula_clauses c) i
  falsity_found o k l x items below o_is items_is k_is l_is x_is =
      sym (get-append_left falsity (some_clause_false c.circuit.netlist c.formula.matrix ∷ []) i
      (omega (arith, long, below))
      ∙ ap (λ cs. slice_get cs i) mapped
      ∙ slice_get-map (falsity_clause outputs) literals i
      ∙ ap (option_map (falsity_clause outputs)) (slice_get-get_or literals i o below)
      ∙ ap (λ (y : ℕ × Literal). Some (falsity_clause outputs y)) (sym o_is)
      ∙ ap Some (sym (items_is ∙ ap (λ y. y ∷ l ∷ []) k_is ∙ ap (λ y. opposite_of (2 * o.0) ∷ y ∷ [])
      (l_is ∙ ap opposite_of x_is))))

  pub last_found : (items : List ℕ) → i ≡ length literals → items ≡ some_clause_false c.circuit.netlist c.formula.matrix
      → Some items ≡ slice_get (formula_clauses c) i
  last_found items is items_is =
      let at : i ≡ length falsity + 0 = omega (arith, long, is) in
      sym (ap (slice_get (formula_clauses c)) at
      ∙ get-append_right falsity (some_clause_false c.circuit.netlist c.formula.matrix ∷ []) 0
      ∙ ap Some (sym items_is))

  pub none_found : length literals < i → None ≡ slice_get (formula_clauses c) i
  none_found behind =
      sym (slice_get_past (formula_clauses c) i
      (omega (arith, long, behind, length-append falsity (some_clause_false c.circuit.netlist c.formula.matrix ∷ []))))

pub gates_first : (c : Candidate) (i : ℕ) → i / 3 < length c.circuit.netlist.gates
    → slice_get (negated_clauses c.formula c.circuit.netlist (circuit_literal c.circuit)) i ≡ slice_get
    (flat_map gate_clauses c.circuit.netlist.gates) i
gates_first c i below =
    let long = gates_counted c.circuit.netlist.gates in
    get-append_left (flat_map gate_clauses c.circuit.netlist.gates) (formula_clauses c) i (omega (arith, long, below))

-- the clauses have the ids from 1 on
pub by_id : (c : Candidate) (id i : ℕ) → id ≢ 0 → i ≡ id - 1
    → negated_candidate c id ≡ option_and_then without_constants
    (slice_get (negated_clauses c.formula c.circuit.netlist (circuit_literal c.circuit)) i)
by_id c zero i some is = absurd (some refl)
by_id c (suc n) i some is = search arith

pub behind_gates : (c : Candidate) (i n : ℕ) → n ≡ length c.circuit.netlist.gates → n ≤ i / 3
    → slice_get (negated_clauses c.formula c.circuit.netlist (circuit_literal c.circuit)) i ≡ slice_get
    (formula_clauses c) (i - 3 * n)
behind_gates c i n is behind =
    let gates = flat_map gate_clauses c.circuit.netlist.gates in
    let long = gates_counted c.circuit.netlist.gates in
    let at : i ≡ length gates + (i - 3 * n) = omega (arith, long, is, behind) in
    ap (slice_get (gates ++ formula_clauses c)) at ∙ get-append_right gates (formula_clauses c) (i - 3 * n)

pub next_clause : (first j : ℕ) (matrix : List (List Literal)) (all new goal : List (ℕ × Literal))
    (clause : List Literal) → j < length matrix
    → clause ≡ get_or matrix j [] → all ++ clause_literals (first + j) (drop j matrix) ≡ goal →
    new ≡ all ++ map (λ l. (first + j, l)) clause
    → new ++ clause_literals (first + (j + 1)) (drop (j + 1) matrix) ≡ goal
next_clause first j matrix all new goal clause below is before added =
    search (arith, (append_assoc all), (drop_at matrix j [] below))

pub place_below : (clause : List Literal) (i : ℕ) → IsSome (slice_get clause i) → i < length clause
place_below [] i some = cc
place_below (l ∷ clause) zero some = omega arith
place_below (l ∷ clause) (suc i) some = let h = place_below clause i some in omega (arith, h)
