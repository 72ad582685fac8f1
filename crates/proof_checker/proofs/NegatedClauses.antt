-- When the clauses of the negated matrix are true.
use Rattle.std.proofs.Common.{◌≡◌, ℕ, zero, suc, ◌+◌, ◌*◌, ◌/◌, ◌%◌, ◌<◌, ◌==◌, Bool, true, false, not, cond, ◌||◌, ◌&&◌, List, [], ◌∷◌, ◌++◌, map, length, slice_get, Some, refl, ◌∙◌, ap, arith}
use Rattle.std.specs.List.{AllByRecursion, list_any, list_all, filter, flat_map, range_with_len}
use Rattle.std.specs.Option.{option_and_then}
use Rattle.std.proofs.lemmas.Bool.{cases_Bool, eqb-true}
use Rattle.list_laws.proofs.Truths.{not-not}
use Rattle.dq_lits.specs.Derivation.{MakesTrue}
use Rattle.dq_lits.specs.Formula.{Dqbf}
use Rattle.dq_lits.specs.Literal.{Assignment, Literal, positive, negative, variable_of, literal_true, clause_true}
use Rattle.circuit_plain.specs.Netlist.{Netlist, literal_bit}
use Rattle.circuit_plain.specs.declared.circuits.Gate.{Gate}
use Rattle.cert_text.specs.NegatedMatrix.{opposite_of, gate_clauses, literal_under, falsity_clauses, all_falsity_clauses, some_clause_false, negated_clauses, as_literal, without_constants, negated_matrix}

rest-zero : (r : ℕ) → r < 2 → (r == 1) ≡ false → r ≡ 0
rest-zero zero small other = refl
rest-zero (suc zero) small other = cc
rest-zero (suc (suc r)) small other = absurd (omega (arith, small))

module _ (e : ℕ → Bool) where
  bit_by_parts : (l r w : ℕ) → l % 2 ≡ r → l / 2 ≡ w → literal_bit e l ≡ cond (r == 1) (not (e w)) (e w)
  bit_by_parts l r w rest half = search arith

  pub even_bit : (w : ℕ) → literal_bit e (2 * w) ≡ e w
  even_bit w = bit_by_parts (2 * w) 0 w (omega arith) (omega arith)

  pub opposite_bit : (l : ℕ) → literal_bit e (opposite_of l) ≡ not (literal_bit e l)
  opposite_bit l = search (arith, cases_Bool, eqb-true, bit_by_parts, not-not, rest-zero)

  abbrev pub IsTrueClause : List ℕ → Type 0
  IsTrueClause clause = list_any (literal_bit e) clause ≡ true

  abbrev pub AreTrue : List (List ℕ) → Type 0
  AreTrue clauses = AllByRecursion IsTrueClause clauses

  pair_true : (k l : ℕ) (p q : Bool) → literal_bit e k ≡ p → literal_bit e l ≡ q → (p || (q || false)) ≡ true
      → IsTrueClause (k ∷ l ∷ [])
  pair_true k l p q is_p is_q holds = search arith

  triple_true : (j k l : ℕ) (p q r : Bool) → literal_bit e j ≡ p → literal_bit e k ≡ q → literal_bit e l ≡ r →
      (p || (q || (r || false))) ≡ true
      → IsTrueClause (j ∷ k ∷ l ∷ [])
  triple_true j k l p q r is_p is_q is_r holds = search arith

  -- a gate's clauses
  abbrev pub MeetsGate : Gate → Type 0
  MeetsGate g = e g.variable ≡ (literal_bit e g.left && literal_bit e g.right)

  left_holds : (a b : Bool) → (not (a && b) || (a || false)) ≡ true
  left_holds true true = refl
  left_holds true false = refl
  left_holds false b = refl

  right_holds : (a b : Bool) → (not (a && b) || (b || false)) ≡ true
  right_holds true true = refl
  right_holds true false = refl
  right_holds false b = refl

  both_hold : (a b : Bool) → ((a && b) || (not a || (not b || false))) ≡ true
  both_hold true true = refl
  both_hold true false = refl
  both_hold false b = refl

  pub gate_true : (g : Gate) → MeetsGate g → AreTrue (gate_clauses g)
  gate_true g meets =
      search (arith, even_bit, opposite_bit, pair_true, left_holds, right_holds, triple_true, both_hold)

  all-append : (xs ys : List (List ℕ)) → AreTrue xs → AreTrue ys → AreTrue (xs ++ ys)
  all-append [] ys h k = k
  all-append (x ∷ xs) ys h k = (h.0, all-append xs ys h.1 k)

  gates_true : (gates : List Gate) → AllByRecursion MeetsGate gates → AreTrue (flat_map gate_clauses gates)
  gates_true [] meets = tt
  gates_true (g ∷ gates) meets = search (arith, all-append, gate_true, (gates_true gates meets.1))

  module _ (m : Assignment) (outputs : ℕ → ℕ) where
    -- the variable has its value
    abbrev pub HasItsBit : Literal → Type 0
    HasItsBit l = literal_bit e (outputs (variable_of l)) ≡ m (variable_of l)

    literal_is : (l : Literal) → HasItsBit l → literal_bit e (literal_under outputs l) ≡ literal_true m l
    literal_is (positive v) has = has
    literal_is (negative v) has = opposite_bit (outputs v) ∙ ap not has

    false_or : (t q : Bool) → (t ≡ false → q ≡ false) → (t || (not q || false)) ≡ true
    false_or true q implied = refl
    false_or false q implied = ap (λ b. not b || false) (implied refl)

    falsity_true : (bad : ℕ) (t : Bool) → e bad ≡ not t → (clause : List Literal) → AllByRecursion HasItsBit clause
        → (t ≡ false → clause_true m clause ≡ false) → AreTrue (falsity_clauses outputs bad clause)
    falsity_true bad t is [] have implied = tt
    falsity_true bad t is (l ∷ clause) have implied =
        search (arith, pair_true, opposite_bit, even_bit, not-not, false_or, (falsity_true bad t is clause have.1))

    -- each variable from `bad` on tells that its clause is false
    abbrev pub TellFalsity : ℕ → List (List Literal) → Type 0
    TellFalsity bad [] = Unit {0}
    TellFalsity bad (clause ∷ clauses) = (e bad ≡ not (clause_true m clause)) × TellFalsity (bad + 1) clauses

    all_falsity_true : (bad : ℕ) (clauses : List (List Literal)) → AllByRecursion (AllByRecursion HasItsBit) clauses →
        TellFalsity bad clauses
        → AreTrue (all_falsity_clauses outputs bad clauses)
    all_falsity_true bad [] have tell = tt
    all_falsity_true bad (clause ∷ clauses) have tell =
        search (arith, all-append, falsity_true, (all_falsity_true (bad + 1) clauses have.1 tell.1))

    some_false : (bad : ℕ) (clauses : List (List Literal)) → TellFalsity bad clauses
        → list_any (literal_bit e) (map (λ v. 2 * v) (range_with_len bad (length clauses))) ≡ not
        (list_all (clause_true m) clauses)
    some_false bad [] tell = refl
    some_false bad (clause ∷ clauses) tell =
        ap (λ b. b || list_any (literal_bit e) (map (λ v. 2 * v) (range_with_len (bad + 1) (length clauses))))
        (even_bit bad ∙ tell.0)
        ∙ ap (λ b. not (clause_true m clause) || b) (some_false (bad + 1) clauses tell.1)
        ∙ by (clause_true m clause) (list_all (clause_true m) clauses)
      where
        by : (a b : Bool) → (not a || not b) ≡ not (a && b)
        by true b = refl
        by false b = refl

    pub negated_true : (f : Dqbf) (net : Netlist) → AllByRecursion MeetsGate net.gates →
        AllByRecursion (AllByRecursion HasItsBit) f.matrix
        → TellFalsity (net.max_var + 1) f.matrix → list_all (clause_true m) f.matrix ≡ false →
        AreTrue (negated_clauses f net outputs)
    negated_true f net meets have tell fails =
        all-append (flat_map gate_clauses net.gates) (all_falsity_clauses outputs
        (net.max_var + 1) f.matrix ++ some_clause_false net f.matrix ∷ [])
        (gates_true net.gates meets)
        (all-append (all_falsity_clauses outputs (net.max_var + 1) f.matrix) (some_clause_false net f.matrix ∷ [])
        (all_falsity_true (net.max_var + 1) f.matrix have tell)
        (some_false (net.max_var + 1) f.matrix tell ∙ ap not fails, tt))

  literal_same : (l : ℕ) → literal_true e (as_literal l) ≡ literal_bit e l
  literal_same l = search arith

  module _ (constant : e 0 ≡ false) where
    kept_same : (clause : List ℕ) → clause_true e (map as_literal (filter (λ l. not (l == 0)) clause)) ≡ list_any
        (literal_bit e) clause
    kept_same [] = refl
    kept_same (l ∷ clause) = search (arith, cases_Bool, eqb-true, (kept_same clause), literal_same)

    pub without_true : (literals : List ℕ) (clause : List Literal) → without_constants literals ≡ Some clause →
        IsTrueClause literals
        → clause_true e clause ≡ true
    without_true literals clause is holds = search (arith, kept_same)

    clause_at : (clauses : List (List ℕ)) → AreTrue clauses → (i : ℕ) (clause : List Literal)
        → option_and_then without_constants (slice_get clauses i) ≡ Some clause → clause_true e clause ≡ true
    clause_at [] all i clause is = cc
    clause_at (literals ∷ clauses) all zero clause is = without_true literals clause is all.0
    clause_at (literals ∷ clauses) all (suc i) clause is = clause_at clauses all.1 i clause is

    pub makes_true : (f : Dqbf) (net : Netlist) (outputs : ℕ → ℕ) → AreTrue (negated_clauses f net outputs) →
        MakesTrue e (negated_matrix f net outputs)
    makes_true f net outputs all zero clause is = cc
    makes_true f net outputs all (suc i) clause is = clause_at (negated_clauses f net outputs) all i clause is
