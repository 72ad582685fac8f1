-- An accepted definition's existential has the output's value, and that depends only on what the
-- definition may read.
use Rattle.std.proofs.Common.{◌≡◌, ◌≢◌, ℕ, zero, suc, ◌+◌, ◌-◌, ◌*◌, ◌≤◌, ◌<◌, ◌==◌, nat_lt, Bool, true, false, cond, not, ◌&&◌, List, [], ◌∷◌, ◌++◌, map, length, slice_get, None, Some, refl, sym, ap, ap₂, ◌∙◌, arith}
use Rattle.std.specs.List.{All, AllByRecursion, Contains, flat_map, list_any}
use Rattle.std.specs.Option.{option_and_then}
use Rattle.std.proofs.lemmas.Bool.{eq-eqb, ne_eqb, cond-true, cond-false}
use Rattle.std.proofs.lemmas.List.Elements.{All-contains, recursion_from_All}
use Rattle.dq_lits.specs.Literal.{Assignment, Literal, positive, negative, variable_of, literal_true, clause_true}
use Rattle.dq_lits.specs.Formula.{Dqbf, IsWellFormed, declared}
use Rattle.dq_lits.specs.Henkin.{MatrixHolds}
use Rattle.dq_lits.specs.Derivation.{LiveClauses, MakesTrue, ProofStep, proof_fault, steps_fault}
use Rattle.rup_core.specs.Items.{ItemsDerive, ProofItem, derived, items_fault}
use Rattle.circuit_plain.specs.Netlist.{gate_value, left_variable, right_variable, literal_bit, literal_variable, signed_bit}
use Rattle.circuit_plain.specs.declared.circuits.Gate.{Gate}
use Rattle.cert_text.specs.AllowedDefinitions.{AreGatesFrom, IsDefinitionOf}
use Rattle.cert_text.specs.DefinitionBlocks.{Definition}
use Rattle.cert_text.specs.NegatedMatrix.{gate_clauses, opposite_of, without_constants}
use Rattle.defined_checker.specs.DefinitionBase.{definition_base, definition_clauses}
use Rattle.defined_checker.specs.Forced.{definition_value, with_bit, with_gates}

abbrev Holds : (ℕ → Bool) → List ℕ → Type 0
Holds e clause = list_any (literal_bit e) clause ≡ true

-- bits that gates leave
kept_bit : (f : Dqbf) (m : Assignment) (at : ℕ) (gates : List Gate) → AreGatesFrom f at gates → (v : ℕ) → v < at →
    with_gates m gates v ≡ m v
kept_bit f m at [] are v below = refl
kept_bit f m at (g ∷ gates) are v below =
    let b = gate_value g (m (left_variable g)) (m (right_variable g)) in
    let is : g.variable ≡ at = are.0.numbered in
    let apart : v ≢ g.variable = λ same. absurd (omega (arith, below, is, same)) in
    kept_bit f (with_bit m g.variable b) (at + 1) gates are.1 v (omega (arith, below))
    ∙ cond-false (v == g.variable) b (m v) (ne_eqb v g.variable apart)

abbrev Meets : (ℕ → Bool) → Gate → Type 0
Meets e g = e g.variable ≡ (literal_bit e g.left && literal_bit e g.right)

-- behind a gate its variable has its value, and what lies below stays
module _ (f : Dqbf) (m : Assignment) (at : ℕ) (g : Gate) (gates : List Gate) (are : AreGatesFrom f at (g ∷ gates)) where
  abbrev value : Bool
  value = gate_value g (m (left_variable g)) (m (right_variable g))

  abbrev last : Assignment
  last = with_gates m (g ∷ gates)

  numbered : g.variable ≡ at
  numbered = are.0.numbered

  own : last g.variable ≡ value
  own =
      let behind : g.variable < at + 1 = omega (arith, numbered) in
      kept_bit f (with_bit m g.variable value) (at + 1) gates are.1 g.variable behind
      ∙ cond-true (g.variable == g.variable) value (m g.variable) (eq-eqb g.variable g.variable refl)

  side_same : (l : ℕ) → literal_variable l < at → literal_bit last l ≡ literal_bit m l
  side_same l below = ap (signed_bit l) (kept_bit f m at (g ∷ gates) are (literal_variable l) below)

  met : Meets last g
  met = own ∙ sym (ap₂ (λ a b. a && b) (side_same g.left are.0.left_before) (side_same g.right are.0.right_before))

module _ (variable : (e : ℕ → Bool) (v : ℕ) → literal_bit e (2 * v) ≡ e v)
    (opposite : (e : ℕ → Bool) (l : ℕ) → literal_bit e (opposite_of l) ≡ not (literal_bit e l))
    (gate : (e : ℕ → Bool) (g : Gate) → Meets e g → AllByRecursion (Holds e) (gate_clauses g))
    (kept : (e : ℕ → Bool) (literals : List ℕ) (clause : List Literal) → e 0 ≡ false →
    without_constants literals ≡ Some clause → Holds e literals → clause_true e clause ≡ true) where
  all-append : (e : ℕ → Bool) (xs ys : List (List ℕ)) → AllByRecursion (Holds e) xs → AllByRecursion (Holds e) ys →
      AllByRecursion (Holds e) (xs ++ ys)
  all-append e [] ys h k = k
  all-append e (x ∷ xs) ys h k = (h.0, all-append e xs ys h.1 k)

  gates_hold : (f : Dqbf) (m : Assignment) (at : ℕ) (gates : List Gate) → AreGatesFrom f at gates →
      AllByRecursion (Holds (with_gates m gates)) (flat_map gate_clauses gates)
  gates_hold f m at [] are = tt
  gates_hold f m at (g ∷ gates) are =
      let next = with_bit m g.variable (gate_value g (m (left_variable g)) (m (right_variable g))) in
      all-append (with_gates next gates) (gate_clauses g) (flat_map gate_clauses gates)
      (gate (with_gates next gates) g (met f m at g gates are)) (gates_hold f next (at + 1) gates are.1)

  differ_hold : (e : ℕ → Bool) (y out : ℕ) (a b : Bool) → e y ≡ a → literal_bit e out ≡ b → (a ≡ b → ⊥) →
      AllByRecursion (Holds e)
      ((2 * y ∷ out ∷ []) ∷ (opposite_of (2 * y) ∷ opposite_of out ∷ []) ∷ [])
  differ_hold e y out a b y_is out_is differ = search arith

  clause_at : (e : ℕ → Bool) → e 0 ≡ false → (clauses : List (List ℕ)) → AllByRecursion (Holds e) clauses → (i : ℕ)
      (clause : List Literal) → option_and_then without_constants (slice_get clauses i) ≡ Some clause →
      clause_true e clause ≡ true
  clause_at e zeroed [] all i clause is = cc
  clause_at e zeroed (literals ∷ clauses) all zero clause is = kept e literals clause zeroed is all.0
  clause_at e zeroed (literals ∷ clauses) all (suc i) clause is = clause_at e zeroed clauses all.1 i clause is

  literal_same : (m n : Assignment) (l : Literal) → m (variable_of l) ≡ n (variable_of l) →
      literal_true m l ≡ literal_true n l
  literal_same m n (positive v) h = h
  literal_same m n (negative v) h = ap not h

  clause_same : (m n : Assignment) (c : List Literal) → AllByRecursion (λ l. m (variable_of l) ≡ n (variable_of l)) c →
      clause_true m c ≡ clause_true n c
  clause_same m n [] same = refl
  clause_same m n (l ∷ ls) same = search (arith, literal_same, (clause_same m n ls same.1))

  module _ (refute : (live : LiveClauses) (items : List ProofItem) → ItemsDerive live items → (m : Assignment) →
      MakesTrue m live → ⊥)
      (alone : (finished : Bool) (live : LiveClauses) (steps : List ProofStep) →
      items_fault finished live (map derived steps) ≡ steps_fault finished live steps)
      (f : Dqbf) (d : Definition) (formed : IsWellFormed f) (lawful : IsDefinitionOf f d) where
    module _ (m : Assignment) (holds : MatrixHolds f m) where
      abbrev start : Assignment
      start = with_bit m 0 false

      abbrev end : Assignment
      end = with_gates start d.gates

      pub same : (v : ℕ) → 1 ≤ v → v ≤ f.variables → end v ≡ m v
      same v some few =
          let apart : v ≢ 0 = λ is. absurd (omega (arith, some, is)) in
          kept_bit f start (f.variables + 1) d.gates lawful.gates v (omega (arith, few))
          ∙ cond-false (v == 0) false (m v) (ne_eqb v 0 apart)

      zeroed : end 0 ≡ false
      zeroed = search (arith, kept_bit, cond-true)

      declared_same : (v : ℕ) → Contains (declared f) v → end v ≡ m v
      declared_same v is =
          let range = All-contains (λ w. (1 ≤ w) × (w ≤ f.variables)) (declared f) v formed.prefix.in_range is in
          same v range.0 range.1

      matrix_same : (clauses : List (List Literal)) →
          AllByRecursion (λ c. All (λ l. Contains (declared f) (variable_of l)) c) clauses →
          AllByRecursion (λ c. clause_true m c ≡ true) clauses → AllByRecursion (λ c. clause_true end c ≡ true) clauses
      matrix_same [] bound true_in = tt
      matrix_same (c ∷ clauses) bound true_in = (
        clause_same end m c (literals c (recursion_from_All _ c bound.0)) ∙ true_in.0,
        matrix_same clauses bound.1 true_in.1,
      )
        where
          literals : (ls : List Literal) → AllByRecursion (λ l. Contains (declared f) (variable_of l)) ls →
              AllByRecursion (λ l. end (variable_of l) ≡ m (variable_of l)) ls
          literals [] h = tt
          literals (l ∷ ls) h = (declared_same (variable_of l) h.0, literals ls h.1)

      in_matrix : (clauses : List (List Literal)) → AllByRecursion (λ c. clause_true end c ≡ true) clauses → (i : ℕ)
          (clause : List Literal) → slice_get clauses i ≡ Some clause → clause_true end clause ≡ true
      in_matrix [] all i clause is = cc
      in_matrix (c ∷ clauses) all zero clause is = search arith
      in_matrix (c ∷ clauses) all (suc i) clause is = in_matrix clauses all.1 i clause is

      base_true : (a b : Bool) → m d.existential ≡ a → literal_bit end d.output ≡ b → (a ≡ b → ⊥) →
          end d.existential ≡ m d.existential → MakesTrue end (definition_base f d)
      base_true a b y_is out_is differ y_same zero clause is = cc
      base_true a b y_is out_is differ y_same (suc i) clause is = by (nat_lt i (length f.matrix)) is
        where
          by : (t : Bool) → cond t (slice_get f.matrix i)
              (option_and_then without_constants (slice_get (definition_clauses d) (i - length f.matrix))) ≡ Some clause →
              clause_true end clause ≡ true
          by true h =
              in_matrix f.matrix (matrix_same f.matrix (recursion_from_All _ f.matrix formed.bound)
              (recursion_from_All _ f.matrix holds)) i clause h
          by false h =
              clause_at end zeroed (definition_clauses d)
              (all-append end (flat_map gate_clauses d.gates) _ (gates_hold f start (f.variables + 1) d.gates lawful.gates)
              (differ_hold end d.existential d.output a b (y_same ∙ y_is) out_is differ))
              (i - length f.matrix) clause h

      pub value_forced : proof_fault (definition_base f d) d.steps ≡ None → end d.existential ≡ m d.existential →
          m d.existential ≡ definition_value d m
      value_forced derives y_same = by (m d.existential) (literal_bit end d.output) refl refl
        where
          never : (a b : Bool) → m d.existential ≡ a → literal_bit end d.output ≡ b → (a ≡ b → ⊥) → ⊥
          never a b y_is out_is differ =
              refute (definition_base f d) (map derived d.steps)
              (alone false (definition_base f d) d.steps ∙ derives) end
              (base_true a b y_is out_is differ y_same)

          by : (a b : Bool) → m d.existential ≡ a → literal_bit end d.output ≡ b →
              m d.existential ≡ literal_bit end d.output
          by true true y_is out_is = y_is ∙ sym out_is
          by false false y_is out_is = y_is ∙ sym out_is
          by true false y_is out_is = absurd (never true false y_is out_is (λ h. apart h))
            where
              apart : true ≡ false → ⊥
              apart h = cc
          by false true y_is out_is = absurd (never false true y_is out_is (λ h. apart h))
            where
              apart : false ≡ true → ⊥
              apart h = cc
