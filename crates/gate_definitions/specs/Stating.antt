-- Gates that clauses state, as a circuit's are written in clauses (G. S. Tseitin, 1968).
use Rattle.std.specs.Prelude.{◌≡◌, ◌==◌, ℕ, true, [], ◌∷◌, List, if◌then◌else◌}
use Rattle.std.specs.List.{All, position_or_len}
use Rattle.dq_lits.specs.Literal.{Assignment, Literal, variable_of, is_negative, literal_true, clause_true}
use Rattle.dq_lits.specs.Formula.{Existential, Dqbf, declared}
use Rattle.dq_lits.specs.Henkin.{MatrixHolds}
use Rattle.dq_formula.specs.Rules.{cube_true}
use Rattle.definition_order.specs.Order.{MayRead}
use Rattle.aig_graph.specs.declared.nodes.Node.{Node}
use Rattle.aig_graph.specs.declared.nodes.Node.TheVariants.{Input}
use Rattle.gate_definitions.specs.declared.choices.Choice.{Choice}
use Rattle.gate_definitions.specs.declared.choices.Half.{Half}

-- the clause is true wherever the matrix is
abbrev pub IsImplied : Dqbf → List Literal → Type 0
IsImplied f clause = (m : Assignment) → MatrixHolds f m → clause_true m clause ≡ true

-- wherever the matrix and all literals of the cube are true, the literal is
abbrev pub Implies : Dqbf → List Literal → Literal → Type 0
Implies f cube l =
    (m : Assignment) → MatrixHolds f m → cube_true m cube ≡ true → literal_true m l ≡ true

abbrev pub AreReadable : Dqbf → List ℕ → Existential → List Literal → Type 0
AreReadable f ranks y literals = All (λ l. MayRead f ranks y (variable_of l)) literals

-- wherever the matrix is true, the literal is true exactly where all literals of the cube are,
-- which a definition may read
pub record IsConjunction (f : Dqbf) (ranks : List ℕ) (y : Existential) (l : Literal)
    (cube : List Literal) : Type 0 where
  pub reads : AreReadable f ranks y cube
  pub same : (m : Assignment) → MatrixHolds f m → literal_true m l ≡ cube_true m cube

-- where the condition is true, the variable has the value of a literal
abbrev pub IsHalf : Dqbf → ℕ → Half → Type 0
IsHalf f y half =
    (m : Assignment) → MatrixHolds f m → literal_true m half.condition ≡ true
    → m y ≡ literal_true m half.value

-- the literals of a choice
abbrev pub choice_literals : Choice → List Literal
choice_literals choice = choice.condition ∷ choice.then_value ∷ choice.else_value ∷ []

-- wherever the matrix is true, the existential has the value of the second literal where the first
-- is true, else of the third
pub record IsChoice (f : Dqbf) (ranks : List ℕ) (y : Existential) (choice : Choice) : Type 0 where
  pub reads : AreReadable f ranks y (choice_literals choice)
  pub same : (m : Assignment) → MatrixHolds f m
      → m y.variable
      ≡ (if literal_true m choice.condition then literal_true m choice.then_value
      else literal_true m choice.else_value)

-- input i is the variable at place i of those declared
abbrev pub literal_node : Dqbf → Literal → Node
literal_node f l = Input (position_or_len (λ v. v == variable_of l) (declared f)) (is_negative l)
