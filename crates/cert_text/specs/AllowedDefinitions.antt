-- What a text of definitions can hold for a formula.
use Rattle.std.specs.Prelude.{◌≡◌, ℕ, ◌+◌, ◌*◌, ◌<◌, ◌≤◌, ◌==◌, nat_lt, nat_le, Bool, true, ◌&&◌, ◌||◌, List, [], ◌∷◌, length}
use Rattle.dq_lits.specs.Formula.{Dqbf}
use Rattle.dq_formula.specs.Prefix.{is_declared}
use Rattle.circuit_plain.specs.Netlist.{left_variable, literal_variable, right_variable}
use Rattle.circuit_plain.specs.declared.circuits.Gate.{Gate}
use Rattle.cert_text.specs.DefinitionBlocks.{Definition, Valuation, DefinitionBlock, defined, free}
use Rattle.cert_text.specs.Grammar.{AreSteps}
use Rattle.cert_text.specs.Header.{max_count}
use Rattle.cert_text.specs.Variables.{is_up_to}

-- a constant, or a literal on a variable that the formula declares or that lies behind its own
abbrev pub is_readable : Dqbf → ℕ → Bool
is_readable f l =
    (literal_variable l == 0)
    || (nat_lt f.variables (literal_variable l) || is_declared f (literal_variable l))

-- such a literal on none behind the variables of so many gates
abbrev pub is_output : Dqbf → ℕ → ℕ → Bool
is_output f gates l = is_readable f l && nat_le (literal_variable l) (f.variables + gates)

-- a gate with this variable, which reads what is readable and lies before it
pub record IsGateAt (f : Dqbf) (variable : ℕ) (g : Gate) : Type 0 where
  pub numbered : g.variable ≡ variable
  pub left_before : left_variable g < variable
  pub right_before : right_variable g < variable
  pub left_readable : is_readable f g.left ≡ true
  pub right_readable : is_readable f g.right ≡ true

-- gates whose variables are numbered from one on
abbrev pub AreGatesFrom : Dqbf → ℕ → List Gate → Type 0
AreGatesFrom f variable [] = Unit {0}
AreGatesFrom f variable (g ∷ gates) = IsGateAt f variable g × AreGatesFrom f (variable + 1) gates

-- the matrix, three clauses for each gate, and two for the existential and the output have the ids
-- before the first step's
abbrev pub first_definition_id : Dqbf → ℕ → ℕ
first_definition_id f gates = length f.matrix + 3 * gates + 3

-- gates behind the formula's variables, an output on one of these variables or a constant, and steps
-- over these variables
pub record IsDefinitionOf (f : Dqbf) (d : Definition) : Type 0 where
  pub few : length d.gates ≤ max_count
  pub gates : AreGatesFrom f (f.variables + 1) d.gates
  pub output : is_output f (length d.gates) d.output ≡ true
  pub steps : AreSteps (is_up_to (f.variables + length d.gates))
      (first_definition_id f (length d.gates)) d.steps

pub record IsValuationOf (f : Dqbf) (v : Valuation) : Type 0 where
  pub row : length v.row ≡ length f.universals
  pub values : length v.values ≡ length f.existentials

-- the block of an existential
abbrev pub IsBlockOf : Dqbf → ℕ → DefinitionBlock → Type 0
IsBlockOf f y (defined d) = (d.existential ≡ y) × IsDefinitionOf f d
IsBlockOf f y (free p) =
    (p.existential ≡ y) × (IsValuationOf f p.first × IsValuationOf f p.second)

-- the blocks of these existentials in order
abbrev pub AreBlocksOf : Dqbf → List ℕ → List DefinitionBlock → Type 0
AreBlocksOf f [] [] = Unit {0}
AreBlocksOf f [] (_ ∷ _) = ⊥
AreBlocksOf f (_ ∷ _) [] = ⊥
AreBlocksOf f (y ∷ ys) (block ∷ blocks) = IsBlockOf f y block × AreBlocksOf f ys blocks

-- a proof's lines are within their limit
abbrev pub HasFewSteps : DefinitionBlock → Type 0
HasFewSteps (defined d) = length d.steps ≤ max_count
HasFewSteps (free p) = Unit {0}

abbrev pub HaveFewSteps : List DefinitionBlock → Type 0
HaveFewSteps [] = Unit {0}
HaveFewSteps (block ∷ blocks) = HasFewSteps block × HaveFewSteps blocks
