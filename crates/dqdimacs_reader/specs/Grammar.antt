-- The grammar: which formula a text spells (QDIMACS with `d` lines).
use Rattle.std.specs.Prelude.{◌≡◌, ◌≢◌, ℕ, ◌≤◌, true, false, List, [], ◌∷◌, ◌++◌, map, length}
use Rattle.std.specs.List.{AllByRecursion, AllPairs, flat_map, fold}
use Rattle.dq_lits.specs.Literal.{Literal, positive, negative, variable_of}
use Rattle.dq_lits.specs.Formula.{Dqbf, is_universal}
use Rattle.dq_text.specs.Token.{tokens_of}
use Rattle.dq_formula.specs.Prefix.{is_declared}
use Rattle.dqdimacs_reader.specs.Building.{empty_formula, add_universal, add_first, add_listed, add_clause, add_xor, distinct, with_free}
use Rattle.dqdimacs_reader.specs.Lexeme.{lexeme_of}
use Rattle.dqdimacs_reader.specs.Machine.{max_variables, max_clauses, max_xor}
use Rattle.dqdimacs_reader.specs.declared.lexemes.Lexeme.{Lexeme}
use Rattle.dqdimacs_reader.specs.declared.lexemes.Lexeme.TheVariants.{P, Cnf, A, D, E, X, Natural, Negative}

-- a part of the prefix: `a v.. 0`, `e v.. 0` or `d y x.. 0`
pub data PrefixPart : Type 0 where
  universals : List ℕ → PrefixPart
  existentials : List ℕ → PrefixPart
  dependent : ℕ → List ℕ → PrefixPart

-- a clause, or an XOR line `x l.. 0`
pub data Constraint : Type 0 where
  plain : List Literal → Constraint
  xor : List Literal → Constraint

abbrev pub numbers : List ℕ → List Lexeme
numbers vs = map Natural vs ++ Natural 0 ∷ []

abbrev pub part_lexemes : PrefixPart → List Lexeme
part_lexemes (universals vs) = A ∷ numbers vs
part_lexemes (existentials ys) = E ∷ numbers ys
part_lexemes (dependent y xs) = D ∷ Natural y ∷ numbers xs

abbrev pub literal_lexeme : Literal → Lexeme
literal_lexeme (positive v) = Natural v
literal_lexeme (negative v) = Negative v

abbrev pub clause_lexemes : List Literal → List Lexeme
clause_lexemes literals = map literal_lexeme literals ++ Natural 0 ∷ []

abbrev pub constraint_lexemes : Constraint → List Lexeme
constraint_lexemes (plain literals) = clause_lexemes literals
constraint_lexemes (xor literals) = X ∷ clause_lexemes literals

abbrev pub header : ℕ → ℕ → List Lexeme
header variables clauses = P ∷ Cnf ∷ Natural variables ∷ Natural clauses ∷ []

-- a variable that a part may declare
pub record IsNew (f : Dqbf) (v : ℕ) : Type 0 where
  pub from_one : 1 ≤ v
  pub in_range : v ≤ f.variables
  pub undeclared : is_declared f v ≡ false

-- a variable of a set is declared behind those before it
abbrev pub AreNew : (Dqbf → ℕ → Dqbf) → Dqbf → List ℕ → Type 0
AreNew add f [] = Unit {0}
AreNew add f (v ∷ vs) = IsNew f v × AreNew add (add f v) vs

-- a dependency is a universal declared before; it is in range then
abbrev pub IsSeen : Dqbf → ℕ → Type 0
IsSeen f x = (1 ≤ x) × (x ≤ f.variables) × (is_universal f x ≡ true)

abbrev pub IsLawfulPart : Dqbf → PrefixPart → Type 0
IsLawfulPart f (universals vs) = AreNew add_universal f vs
IsLawfulPart f (existentials ys) = AreNew add_first f ys
IsLawfulPart f (dependent y xs) = IsNew f y × AllByRecursion (IsSeen f) xs

-- the formula with a part's declarations
abbrev pub declare : Dqbf → PrefixPart → Dqbf
declare f (universals vs) = fold add_universal f vs
declare f (existentials ys) = fold add_first f ys
declare f (dependent y xs) = add_listed f y xs

abbrev pub AreLawfulParts : Dqbf → List PrefixPart → Type 0
AreLawfulParts f [] = Unit {0}
AreLawfulParts f (part ∷ parts) = IsLawfulPart f part × AreLawfulParts (declare f part) parts

abbrev pub InRange : ℕ → Literal → Type 0
InRange variables l = (1 ≤ variable_of l) × (variable_of l ≤ variables)

-- an XOR line has 1 to 5 literals, on different variables
pub record IsXor (literals : List Literal) : Type 0 where
  pub some : 1 ≤ length literals
  pub few : length literals ≤ max_xor
  pub apart : AllPairs (λ k l. variable_of k ≢ variable_of l) literals

abbrev pub IsLawfulConstraint : ℕ → Constraint → Type 0
IsLawfulConstraint variables (plain literals) = AllByRecursion (InRange variables) literals
IsLawfulConstraint variables (xor literals) =
    AllByRecursion (InRange variables) literals × IsXor literals

abbrev pub AreLawfulConstraints : ℕ → List Constraint → Type 0
AreLawfulConstraints variables constraints =
    AllByRecursion (IsLawfulConstraint variables) constraints

-- a clause stands in the matrix as its distinct literals, an XOR line as its clauses
abbrev pub add_constraint : Dqbf → Constraint → Dqbf
add_constraint f (plain literals) = add_clause f (distinct literals)
add_constraint f (xor literals) = add_xor f literals

-- The tokens are the header, then parts in any order and number, then as many clauses and XOR lines
-- as the header says, in any order. The formula has what the parts declare, the clauses of these,
-- and the free variables.
pub record SpellsFormula (text : List ℕ) (f : Dqbf) : Type 0 where
  pub parts : List PrefixPart
  pub constraints : List Constraint
  pub spelling : map (λ token. lexeme_of token.text) (tokens_of text)
      ≡ header f.variables (length constraints)
      ++ (flat_map part_lexemes parts ++ flat_map constraint_lexemes constraints)
  pub few_variables : f.variables ≤ max_variables
  pub few_constraints : length constraints ≤ max_clauses
  pub few_clauses : length f.matrix ≤ max_clauses
  pub lawful_parts : AreLawfulParts (empty_formula f.variables) parts
  pub lawful_constraints : AreLawfulConstraints f.variables constraints
  pub formula : f
      ≡ with_free
      (fold add_constraint (fold declare (empty_formula f.variables) parts) constraints)
