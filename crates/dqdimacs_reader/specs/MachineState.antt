-- The machine's fields as a state of the definition.
use Rattle.std.specs.Prelude.{◌≡◌, ◌≢◌, ℕ, ◌≤◌, ◌<◌, Bool, true, false, List, length, Option, None}
use Rattle.std.specs.List.{All, AllPairs}
use Rattle.dq_lits.specs.Literal.{Literal, positive, negative, variable_of}
use Rattle.dq_lits.specs.Formula.{Dqbf, is_universal}
use Rattle.dq_formula.specs.Prefix.{is_declared}
use Rattle.dqdimacs_reader.specs.Building.{empty_formula}
use Rattle.dqdimacs_reader.specs.Machine.{State, Reading, check, advance, literal_or_end, before_header, before_format, before_variables, before_clauses, at_part, in_universals, in_existentials, at_dependent, in_dependencies, in_clause, in_xor, max_xor}
use Rattle.dqdimacs_reader.specs.declared.faults.FormulaFault.{FormulaFault}
use Rattle.dqdimacs_reader.specs.declared.lexemes.Lexeme.{Lexeme}
use Rattle.dqdimacs_reader.specs.declared.machine.Machine.{Machine}
use Rattle.dqdimacs_reader.specs.declared.machine.Stage.{Stage}
use Rattle.dqdimacs_reader.specs.declared.machine.Stage.TheVariants.{Header, Format, Variables, Clauses, PrefixPart, Universals, Existentials, Dependent, Dependencies, Clause, Xor}

abbrev pub state_at : Stage → Reading → ℕ → List ℕ → List Literal → State
state_at Header r y xs literals = before_header
state_at Format r y xs literals = before_format
state_at Variables r y xs literals = before_variables
state_at Clauses r y xs literals = before_clauses r.formula.variables
state_at PrefixPart r y xs literals = at_part r
state_at Universals r y xs literals = in_universals r
state_at Existentials r y xs literals = in_existentials r
state_at Dependent r y xs literals = at_dependent r
state_at Dependencies r y xs literals = in_dependencies r y xs
state_at Clause r y xs literals = in_clause r literals
state_at Xor r y xs literals = in_xor r literals

abbrev pub reading_of : Machine → Reading
reading_of m =
    record { clauses = m.clauses; constraints = m.constraints; formula = m.formula }

abbrev pub state_of : Machine → State
state_of m = state_at m.stage (reading_of m) m.dependent m.dependencies.items m.literals

abbrev pub literal_on : Bool → ℕ → Literal
literal_on false v = positive v
literal_on true v = negative v

-- clauses and XOR lines are counted
abbrev pub IsCounted : Reading → Type 0
IsCounted r = r.constraints ≤ r.clauses

-- the variable of an item may be declared, with these dependencies
pub record IsItem (f : Dqbf) (y : ℕ) (xs : List ℕ) : Type 0 where
  pub from_one : 1 ≤ y
  pub in_range : y ≤ f.variables
  pub undeclared : is_declared f y ≡ false
  pub seen : All (λ x. is_universal f x ≡ true) xs

-- a clause or an XOR line is due, and its literals are in range
pub record IsClause (r : Reading) (literals : List Literal) : Type 0 where
  pub due : r.constraints < r.clauses
  pub in_range : All (λ l. variable_of l ≤ r.formula.variables) literals

-- an XOR line has few literals, on different variables
pub record IsXorLine (literals : List Literal) : Type 0 where
  pub few : length literals ≤ max_xor
  pub apart : AllPairs (λ k l. variable_of k ≢ variable_of l) literals

abbrev pub IsReaderStateAt : Stage → Reading → ℕ → List ℕ → List Literal → Type 0
IsReaderStateAt Header r y xs literals = Unit {0}
IsReaderStateAt Format r y xs literals = Unit {0}
IsReaderStateAt Variables r y xs literals = Unit {0}
IsReaderStateAt Clauses r y xs literals = r.formula ≡ empty_formula r.formula.variables
IsReaderStateAt PrefixPart r y xs literals = IsCounted r
IsReaderStateAt Universals r y xs literals = IsCounted r
IsReaderStateAt Existentials r y xs literals = IsCounted r
IsReaderStateAt Dependent r y xs literals = IsCounted r
IsReaderStateAt Dependencies r y xs literals = IsCounted r × IsItem r.formula y xs
IsReaderStateAt Clause r y xs literals = IsClause r literals
IsReaderStateAt Xor r y xs literals = IsClause r literals × IsXorLine literals

-- what the calls that build the formula ask for
abbrev pub IsReaderState : Machine → Type 0
IsReaderState m = IsReaderStateAt m.stage (reading_of m) m.dependent m.dependencies.items m.literals

-- a lexeme passes its checks, and leads on from here to there
pub record GoesOn (old : Machine) (lexeme : Lexeme) (new : Machine) : Type 0 where
  pub passed : check (state_of old) lexeme ≡ None
  pub state : state_of new ≡ advance (state_of old) lexeme
  pub ready : IsReaderState new

-- A literal on a variable, or the zero in its place, passes these checks, and stands behind the
-- others from there on.
pub record TakesLiteral (old : Machine) (checks : Option FormulaFault) (literals : List Literal)
    (v : ℕ) (is_negative : Bool) (new : Machine) : Type 0 where
  pub passed : checks ≡ None
  pub state : state_of new ≡ literal_or_end (reading_of old) literals v (literal_on is_negative v)
  pub ready : IsReaderState new
