-- The first fault of a text: the tokens stand in states, and each state has its checks in order.
use Rattle.std.specs.Prelude.{ℕ, ◌+◌, ◌==◌, nat_lt, Bool, true, false, not, List, [], ◌∷◌, ◌++◌, length, Option, None, Some, Result, Ok, Err, if◌then◌else◌}
use Rattle.std.specs.List.{list_any}
use Rattle.dq_lits.specs.Literal.{Literal, positive, negative, variable_of}
use Rattle.dq_lits.specs.Formula.{Dqbf, is_universal}
use Rattle.dq_text.specs.Token.{TextToken, tokens_of, last_line_of}
use Rattle.dq_formula.specs.Prefix.{is_declared}
use Rattle.dq_formula.specs.Xor.{xor_clauses}
use Rattle.dqdimacs_reader.specs.Building.{empty_formula, add_universal, add_first, add_listed, add_clause, add_xor, add_literal, with_free}
use Rattle.dqdimacs_reader.specs.Lexeme.{lexeme_of}
use Rattle.dqdimacs_reader.specs.declared.faults.FormulaFault.{FormulaFault}
use Rattle.dqdimacs_reader.specs.declared.faults.FormulaFault.TheVariants.{NoHeader, BadNumber, TooBig, VarRange, DeclaredTwice, NotUniversal, EmptyD, PrefixLate, HeaderTwice, TooFewClauses, TooManyClauses, MissingZero, Limit, XorRepeat, XorSize}
use Rattle.dqdimacs_reader.specs.declared.lexemes.Lexeme.{Lexeme}
use Rattle.dqdimacs_reader.specs.declared.lexemes.Lexeme.TheVariants.{P, Cnf, A, D, E, X, Natural, Negative, Large, NegativeLarge}

-- what was read: the header's number of clauses and XOR lines, how many of these were read, and the
-- formula so far, free variables not yet declared
pub record Reading : Type 0 where
  pub clauses : ℕ
  pub constraints : ℕ
  pub formula : Dqbf

pub data State : Type 0 where
  before_header : State
  before_format : State
  before_variables : State
  before_clauses : ℕ → State
  -- at the start of a set, an item, a clause or an XOR line
  at_part : Reading → State
  in_universals : Reading → State
  in_existentials : Reading → State
  at_dependent : Reading → State
  -- inside an item, with its variable and the dependencies so far
  in_dependencies : Reading → ℕ → List ℕ → State
  -- inside a clause, with its distinct literals so far
  in_clause : Reading → List Literal → State
  -- inside an XOR line, with its literals so far
  in_xor : Reading → List Literal → State

abbrev pub max_variables : ℕ
max_variables = 1000000

abbrev pub max_clauses : ℕ
max_clauses = 10000000

-- an XOR line has at most so many literals
abbrev pub max_xor : ℕ
max_xor = 5

abbrev pub fault_if : Bool → FormulaFault → Option FormulaFault → Option FormulaFault
fault_if true fault _ = Some fault
fault_if false _ rest = rest

-- the checks of a natural number, behind those that it is one
abbrev pub check_natural : Lexeme → (ℕ → Option FormulaFault) → Option FormulaFault
check_natural (Natural n) check = check n
check_natural Large _ = Some TooBig
check_natural _ _ = Some BadNumber

abbrev pub check_limit : ℕ → ℕ → Option FormulaFault
check_limit limit n = fault_if (nat_lt limit n) Limit None

-- inside a set or an item a second header comes before all else
abbrev pub check_entry : Lexeme → (ℕ → Option FormulaFault) → Option FormulaFault
check_entry P _ = Some HeaderTwice
check_entry (Natural n) check = check n
check_entry Large _ = Some TooBig
check_entry _ _ = Some BadNumber

-- the checks of a signed number, where letters have their own
abbrev pub check_signed : Lexeme → Option FormulaFault → (ℕ → Option FormulaFault)
    → Option FormulaFault
check_signed P _ _ = Some HeaderTwice
check_signed A letter _ = letter
check_signed D letter _ = letter
check_signed E letter _ = letter
check_signed (Natural n) _ check = check n
check_signed (Negative n) _ check = check n
check_signed Large _ _ = Some TooBig
check_signed NegativeLarge _ _ = Some TooBig
check_signed _ _ _ = Some BadNumber

abbrev pub check_range : Reading → ℕ → Option FormulaFault → Option FormulaFault
check_range r v rest = fault_if (nat_lt r.formula.variables v) VarRange rest

-- zero ends a set
abbrev pub check_declared : Reading → ℕ → Option FormulaFault
check_declared r v =
    if v == 0 then None else
    check_range r v (fault_if (is_declared r.formula v) DeclaredTwice None)

abbrev pub check_dependent : Reading → ℕ → Option FormulaFault
check_dependent r y =
    fault_if (y == 0) EmptyD
    (check_range r y (fault_if (is_declared r.formula y) DeclaredTwice None))

-- zero ends an item
abbrev pub check_dependency : Reading → ℕ → Option FormulaFault
check_dependency r x =
    if x == 0 then None else
    check_range r x (fault_if (not (is_universal r.formula x)) NotUniversal None)

-- where so many clauses come to the matrix
abbrev pub check_room : Reading → ℕ → Option FormulaFault
check_room r more = fault_if (nat_lt max_clauses (length r.formula.matrix + more)) Limit None

-- where a clause or an XOR line begins
abbrev pub check_count : Reading → Option FormulaFault → Option FormulaFault
check_count r rest = fault_if (r.constraints == r.clauses) TooManyClauses rest

-- a literal of a clause, or the zero that ends it
abbrev pub check_literal : Reading → ℕ → Option FormulaFault
check_literal r v = if v == 0 then check_room r 1 else check_range r v None

-- at the start of a clause
abbrev pub check_clause : Reading → ℕ → Option FormulaFault
check_clause r v = check_count r (check_literal r v)

-- a set or an item behind the first clause or XOR line
abbrev pub check_part_letter : Reading → Option FormulaFault
check_part_letter r = fault_if (not (r.constraints == 0)) PrefixLate None

-- at the start of a set, an item, a clause or an XOR line
abbrev pub check_part : Reading → Lexeme → Option FormulaFault
check_part r X = check_count r None
check_part r lexeme = check_signed lexeme (check_part_letter r) (check_clause r)

-- inside a clause
abbrev pub check_in_clause : Reading → Lexeme → Option FormulaFault
check_in_clause r lexeme = check_signed lexeme (Some PrefixLate) (check_literal r)

abbrev pub stands_on : ℕ → Literal → Bool
stands_on v l = variable_of l == v

-- the zero that ends an XOR line
abbrev pub check_xor_end : Reading → List Literal → Option FormulaFault
check_xor_end r literals =
    fault_if (length literals == 0) XorSize (check_room r (length (xor_clauses literals)))

-- a literal of an XOR line
abbrev pub check_xor_literal : Reading → List Literal → ℕ → Option FormulaFault
check_xor_literal r literals v =
    check_range r v (fault_if (not (nat_lt (length literals) max_xor)) XorSize
    (fault_if (list_any (stands_on v) literals) XorRepeat None))

-- inside an XOR line
abbrev pub check_in_xor : Reading → List Literal → Lexeme → Option FormulaFault
check_in_xor r literals lexeme =
    check_signed lexeme (Some PrefixLate)
    (λ v. if v == 0 then check_xor_end r literals else check_xor_literal r literals v)

abbrev pub wanted : Bool → Option FormulaFault
wanted true = None
wanted false = Some NoHeader

abbrev pub is_p : Lexeme → Bool
is_p P = true
is_p _ = false

abbrev pub is_cnf : Lexeme → Bool
is_cnf Cnf = true
is_cnf _ = false

-- the first check that a token fails where it stands
abbrev pub check : State → Lexeme → Option FormulaFault
check before_header lexeme = wanted (is_p lexeme)
check before_format lexeme = wanted (is_cnf lexeme)
check before_variables lexeme = check_natural lexeme (check_limit max_variables)
check (before_clauses _) lexeme = check_natural lexeme (check_limit max_clauses)
check (at_part r) lexeme = check_part r lexeme
check (in_universals r) lexeme = check_entry lexeme (check_declared r)
check (in_existentials r) lexeme = check_entry lexeme (check_declared r)
check (at_dependent r) lexeme = check_entry lexeme (check_dependent r)
check (in_dependencies r _ _) lexeme = check_entry lexeme (check_dependency r)
check (in_clause r _) lexeme = check_in_clause r lexeme
check (in_xor r literals) lexeme = check_in_xor r literals lexeme

abbrev pub with_formula : Reading → Dqbf → Reading
with_formula r f = record r { formula = f }

-- with one clause or XOR line more
abbrev pub with_constraint : Reading → Dqbf → Reading
with_constraint r f = record r { constraints = r.constraints + 1; formula = f }

-- a clause's literal or its end
abbrev pub literal_or_end : Reading → List Literal → ℕ → Literal → State
literal_or_end r clause v l =
    if v == 0 then at_part (with_constraint r (add_clause r.formula clause))
    else in_clause r (add_literal clause l)

-- an XOR line's literal or its end
abbrev pub xor_literal_or_end : Reading → List Literal → ℕ → Literal → State
xor_literal_or_end r literals v l =
    if v == 0 then at_part (with_constraint r (add_xor r.formula literals))
    else in_xor r (literals ++ l ∷ [])

-- the state behind a token that passes its checks
abbrev pub at_start : Reading → Lexeme → State
at_start r A = in_universals r
at_start r D = at_dependent r
at_start r E = in_existentials r
at_start r X = in_xor r []
at_start r (Natural v) = literal_or_end r [] v (positive v)
at_start r (Negative v) = literal_or_end r [] v (negative v)
at_start r _ = at_part r

abbrev pub natural_or : State → Lexeme → (ℕ → State) → State
natural_or other (Natural n) next = next n
natural_or other _ _ = other

abbrev pub inside_clause : Reading → List Literal → Lexeme → State
inside_clause r clause (Natural v) = literal_or_end r clause v (positive v)
inside_clause r clause (Negative v) = literal_or_end r clause v (negative v)
inside_clause r clause _ = in_clause r clause

abbrev pub inside_xor : Reading → List Literal → Lexeme → State
inside_xor r literals (Natural v) = xor_literal_or_end r literals v (positive v)
inside_xor r literals (Negative v) = xor_literal_or_end r literals v (negative v)
inside_xor r literals _ = in_xor r literals

abbrev pub advance : State → Lexeme → State
advance before_header _ = before_format
advance before_format _ = before_variables
advance before_variables lexeme = natural_or before_variables lexeme before_clauses
advance (before_clauses v) lexeme =
    natural_or (before_clauses v) lexeme
    (λ c. at_part (record { clauses = c; constraints = 0; formula = empty_formula v }))
advance (at_part r) lexeme = at_start r lexeme
advance (in_universals r) lexeme =
    natural_or (in_universals r) lexeme
    (λ v. if v == 0 then at_part r
    else in_universals (with_formula r (add_universal r.formula v)))
advance (in_existentials r) lexeme =
    natural_or (in_existentials r) lexeme
    (λ v. if v == 0 then at_part r
    else in_existentials (with_formula r (add_first r.formula v)))
advance (at_dependent r) lexeme = natural_or (at_dependent r) lexeme (λ y. in_dependencies r y [])
advance (in_dependencies r y xs) lexeme =
    natural_or (in_dependencies r y xs) lexeme
    (λ x. if x == 0 then at_part (with_formula r (add_listed r.formula y xs))
    else in_dependencies r y (xs ++ x ∷ []))
advance (in_clause r clause) lexeme = inside_clause r clause lexeme
advance (in_xor r literals) lexeme = inside_xor r literals lexeme

-- what the end of the text decides
abbrev pub at_end : State → Result Dqbf FormulaFault
at_end before_header = Err NoHeader
at_end before_format = Err NoHeader
at_end before_variables = Err NoHeader
at_end (before_clauses _) = Err NoHeader
at_end (at_part r) =
    if nat_lt r.constraints r.clauses then Err TooFewClauses
    else Ok (with_free r.formula)
at_end (in_universals _) = Err MissingZero
at_end (in_existentials _) = Err MissingZero
at_end (at_dependent _) = Err MissingZero
at_end (in_dependencies _ _ _) = Err MissingZero
at_end (in_clause _ _) = Err MissingZero
at_end (in_xor _ _) = Err MissingZero

-- a fault by its line and name
pub record TextFault : Type 0 where
  pub line : ℕ
  pub name : FormulaFault

abbrev pub on_line : ℕ → Result Dqbf FormulaFault → Result Dqbf TextFault
on_line line (Ok f) = Ok f
on_line line (Err name) = Err (record { line = line; name = name })

abbrev pub unless_fault : Option FormulaFault → ℕ → Result Dqbf TextFault → Result Dqbf TextFault
unless_fault (Some name) line _ = Err (record { line = line; name = name })
unless_fault None _ rest = rest

-- the formula, or the first fault
abbrev pub read_from : State → List TextToken → ℕ → Result Dqbf TextFault
read_from state [] last_line = on_line last_line (at_end state)
read_from state (token ∷ tokens) last_line =
    unless_fault (check state (lexeme_of token.text)) token.line
    (read_from (advance state (lexeme_of token.text)) tokens last_line)

abbrev pub reading : List ℕ → Result Dqbf TextFault
reading text = read_from before_header (tokens_of text) (last_line_of text)
