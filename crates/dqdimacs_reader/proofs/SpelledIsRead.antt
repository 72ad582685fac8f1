-- What the grammar spells, the machine reads.
use Rattle.std.proofs.Common.{◌≡◌, ℕ, ◌+◌, ◌<◌, ◌≤◌, ◌==◌, nat_lt, Bool, true, false, not, cond, List, [], ◌∷◌, ◌++◌, length, Option, None, Some, refl, sym, ◌∙◌, ap, subst, arith, append_assoc, length-append, Ok}
use Rattle.std.proofs.lemmas.List.{append-nil}
use Rattle.std.specs.List.{AllByRecursion, flat_map, fold, list_any}
use Rattle.std.proofs.lemmas.Bool.{le-ltb, lt-ltb, ne_eqb}
use Rattle.dq_lits.specs.Literal.{Literal, positive, negative, variable_of}
use Rattle.dq_lits.specs.Formula.{Dqbf}
use Rattle.dq_text.specs.Token.{tokens_of, last_line_of}
use Rattle.dq_formula.specs.Xor.{xor_clauses}
use Rattle.dqdimacs_reader.specs.Building.{empty_formula, add_universal, add_first, add_listed, add_clause, add_xor, add_literal, distinct, with_free}
use Rattle.dqdimacs_reader.specs.Grammar.{PrefixPart, universals, existentials, dependent, Constraint, plain, xor, numbers, part_lexemes, literal_lexeme, clause_lexemes, constraint_lexemes, header, IsNew, AreNew, IsSeen, IsLawfulPart, declare, AreLawfulParts, InRange, IsXor, IsLawfulConstraint, AreLawfulConstraints, add_constraint, SpellsFormula}
use Rattle.dqdimacs_reader.specs.Machine.{Reading, State, before_header, before_format, before_variables, before_clauses, check_limit, reading, at_part, in_universals, in_existentials, at_dependent, in_dependencies, in_clause, in_xor, max_variables, max_clauses, max_xor, fault_if, check_range, check_room, check_literal, check_declared, check_dependent, check_dependency, check_part_letter, check_xor_end, check_xor_literal, stands_on, with_formula, with_constraint, check, advance}
use Rattle.dqdimacs_reader.specs.declared.faults.FormulaFault.{FormulaFault}
use Rattle.dqdimacs_reader.specs.declared.faults.FormulaFault.TheVariants.{PrefixLate, Limit, TooManyClauses}
use Rattle.dqdimacs_reader.specs.declared.lexemes.Lexeme.{Lexeme}
use Rattle.dqdimacs_reader.specs.declared.lexemes.Lexeme.TheVariants.{P, Cnf, A, D, E, Natural}
use Rattle.dqdimacs_reader.proofs.Runs.{run, run_pass, reading_from_run}
use Rattle.dqdimacs_reader.proofs.XorLines.{AreApart, none_before}

no_fault : (b : Bool) (name : FormulaFault) (rest : Option FormulaFault) → b ≡ false → fault_if b name rest ≡ rest
no_fault true name rest h = cc
no_fault false name rest h = refl

not_zero : (v : ℕ) → 1 ≤ v → (v == 0) ≡ false
not_zero v low = ne_eqb v 0 (λ e. omega arith)

in_range_passes : (r : Reading) (v : ℕ) (rest : Option FormulaFault) → v ≤ r.formula.variables →
    check_range r v rest ≡ rest
in_range_passes r v rest high = search (arith, no_fault, nat_lt, le-ltb)

new_passes : (r : Reading) (v : ℕ) → IsNew r.formula v → check_declared r v ≡ None
new_passes r v new = search (arith, in_range_passes, no_fault)

goes_on_set : (v : ℕ) (ended more : State) → 1 ≤ v → cond (v == 0) ended more ≡ more
goes_on_set v ended more low = ap (λ b. cond b ended more) (not_zero v low)

read_universals : (vs : List ℕ) (r : Reading) (rest : List Lexeme) → AreNew add_universal r.formula vs →
    run (in_universals r) (numbers vs ++ rest) ≡ run (at_part (with_formula r (fold add_universal r.formula vs))) rest
read_universals [] r rest new = refl
read_universals (v ∷ vs) r rest new = search (arith, run_pass, new_passes, goes_on_set, (read_universals vs))

read_existentials : (vs : List ℕ) (r : Reading) (rest : List Lexeme) → AreNew add_first r.formula vs →
    run (in_existentials r) (numbers vs ++ rest) ≡ run (at_part (with_formula r (fold add_first r.formula vs))) rest
read_existentials [] r rest new = refl
read_existentials (v ∷ vs) r rest new = search (arith, run_pass, new_passes, goes_on_set, (read_existentials vs))

seen_passes : (r : Reading) (x : ℕ) → IsSeen r.formula x → check_dependency r x ≡ None
seen_passes r x seen = search (arith, in_range_passes)

read_dependencies : (xs : List ℕ) (r : Reading) (y : ℕ) (before : List ℕ) (rest : List Lexeme) →
    AllByRecursion (IsSeen r.formula) xs →
    run (in_dependencies r y before) (numbers xs ++ rest) ≡ run
    (at_part (with_formula r (add_listed r.formula y (before ++ xs)))) rest
read_dependencies [] r y before rest seen = search (arith, append-nil)
read_dependencies (x ∷ xs) r y before rest seen =
    search (
      arith,
      run_pass,
      seen_passes,
      goes_on_set,
      (read_dependencies xs r y (before ++ x ∷ []) rest seen.1),
      append_assoc,
    )

dependent_passes : (r : Reading) (y : ℕ) → IsNew r.formula y → check_dependent r y ≡ None
dependent_passes r y new = search (arith, no_fault, in_range_passes)

-- the prefix stands before all clauses and XOR lines
letter_passes : (r : Reading) → r.constraints ≡ 0 → check_part_letter r ≡ None
letter_passes r none = ap (λ n. fault_if (not (n == 0)) PrefixLate None) none

read_part : (part : PrefixPart) (r : Reading) (rest : List Lexeme) → r.constraints ≡ 0 → IsLawfulPart r.formula part →
    run (at_part r) (part_lexemes part ++ rest) ≡ run (at_part (with_formula r (declare r.formula part))) rest
read_part (universals vs) r rest none lawful =
    run_pass (at_part r) A (numbers vs ++ rest) (letter_passes r none) ∙ read_universals vs r rest lawful
read_part (existentials ys) r rest none lawful =
    run_pass (at_part r) E (numbers ys ++ rest) (letter_passes r none) ∙ read_existentials ys r rest lawful
read_part (dependent y xs) r rest none lawful =
    run_pass (at_part r) D (Natural y ∷ (numbers xs ++ rest)) (letter_passes r none)
    ∙ run_pass (at_dependent r) (Natural y) (numbers xs ++ rest) (dependent_passes r y lawful.0)
    ∙ read_dependencies xs r y [] rest lawful.1

-- declarations leave the variables and the matrix
pub record Keeps (f g : Dqbf) : Type 0 where
  pub variables : g.variables ≡ f.variables
  pub matrix : g.matrix ≡ f.matrix

keeps_fold : (add : Dqbf → ℕ → Dqbf) → ((f : Dqbf) (v : ℕ) → Keeps f (add f v)) → (vs : List ℕ) (f : Dqbf) →
    Keeps f (fold add f vs)
keeps_fold add kept [] f = record { variables = refl; matrix = refl }
keeps_fold add kept (v ∷ vs) f = search (arith, (keeps_fold add kept vs (add f v)))

pub declare-keeps : (part : PrefixPart) (f : Dqbf) → Keeps f (declare f part)
declare-keeps (universals vs) f = keeps_fold add_universal (λ g v. record { variables = refl; matrix = refl }) vs f
declare-keeps (existentials ys) f = keeps_fold add_first (λ g v. record { variables = refl; matrix = refl }) ys f
declare-keeps (dependent y xs) f = record { variables = refl; matrix = refl }

read_parts : (parts : List PrefixPart) (r : Reading) (rest : List Lexeme) → r.constraints ≡ 0 →
    AreLawfulParts r.formula parts →
    run (at_part r) (flat_map part_lexemes parts ++ rest) ≡ run
    (at_part (with_formula r (fold declare r.formula parts))) rest
read_parts [] r rest none lawful = refl
read_parts (part ∷ parts) r rest none lawful =
    ap (run (at_part r)) (append_assoc (part_lexemes part) (flat_map part_lexemes parts) rest)
    ∙ read_part part r (flat_map part_lexemes parts ++ rest) none lawful.0
    ∙ read_parts parts (with_formula r (declare r.formula part)) rest none lawful.1

clause_literal_passes : (r : Reading) (v : ℕ) → 1 ≤ v → v ≤ r.formula.variables → check_literal r v ≡ None
clause_literal_passes r v low high = search (arith, in_range_passes)

literal_passes : (r : Reading) (clause : List Literal) (l : Literal) → InRange r.formula.variables l →
    check (in_clause r clause) (literal_lexeme l) ≡ None
literal_passes r clause (positive v) range = clause_literal_passes r v range.0 range.1
literal_passes r clause (negative v) range = clause_literal_passes r v range.0 range.1

literal_goes_on : (r : Reading) (clause : List Literal) (l : Literal) → InRange r.formula.variables l →
    advance (in_clause r clause) (literal_lexeme l) ≡ in_clause r (add_literal clause l)
literal_goes_on r clause (positive v) range = goes_on_set v _ _ range.0
literal_goes_on r clause (negative v) range = goes_on_set v _ _ range.0

-- the matrix has room for so many clauses
abbrev HasRoom : Reading → ℕ → Type 0
HasRoom r more = length r.formula.matrix + more ≤ max_clauses

room_passes : (r : Reading) (more : ℕ) → HasRoom r more → check_room r more ≡ None
room_passes r more room = search (arith, no_fault, nat_lt, le-ltb)

read_literals : (literals : List Literal) (r : Reading) (clause : List Literal) (rest : List Lexeme) → HasRoom r 1 →
    AllByRecursion (InRange r.formula.variables) literals →
    run (in_clause r clause) (clause_lexemes literals ++ rest) ≡ run
    (at_part (with_constraint r (add_clause r.formula (fold add_literal clause literals)))) rest
read_literals [] r clause rest room range = run_pass (in_clause r clause) (Natural 0) rest (room_passes r 1 room)
read_literals (l ∷ ls) r clause rest room range =
    search (arith, run_pass, literal_passes, literal_goes_on, (read_literals ls r))

-- a clause or an XOR line is due
due_passes : (r : Reading) (rest : Option FormulaFault) → r.constraints < r.clauses →
    fault_if (r.constraints == r.clauses) TooManyClauses rest ≡ rest
due_passes r rest due = search (arith, no_fault, ne_eqb)

first_passes : (r : Reading) (l : Literal) → r.constraints < r.clauses → InRange r.formula.variables l →
    check (at_part r) (literal_lexeme l) ≡ None
first_passes r (positive v) due range = due_passes r (check_literal r v) due ∙ clause_literal_passes r v range.0 range.1
first_passes r (negative v) due range = due_passes r (check_literal r v) due ∙ clause_literal_passes r v range.0 range.1

first_goes_on : (r : Reading) (l : Literal) → InRange r.formula.variables l →
    advance (at_part r) (literal_lexeme l) ≡ in_clause r (add_literal [] l)
first_goes_on r (positive v) range = goes_on_set v _ _ range.0
first_goes_on r (negative v) range = goes_on_set v _ _ range.0

read_clause : (literals : List Literal) (r : Reading) (rest : List Lexeme) → r.constraints < r.clauses → HasRoom r 1 →
    AllByRecursion (InRange r.formula.variables) literals →
    run (at_part r) (clause_lexemes literals ++ rest) ≡ run (at_part
    (with_constraint r (add_clause r.formula (distinct literals)))) rest
read_clause [] r rest due room range = search (arith, run_pass, due_passes, room_passes)
read_clause (l ∷ ls) r rest due room range = search (arith, run_pass, first_passes, first_goes_on, read_literals)

-- inside an XOR line
xor_number_passes : (r : Reading) (before : List Literal) (v : ℕ) → 1 ≤ v → v ≤ r.formula.variables →
    length before < max_xor →
    list_any (stands_on v) before ≡ false → cond (v == 0) (check_xor_end r before) (check_xor_literal r before v) ≡ None
xor_number_passes r before v low high few none = search (arith, nat_lt, in_range_passes, lt-ltb, no_fault)

xor_passes : (r : Reading) (before : List Literal) (l : Literal) → InRange r.formula.variables l →
    length before < max_xor →
    list_any (stands_on (variable_of l)) before ≡ false → check (in_xor r before) (literal_lexeme l) ≡ None
xor_passes r before (positive v) range few none = xor_number_passes r before v range.0 range.1 few none
xor_passes r before (negative v) range few none = xor_number_passes r before v range.0 range.1 few none

xor_goes_on : (r : Reading) (before : List Literal) (l : Literal) → InRange r.formula.variables l →
    advance (in_xor r before) (literal_lexeme l) ≡ in_xor r (before ++ l ∷ [])
xor_goes_on r before (positive v) range = goes_on_set v _ _ range.0
xor_goes_on r before (negative v) range = goes_on_set v _ _ range.0

xor_end_passes : (r : Reading) (literals : List Literal) → IsXor literals → HasRoom r (length (xor_clauses literals)) →
    check_xor_end r literals ≡ None
xor_end_passes r literals is room = search (arith, no_fault, ne_eqb, room_passes)

read_xor_literals : (literals : List Literal) (r : Reading) (before all : List Literal) (rest : List Lexeme) →
    before ++ literals ≡ all →
    IsXor all → HasRoom r (length (xor_clauses all)) → AllByRecursion (InRange r.formula.variables) literals →
    run (in_xor r before) (clause_lexemes literals ++ rest) ≡ run
    (at_part (with_constraint r (add_xor r.formula all))) rest
read_xor_literals [] r before all rest whole is room range = search (arith, append-nil, run_pass, xor_end_passes)
read_xor_literals (l ∷ ls) r before all rest whole is room range =
    let few : length before < max_xor = omega (arith, is.few, ap length whole, length-append before (l ∷ ls)) in
    let none = none_before before ls l (subst AreApart (sym whole) is.apart) in
    run_pass (in_xor r before) (literal_lexeme l) (clause_lexemes ls ++ rest) (xor_passes r before l range.0 few none)
    ∙ ap (λ s. run s (clause_lexemes ls ++ rest)) (xor_goes_on r before l range.0)
    ∙ read_xor_literals ls r (before ++ l ∷ []) all rest (append_assoc before (l ∷ []) ls ∙ whole) is room range.1

-- the matrix only grows
abbrev pub clauses_of : Constraint → List (List Literal)
clauses_of (plain literals) = distinct literals ∷ []
clauses_of (xor literals) = xor_clauses literals

pub with_clauses : (f : Dqbf) (constraint : Constraint) → (add_constraint f constraint).matrix
    ≡ f.matrix ++ clauses_of constraint
with_clauses f (plain literals) = refl
with_clauses f (xor literals) = refl

pub constraint_keeps_variables : (f : Dqbf) (constraint : Constraint) →
    (add_constraint f constraint).variables ≡ f.variables
constraint_keeps_variables f (plain literals) = refl
constraint_keeps_variables f (xor literals) = refl

matrix_grows : (constraints : List Constraint) (f : Dqbf) → length f.matrix ≤ length
    (fold add_constraint f constraints).matrix
matrix_grows [] f = omega arith
matrix_grows (c ∷ cs) f = search (arith, (matrix_grows cs), length-append)

read_constraint : (c : Constraint) (r : Reading) (rest : List Lexeme) → r.constraints < r.clauses →
    HasRoom r (length (clauses_of c)) → IsLawfulConstraint r.formula.variables c →
    run (at_part r) (constraint_lexemes c ++ rest) ≡ run (at_part (with_constraint r (add_constraint r.formula c))) rest
read_constraint (plain literals) r rest due room lawful = read_clause literals r rest due room lawful
read_constraint (xor literals) r rest due room lawful = search (arith, run_pass, due_passes, read_xor_literals)

read_constraints : (constraints : List Constraint) (r : Reading) → r.constraints + length constraints ≡ r.clauses →
    length (fold add_constraint r.formula constraints).matrix ≤ max_clauses →
    AreLawfulConstraints r.formula.variables constraints →
    run (at_part r) (flat_map constraint_lexemes constraints) ≡ Some
    (with_free (fold add_constraint r.formula constraints))
read_constraints [] r counted few lawful = search (arith, le-ltb)
read_constraints (c ∷ cs) r counted few lawful =
    let next = with_constraint r (add_constraint r.formula c) in
    let room : HasRoom r (length (clauses_of c)) =
    omega (
      arith,
      few,
      matrix_grows cs next.formula,
      ap length (with_clauses r.formula c),
      length-append r.formula.matrix (clauses_of c),
    ) in
    let variables = sym (constraint_keeps_variables r.formula c) in
    read_constraint c r (flat_map constraint_lexemes cs) (omega (arith, counted)) room lawful.0
    ∙ read_constraints cs next (omega (arith, counted)) few (subst (λ v. AreLawfulConstraints v cs) variables lawful.1)

pub declares-keep : (parts : List PrefixPart) (f : Dqbf) → Keeps f (fold declare f parts)
declares-keep [] f = record { variables = refl; matrix = refl }
declares-keep (part ∷ parts) f = search (arith, declare-keeps, (declares-keep parts))

within : (limit n : ℕ) → n ≤ limit → check_limit limit n ≡ None
within limit n h = no_fault (nat_lt limit n) Limit None (le-ltb limit n h)

read_header : (variables clauses : ℕ) (rest : List Lexeme) → variables ≤ max_variables → clauses ≤ max_clauses →
    run before_header (header variables clauses ++ rest) ≡ run
    (at_part (record { clauses = clauses; constraints = 0; formula = empty_formula variables })) rest
read_header variables clauses rest few_variables few_clauses =
    run_pass before_header P (Cnf ∷ Natural variables ∷ Natural clauses ∷ rest) refl
    ∙ run_pass before_format Cnf (Natural variables ∷ Natural clauses ∷ rest) refl
    ∙ run_pass before_variables (Natural variables) (Natural clauses ∷ rest)
    (within max_variables variables few_variables)
    ∙ run_pass (before_clauses variables) (Natural clauses) rest (within max_clauses clauses few_clauses)

pub spelled_is_read : (text : List ℕ) (f : Dqbf) → SpellsFormula text f → reading text ≡ Ok f
spelled_is_read text f spells =
    let v = f.variables in
    let n = length spells.constraints in
    let start : Reading = record { clauses = n; constraints = 0; formula = empty_formula v } in
    let prefix = fold declare (empty_formula v) spells.parts in
    let kept = declares-keep spells.parts (empty_formula v) in
    let few : length (fold add_constraint prefix spells.constraints).matrix ≤ max_clauses =
    subst (λ (g : Dqbf). length g.matrix ≤ max_clauses) spells.formula spells.few_clauses in
    let lawful : AreLawfulConstraints prefix.variables spells.constraints =
    subst (λ w. AreLawfulConstraints w spells.constraints) (sym kept.variables) spells.lawful_constraints in
    let lexemes = flat_map part_lexemes spells.parts ++ flat_map constraint_lexemes spells.constraints in
    reading_from_run (tokens_of text) before_header (last_line_of text) f
    (ap (run before_header) spells.spelling
    ∙ read_header v n lexemes spells.few_variables spells.few_constraints
    ∙ read_parts spells.parts start (flat_map constraint_lexemes spells.constraints) refl spells.lawful_parts
    ∙ read_constraints spells.constraints (with_formula start prefix) (omega arith) few lawful
    ∙ ap Some (sym spells.formula))
