-- From each state, the lexemes to come spell parts and constraints that complete the reading.
use Rattle.std.proofs.Common.{◌≡◌, ◌≢◌, ℕ, ◌+◌, ◌≤◌, ◌==◌, nat_lt, Bool, true, false, not, cond, ◌⊎◌, inl, inr, List, [], ◌∷◌, ◌++◌, length, Option, None, Some, Ok, Err, refl, sym, ◌∙◌, ap, arith, append_assoc, length-append, subst}
use Rattle.std.specs.List.{AllByRecursion, flat_map, fold}
use Rattle.std.proofs.lemmas.Bool.{ltb-false, eqb-false, cases_eq, eq-eqb, ne_eqb, not-false, true≢false}
use Rattle.std.proofs.lemmas.List.{append-nil}
use Rattle.dq_lits.specs.Literal.{Literal, positive, negative, variable_of}
use Rattle.dq_lits.specs.Formula.{Dqbf}
use Rattle.dq_text.specs.Token.{TextToken}
use Rattle.dq_formula.specs.Xor.{xor_clauses}
use Rattle.dqdimacs_reader.specs.Building.{add_universal, add_first, add_listed, add_clause, add_xor, add_literal, with_free}
use Rattle.dqdimacs_reader.specs.Grammar.{PrefixPart, universals, existentials, dependent, Constraint, plain, xor, numbers, part_lexemes, literal_lexeme, clause_lexemes, constraint_lexemes, IsNew, AreNew, IsSeen, IsLawfulPart, declare, AreLawfulParts, InRange, IsXor, IsLawfulConstraint, AreLawfulConstraints, add_constraint}
use Rattle.dqdimacs_reader.specs.Machine.{Reading, State, before_header, before_format, before_variables, before_clauses, at_part, in_universals, in_existentials, at_dependent, in_dependencies, in_clause, in_xor, max_clauses, fault_if, check_natural, check_entry, check_range, check_room, check_literal, check_declared, check_dependency, check_part_letter, check_xor_end, check_xor_literal, with_formula, with_constraint, check, advance, at_start, inside_clause, inside_xor, natural_or, at_end}
use Rattle.dq_text.specs.declared.numbers.Number.{Number}
use Rattle.dq_text.specs.declared.numbers.Number.TheVariants.{Int, NotANumber, TooBig as TooBigNumber}
use Rattle.std.specs.Prelude.{pos, negsuc}
use Rattle.dqdimacs_reader.specs.Lexeme.{lexeme_of, number_lexeme}
use Rattle.dqdimacs_reader.specs.declared.faults.FormulaFault.{FormulaFault}
use Rattle.dqdimacs_reader.specs.declared.faults.FormulaFault.TheVariants.{TooManyClauses, TooFewClauses, PrefixLate, Limit, XorSize}
use Rattle.dqdimacs_reader.specs.declared.lexemes.Lexeme.{Lexeme}
use Rattle.dqdimacs_reader.specs.declared.lexemes.Lexeme.TheVariants.{P, Cnf, A, D, E, X, Natural, Negative, Large, NegativeLarge, Other}
use Rattle.dqdimacs_reader.proofs.SpelledIsRead.{declare-keeps, constraint_keeps_variables}
use Rattle.dqdimacs_reader.specs.MachineState.{IsXorLine}
use Rattle.dqdimacs_reader.proofs.XorLines.{no_fault_parts, Goes, goes, stays_apart}
use Rattle.dqdimacs_reader.proofs.Runs.{formula_or_none, run, run_step, lexemes_of}

-- parts, and clauses and XOR lines, that complete a reading to a formula; behind one of the latter no
-- part stands
pub record Completes (r : Reading) (lexemes : List Lexeme) (f : Dqbf) : Type 0 where
  pub parts : List PrefixPart
  pub constraints : List Constraint
  pub spelling : lexemes ≡ flat_map part_lexemes parts ++ flat_map constraint_lexemes constraints
  pub lawful : AreLawfulParts r.formula parts
  pub lawful_constraints : AreLawfulConstraints r.formula.variables constraints
  pub counted : r.constraints + length constraints ≡ r.clauses
  pub few : length f.matrix ≤ max_clauses
  pub prefix_first : (r.constraints == 0) ≡ false → parts ≡ []
  pub formula : f ≡ with_free (fold add_constraint (fold declare r.formula parts) constraints)

-- numbers that a list of variables ends with, and what completes the reading behind them
pub record CompletesList (new : List ℕ → Type 0) (then_reading : List ℕ → Reading) (lexemes : List Lexeme)
    (f : Dqbf) : Type 0 where
  pub vs : List ℕ
  pub rest : List Lexeme
  pub spelling : lexemes ≡ numbers vs ++ rest
  pub lawful : new vs
  pub completed : Completes (then_reading vs) rest f

pub record CompletesClause (r : Reading) (clause : List Literal) (lexemes : List Lexeme) (f : Dqbf) : Type 0 where
  pub literals : List Literal
  pub rest : List Lexeme
  pub spelling : lexemes ≡ clause_lexemes literals ++ rest
  pub in_range : AllByRecursion (InRange r.formula.variables) literals
  pub completed : Completes (with_constraint r (add_clause r.formula (fold add_literal clause literals))) rest f

pub record CompletesXor (r : Reading) (before : List Literal) (lexemes : List Lexeme) (f : Dqbf) : Type 0 where
  pub literals : List Literal
  pub rest : List Lexeme
  pub spelling : lexemes ≡ clause_lexemes literals ++ rest
  pub in_range : AllByRecursion (InRange r.formula.variables) literals
  pub is_xor : IsXor (before ++ literals)
  pub completed : Completes (with_constraint r (add_xor r.formula (before ++ literals))) rest f

pub record CompletesDependent (r : Reading) (lexemes : List Lexeme) (f : Dqbf) : Type 0 where
  pub y : ℕ
  pub rest : List Lexeme
  pub spelling : lexemes ≡ Natural y ∷ rest
  pub new : IsNew r.formula y
  pub completed : CompletesList (AllByRecursion (IsSeen r.formula))
      (λ xs. with_formula r (add_listed r.formula y xs)) rest f

abbrev pub CompletesState : State → List Lexeme → Dqbf → Type 0
CompletesState before_header lexemes f = Unit {0}
CompletesState before_format lexemes f = Unit {0}
CompletesState before_variables lexemes f = Unit {0}
CompletesState (before_clauses _) lexemes f = Unit {0}
CompletesState (at_part r) lexemes f = Completes r lexemes f
CompletesState (in_universals r) lexemes f = CompletesList (AreNew add_universal r.formula)
    (λ vs. with_formula r (fold add_universal r.formula vs)) lexemes f
CompletesState (in_existentials r) lexemes f = CompletesList (AreNew add_first r.formula)
    (λ vs. with_formula r (fold add_first r.formula vs)) lexemes f
CompletesState (at_dependent r) lexemes f = CompletesDependent r lexemes f
CompletesState (in_dependencies r y before) lexemes f =
    CompletesList (AllByRecursion (IsSeen r.formula)) (λ xs. with_formula r (add_listed r.formula y (before ++ xs)))
    lexemes f
CompletesState (in_clause r clause) lexemes f = CompletesClause r clause lexemes f
CompletesState (in_xor r before) lexemes f = CompletesXor r before lexemes f

-- no clause or XOR line more than the header's number, and no clause more than the limit
pub record AreCounts (constraints clauses matrix : ℕ) : Type 0 where
  pub counted : constraints ≤ clauses
  pub few : matrix ≤ max_clauses

abbrev pub IsWithin : Reading → Type 0
IsWithin r = AreCounts r.constraints r.clauses (length r.formula.matrix)

-- one more is due
abbrev pub IsDue : Reading → Type 0
IsDue r = AreCounts (r.constraints + 1) r.clauses (length r.formula.matrix)

abbrev pub IsCounted : State → Type 0
IsCounted before_header = Unit {0}
IsCounted before_format = Unit {0}
IsCounted before_variables = Unit {0}
IsCounted (before_clauses _) = Unit {0}
IsCounted (at_part r) = IsWithin r
IsCounted (in_universals r) = IsWithin r
IsCounted (in_existentials r) = IsWithin r
IsCounted (at_dependent r) = IsWithin r
IsCounted (in_dependencies r _ _) = IsWithin r
IsCounted (in_clause r _) = IsDue r
IsCounted (in_xor r literals) = IsDue r × IsXorLine literals

in_range_is : (r : Reading) (v : ℕ) (rest : Option FormulaFault) → check_range r v rest ≡ None →
    (v ≤ r.formula.variables) × (rest ≡ None)
in_range_is r v rest h = search (arith, no_fault_parts, nat_lt, ltb-false)

-- zero ends, other numbers go on
ends_or_goes_on : (Q : State → Type 0) (v : ℕ) (ended more : State) → Q (cond (v == 0) ended more) →
    ((v ≡ 0) × Q ended) ⊎ ((v ≢ 0) × Q more)
ends_or_goes_on Q v ended more h = search (arith, cases_eq, eq-eqb, ne_eqb)

either_state : (Q : State → Type 0) (v : ℕ) (ended more : State) → (v ≡ 0 → Q ended) → (v ≢ 0 → Q more) →
    Q (cond (v == 0) ended more)
either_state Q v ended more here there = search (arith, cases_eq, eq-eqb, ne_eqb)

has_room : (r : Reading) (more : ℕ) → check_room r more ≡ None → length r.formula.matrix + more ≤ max_clauses
has_room r more passed =
    ltb-false max_clauses (length r.formula.matrix + more) (no_fault_parts
    (nat_lt max_clauses (length r.formula.matrix + more)) Limit None passed).0

-- where a check has two branches, on zero and on other numbers
at_zero : (v : ℕ) (here there : Option FormulaFault) → v ≡ 0 → cond (v == 0) here there ≡ None → here ≡ None
at_zero v here there zero passed = ap (λ b. cond b here there) (sym (eq-eqb v 0 zero)) ∙ passed

at_more : (v : ℕ) (here there : Option FormulaFault) → v ≢ 0 → cond (v == 0) here there ≡ None → there ≡ None
at_more v here there other passed = ap (λ b. cond b here there) (sym (ne_eqb v 0 other)) ∙ passed

grown_line : (r : Reading) (literals : List Literal) (v : ℕ) (l : Literal) → variable_of l ≡ v → IsXorLine literals →
    Goes r literals v → IsXorLine (literals ++ l ∷ [])
grown_line r literals v l on line g = search (arith, length-append, stays_apart)

counted_end : (r : Reading) (clause : List Literal) (v : ℕ) (l : Literal) → IsDue r → check_literal r v ≡ None →
    IsCounted (cond (v == 0) (at_part (with_constraint r (add_clause r.formula clause)))
    (in_clause r (add_literal clause l)))
counted_end r clause v l is passed = search (arith, either_state, length-append)

counted_xor_end : (r : Reading) (literals : List Literal) (v : ℕ) (l : Literal) → variable_of l ≡ v → IsDue r →
    IsXorLine literals →
    cond (v == 0) (check_xor_end r literals) (check_xor_literal r literals v) ≡ None →
    IsCounted (cond (v == 0) (at_part (with_constraint r (add_xor r.formula literals))) (in_xor r (literals ++ l ∷ [])))
counted_xor_end r literals v l on is line passed =
    search (
      arith,
      either_state,
      (no_fault_parts (length literals == 0)),
      (length-append r.formula.matrix),
      (grown_line r literals v l on line),
      (goes r literals v),
      (at_more v),
    )

is_due : (r : Reading) (rest : Option FormulaFault) → IsWithin r →
    fault_if (r.constraints == r.clauses) TooManyClauses rest ≡ None → IsDue r
is_due r rest within passed =
    let apart = eqb-false r.constraints r.clauses (no_fault_parts
    (r.constraints == r.clauses) TooManyClauses rest passed).0 in
    record {
      counted = elim (cases_eq r.constraints r.clauses) [
        | inl same ↦ absurd (apart same)
        | inr other ↦
            omega (arith, other, within.counted)
      ];
      few = within.few;
    }

natural_or_is : (Q : State → Type 0) (other : State) (l : Lexeme) (next : ℕ → State) → Q other →
    ((n : ℕ) → Q (next n)) → Q (natural_or other l next)
natural_or_is Q other P next here there = here
natural_or_is Q other Cnf next here there = here
natural_or_is Q other A next here there = here
natural_or_is Q other D next here there = here
natural_or_is Q other E next here there = here
natural_or_is Q other X next here there = here
natural_or_is Q other (Natural n) next here there = there n
natural_or_is Q other (Negative _) next here there = here
natural_or_is Q other Large next here there = here
natural_or_is Q other NegativeLarge next here there = here
natural_or_is Q other Other next here there = here

counted_clause : (r : Reading) (clause : List Literal) (l : Lexeme) → IsDue r → check (in_clause r clause) l ≡ None →
    IsCounted (inside_clause r clause l)
counted_clause r clause P is passed = is
counted_clause r clause Cnf is passed = is
counted_clause r clause A is passed = is
counted_clause r clause D is passed = is
counted_clause r clause E is passed = is
counted_clause r clause X is passed = is
counted_clause r clause (Natural v) is passed = counted_end r clause v (positive v) is passed
counted_clause r clause (Negative v) is passed = counted_end r clause v (negative v) is passed
counted_clause r clause Large is passed = is
counted_clause r clause NegativeLarge is passed = is
counted_clause r clause Other is passed = is

counted_xor : (r : Reading) (literals : List Literal) (l : Lexeme) → IsDue r → IsXorLine literals →
    check (in_xor r literals) l ≡ None → IsCounted (inside_xor r literals l)
counted_xor r literals P is line passed = (is, line)
counted_xor r literals Cnf is line passed = (is, line)
counted_xor r literals A is line passed = (is, line)
counted_xor r literals D is line passed = (is, line)
counted_xor r literals E is line passed = (is, line)
counted_xor r literals X is line passed = (is, line)
counted_xor r literals (Natural v) is line passed = counted_xor_end r literals v (positive v) refl is line passed
counted_xor r literals (Negative v) is line passed = counted_xor_end r literals v (negative v) refl is line passed
counted_xor r literals Large is line passed = (is, line)
counted_xor r literals NegativeLarge is line passed = (is, line)
counted_xor r literals Other is line passed = (is, line)

no_line : IsXorLine []
no_line = record { few = omega arith; apart = λ i j d before below. absurd (omega (arith, below)) }

counted_part : (r : Reading) (l : Lexeme) → IsWithin r → check (at_part r) l ≡ None → IsCounted (at_start r l)
counted_part r P within passed = within
counted_part r Cnf within passed = within
counted_part r A within passed = within
counted_part r D within passed = within
counted_part r E within passed = within
counted_part r X within passed = (is_due r None within passed, no_line)
counted_part r (Natural v) within passed =
    counted_end r [] v (positive v) (is_due r (check_literal r v) within passed)
    (no_fault_parts (r.constraints == r.clauses) TooManyClauses (check_literal r v) passed).1
counted_part r (Negative v) within passed =
    counted_end r [] v (negative v) (is_due r (check_literal r v) within passed)
    (no_fault_parts (r.constraints == r.clauses) TooManyClauses (check_literal r v) passed).1
counted_part r Large within passed = within
counted_part r NegativeLarge within passed = within
counted_part r Other within passed = within

counted_step : (s : State) (l : Lexeme) → IsCounted s → check s l ≡ None → IsCounted (advance s l)
counted_step before_header l counted passed = tt
counted_step before_format l counted passed = tt
counted_step before_variables l counted passed = natural_or_is IsCounted before_variables l before_clauses tt (λ n. tt)
counted_step (before_clauses v) l counted passed = search (arith, natural_or_is)
counted_step (at_part r) l counted passed = counted_part r l counted passed
counted_step (in_universals r) l counted passed = search (arith, natural_or_is)
counted_step (in_existentials r) l counted passed = search (arith, natural_or_is)
counted_step (at_dependent r) l counted passed = natural_or_is IsCounted (at_dependent r) l _ counted (λ n. counted)
counted_step (in_dependencies r y xs) l counted passed = search (arith, natural_or_is)
counted_step (in_clause r clause) l counted passed = counted_clause r clause l counted passed
counted_step (in_xor r literals) l counted passed = counted_xor r literals l counted.0 counted.1 passed

-- what passes the checks of a natural number, of an entry and of a signed number
pub natural_is : (l : Lexeme) (k : ℕ → Option FormulaFault) → check_natural l k ≡ None →
    (n : ℕ) × (l ≡ Natural n) × (k n ≡ None)
natural_is P k h = cc
natural_is Cnf k h = cc
natural_is A k h = cc
natural_is D k h = cc
natural_is E k h = cc
natural_is X k h = cc
natural_is (Natural n) k h = (n, refl, h)
natural_is (Negative _) k h = cc
natural_is Large k h = cc
natural_is NegativeLarge k h = cc
natural_is Other k h = cc

entry_is : (l : Lexeme) (k : ℕ → Option FormulaFault) → check_entry l k ≡ None →
    (n : ℕ) × (l ≡ Natural n) × (k n ≡ None)
entry_is P k h = cc
entry_is Cnf k h = cc
entry_is A k h = cc
entry_is D k h = cc
entry_is E k h = cc
entry_is X k h = cc
entry_is (Natural n) k h = (n, refl, h)
entry_is (Negative _) k h = cc
entry_is Large k h = cc
entry_is NegativeLarge k h = cc
entry_is Other k h = cc

-- an entry of a list, and what completes the list behind it
list_step : (new : List ℕ → Type 0) (then_reading : List ℕ → Reading) (v : ℕ) (ls : List Lexeme) (f : Dqbf)
    (rest_new : List ℕ → Type 0) →
    ((vs : List ℕ) → rest_new vs → new (v ∷ vs)) →
    CompletesList rest_new (λ vs. then_reading (v ∷ vs)) ls f → CompletesList new then_reading (Natural v ∷ ls) f
list_step new then_reading v ls f rest_new grows c = search arith

list_end : (new : List ℕ → Type 0) (then_reading : List ℕ → Reading) (v : ℕ) (ls : List Lexeme) (f : Dqbf) → v ≡ 0 →
    new [] →
    Completes (then_reading []) ls f → CompletesList new then_reading (Natural v ∷ ls) f
list_end new then_reading v ls f zero lawful c = search arith

declared_is : (r : Reading) (v : ℕ) → v ≢ 0 → check_declared r v ≡ None → IsNew r.formula v
declared_is r v more passed = search (arith, ne_eqb, in_range_is, no_fault_parts)

seen_is : (r : Reading) (x : ℕ) → x ≢ 0 → check_dependency r x ≡ None → IsSeen r.formula x
seen_is r x more passed = search (arith, ne_eqb, in_range_is, not-false, no_fault_parts)

universals_step : (r : Reading) (l : Lexeme) (ls : List Lexeme) (f : Dqbf) → check (in_universals r) l ≡ None →
    CompletesState (advance (in_universals r) l) ls f → CompletesState (in_universals r) (l ∷ ls) f
universals_step r l ls f passed next =
    let Q : State → Type 0 = λ s. CompletesState s ls f in
    let entry = entry_is l (check_declared r) passed in
    let v = entry.0 in
    let more = in_universals (with_formula r (add_universal r.formula v)) in
    let New : List ℕ → Type 0 = AreNew add_universal r.formula in
    let then_reading : List ℕ → Reading = λ vs. with_formula r (fold add_universal r.formula vs) in
    let behind = subst (λ k. Q (advance (in_universals r) k)) entry.1 next in
    subst (λ k. CompletesList New then_reading (k ∷ ls) f) (sym entry.1)
    (elim (ends_or_goes_on Q v (at_part r) more behind) [
      | inl (zero, c) ↦ list_end New then_reading v ls f zero tt c
      | inr (other, c) ↦ list_step New then_reading v ls f (AreNew add_universal (add_universal r.formula v))
          (λ vs news. (declared_is r v other entry.2, news)) c
    ])

existentials_step : (r : Reading) (l : Lexeme) (ls : List Lexeme) (f : Dqbf) → check (in_existentials r) l ≡ None →
    CompletesState (advance (in_existentials r) l) ls f → CompletesState (in_existentials r) (l ∷ ls) f
existentials_step r l ls f passed next =
    let Q : State → Type 0 = λ s. CompletesState s ls f in
    let entry = entry_is l (check_declared r) passed in
    let v = entry.0 in
    let more = in_existentials (with_formula r (add_first r.formula v)) in
    let New : List ℕ → Type 0 = AreNew add_first r.formula in
    let then_reading : List ℕ → Reading = λ vs. with_formula r (fold add_first r.formula vs) in
    let behind = subst (λ k. Q (advance (in_existentials r) k)) entry.1 next in
    subst (λ k. CompletesList New then_reading (k ∷ ls) f) (sym entry.1)
    (elim (ends_or_goes_on Q v (at_part r) more behind) [
      | inl (zero, c) ↦ list_end New then_reading v ls f zero tt c
      | inr (other, c) ↦ list_step New then_reading v ls f (AreNew add_first (add_first r.formula v))
          (λ vs news. (declared_is r v other entry.2, news)) c
    ])

dependencies_step : (r : Reading) (y : ℕ) (before : List ℕ) (l : Lexeme) (ls : List Lexeme) (f : Dqbf) →
    check (in_dependencies r y before) l ≡ None →
    CompletesState (advance (in_dependencies r y before) l) ls f →
    CompletesState (in_dependencies r y before) (l ∷ ls) f
dependencies_step r y before l ls f passed next =
    search (arith, entry_is, ends_or_goes_on, list_end, append-nil, seen_is, append_assoc)

dependent_step : (r : Reading) (l : Lexeme) (ls : List Lexeme) (f : Dqbf) → check (at_dependent r) l ≡ None →
    CompletesState (advance (at_dependent r) l) ls f → CompletesState (at_dependent r) (l ∷ ls) f
dependent_step r l ls f passed next = search (arith, entry_is, no_fault_parts, in_range_is, eqb-false)

-- a literal or the end of a clause
literal_step : (r : Reading) (clause : List Literal) (v : ℕ) (q : Literal) (ls : List Lexeme) (f : Dqbf) →
    variable_of q ≡ v →
    (v ≡ 0 → literal_lexeme q ≡ Natural 0) → check_literal r v ≡ None →
    CompletesState (cond (v == 0) (at_part (with_constraint r (add_clause r.formula clause)))
    (in_clause r (add_literal clause q))) ls f →
    CompletesClause r clause (literal_lexeme q ∷ ls) f
literal_step r clause v q ls f stands ends passed next =
    let Q : State → Type 0 = λ s. CompletesState s ls f in
    elim (ends_or_goes_on Q v (at_part (with_constraint r (add_clause r.formula clause)))
    (in_clause r (add_literal clause q)) next) [
      | inl (zero, c) ↦ record {
        literals = [];
        rest = ls;
        spelling = ap (λ k. k ∷ ls) (ends zero);
        in_range = tt;
        completed = c;
      }
      | inr (other, c) ↦
          let high = (in_range_is r v None (at_more v (check_room r 1) (check_range r v None) other passed)).0 in
          let low : 1 ≤ variable_of q = omega arith in
          let within : variable_of q ≤ r.formula.variables = omega arith in
          record {
            literals = q ∷ c.literals;
            rest = c.rest;
            spelling = ap (λ zs. literal_lexeme q ∷ zs) c.spelling;
            in_range = ((low, within), c.in_range);
            completed = c.completed;
          }
    ]

-- a literal or the end of an XOR line
xor_literal_step : (r : Reading) (before : List Literal) (v : ℕ) (q : Literal) (ls : List Lexeme) (f : Dqbf) →
    variable_of q ≡ v →
    (v ≡ 0 → literal_lexeme q ≡ Natural 0) → IsXorLine before →
    cond (v == 0) (check_xor_end r before) (check_xor_literal r before v) ≡ None →
    CompletesState (cond (v == 0) (at_part (with_constraint r (add_xor r.formula before)))
    (in_xor r (before ++ q ∷ []))) ls f →
    CompletesXor r before (literal_lexeme q ∷ ls) f
xor_literal_step r before v q ls f stands ends line passed next =
    let Q : State → Type 0 = λ s. CompletesState s ls f in
    elim (ends_or_goes_on Q v (at_part (with_constraint r (add_xor r.formula before)))
    (in_xor r (before ++ q ∷ [])) next) [
      | inl (zero, c) ↦
          let room = check_room r (length (xor_clauses before)) in
          let some = eqb-false (length before) 0 (no_fault_parts (length before == 0) XorSize room
          (at_zero v (check_xor_end r before) (check_xor_literal r before v) zero passed)).0 in
          let whole = sym (append-nil before) in
          record {
            literals = [];
            rest = ls;
            spelling = ap (λ k. k ∷ ls) (ends zero);
            in_range = tt;
            is_xor = subst IsXor whole (record { some = omega (arith, some); few = line.few; apart = line.apart });
            completed = subst (λ zs. Completes (with_constraint r (add_xor r.formula zs)) ls f) whole c;
          }
      | inr (other, c) ↦
          let g = goes r before v (at_more v (check_xor_end r before) (check_xor_literal r before v) other passed) in
          let high = g.in_range in
          let low : 1 ≤ variable_of q = omega arith in
          let within : variable_of q ≤ r.formula.variables = omega arith in
          let whole = append_assoc before (q ∷ []) c.literals in
          record {
            literals = q ∷ c.literals;
            rest = c.rest;
            spelling = ap (λ zs. literal_lexeme q ∷ zs) c.spelling;
            in_range = ((low, within), c.in_range);
            is_xor = subst IsXor whole c.is_xor;
            completed = subst (λ zs. Completes (with_constraint r (add_xor r.formula zs)) c.rest f) whole c.completed;
          }
    ]

-- the magnitude of a number with a minus isn't zero
abbrev pub IsLexeme : Lexeme → Type 0
IsLexeme P = Unit {0}
IsLexeme Cnf = Unit {0}
IsLexeme A = Unit {0}
IsLexeme D = Unit {0}
IsLexeme E = Unit {0}
IsLexeme X = Unit {0}
IsLexeme (Natural _) = Unit {0}
IsLexeme (Negative n) = n ≢ 0
IsLexeme Large = Unit {0}
IsLexeme NegativeLarge = Unit {0}
IsLexeme Other = Unit {0}

clause_step : (r : Reading) (clause : List Literal) (l : Lexeme) (ls : List Lexeme) (f : Dqbf) → IsLexeme l →
    check (in_clause r clause) l ≡ None → CompletesState (inside_clause r clause l) ls f →
    CompletesClause r clause (l ∷ ls) f
clause_step r clause P ls f is passed next = cc
clause_step r clause Cnf ls f is passed next = cc
clause_step r clause A ls f is passed next = cc
clause_step r clause D ls f is passed next = cc
clause_step r clause E ls f is passed next = cc
clause_step r clause X ls f is passed next = cc
clause_step r clause (Natural v) ls f is passed next = literal_step r clause v (positive v) ls f refl
    (ap Natural) passed next
clause_step r clause (Negative v) ls f is passed next = literal_step r clause v (negative v) ls f refl
    (λ zero. absurd (is zero)) passed next
clause_step r clause Large ls f is passed next = cc
clause_step r clause NegativeLarge ls f is passed next = cc
clause_step r clause Other ls f is passed next = cc

xor_step : (r : Reading) (before : List Literal) (l : Lexeme) (ls : List Lexeme) (f : Dqbf) → IsLexeme l →
    IsXorLine before →
    check (in_xor r before) l ≡ None → CompletesState (inside_xor r before l) ls f → CompletesXor r before (l ∷ ls) f
xor_step r before P ls f is line passed next = cc
xor_step r before Cnf ls f is line passed next = cc
xor_step r before A ls f is line passed next = cc
xor_step r before D ls f is line passed next = cc
xor_step r before E ls f is line passed next = cc
xor_step r before X ls f is line passed next = cc
xor_step r before (Natural v) ls f is line passed next = xor_literal_step r before v (positive v) ls f refl
    (ap Natural) line passed next
xor_step r before (Negative v) ls f is line passed next = xor_literal_step r before v (negative v) ls f refl
    (λ zero. absurd (is zero)) line passed next
xor_step r before Large ls f is line passed next = cc
xor_step r before NegativeLarge ls f is line passed next = cc
xor_step r before Other ls f is line passed next = cc

-- a clause or an XOR line in front, behind which no part stands
constraint_completes : (constraint : Constraint) (r : Reading) (rest : List Lexeme) (f : Dqbf) →
    IsLawfulConstraint r.formula.variables constraint →
    Completes (with_constraint r (add_constraint r.formula constraint)) rest f →
    Completes r (constraint_lexemes constraint ++ rest) f
constraint_completes constraint r rest f lawful after =
    let next = add_constraint r.formula constraint in
    let no_parts : after.parts ≡ [] = after.prefix_first (ne_eqb (r.constraints + 1) 0 (λ e. omega arith)) in
    record {
      parts = [];
      constraints = constraint ∷ after.constraints;
      spelling = ap (λ zs. constraint_lexemes constraint ++ zs)
          (after.spelling ∙ ap (λ ps. flat_map part_lexemes ps ++ flat_map constraint_lexemes after.constraints)
          no_parts);
      lawful = tt;
      lawful_constraints = (
        lawful,
        subst (λ v. AreLawfulConstraints v after.constraints)
            (constraint_keeps_variables r.formula constraint) after.lawful_constraints,
      );
      counted = omega (arith, after.counted);
      few = after.few;
      prefix_first = λ _. refl;
      formula = after.formula ∙ ap (λ ps. with_free (fold add_constraint (fold declare next ps) after.constraints))
          no_parts;
    }

clause_completes : (r : Reading) (lexemes : List Lexeme) (f : Dqbf) → CompletesClause r [] lexemes f →
    Completes r lexemes f
clause_completes r lexemes f c =
    subst (λ zs. Completes r zs f) (sym c.spelling) (constraint_completes
    (plain c.literals) r c.rest f c.in_range c.completed)

xor_completes : (r : Reading) (lexemes : List Lexeme) (f : Dqbf) → CompletesXor r [] lexemes f →
    Completes r (X ∷ lexemes) f
xor_completes r lexemes f c =
    subst (λ zs. Completes r (X ∷ zs) f) (sym c.spelling) (constraint_completes (xor c.literals) r c.rest f
    (c.in_range, c.is_xor) c.completed)

-- a part in front
part_completes : (part : PrefixPart) (r : Reading) (rest : List Lexeme) (f : Dqbf) → (r.constraints == 0) ≡ true →
    IsLawfulPart r.formula part →
    Completes (with_formula r (declare r.formula part)) rest f → Completes r (part_lexemes part ++ rest) f
part_completes part r rest f first lawful c =
    let kept = declare-keeps part r.formula in
    record {
      parts = part ∷ c.parts;
      constraints = c.constraints;
      spelling = search (arith, append_assoc);
      lawful = (lawful, c.lawful);
      lawful_constraints = subst (λ v. AreLawfulConstraints v c.constraints) kept.variables c.lawful_constraints;
      counted = c.counted;
      few = c.few;
      prefix_first = λ late. absurd (true≢false (sym first ∙ late));
      formula = c.formula;
    }

letter_first : (r : Reading) → check_part_letter r ≡ None → (r.constraints == 0) ≡ true
letter_first r h = not-false (r.constraints == 0) (no_fault_parts (not (r.constraints == 0)) PrefixLate None h).0

part_step : (r : Reading) (l : Lexeme) (ls : List Lexeme) (f : Dqbf) → IsLexeme l → check (at_part r) l ≡ None →
    CompletesState (at_start r l) ls f → Completes r (l ∷ ls) f
part_step r P ls f is passed next = cc
part_step r Cnf ls f is passed next = cc
part_step r A ls f is passed next =
    subst (λ zs. Completes r (A ∷ zs) f) (sym next.spelling)
    (part_completes (universals next.vs) r next.rest f (letter_first r passed) next.lawful next.completed)
part_step r D ls f is passed next =
    let c = next.completed in
    subst (λ zs. Completes r (D ∷ zs) f) (sym (next.spelling ∙ ap (λ zs. Natural next.y ∷ zs) c.spelling))
    (part_completes (dependent next.y c.vs) r c.rest f (letter_first r passed) (next.new, c.lawful) c.completed)
part_step r E ls f is passed next =
    subst (λ zs. Completes r (E ∷ zs) f) (sym next.spelling)
    (part_completes (existentials next.vs) r next.rest f (letter_first r passed) next.lawful next.completed)
part_step r X ls f is passed next = xor_completes r ls f next
part_step r (Natural v) ls f is passed next = search (arith, clause_completes, clause_step, no_fault_parts)
part_step r (Negative v) ls f is passed next = search (arith, clause_completes, clause_step, no_fault_parts)
part_step r Large ls f is passed next = cc
part_step r NegativeLarge ls f is passed next = cc
part_step r Other ls f is passed next = cc

step_completes : (s : State) (l : Lexeme) (ls : List Lexeme) (f : Dqbf) → IsLexeme l → IsCounted s → check s l ≡ None →
    CompletesState (advance s l) ls f → CompletesState s (l ∷ ls) f
step_completes before_header l ls f is counted passed next = tt
step_completes before_format l ls f is counted passed next = tt
step_completes before_variables l ls f is counted passed next = tt
step_completes (before_clauses v) l ls f is counted passed next = tt
step_completes (at_part r) l ls f is counted passed next = part_step r l ls f is passed next
step_completes (in_universals r) l ls f is counted passed next = universals_step r l ls f passed next
step_completes (in_existentials r) l ls f is counted passed next = existentials_step r l ls f passed next
step_completes (at_dependent r) l ls f is counted passed next = dependent_step r l ls f passed next
step_completes (in_dependencies r y xs) l ls f is counted passed next = dependencies_step r y xs l ls f passed next
step_completes (in_clause r clause) l ls f is counted passed next = clause_step r clause l ls f is passed next
step_completes (in_xor r literals) l ls f is counted passed next = xor_step r literals l ls f is counted.1 passed next

enough : (r : Reading) (f : Dqbf) (b : Bool) → nat_lt r.constraints r.clauses ≡ b → IsWithin r →
    formula_or_none (cond b (Err TooFewClauses) (Ok (with_free r.formula))) ≡ Some f → Completes r [] f
enough r f true missing within h = cc
enough r f false full within h =
    let past = ltb-false r.constraints r.clauses full in
    let same : with_free r.formula ≡ f = cc in
    record {
      parts = [];
      constraints = [];
      spelling = refl;
      lawful = tt;
      lawful_constraints = tt;
      counted = omega (arith, within.counted);
      few = subst (λ (g : Dqbf). length g.matrix ≤ max_clauses) same within.few;
      prefix_first = λ _. refl;
      formula = sym same;
    }

end_completes : (s : State) (f : Dqbf) → IsCounted s → formula_or_none (at_end s) ≡ Some f → CompletesState s [] f
end_completes before_header f counted h = tt
end_completes before_format f counted h = tt
end_completes before_variables f counted h = tt
end_completes (before_clauses v) f counted h = tt
end_completes (at_part r) f counted h = enough r f (nat_lt r.constraints r.clauses) refl counted h
end_completes (in_universals r) f counted h = cc
end_completes (in_existentials r) f counted h = cc
end_completes (at_dependent r) f counted h = cc
end_completes (in_dependencies r y xs) f counted h = cc
end_completes (in_clause r clause) f counted h = cc
end_completes (in_xor r literals) f counted h = cc

pub completes : (lexemes : List Lexeme) (s : State) (f : Dqbf) → AllByRecursion IsLexeme lexemes → IsCounted s →
    run s lexemes ≡ Some f → CompletesState s lexemes f
completes [] s f are counted h = end_completes s f counted h
completes (l ∷ ls) s f are counted h =
    let r = run_step s l ls f h in
    step_completes s l ls f are.0 counted r.0 (completes ls (advance s l) f are.1 (counted_step s l counted r.0) r.1)

choose_lexeme : (b : Bool) (k l : Lexeme) → IsLexeme k → IsLexeme l → IsLexeme (cond b k l)
choose_lexeme true k l here there = here
choose_lexeme false k l here there = there

number_is_lexeme : (minus : Bool) (n : Number) → IsLexeme (number_lexeme minus n)
number_is_lexeme minus NotANumber = tt
number_is_lexeme true TooBigNumber = tt
number_is_lexeme false TooBigNumber = tt
number_is_lexeme minus (Int (pos n)) = tt
number_is_lexeme minus (Int (negsuc n)) = λ zero. absurd (omega arith)

is_lexeme : (text : List ℕ) → IsLexeme (lexeme_of text)
is_lexeme text = search (arith, choose_lexeme, number_is_lexeme)

pub are_lexemes : (tokens : List TextToken) → AllByRecursion IsLexeme (lexemes_of tokens)
are_lexemes [] = tt
are_lexemes (token ∷ tokens) = (is_lexeme token.text, are_lexemes tokens)
