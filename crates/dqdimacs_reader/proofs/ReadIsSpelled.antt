-- What the machine reads, the grammar spells.
use Rattle.std.proofs.Common.{◌≡◌, ℕ, ◌≤◌, nat_lt, Bool, true, false, List, [], ◌∷◌, ◌++◌, length, None, Some, Ok, refl, sym, ◌∙◌, ap, arith, subst}
use Rattle.std.specs.List.{AllByRecursion, fold}
use Rattle.std.proofs.lemmas.Bool.{ltb-false}
use Rattle.dq_lits.specs.Formula.{Dqbf}
use Rattle.dq_text.specs.Token.{tokens_of, last_line_of}
use Rattle.dqdimacs_reader.specs.Building.{empty_formula}
use Rattle.dqdimacs_reader.specs.Grammar.{Constraint, header, declare, add_constraint, SpellsFormula}
use Rattle.dqdimacs_reader.specs.Machine.{before_header, before_format, before_variables, before_clauses, at_part, max_variables, max_clauses, check_limit, advance, wanted, is_p, is_cnf, reading}
use Rattle.dqdimacs_reader.specs.declared.faults.FormulaFault.TheVariants.{Limit}
use Rattle.dqdimacs_reader.specs.declared.lexemes.Lexeme.{Lexeme}
use Rattle.dqdimacs_reader.specs.declared.lexemes.Lexeme.TheVariants.{P, Cnf, A, D, E, X, Natural, Negative, Large, NegativeLarge, Other}
use Rattle.dqdimacs_reader.proofs.SpelledIsRead.{declares-keep, constraint_keeps_variables}
use Rattle.dqdimacs_reader.proofs.Runs.{run, run_step, run_from_reading, lexemes_of}
use Rattle.dqdimacs_reader.proofs.CompletedReadings.{Completes, IsLexeme, are_lexemes, completes, natural_is}
use Rattle.dqdimacs_reader.proofs.XorLines.{no_fault_parts}

wanted_is : (b : Bool) → wanted b ≡ None → b ≡ true
wanted_is true h = refl
wanted_is false h = cc

p_is : (l : Lexeme) → is_p l ≡ true → l ≡ P
p_is P h = refl
p_is Cnf h = cc
p_is A h = cc
p_is D h = cc
p_is E h = cc
p_is X h = cc
p_is (Natural _) h = cc
p_is (Negative _) h = cc
p_is Large h = cc
p_is NegativeLarge h = cc
p_is Other h = cc

cnf_is : (l : Lexeme) → is_cnf l ≡ true → l ≡ Cnf
cnf_is P h = cc
cnf_is Cnf h = refl
cnf_is A h = cc
cnf_is D h = cc
cnf_is E h = cc
cnf_is X h = cc
cnf_is (Natural _) h = cc
cnf_is (Negative _) h = cc
cnf_is Large h = cc
cnf_is NegativeLarge h = cc
cnf_is Other h = cc

-- the header, and what completes the formula behind it
record CompletesHeader (lexemes : List Lexeme) (f : Dqbf) : Type 0 where
  variables : ℕ
  clauses : ℕ
  rest : List Lexeme
  spelling : lexemes ≡ header variables clauses ++ rest
  few_variables : variables ≤ max_variables
  few_clauses : clauses ≤ max_clauses
  completed : Completes (record { clauses = clauses; constraints = 0; formula = empty_formula variables }) rest f

few : (limit n : ℕ) → check_limit limit n ≡ None → n ≤ limit
few limit n h = ltb-false limit n (no_fault_parts (nat_lt limit n) Limit None h).0

header_clauses : (v : ℕ) (lexemes : List Lexeme) (f : Dqbf) → AllByRecursion IsLexeme lexemes →
    run (before_clauses v) lexemes ≡ Some f →
    (c : ℕ) × (rest : List Lexeme) × (lexemes ≡ Natural c ∷ rest) × (c ≤ max_clauses) × Completes
    (record { clauses = c; constraints = 0; formula = empty_formula v }) rest f
header_clauses v [] f are h = cc
header_clauses v (l ∷ ls) f are h =
    let r = run_step (before_clauses v) l ls f h in
    let n = natural_is l (check_limit max_clauses) r.0 in
    let goes_on : run (advance (before_clauses v) (Natural n.0)) ls ≡ Some f =
    ap (λ k. run (advance (before_clauses v) k) ls) (sym n.1) ∙ r.1 in (
      n.0,
      ls,
      ap (λ k. k ∷ ls) n.1,
      few max_clauses n.0 n.2,
      completes ls (at_part (record { clauses = n.0; constraints = 0; formula = empty_formula v })) f are.1
          (record { counted = omega arith; few = omega arith }) goes_on,
    )

header_variables : (lexemes : List Lexeme) (f : Dqbf) → AllByRecursion IsLexeme lexemes →
    run before_variables lexemes ≡ Some f →
    (v : ℕ) × (rest : List Lexeme) × (lexemes ≡ Natural v ∷ rest) × (v ≤ max_variables) × AllByRecursion IsLexeme rest ×
    (run (before_clauses v) rest ≡ Some f)
header_variables [] f are h = cc
header_variables (l ∷ ls) f are h = search (arith, run_step, natural_is)

header_format : (lexemes : List Lexeme) (f : Dqbf) → AllByRecursion IsLexeme lexemes →
    run before_format lexemes ≡ Some f →
    (rest : List Lexeme) × (lexemes ≡ Cnf ∷ rest) × AllByRecursion IsLexeme rest × (run before_variables rest ≡ Some f)
header_format [] f are h = cc
header_format (l ∷ ls) f are h = search (arith, run_step, cnf_is, wanted_is)

header_word : (lexemes : List Lexeme) (f : Dqbf) → AllByRecursion IsLexeme lexemes →
    run before_header lexemes ≡ Some f →
    (rest : List Lexeme) × (lexemes ≡ P ∷ rest) × AllByRecursion IsLexeme rest × (run before_format rest ≡ Some f)
header_word [] f are h = cc
header_word (l ∷ ls) f are h =
    let r = run_step before_header l ls f h in
    (ls, ap (λ k. k ∷ ls) (p_is l (wanted_is (is_p l) r.0)), are.1, r.1)

header_completes : (lexemes : List Lexeme) (f : Dqbf) → AllByRecursion IsLexeme lexemes →
    run before_header lexemes ≡ Some f → CompletesHeader lexemes f
header_completes lexemes f are h =
    let word = header_word lexemes f are h in
    let format = header_format word.0 f word.2 word.3 in
    let variables = header_variables format.0 f format.2 format.3 in
    let clauses = header_clauses variables.0 variables.1 f variables.4 variables.5 in
    record {
      variables = variables.0;
      clauses = clauses.0;
      rest = clauses.1;
      spelling = word.1
          ∙ ap (λ zs. P ∷ zs) (format.1 ∙ ap (λ zs. Cnf ∷ zs)
          (variables.2 ∙ ap (λ zs. Natural variables.0 ∷ zs) clauses.2));
      few_variables = variables.3;
      few_clauses = clauses.3;
      completed = clauses.4;
    }

pub constraints_keep_variables : (constraints : List Constraint) (g : Dqbf) →
    (fold add_constraint g constraints).variables ≡ g.variables
constraints_keep_variables [] g = refl
constraints_keep_variables (c ∷ cs) g = search (arith, (constraints_keep_variables cs), constraint_keeps_variables)

pub read_is_spelled : (text : List ℕ) (f : Dqbf) → reading text ≡ Ok f → SpellsFormula text f
read_is_spelled text f h =
    let tokens = tokens_of text in
    let c = header_completes (lexemes_of tokens) f (are_lexemes tokens)
    (run_from_reading tokens before_header (last_line_of text) f h) in
    let done = c.completed in
    let prefix = fold declare (empty_formula c.variables) done.parts in
    let variables : c.variables ≡ f.variables = sym
    (ap (λ (g : Dqbf). g.variables) done.formula ∙ constraints_keep_variables done.constraints prefix ∙
    (declares-keep done.parts (empty_formula c.variables)).variables) in
    let own = subst (λ v. Completes (record { clauses = c.clauses; constraints = 0; formula = empty_formula v }) c.rest
    f) variables done in
    let counted : length own.constraints ≡ c.clauses = omega (arith, own.counted) in
    record {
      parts = own.parts;
      constraints = own.constraints;
      spelling = c.spelling
          ∙ ap (λ v. header v c.clauses ++ c.rest) variables
          ∙ ap (λ n. header f.variables n ++ c.rest) (sym counted)
          ∙ ap (λ zs. header f.variables (length own.constraints) ++ zs) own.spelling;
      few_variables = rw (← variables) c.few_variables;
      few_constraints = rw counted c.few_clauses;
      few_clauses = own.few;
      lawful_parts = own.lawful;
      lawful_constraints = own.lawful_constraints;
      formula = own.formula;
    }
