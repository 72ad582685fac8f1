-- The clauses of a spelled formula are bound and distinct.
use Rattle.std.proofs.Common.{◌≡◌, ◌≢◌, ℕ, zero, suc, ◌+◌, ◌<◌, ◌≤◌, ◌==◌, Bool, true, false, cond, List, [], ◌∷◌, ◌++◌, map, length, get_or, refl, sym, ◌∙◌, ap, arith, append_assoc, subst}
use Rattle.std.specs.List.{All, AllPairs, AllByRecursion, Contains, flat_map, fold, filter, list_any, range_with_len}
use Rattle.std.proofs.lemmas.Bool.{cases_Bool, cases_eq, ne_eqb, or_left, or_right, eq-eqb, and_from, true≢false}
use Rattle.std.proofs.lemmas.List.Elements.{All-nil, All-push, All-append, All-weaker, All-from_recursion}
use Rattle.std.proofs.lemmas.List.{append-nil, map-append}
use Rattle.std.proofs.lemmas.List.Folds.{list_any_at, list_any-append}
use Rattle.std.proofs.lemmas.List.Quantifiers.{all_pairs_push}
use Rattle.list_laws.proofs.Members.{contains_tested}
use Rattle.dq_lits.specs.Literal.{Literal, variable_of, same_literal}
use Rattle.dq_lits.specs.Formula.{Dqbf, declared}
use Rattle.dq_lits.proofs.SignedLiterals.{same_literal-refl}
use Rattle.dq_formula.specs.Prefix.{unseeing, occurs}
use Rattle.dqdimacs_reader.specs.Building.{empty_formula, add_literal, with_free}
use Rattle.dqdimacs_reader.specs.Grammar.{Constraint, plain, xor, declare, InRange, IsLawfulConstraint, AreLawfulConstraints, add_constraint, SpellsFormula}
use Rattle.dqdimacs_reader.specs.Reading.{HasDistinctClauses}
use Rattle.dq_formula.specs.Xor.{xor_clauses}
use Rattle.dqdimacs_reader.proofs.SpelledIsRead.{declares-keep, clauses_of}
use Rattle.dqdimacs_reader.proofs.XorLines.{variables, xor_over, same_range, same_apart}
use Rattle.dqdimacs_reader.proofs.ReadIsSpelled.{constraints_keep_variables}

-- what a literal that is added keeps
pub grown : (Q : List Literal → Type 0) (b : Bool) (more less : List Literal) → (b ≡ false → Q more) → Q less →
    Q (cond b less more)
grown Q true more less added kept = kept
grown Q false more less added kept = added refl

apart : (clause : List Literal) (l : Literal) → list_any (same_literal l) clause ≡ false → (k : ℕ) (d : Literal) →
    k < length clause → get_or clause k d ≢ l
apart clause l absent k d below same =
    true≢false (sym (list_any_at (same_literal l) clause k d below (ap (same_literal l) same ∙ same_literal-refl l))
    ∙ absent)

pub add_literal-distinct : (clause : List Literal) (l : Literal) → AllPairs (λ j k. j ≢ k) clause →
    AllPairs (λ j k. j ≢ k) (add_literal clause l)
add_literal-distinct clause l pairs =
    grown (AllPairs (λ j k. j ≢ k)) (list_any (same_literal l) clause) (clause ++ l ∷ []) clause
    (λ absent. all_pairs_push (λ j k. j ≢ k) clause l pairs (apart clause l absent)) pairs

fold-distinct : (literals clause : List Literal) → AllPairs (λ j k. j ≢ k) clause →
    AllPairs (λ j k. j ≢ k) (fold add_literal clause literals)
fold-distinct [] clause pairs = pairs
fold-distinct (l ∷ ls) clause pairs = fold-distinct ls (add_literal clause l) (add_literal-distinct clause l pairs)

fold-in_range : (variables : ℕ) (literals clause : List Literal) → All (InRange variables) clause →
    AllByRecursion (InRange variables) literals →
    All (InRange variables) (fold add_literal clause literals)
fold-in_range variables [] clause before range = before
fold-in_range variables (l ∷ ls) clause before range =
    fold-in_range variables ls (add_literal clause l)
    (grown (All (InRange variables)) (list_any (same_literal l) clause) (clause ++ l ∷ []) clause
    (λ absent. All-push (InRange variables) clause l before range.0) before)
    range.1

pub matrix-spelled : (constraints : List Constraint) (g : Dqbf) →
    (fold add_constraint g constraints).matrix ≡ g.matrix ++ flat_map clauses_of constraints
matrix-spelled [] g = sym (append-nil g.matrix)
matrix-spelled (c ∷ cs) g = search (arith, (matrix-spelled cs), append_assoc)

-- the matrix of a spelled formula
pub spelled_matrix : (text : List ℕ) (f : Dqbf) (s : SpellsFormula text f) → f.matrix ≡ flat_map clauses_of s.constraints
spelled_matrix text f s = search (arith, matrix-spelled, declares-keep)

-- a clause of a lawful text
record IsLawfulClause (n : ℕ) (c : List Literal) : Type 0 where
  in_range : All (InRange n) c
  distinct : AllPairs (λ k l. k ≢ l) c

no_pairs : AllPairs {X = Literal} (λ k l. k ≢ l) []
no_pairs i j d before below = absurd (omega (arith, below))

over_line : (n : ℕ) (literals : List Literal) → IsLawfulConstraint n (xor literals) → (clauses : List (List Literal)) →
    AllByRecursion (λ c. variables c ≡ variables literals) clauses → AllByRecursion (IsLawfulClause n) clauses
over_line n literals lawful [] over = tt
over_line n literals lawful (c ∷ cs) over =
    search (arith, All-from_recursion, same_range, same_apart, (over_line n literals lawful cs over.1))

lawful_clauses : (n : ℕ) (constraint : Constraint) → IsLawfulConstraint n constraint →
    AllByRecursion (IsLawfulClause n) (clauses_of constraint)
lawful_clauses n (plain literals) lawful = search (arith, fold-in_range, All-nil, fold-distinct, no_pairs)
lawful_clauses n (xor literals) lawful = over_line n literals lawful (xor_clauses literals) (xor_over literals)

all_lawful : (n : ℕ) (constraints : List Constraint) → AreLawfulConstraints n constraints →
    All (IsLawfulClause n) (flat_map clauses_of constraints)
all_lawful n [] lawful = All-nil (IsLawfulClause n)
all_lawful n (c ∷ cs) lawful =
    search (arith, All-append, All-from_recursion, lawful_clauses, (all_lawful n cs lawful.1))

spelled_is_lawful : (text : List ℕ) (f : Dqbf) → SpellsFormula text f → All (IsLawfulClause f.variables) f.matrix
spelled_is_lawful text f s = rw (spelled_matrix text f s) (all_lawful f.variables s.constraints s.lawful_constraints)

pub spelled_is_distinct : (text : List ℕ) (f : Dqbf) → SpellsFormula text f → HasDistinctClauses f
spelled_is_distinct text f s =
    All-weaker (IsLawfulClause f.variables) (AllPairs (λ k l. k ≢ l)) (λ c lawful. lawful.distinct) f.matrix
    (spelled_is_lawful text f s)

kept_by_filter : (p : ℕ → Bool) (xs : List ℕ) (v : ℕ) → list_any (λ x. x == v) xs ≡ true → p v ≡ true →
    list_any (λ x. x == v) (filter p xs) ≡ true
kept_by_filter p [] v listed passes = listed
kept_by_filter p (x ∷ xs) v listed passes =
    search (arith, cases_eq, or_left, eq-eqb, (kept_by_filter p xs v), ne_eqb, cases_Bool, or_right)

pub in_range_listed : (n a v : ℕ) → a ≤ v → v < a + n → list_any (λ x. x == v) (range_with_len a n) ≡ true
in_range_listed zero a v low high = absurd (omega arith)
in_range_listed (suc n) a v low high =
    search (arith, cases_eq, or_left, eq-eqb, or_right, (in_range_listed n (a + 1) v))

variables_of_free : (vs : List ℕ) → map (λ y. y.variable) (map unseeing vs) ≡ vs
variables_of_free [] = refl
variables_of_free (v ∷ vs) = ap (λ ws. v ∷ ws) (variables_of_free vs)

-- what is declared, or occurs, is declared with the free variables
declared_with_free : (g : Dqbf) (v : ℕ) → 1 ≤ v → v ≤ g.variables → occurs g.matrix v ≡ true →
    Contains (declared (with_free g)) v
declared_with_free g v low high occurring =
    search (
      arith,
      map-append,
      variables_of_free,
      append_assoc,
      list_any-append,
      cases_Bool,
      or_left,
      or_right,
      kept_by_filter,
      in_range_listed,
      and_from,
      contains_tested,
    )

literal_bound : (g : Dqbf) → All (All (InRange g.variables)) g.matrix →
    All (All (λ l. Contains (declared (with_free g)) (variable_of l))) g.matrix
literal_bound g range j d below k e inside = search (arith, declared_with_free, list_any_at, eq-eqb)

pub spelled_is_bound : (text : List ℕ) (f : Dqbf) → SpellsFormula text f →
    All (All (λ l. Contains (declared f) (variable_of l))) f.matrix
spelled_is_bound text f s =
    let prefix = fold declare (empty_formula f.variables) s.parts in
    let g = fold add_constraint prefix s.constraints in
    let variables : g.variables ≡ f.variables = constraints_keep_variables s.constraints prefix ∙
    (declares-keep s.parts (empty_formula f.variables)).variables in
    let same : g.matrix ≡ f.matrix = ap (λ (h : Dqbf). h.matrix) (sym s.formula) in
    let lawful = All-weaker (IsLawfulClause f.variables) (All (InRange f.variables)) (λ c is. is.in_range) f.matrix
    (spelled_is_lawful text f s) in
    let range : All (All (InRange g.variables)) g.matrix =
    subst (λ v. All (All (InRange v)) g.matrix) (sym variables)
    (subst (All (All (InRange f.variables))) (sym same) lawful) in
    let Bound : Dqbf → Type 0 = λ h. All (All (λ l. Contains (declared h) (variable_of l))) h.matrix in
    subst Bound (sym s.formula) (literal_bound g range)
