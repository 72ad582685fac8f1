-- A formula's text spells it on the page, and there it is true or false as it is to the reader.
use Rattle.std.proofs.Common.{◌≡◌, ◌≢◌, ℕ, zero, suc, ◌<◌, ◌≤◌, ◌==◌, Bool, false, not, ◌&&◌, List, [], ◌∷◌, ◌++◌, length, map, Option, Some, None, get_or, refl, sym, ◌∙◌, ap, subst, arith}
use Rattle.std.specs.List.{All, AllPairs, AllByRecursion, AllZip, filter, flat_map, fold, list_all, list_any, range_with_len}
use Rattle.std.proofs.lemmas.List.{get_or-map, length-map, map-append}
use Rattle.std.proofs.lemmas.List.Elements.{All-from_recursion}
use Rattle.std.proofs.lemmas.List.Sums.{AllPass-from_list_all, list_all-from_AllPass}
use Rattle.list_laws.proofs.Folds.{filter-same}
use Rattle.list_laws.proofs.Numbers.{range_more}
use Rattle.list_laws.proofs.Quantified.{right-distinct, rec_append}
use Rattle.dq_lits.specs.Formula.{Dqbf, existential_of, IsWellFormed}
use Rattle.dq_lits.specs.Formula.{Existential as ReadExistential}
use Rattle.dq_lits.specs.Henkin.{HenkinChoice, choice_value, same_bits, restriction, Follows, MatrixHolds}
use Rattle.dq_lits.specs.Henkin.{IsTrueFormula as IsReadTrue, IsFalseFormula as IsReadFalse}
use Rattle.dq_lits.specs.Literal.{Assignment, variable_of, clause_true}
use Rattle.dq_lits.specs.Literal.{Literal as ReadLiteral, positive, negative}
use Rattle.dq_lits.proofs.Followers.{find_own}
use Rattle.dq_formula.specs.Prefix.{is_declared, free_variables, occurs, unseeing}
use Rattle.dq_formula.specs.Xor.{XorIsItsClauses}
use Rattle.dq_text.specs.Token.{TextToken, tokens_of}
use Rattle.dqdimacs_reader.specs.Building.{empty_formula}
use Rattle.dqdimacs_reader.specs.Grammar.{InRange, IsLawfulConstraint, AreLawfulConstraints, add_constraint, declare, numbers, part_lexemes, clause_lexemes, constraint_lexemes, literal_lexeme, header}
use Rattle.dqdimacs_reader.specs.Grammar.{SpellsFormula as IsRead, Constraint as ReadConstraint, plain, xor as read_xor, PrefixPart as ReadPart, universals as read_universals, existentials as read_existentials, dependent as read_dependent}
use Rattle.dqdimacs_reader.specs.Lexeme.{lexeme_of}
use Rattle.dqdimacs_reader.specs.declared.lexemes.Lexeme.TheVariants.{Natural}
use Rattle.dqdimacs_reader.proofs.SpelledClauses.{matrix-spelled, spelled_matrix}
use Rattle.dqdimacs_reader.proofs.SpelledIsRead.{declares-keep}
use Rattle.dqdimacs_reader.proofs.ReadIsSpelled.{constraints_keep_variables}
use Rattle.headline.specs.Headline.{Formula, Existential, Constraint, natural, Spells, SpellsFormula, IsConstraint, IsTrueFormula, IsFalseFormula, Holds, among, constraint_true, existentials_of, formula_symbols, is_free, literal_symbol, literals_of, part_symbols, constraint_symbols, seeing, tokens, universals_of, up_to}
use Rattle.headline.specs.Headline.{numbers as page_numbers, variable_of as page_variable, declared as page_declared}
use Rattle.headline_laws.specs.Formulas.{IsOnPage, MeansTheSame, read_existential}
use Rattle.headline_laws.proofs.Constraints.{page_literal, page_literals, page_constraint, page_constraints, all_occur, all_same, all_sizes}
use Rattle.headline_laws.proofs.Declarations.{page_part, page_parts, variables_in, all_apart, all_declared, all_existentials, all_in_range, all_listed, all_universals, apart_pairs}
use Rattle.headline_laws.proofs.Symbols.{Stands, stands_p, stands_cnf, stands_a, stands_d, stands_e, stands_x, stands_natural, stands_negative, all_spelled, zip_append}

-- what stands for what
naturals_stand : (vs : List ℕ) → AllZip Stands (map Natural vs) (map natural vs)
naturals_stand [] = tt
naturals_stand (v ∷ vs) = (stands_natural v, naturals_stand vs)

numbers_stand : (vs : List ℕ) → AllZip Stands (numbers vs) (page_numbers vs)
numbers_stand vs = search (arith, zip_append, naturals_stand, stands_natural)

part_stands : (part : ReadPart) → AllZip Stands (part_lexemes part) (part_symbols (page_part part))
part_stands (read_universals vs) = (stands_a, numbers_stand vs)
part_stands (read_existentials ys) = (stands_e, numbers_stand ys)
part_stands (read_dependent y xs) = (stands_d, (stands_natural y, numbers_stand xs))

parts_stand : (parts : List ReadPart) → AllZip Stands (flat_map part_lexemes parts) (flat_map part_symbols (page_parts parts))
parts_stand [] = tt
parts_stand (part ∷ parts) = search (arith, zip_append, part_stands, (parts_stand parts))

literal_stands : (l : ReadLiteral) → Stands (literal_lexeme l) (literal_symbol (page_literal l))
literal_stands (positive v) = stands_natural v
literal_stands (negative v) = stands_negative v

literals_stand : (ls : List ReadLiteral) → AllZip Stands (map literal_lexeme ls) (map literal_symbol (page_literals ls))
literals_stand [] = tt
literals_stand (l ∷ ls) = (literal_stands l, literals_stand ls)

clause_stands : (ls : List ReadLiteral) → AllZip Stands (clause_lexemes ls) (map literal_symbol (page_literals ls) ++ natural 0 ∷ [])
clause_stands ls = search (arith, zip_append, literals_stand, stands_natural)

constraint_stands : (c : ReadConstraint) → AllZip Stands (constraint_lexemes c) (constraint_symbols (page_constraint c))
constraint_stands (plain ls) = clause_stands ls
constraint_stands (read_xor ls) = (stands_x, clause_stands ls)

constraints_stand : (cs : List ReadConstraint) →
    AllZip Stands (flat_map constraint_lexemes cs) (flat_map constraint_symbols (page_constraints cs))
constraints_stand [] = tt
constraints_stand (c ∷ cs) = search (arith, zip_append, constraint_stands, (constraints_stand cs))

-- the page's formula
abbrev pub page_formula : ℕ → List ReadPart → List ReadConstraint → Formula
page_formula variables parts cs = record {
  variables = variables;
  parts = page_parts parts;
  constraints = page_constraints cs;
}

formula_stands : (variables : ℕ) (parts : List ReadPart) (cs : List ReadConstraint) →
    AllZip Stands (header variables (length cs) ++ (flat_map part_lexemes parts ++ flat_map constraint_lexemes cs))
    (formula_symbols (page_formula variables parts cs))
formula_stands variables parts cs =
    search (arith, stands_p, stands_cnf, stands_natural, length-map, zip_append, parts_stand, constraints_stand)

each_text : (ts : List TextToken) → map lexeme_of (map (λ t. t.text) ts) ≡ map (λ t. lexeme_of t.text) ts
each_text [] = refl
each_text (t ∷ ts) = ap (λ ls. lexeme_of t.text ∷ ls) (each_text ts)

-- literals in range, and lines of different variables
literals_range : (n : ℕ) (ls : List ReadLiteral) → AllByRecursion (InRange n) ls →
    AllByRecursion (λ v. (1 ≤ v) × (v ≤ n)) (map page_variable (page_literals ls))
literals_range n [] all = tt
literals_range n (positive v ∷ ls) all = (all.0, literals_range n ls all.1)
literals_range n (negative v ∷ ls) all = (all.0, literals_range n ls all.1)

abbrev variables_at : Constraint → List ℕ
variables_at c = map page_variable (literals_of c)

constraint_range : (n : ℕ) (c : ReadConstraint) → IsLawfulConstraint n c →
    AllByRecursion (λ v. (1 ≤ v) × (v ≤ n)) (variables_at (page_constraint c))
constraint_range n (plain ls) lawful = literals_range n ls lawful
constraint_range n (read_xor ls) lawful = literals_range n ls lawful.0

constraints_range : (n : ℕ) (cs : List ReadConstraint) → AreLawfulConstraints n cs →
    AllByRecursion (λ v. (1 ≤ v) × (v ≤ n)) (flat_map variables_at (page_constraints cs))
constraints_range n [] lawful = tt
constraints_range n (c ∷ cs) lawful = search (arith, rec_append, constraint_range, (constraints_range n cs lawful.1))

pub same_variable : (l : ReadLiteral) → page_variable (page_literal l) ≡ variable_of l
same_variable (positive v) = refl
same_variable (negative v) = refl

pairs_apart : (ls : List ReadLiteral) → AllPairs (λ k l. variable_of k ≢ variable_of l) ls →
    AllPairs (λ k l. page_variable k ≢ page_variable l) (page_literals ls)
pairs_apart ls apart i j d less below =
    let there : j < length ls = omega (arith, below, length-map ls page_literal) in
    let here : i < length ls = omega (arith, less, there) in
    let first = get_or-map page_literal ls i (positive 0) d here in
    let second = get_or-map page_literal ls j (positive 0) d there in
    λ same. apart i j (positive 0) less there
    (sym (same_variable (get_or ls i (positive 0))) ∙ (ap page_variable (sym first)
    ∙ (same ∙ (ap page_variable second ∙ same_variable (get_or ls j (positive 0))))))

constraint_lawful : (n : ℕ) (c : ReadConstraint) → IsLawfulConstraint n c → IsConstraint (page_constraint c)
constraint_lawful n (plain ls) lawful = tt
constraint_lawful n (read_xor ls) lawful = search (arith, length-map, pairs_apart)

constraints_lawful : (n : ℕ) (cs : List ReadConstraint) → AreLawfulConstraints n cs →
    AllByRecursion IsConstraint (page_constraints cs)
constraints_lawful n [] lawful = tt
constraints_lawful n (c ∷ cs) lawful = (constraint_lawful n c lawful.0, constraints_lawful n cs lawful.1)

-- what constraints keep
keep_prefix : (cs : List ReadConstraint) (g : Dqbf) → ((fold add_constraint g cs).universals ≡ g.universals)
    × ((fold add_constraint g cs).existentials ≡ g.existentials)
keep_prefix [] g = (refl, refl)
keep_prefix (plain ls ∷ cs) g = keep_prefix cs (add_constraint g (plain ls))
keep_prefix (read_xor ls ∷ cs) g = keep_prefix cs (add_constraint g (read_xor ls))

pub up_to_is : (n : ℕ) → up_to n ≡ range_with_len 1 n
up_to_is zero = refl
up_to_is (suc n) = search (arith, (up_to_is n), (range_more 1 n))

unseeing_all : (vs : List ℕ) → map read_existential (map (seeing []) vs) ≡ map unseeing vs
unseeing_all [] = refl
unseeing_all (v ∷ vs) = ap (λ ys. unseeing v ∷ ys) (unseeing_all vs)

module _ (text : List ℕ) (m : Dqbf) (s : IsRead text m) where
  abbrev pub start : Dqbf
  start = empty_formula m.variables

  abbrev prefix : Dqbf
  prefix = fold declare start s.parts

  abbrev whole : Dqbf
  whole = fold add_constraint prefix s.constraints

  abbrev pub page : Formula
  page = page_formula m.variables s.parts s.constraints

  whole_variables : whole.variables ≡ m.variables
  whole_variables = constraints_keep_variables s.constraints prefix ∙ (declares-keep s.parts start).variables

  declared_same : (v : ℕ) → is_declared whole v ≡ among (page_declared page) v
  declared_same v = search (arith, keep_prefix, all_declared)

  occurs_same : (v : ℕ) → occurs whole.matrix v
      ≡ list_any (λ c. list_any (λ l. page_variable l == v) (literals_of c)) page.constraints
  occurs_same v = search (arith, matrix-spelled, declares-keep, (all_occur v))

  free_same : (v : ℕ) → is_free page v ≡ (not (is_declared whole v) && occurs whole.matrix v)
  free_same v = search (arith, declared_same, occurs_same)

  free_are : filter (is_free page) (up_to m.variables) ≡ free_variables whole
  free_are = search (arith, filter-same, free_same, up_to_is, whole_variables)

  existentials_are : map read_existential (existentials_of page) ≡ m.existentials
  existentials_are = search (arith, map-append, keep_prefix, all_existentials, unseeing_all, free_are)

  universals_are : universals_of page ≡ m.universals
  universals_are = search (arith, keep_prefix, all_universals)

  spelled : (map (λ (t : TextToken). t.text) (tokens_of text) ≡ tokens text) → SpellsFormula text page
  spelled texts = record {
    spelled = subst (λ ts. AllZip Spells ts (formula_symbols page)) texts
        (all_spelled (map (λ (t : TextToken). t.text) (tokens_of text)) (formula_symbols page)
        (subst (λ ls. AllZip Stands ls (formula_symbols page)) (sym (each_text (tokens_of text) ∙ s.spelling))
        (formula_stands m.variables s.parts s.constraints)));
    once = apart_pairs (variables_in s.parts) (all_apart start s.parts s.lawful_parts);
    listed = all_listed start s.parts s.lawful_parts;
    constraints = All-from_recursion IsConstraint page.constraints
        (constraints_lawful m.variables s.constraints s.lawful_constraints);
    in_range = All-from_recursion (λ v. (1 ≤ v) × (v ≤ m.variables)) (variables_in s.parts ++ flat_map variables_at page.constraints)
        (rec_append (λ v. (1 ≤ v) × (v ≤ m.variables)) (variables_in s.parts) (flat_map variables_at page.constraints)
        (all_in_range start s.parts s.lawful_parts) (constraints_range m.variables s.constraints s.lawful_constraints));
    few_variables = s.few_variables;
    few_clauses = omega (
      arith,
      s.few_clauses,
      all_sizes m.variables s.constraints s.lawful_constraints,
      ap length (spelled_matrix text m s),
    );
  }

  -- the matrix
  holds_same : XorIsItsClauses → (a : Assignment) →
      list_all (constraint_true a) page.constraints ≡ list_all (clause_true a) m.matrix
  holds_same exact a = all_same exact a s.constraints ∙ ap (list_all (clause_true a)) (sym (spelled_matrix text m s))

  matrix_holds : XorIsItsClauses → (a : Assignment) → Holds page a → MatrixHolds m a
  matrix_holds exact a holds = AllPass-from_list_all (clause_true a) m.matrix (sym (holds_same exact a) ∙ holds)

  page_holds : XorIsItsClauses → (a : Assignment) → MatrixHolds m a → Holds page a
  page_holds exact a holds = holds_same exact a ∙ list_all-from_AllPass (clause_true a) m.matrix holds

  pub means_the_same : XorIsItsClauses → MeansTheSame m page
  means_the_same exact = search (arith, universals_are, existentials_are, page_holds, matrix_holds)

-- ---- what means the same is true or false where the reader's is

abbrev pub Choices : Type 0
Choices = (values : ReadExistential → List Bool → Bool) → (choice : HenkinChoice)
    × ((y : ReadExistential) (a : Assignment) → choice_value choice y a ≡ values y (restriction y a))

module _ (m : Dqbf) (f : Formula) (same : MeansTheSame m f) where
  -- false
  pub is_false : Choices → IsReadFalse m → IsFalseFormula f
  is_false choices none value solve =
      let given = choices (λ y bits. value y.variable bits) in
      none given.0 (λ a follows. same.holds_there a (solve a (own a follows)))
    where
      own : (a : Assignment) → Follows m (choices (λ y bits. value y.variable bits)).0 a →
          All (λ (y : Existential). a y.variable ≡ value y.variable (map a y.sees)) (existentials_of f)
      own a follows = λ k d below.
          let given = choices (λ y bits. value y.variable bits) in
          let y = get_or (existentials_of f) k d in
          let there : k < length m.existentials = omega (arith, below, length-map (existentials_of f) read_existential, ap length same.existentials) in
          let at : get_or m.existentials k (read_existential d) ≡ read_existential y =
          ap (λ ys. get_or ys k (read_existential d)) (sym same.existentials)
          ∙ get_or-map read_existential (existentials_of f) k d (read_existential d) below in
          let one = follows k (read_existential d) there in
          ap (λ (z : ReadExistential). a z.variable) (sym at)
          ∙ (one ∙ (ap (λ z. choice_value given.0 z a) at ∙ given.1 (read_existential y) a))

  -- true: a function for each variable, by the existential that it is
  abbrev chosen : HenkinChoice → List Bool → Option ReadExistential → Bool
  chosen choice bits None = false
  chosen choice bits (Some y) = list_any (same_bits bits) (choice y)

  abbrev functions : HenkinChoice → ℕ → List Bool → Bool
  functions choice v bits = chosen choice bits (existential_of m v)

  pub is_true : IsWellFormed m → IsReadTrue m → IsTrueFormula f
  is_true formed true_there = (functions true_there.0, λ a each. same.holds a (true_there.1 a (follows a each))) where
    follows : (a : Assignment) →
        All (λ (y : Existential). a y.variable ≡ functions true_there.0 y.variable (map a y.sees)) (existentials_of f) →
        Follows m true_there.0 a
    follows a each = λ k d below.
        let z = get_or m.existentials k d in
        let e : Existential = record { variable = 0; sees = [] } in
        let y = get_or (existentials_of f) k e in
        let there : k < length (existentials_of f) =
        omega (arith, below, length-map (existentials_of f) read_existential, ap length same.existentials) in
        let at : z ≡ read_existential y =
        ap (λ ys. get_or ys k d) (sym same.existentials) ∙ get_or-map read_existential (existentials_of f) k e d there in
        let known : existential_of m z.variable ≡ Some z =
        find_own m.existentials k d below
        (right-distinct m.universals (map (λ (w : ReadExistential). w.variable) m.existentials) formed.prefix.declared_once) in
        ap (λ (w : ReadExistential). a w.variable) at
        ∙ (each k e there
        ∙ (ap (λ (w : ReadExistential). functions true_there.0 w.variable (map a w.sees)) (sym at)
        ∙ ap (chosen true_there.0 (map a z.sees)) known))

pub on_page : (text : List ℕ) (m : Dqbf) (s : IsRead text m) → IsWellFormed m → XorIsItsClauses → Choices →
    (map (λ (t : TextToken). t.text) (tokens_of text) ≡ tokens text) → IsOnPage text m (page text m s)
on_page text m s formed exact choices texts =
    let same = means_the_same text m s exact in
    record {
      spelled = spelled text m s texts;
      variables = refl;
      universals = same.universals;
      existentials = same.existentials;
      holds = same.holds;
      holds_there = same.holds_there;
      is_true = is_true m (page text m s) same formed;
      is_false = is_false m (page text m s) same choices;
    }
