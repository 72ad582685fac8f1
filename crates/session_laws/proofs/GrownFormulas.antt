-- A clause on a formula's variables leaves its prefix as it is, and what a formula means to the reader
-- and on the page stays the same with it.
use Rattle.std.proofs.Common.{◌≡◌, ℕ, ◌==◌, ◌⊎◌, inl, inr, Bool, true, false, not, ◌&&◌, ◌||◌, List, [], ◌∷◌, ◌++◌, map, refl, sym, ◌∙◌, ap, subst}
use Rattle.std.specs.List.{All, AllByRecursion, Contains, filter, flat_map, list_all, list_any}
use Rattle.std.proofs.lemmas.Bool.{and_from, and_parts, eqb-true, or_cases, or_left, or_right}
use Rattle.std.proofs.lemmas.List.{map-append}
use Rattle.std.proofs.lemmas.List.Elements.{All-push, Contains-append_cases}
use Rattle.std.proofs.lemmas.List.Folds.{list_all-append, list_any-append}
use Rattle.std.proofs.lemmas.List.Sums.{AllPass-from_list_all, list_all-from_AllPass}
use Rattle.list_laws.proofs.Folds.{filter-same}
use Rattle.list_laws.proofs.Members.{contains_cases, contains_first, tested_inside}
use Rattle.dq_lits.specs.Formula.{Dqbf, IsWellFormed, declared}
use Rattle.dq_lits.specs.Formula.{Existential as ReadExistential}
use Rattle.dq_lits.specs.Henkin.{MatrixHolds}
use Rattle.dq_lits.specs.Literal.{Assignment, clause_true}
use Rattle.dq_lits.specs.Literal.{Literal as ReadLiteral, variable_of as read_variable}
use Rattle.dq_formula.specs.Xor.{XorIsItsClauses}
use Rattle.dqdimacs_reader.specs.Building.{distinct}
use Rattle.dqdimacs_reader.specs.Grammar.{plain}
use Rattle.headline.specs.Headline.{Constraint, Existential, Formula, Holds, Literal, PrefixPart, among, clause, constraint_true, declared_in, dependent, existentials, existentials_from, existentials_of, is_free, literals_of, seeing, universals, universals_in, universals_of, up_to, variable_of}
use Rattle.headline.specs.Headline.{declared as page_declared}
use Rattle.headline.specs.Sessions.{variables_of, with_clause}
use Rattle.headline_laws.specs.Formulas.{MeansTheSame, read_existential}
use Rattle.headline_laws.proofs.Constraints.{constraint_same, page_literal, page_literals}
use Rattle.headline_laws.proofs.Formulas.{same_variable}
use Rattle.headline_laws.proofs.Skolems.{filtered}

-- ---- a formula's variables are declared, or free

abbrev variable_list : List Existential → List ℕ
variable_list ys = map (λ y. y.variable) ys

abbrev IsKnown : Formula → ℕ → Type 0
IsKnown f v = (among (page_declared f) v ≡ true) ⊎ (is_free f v ≡ true)

first_among : (xs ys : List ℕ) (v : ℕ) → among xs v ≡ true → among (xs ++ ys) v ≡ true
first_among xs ys v here = list_any-append (λ x. x == v) xs ys ∙ or_left (among xs v) (among ys v) here

later_among : (xs ys : List ℕ) (v : ℕ) → among ys v ≡ true → among (xs ++ ys) v ≡ true
later_among xs ys v there = list_any-append (λ x. x == v) xs ys ∙ or_right (among xs v) (among ys v) there

universal_declared : (ps : List PrefixPart) (v : ℕ) → Contains (flat_map universals_in ps) v →
    among (flat_map declared_in ps) v ≡ true
universal_declared [] v there = tested_inside [] v there
universal_declared (universals vs ∷ ps) v there =
    elim (Contains-append_cases vs (flat_map universals_in ps) v there) [
      | inl here ↦ first_among vs (flat_map declared_in ps) v (tested_inside vs v here)
      | inr later ↦ later_among vs (flat_map declared_in ps) v (universal_declared ps v later)
    ]
universal_declared (existentials ys ∷ ps) v there =
    later_among ys (flat_map declared_in ps) v (universal_declared ps v there)
universal_declared (dependent y xs ∷ ps) v there =
    later_among (y ∷ []) (flat_map declared_in ps) v (universal_declared ps v there)

-- what these see is left out
seen_variables : (sees ys : List ℕ) → variable_list (map (seeing sees) ys) ≡ ys
seen_variables sees [] = refl
seen_variables sees (y ∷ ys) = ap (λ vs. y ∷ vs) (seen_variables sees ys)

joined_variables : (ys zs : List Existential) → variable_list (ys ++ zs) ≡ variable_list ys ++ variable_list zs
joined_variables ys zs = map-append (λ (y : Existential). y.variable) ys zs

existential_declared : (before : List ℕ) (ps : List PrefixPart) (v : ℕ) →
    Contains (variable_list (existentials_from before ps)) v → among (flat_map declared_in ps) v ≡ true
existential_declared before [] v there = tested_inside [] v there
existential_declared before (universals vs ∷ ps) v there =
    later_among vs (flat_map declared_in ps) v (existential_declared (before ++ vs) ps v there)
existential_declared before (existentials ys ∷ ps) v there =
    elim (Contains-append_cases ys (variable_list (existentials_from before ps)) v (subst (λ vs. Contains vs v)
    (joined_variables (map (seeing before) ys) (existentials_from before ps)
    ∙ ap (λ vs. vs ++ variable_list (existentials_from before ps)) (seen_variables before ys)) there)) [
      | inl here ↦ first_among ys (flat_map declared_in ps) v (tested_inside ys v here)
      | inr later ↦ later_among ys (flat_map declared_in ps) v (existential_declared before ps v later)
    ]
existential_declared before (dependent y xs ∷ ps) v there =
    elim (contains_cases y v (variable_list (existentials_from before ps)) there) [
      | inl same ↦ first_among (y ∷ []) (flat_map declared_in ps) v
          (tested_inside (y ∷ []) v (subst (Contains (y ∷ [])) same (contains_first y [])))
      | inr later ↦ later_among (y ∷ []) (flat_map declared_in ps) v (existential_declared before ps v later)
    ]

known : (f : Formula) (v : ℕ) → Contains (variables_of f) v → IsKnown f v
known f v there =
    let free = filter (is_free f) (up_to f.variables) in
    elim (Contains-append_cases (universals_of f) (variable_list (existentials_of f)) v there) [
      | inl of_all ↦ inl (universal_declared f.parts v of_all)
      | inr of_some ↦ elim (Contains-append_cases (variable_list (existentials_from [] f.parts)) free v
          (subst (λ vs. Contains vs v) (joined_variables (existentials_from [] f.parts) (map (seeing []) free)
          ∙ ap (λ vs. variable_list (existentials_from [] f.parts) ++ vs) (seen_variables [] free)) of_some)) [
            | inl stated ↦ inl (existential_declared [] f.parts v stated)
            | inr other ↦ inr (filtered (is_free f) (up_to f.variables) v other).1
          ]
    ]

-- ---- so that a clause on these leaves the prefix as it is

abbrev pub AreKnown : List ℕ → List Literal → Type 0
AreKnown vs ls = AllByRecursion (λ l. Contains vs (variable_of l)) ls

one_of_them : (vs : List ℕ) (ls : List Literal) (v : ℕ) → AreKnown vs ls → list_any (λ l. variable_of l == v) ls ≡ true →
    Contains vs v
one_of_them vs [] v bound some = cc
one_of_them vs (l ∷ ls) v bound some =
    elim (or_cases (variable_of l == v) (list_any (λ k. variable_of k == v) ls) some) [
      | inl here ↦ subst (Contains vs) (eqb-true (variable_of l) v here) bound.0
      | inr later ↦ one_of_them vs ls v bound.1 later
    ]

abbrev occurs_in : ℕ → List Constraint → Bool
occurs_in v cs = list_any (λ c. list_any (λ l. variable_of l == v) (literals_of c)) cs

free_same : (f : Formula) (ls : List Literal) → AreKnown (variables_of f) ls → (v : ℕ) →
    is_free (with_clause f ls) v ≡ is_free f v
free_same f ls bound v =
    ap (λ b. not (among (page_declared f) v) && b)
    (list_any-append (λ c. list_any (λ l. variable_of l == v) (literals_of c)) f.constraints (clause ls ∷ []))
    ∙ by (among (page_declared f) v) (occurs_in v f.constraints) (list_any (λ l. variable_of l == v) ls)
    (λ some. known f v (one_of_them (variables_of f) ls v bound some))
  where
    by : (stated here more : Bool) → (more ≡ true → (stated ≡ true) ⊎ ((not stated && here) ≡ true)) →
        (not stated && (here || (more || false))) ≡ (not stated && here)
    by true here more some = refl
    by false true more some = refl
    by false false false some = refl
    by false false true some = elim (some refl) [
      | inl no-one ↦ cc
      | inr none ↦ cc
    ]

pub existentials_same : (f : Formula) (ls : List Literal) → AreKnown (variables_of f) ls →
    existentials_of (with_clause f ls) ≡ existentials_of f
existentials_same f ls bound =
    ap (λ vs. existentials_from [] f.parts ++ map (seeing []) vs)
    (filter-same (is_free (with_clause f ls)) (is_free f) (free_same f ls bound) (up_to f.variables))

-- ---- one clause more, to the reader and on the page

abbrev pub with_read : Dqbf → List ReadLiteral → Dqbf
with_read m literals = record m { matrix = m.matrix ++ distinct literals ∷ [] }

abbrev pub AreDeclared : Dqbf → List ReadLiteral → Type 0
AreDeclared m literals = AllByRecursion (λ l. Contains (declared m) (read_variable l)) literals

pub variables_same : (m : Dqbf) (f : Formula) → MeansTheSame m f → variables_of f ≡ declared m
variables_same m f same =
    ap (λ us. us ++ variable_list (existentials_of f)) same.universals
    ∙ ap (λ vs. m.universals ++ vs)
    (read_variables (existentials_of f) ∙ ap (map (λ (y : ReadExistential). y.variable)) same.existentials)
  where
    read_variables : (ys : List Existential) →
        variable_list ys ≡ map (λ (y : ReadExistential). y.variable) (map read_existential ys)
    read_variables [] = refl
    read_variables (y ∷ ys) = ap (λ vs. y.variable ∷ vs) (read_variables ys)

pub declared_known : (vs ws : List ℕ) → vs ≡ ws → (literals : List ReadLiteral) →
    AllByRecursion (λ l. Contains vs (read_variable l)) literals → AreKnown ws (page_literals literals)
declared_known vs ws same [] bound = tt
declared_known vs ws same (l ∷ ls) bound = (
  subst (λ us. Contains us (variable_of (page_literal l))) same (subst (Contains vs) (sym (same_variable l)) bound.0),
  declared_known vs ws same ls bound.1,
)

module _ (exact : XorIsItsClauses) (m : Dqbf) (f : Formula) (same : MeansTheSame m f) (literals : List ReadLiteral)
    (bound : AreDeclared m literals) where
  abbrev ls : List Literal
  ls = page_literals literals

  matrix_part : (a : Assignment) → list_all (clause_true a) (m.matrix ++ distinct literals ∷ [])
      ≡ (list_all (clause_true a) m.matrix && constraint_true a (clause ls))
  matrix_part a =
      list_all-append (clause_true a) m.matrix (distinct literals ∷ [])
      ∙ ap (λ b. list_all (clause_true a) m.matrix && b) (sym (constraint_same exact a (plain literals)))

  constraints_part : (a : Assignment) → list_all (constraint_true a) (f.constraints ++ clause ls ∷ [])
      ≡ (list_all (constraint_true a) f.constraints && (constraint_true a (clause ls) && true))
  constraints_part a = list_all-append (constraint_true a) f.constraints (clause ls ∷ [])

  more_holds : (a : Assignment) → MatrixHolds (with_read m literals) a → Holds (with_clause f ls) a
  more_holds a holds =
      let both = and_parts (list_all (clause_true a) m.matrix) (constraint_true a (clause ls))
      (sym (matrix_part a) ∙ list_all-from_AllPass (clause_true a) (m.matrix ++ distinct literals ∷ []) holds) in
      constraints_part a
      ∙ and_from (list_all (constraint_true a) f.constraints) (constraint_true a (clause ls) && true)
      (same.holds a (AllPass-from_list_all (clause_true a) m.matrix both.0))
      (and_from (constraint_true a (clause ls)) true both.1 refl)

  more_holds_there : (a : Assignment) → Holds (with_clause f ls) a → MatrixHolds (with_read m literals) a
  more_holds_there a holds =
      let both = and_parts (list_all (constraint_true a) f.constraints) (constraint_true a (clause ls) && true)
      (sym (constraints_part a) ∙ holds) in
      let last = and_parts (constraint_true a (clause ls)) true both.1 in
      AllPass-from_list_all (clause_true a) (m.matrix ++ distinct literals ∷ [])
      (matrix_part a
      ∙ and_from (list_all (clause_true a) m.matrix) (constraint_true a (clause ls))
      (list_all-from_AllPass (clause_true a) m.matrix (same.holds_there a both.0)) last.0)

  pub grown : MeansTheSame (with_read m literals) (with_clause f ls)
  grown = record {
    universals = same.universals;
    existentials = ap (map read_existential)
        (existentials_same f ls (declared_known (declared m) (variables_of f) (sym (variables_same m f same)) literals bound))
        ∙ same.existentials;
    holds = more_holds;
    holds_there = more_holds_there;
  }

pub grown_formed : (m : Dqbf) (c : List ReadLiteral) → IsWellFormed m →
    All (λ l. Contains (declared m) (read_variable l)) c → IsWellFormed (record m { matrix = m.matrix ++ c ∷ [] })
grown_formed m c formed bound = record {
  prefix = record {
    in_range = formed.prefix.in_range;
    declared_once = formed.prefix.declared_once;
    sees_universals = formed.prefix.sees_universals;
  };
  bound = All-push (All (λ l. Contains (declared m) (read_variable l))) m.matrix c formed.bound bound;
}
