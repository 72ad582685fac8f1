-- What every formula keeps, when a variable is declared or a clause is added.
use Rattle.std.proofs.Common.{◌≡◌, ℕ, ◌+◌, ◌≤◌, Bool, true, false, List, [], ◌∷◌, ◌++◌, length, map, get_or, refl, ap, sym, ◌∙◌, subst, arith, eqb, true≢false, Contains, append-nil, length-append}
use Rattle.std.proofs.lemmas.List.{take-append-le, map_push, length_push}
use Rattle.std.proofs.lemmas.List.Elements.{Contains-get_or, All-head, All-tail, All-push, All-append, All-contains, filter-append}
use Rattle.std.proofs.lemmas.List.Folds.{list_any-append}
use Rattle.std.specs.List.{All, IsDistinct, list_any}
use Rattle.std.specs.Map.{keys_of, values_of}
use Rattle.list_laws.proofs.Truths.{neither}
use Rattle.dq_lits.specs.Literal.{Literal, variable_of}
use Rattle.dq_formula.specs.declared.formula.TheConstants.{MAX_VARIABLES, MAX_CLAUSES}
use Rattle.dq_formula.specs.declared.dependencies.Deps.{Deps}
use Rattle.dq_formula.specs.declared.dependencies.Deps.TheVariants.{FirstOf, Listed}
use Rattle.dq_formula.specs.Dependencies.{dependencies, listed_universals, IsDependencySet}
use Rattle.dq_formula.specs.Layout.{existential, formula_of, IsInRange, IsKept}
use Rattle.number_tables.specs.Numbers.{with_number}
use Rattle.std.proofs.lemmas.Cmp.{nat_eq_equiv}
use Rattle.std.proofs.lemmas.Map.Keys.{IsDistinct-push}
use Rattle.dq_formula.specs.Prefix.{is_declared}
use Rattle.dq_formula.proofs.Entries.{map-variable}
use Rattle.dq_formula.proofs.Places.{has, flip, contains-has, has-contains, ne-false}
use Rattle.dq_formula.proofs.Search.{All-kept}

-- a formula that declares nothing keeps it
pub IsKept-nothing : (variables : ℕ) → variables ≤ MAX_VARIABLES → IsKept variables [] [] []
unfolding IsDistinct
IsKept-nothing variables few = search arith

-- a variable that is not declared is no universal and no existential
pub undeclared-parts : (us ks : List ℕ) (v : ℕ) → has (us ++ ks) v ≡ false → (has us v ≡ false) × (has ks v ≡ false)
undeclared-parts us ks v none = neither (has us v) (has ks v) (sym (list_any-append (λ x. eqb x v) us ks) ∙ none)

-- a further universal leaves each dependency set as it is
has-listed : (us vs : List ℕ) (v : ℕ) → vs ≡ listed_universals us vs → has us v ≡ false → has vs v ≡ false
has-listed us vs v kept none = by (has vs v) refl
  where
    by : (b : Bool) → has vs v ≡ b → has vs v ≡ false
    by false e = e
    by true e = absurd (true≢false (sym (has-contains us v (All-contains (Contains us) vs v (All-kept us vs kept)
        (contains-has vs v e))) ∙ none))

pub IsDependencySet-push : (us : List ℕ) (v : ℕ) (deps : Deps) → has us v ≡ false → IsDependencySet us deps →
    IsDependencySet (us ++ v ∷ []) deps
IsDependencySet-push us v (FirstOf n) none form = omega (arith, form, length_push us v)
IsDependencySet-push us v (Listed vs) none form =
    search (arith, append-nil, (has-listed us vs v form none), filter-append)

pub dependencies-push : (us : List ℕ) (v : ℕ) (deps : Deps) → IsDependencySet us deps →
    dependencies (us ++ v ∷ []) deps ≡ dependencies us deps
dependencies-push us v (FirstOf n) form = take-append-le n us (v ∷ []) form
dependencies-push us v (Listed vs) form = refl

existentials-push : (us : List ℕ) (v : ℕ) (es : List (ℕ × Deps)) → All (IsDependencySet us) (values_of es) →
    map (existential (us ++ v ∷ [])) es ≡ map (existential us) es
existentials-push us v [] sets = refl
existentials-push us v (entry ∷ es) sets =
    search (arith, dependencies-push, All-head, (existentials-push us v es), All-tail)

-- an undeclared variable is no key and no universal
pub undeclared-keys : (variables : ℕ) (us : List ℕ) (es : List (ℕ × Deps)) (matrix : List (List Literal)) (v : ℕ)
    → is_declared (formula_of variables us es matrix) v ≡ false → (has us v ≡ false) × (has (keys_of es) v ≡ false)
undeclared-keys variables us es matrix v undeclared =
    undeclared-parts us (keys_of es) v (ap (λ ks. has (us ++ ks) v) (sym (map-variable us es)) ∙ undeclared)

universal-new : (variables : ℕ) (us : List ℕ) (es : List (ℕ × Deps)) (matrix : List (List Literal)) (v : ℕ)
    (us' : List ℕ)
    → is_declared (formula_of variables us es matrix) v ≡ false → us' ≡ with_number us v → us' ≡ us ++ v ∷ []
universal-new variables us es matrix v us' undeclared inserted =
    search (arith, (undeclared-keys variables us es matrix v undeclared))

disjoint-push : (us : List ℕ) (v : ℕ) (ks : List ℕ) → All (λ y. has us y ≡ false) ks → has ks v ≡ false →
    All (λ y. has (us ++ v ∷ []) y ≡ false) ks
disjoint-push us v ks apart none k d l =
    search (arith, (has-contains ks v), (Contains-get_or ks k d l), list_any-append, (ne-false v))

-- a universal is added behind the others
pub IsKept-universal : (variables : ℕ) (us : List ℕ) (es : List (ℕ × Deps)) (matrix : List (List Literal)) (v : ℕ)
    (us' : List ℕ)
    → IsKept variables us es matrix → 1 ≤ v → v ≤ variables → is_declared (formula_of variables us es matrix) v ≡ false
    → us' ≡ with_number us v → IsKept variables us' es matrix
IsKept-universal variables us es matrix v us' kept low high undeclared inserted =
    let new = universal-new variables us es matrix v us' undeclared inserted in
    let parts = undeclared-keys variables us es matrix v undeclared in
    record {
      universals_in_range = subst (All (IsInRange variables)) (sym new)
          (All-push (IsInRange variables) us v kept.universals_in_range (low, high));
      existentials_in_range = kept.existentials_in_range;
      distinct_universals = subst (IsDistinct eqb) (sym new)
          (IsDistinct-push nat_eq_equiv us v kept.distinct_universals (ap (λ p. list_any p us) (flip v) ∙ parts.0));
      distinct_existentials = kept.distinct_existentials;
      disjoint = subst (λ xs. All (λ y. has xs y ≡ false) (keys_of es)) (sym new)
          (disjoint-push us v (keys_of es) kept.disjoint parts.1);
      sets = subst (λ xs. All (IsDependencySet xs) (values_of es)) (sym new)
          (λ k d l. IsDependencySet-push us v (get_or (values_of es) k d) parts.0 (kept.sets k d l));
      literals_in_range = kept.literals_in_range;
      few_variables = kept.few_variables;
      few_clauses = kept.few_clauses;
    }

pub formula_of-universal : (variables : ℕ) (us : List ℕ) (es : List (ℕ × Deps)) (matrix : List (List Literal)) (v : ℕ)
    (us' : List ℕ)
    → IsKept variables us es matrix → is_declared (formula_of variables us es matrix) v ≡ false → us' ≡ with_number us v
    → formula_of variables us' es matrix ≡ record (formula_of variables us es matrix) { universals = us ++ v ∷ [] }
formula_of-universal variables us es matrix v us' kept undeclared inserted =
    rw (universal-new variables us es matrix v us' undeclared inserted, existentials-push us v es kept.sets) refl

-- an existential is added behind the others
pub IsKept-existential : (variables : ℕ) (us : List ℕ) (es : List (ℕ × Deps)) (matrix : List (List Literal)) (y : ℕ)
    (deps : Deps)
    → IsKept variables us es matrix → 1 ≤ y → y ≤ variables → is_declared (formula_of variables us es matrix) y ≡ false
    → IsDependencySet us deps → IsKept variables us (es ++ (y, deps) ∷ []) matrix
IsKept-existential variables us es matrix y deps kept low high undeclared form =
    let parts = undeclared-keys variables us es matrix y undeclared in
    let keys : keys_of (es ++ (y, deps) ∷ []) ≡ keys_of es ++ y ∷ [] = map_push (λ (e : ℕ × Deps). e.0) es (y, deps) in
    let values : values_of (es ++ (y, deps) ∷ []) ≡ values_of es ++ deps ∷ [] = search (arith, map_push) in
    record {
      universals_in_range = kept.universals_in_range;
      existentials_in_range = subst (All (IsInRange variables)) (sym keys)
          (All-push (IsInRange variables) (keys_of es) y kept.existentials_in_range (low, high));
      distinct_universals = kept.distinct_universals;
      distinct_existentials = subst (IsDistinct eqb) (sym keys)
          (IsDistinct-push nat_eq_equiv (keys_of es) y kept.distinct_existentials
          (ap (λ p. list_any p (keys_of es)) (flip y) ∙ parts.1));
      disjoint = subst (All (λ x. has us x ≡ false)) (sym keys)
          (All-push (λ x. has us x ≡ false) (keys_of es) y kept.disjoint parts.0);
      sets = subst (All (IsDependencySet us)) (sym values) (All-push (IsDependencySet us)
          (values_of es) deps kept.sets form);
      literals_in_range = kept.literals_in_range;
      few_variables = kept.few_variables;
      few_clauses = kept.few_clauses;
    }

pub formula_of-existential : (variables : ℕ) (us : List ℕ) (es : List (ℕ × Deps)) (matrix : List (List Literal))
    (entry : ℕ × Deps)
    → formula_of variables us (es ++ entry ∷ []) matrix
    ≡ record (formula_of variables us es matrix) { existentials = map (existential us) es ++ existential us entry ∷ [] }
formula_of-existential variables us es matrix entry = rw (map_push (existential us) es entry) refl

-- clauses are added behind the others
pub IsKept-clauses : (variables : ℕ) (us : List ℕ) (es : List (ℕ × Deps)) (matrix more : List (List Literal))
    → IsKept variables us es matrix → All (All (λ l. variable_of l ≤ variables)) more →
    length matrix + length more ≤ MAX_CLAUSES
    → IsKept variables us es (matrix ++ more)
IsKept-clauses variables us es matrix more kept within few = record {
  universals_in_range = kept.universals_in_range;
  existentials_in_range = kept.existentials_in_range;
  distinct_universals = kept.distinct_universals;
  distinct_existentials = kept.distinct_existentials;
  disjoint = kept.disjoint;
  sets = kept.sets;
  literals_in_range = All-append (All (λ l. variable_of l ≤ variables)) matrix more kept.literals_in_range within;
  few_variables = kept.few_variables;
  few_clauses = omega (arith, few, length-append matrix more);
}
