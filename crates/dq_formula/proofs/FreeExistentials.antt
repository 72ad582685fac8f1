-- Existentials that see nothing, declared one behind another.
use Rattle.std.proofs.Common.{◌≡◌, ℕ, ◌+◌, ◌≤◌, ◌<◌, Bool, true, false, ◌&&◌, not, List, [], ◌∷◌, ◌++◌, length, map, get_or, refl, ap, sym, ◌∙◌, subst, arith, eqb, filter, true≢false, append-nil, append_assoc}
use Rattle.std.proofs.lemmas.List.{map_push, map-append}
use Rattle.std.proofs.lemmas.List.Elements.{All-head, All-tail, All-filter, filter_passes, All-from_recursion}
use Rattle.std.proofs.lemmas.List.Folds.{list_any-append}
use Rattle.std.proofs.lemmas.Map.Keys.{IsDistinct-head, IsDistinct-tail}
use Rattle.std.specs.List.{All, IsDistinct, range_with_len}
use Rattle.std.specs.Map.{keys_of}
use Rattle.dq_lits.specs.Literal.{Literal}
use Rattle.dq_formula.specs.declared.dependencies.Deps.{Deps}
use Rattle.dq_formula.specs.declared.dependencies.Deps.TheVariants.{FirstOf}
use Rattle.dq_formula.specs.Dependencies.{IsDependencySet}
use Rattle.dq_formula.specs.Layout.{existential, unseeing_entry, formula_of, IsInRange, IsKept}
use Rattle.dq_formula.specs.Prefix.{is_declared, occurs, free_variables, unseeing}
use Rattle.dq_formula.proofs.Entries.{map-variable}
use Rattle.dq_formula.proofs.Free.{IsDistinct-range_with_len, IsDistinct-filter, All-range}
use Rattle.dq_formula.proofs.Kept.{IsKept-existential, undeclared-keys}
use Rattle.dq_formula.proofs.Places.{has}

-- the variables that go in are new and distinct
pub record AreNew (variables : ℕ) (us ks vs : List ℕ) : Type 0 where
  pub in_range : All (IsInRange variables) vs
  pub distinct : IsDistinct eqb vs
  pub no_universals : All (λ v. has us v ≡ false) vs
  pub no_keys : All (λ v. has ks v ≡ false) vs

AreNew-step : (variables : ℕ) (us : List ℕ) (es : List (ℕ × Deps)) (v : ℕ) (deps : Deps) (vs : List ℕ)
    → AreNew variables us (keys_of es) (v ∷ vs) → AreNew variables us (keys_of (es ++ (v, deps) ∷ [])) vs
AreNew-step variables us es v deps vs new =
    let keys : keys_of (es ++ (v, deps) ∷ []) ≡ keys_of es ++ v ∷ [] = map_push (λ (e : ℕ × Deps). e.0) es (v, deps) in
    let rest : All (λ w. has (keys_of es) w ≡ false) vs = All-tail (λ w. has (keys_of es) w ≡ false) v vs new.no_keys in
    let apart : All (λ w. eqb v w ≡ false) vs = search (arith, All-from_recursion, IsDistinct-head) in
    record {
      in_range = All-tail (IsInRange variables) v vs new.in_range;
      distinct = IsDistinct-tail eqb v vs new.distinct;
      no_universals = All-tail (λ w. has us w ≡ false) v vs new.no_universals;
      no_keys = subst (λ ks. All (λ w. has ks w ≡ false) vs) (sym keys)
          (λ k d l. list_any-append (λ x. eqb x (get_or vs k d)) (keys_of es) (v ∷ []) ∙ rw
          (rest k d l, apart k d l) refl);
    }

no-declaration : (variables : ℕ) (us : List ℕ) (es : List (ℕ × Deps)) (matrix : List (List Literal)) (v : ℕ)
    → has us v ≡ false → has (keys_of es) v ≡ false → is_declared (formula_of variables us es matrix) v ≡ false
no-declaration variables us es matrix v a b = search (arith, map-variable, list_any-append)

-- new variables go behind the others, and the formula keeps what every formula keeps
pub kept-unseeing : (variables : ℕ) (us : List ℕ) (matrix : List (List Literal)) (vs : List ℕ) (es : List (ℕ × Deps))
    → IsKept variables us es matrix → AreNew variables us (keys_of es) vs
    → IsKept variables us (es ++ map unseeing_entry vs) matrix
kept-unseeing variables us matrix [] es kept new = rw append-nil kept
kept-unseeing variables us matrix (v ∷ vs) es kept new =
    let es' = es ++ unseeing_entry v ∷ [] in
    let no-universal = All-head (λ w. has us w ≡ false) v vs new.no_universals in
    let no-key = All-head (λ w. has (keys_of es) w ≡ false) v vs new.no_keys in
    let range = All-head (IsInRange variables) v vs new.in_range in
    let form : IsDependencySet us (FirstOf 0) = omega arith in
    let kept' : IsKept variables us es' matrix = search (arith, IsKept-existential, no-declaration) in
    let rest = kept-unseeing variables us matrix vs es' kept' (AreNew-step variables us es v (FirstOf 0) vs new) in
    let whole : es' ++ map unseeing_entry vs ≡ es ++ unseeing_entry v ∷ map unseeing_entry vs =
    append_assoc es (unseeing_entry v ∷ []) (map unseeing_entry vs) in
    subst (λ all. IsKept variables us all matrix) whole rest

-- so the variables of old and new ones are distinct
pub distinct-unseeing : (variables : ℕ) (us : List ℕ) (matrix : List (List Literal)) (vs : List ℕ)
    (es : List (ℕ × Deps))
    → IsKept variables us (es ++ map unseeing_entry vs) matrix → IsDistinct eqb (keys_of es ++ vs)
distinct-unseeing variables us matrix vs es kept =
    subst (IsDistinct eqb) (map-append (λ (e : ℕ × Deps). e.0) es (map unseeing_entry vs) ∙ ap (λ ks. keys_of es ++ ks)
    (each vs)) kept.distinct_existentials
  where
    each : (ks : List ℕ) → keys_of (map unseeing_entry ks) ≡ ks
    each [] = refl
    each (k ∷ ks) = ap (λ rest. k ∷ rest) (each ks)

-- the undeclared variables that occur are new
pub AreNew-free : (variables : ℕ) (us : List ℕ) (es : List (ℕ × Deps)) (matrix : List (List Literal))
    → AreNew variables us (keys_of es) (free_variables (formula_of variables us es matrix))
AreNew-free variables us es matrix =
    let f = formula_of variables us es matrix in
    let test : ℕ → Bool = λ v. not (is_declared f v) && occurs f.matrix v in
    let numbers = range_with_len 1 variables in
    let passed : All (λ v. test v ≡ true) (filter test numbers) = filter_passes test numbers in
    let range : All (λ v. (1 ≤ v) × (v < 1 + variables)) (filter test numbers) =
    All-filter test (λ v. (1 ≤ v) × (v < 1 + variables)) numbers (All-range 1 variables) in
    let parts : (k d : ℕ) → k < length (filter test numbers) →
    (has us (get_or (filter test numbers) k d) ≡ false) ×
    (has (keys_of es) (get_or (filter test numbers) k d) ≡ false) =
    λ k d l. undeclared-keys variables us es matrix (get_or (filter test numbers) k d)
    (first (is_declared f (get_or (filter test numbers) k d)) (occurs f.matrix (get_or (filter test numbers) k d))
    (passed k d l)) in
    record {
      in_range = λ k d l. let h = range k d l in (h.0, omega (arith, h.1));
      distinct = IsDistinct-filter test numbers (IsDistinct-range_with_len 1 variables);
      no_universals = λ k d l. (parts k d l).0;
      no_keys = λ k d l. (parts k d l).1;
    }
  where
    first : (a b : Bool) → (not a && b) ≡ true → a ≡ false
    first true b h = absurd (true≢false (sym h))
    first false b h = refl

-- and the formula then has them as existentials that see nothing
pub formula_of-unseeing : (variables : ℕ) (us : List ℕ) (es : List (ℕ × Deps)) (matrix : List (List Literal))
    (vs : List ℕ)
    → formula_of variables us (es ++ map unseeing_entry vs) matrix
    ≡ record (formula_of variables us es matrix) { existentials = map (existential us) es ++ map unseeing vs }
formula_of-unseeing variables us es matrix vs = rw (
  map-append (existential us) es (map unseeing_entry vs),
  each vs,
) refl
  where
    each : (vs : List ℕ) → map (existential us) (map unseeing_entry vs) ≡ map unseeing vs
    each [] = refl
    each (v ∷ vs) = ap (λ rest. unseeing v ∷ rest) (each vs)
