-- What holds of every formula, from what its fields keep.
use Rattle.std.proofs.Common.{◌≡◌, ℕ, zero, suc, ◌+◌, ◌-◌, ◌≤◌, ◌<◌, ◌≢◌, List, ◌++◌, length, map, take, get_or, ap, sym, ◌∙◌, subst, arith, eqb, filter, Some, Contains, get_or-take}
use Rattle.std.proofs.lemmas.List.{length-take-le, length-map, get_or-map, length-append}
use Rattle.std.proofs.lemmas.List.Elements.{All-append, All-map, Contains-get_or}
use Rattle.std.proofs.lemmas.List.FromFn.{fill_by_all}
use Rattle.std.proofs.lemmas.Cmp.{nat_eq_equiv}
use Rattle.std.proofs.lemmas.Map.Views.{lookup-from_Contains}
use Rattle.std.specs.Option.{option_map}
use Rattle.std.specs.List.{All, AllPairs, IsDistinct, find, range_with_len}
use Rattle.std.specs.Map.{keys_of}
use Rattle.dq_lits.specs.Literal.{Literal}
use Rattle.dq_lits.specs.Formula.{Existential, existential_of, Dqbf}
use Rattle.dq_formula.specs.declared.dependencies.Deps.{Deps}
use Rattle.dq_formula.specs.declared.dependencies.Deps.TheVariants.{FirstOf, Listed}
use Rattle.dq_formula.specs.Dependencies.{dependencies, listed_universals, IsDependencySet}
use Rattle.dq_formula.specs.Layout.{existential, formula_of, IsInRange, IsKept}
use Rattle.dq_formula.specs.Prefix.{IsLawful}
use Rattle.dq_formula.proofs.Distinct.{AllPairs-append, All-dependencies}
use Rattle.dq_formula.proofs.Entries.{map-variable, find-existential}
use Rattle.dq_formula.proofs.Places.{has, Rise, at, at-filter}
use Rattle.dq_lits.proofs.FormulaVariables.{few_declared}

-- places from a number on
Rise-range : (low n high : ℕ) → low + n ≤ high → Rise low high (range_with_len low n)
Rise-range low zero high le = tt
Rise-range low (suc n) high le = (omega arith, omega arith, Rise-range (low + 1) n high (omega arith))

-- the first n of distinct elements are those among them
pub take-filter : (n : ℕ) (us : List ℕ) → IsDistinct eqb us → n ≤ length us → take n us ≡ filter (has (take n us)) us
take-filter n us distinct le =
    let picked : at us 0 (range_with_len 0 n) ≡ filter (has (at us 0 (range_with_len 0 n))) us =
    at-filter us 0 (range_with_len 0 n) distinct (Rise-range 0 n (0 + length us) (omega arith)) in
    let front : take n us ≡ at us 0 (range_with_len 0 n) =
    fill_by_all (λ p. get_or us (p - 0) 0) (take n us) n 0 (length-take-le n us le)
    (λ k l. get_or-take n us k 0 l ∙ (let e : k ≡ k - 0 = omega arith in ap (λ p. get_or us p 0) e)) in
    subst (λ vs. vs ≡ filter (has vs) us) (sym front) picked

pub ordered-dependencies : (us : List ℕ) (deps : Deps) → IsDistinct eqb us → IsDependencySet us deps →
    dependencies us deps ≡ listed_universals us (dependencies us deps)
ordered-dependencies us (FirstOf n) distinct form = take-filter n us distinct form
ordered-dependencies us (Listed vs) distinct form = form

-- an existential is found by its variable
named : (us : List ℕ) (es : List (ℕ × Deps)) → IsDistinct eqb (keys_of es) → (k : ℕ) (d : ℕ × Deps) → k < length es
    → find (λ (y : Existential). eqb y.variable (get_or es k d).0) (map (existential us) es) ≡ Some
    (existential us (get_or es k d))
named us es distinct k d l =
    let e = get_or es k d in
    find-existential us e.0 es ∙ ap (option_map (λ deps. existential us (e.0, deps)))
    (lookup-from_Contains nat_eq_equiv e.0 e.1 es distinct (Contains-get_or es k d l))

pub lawful : (variables : ℕ) (us : List ℕ) (es : List (ℕ × Deps)) (matrix : List (List Literal))
    → IsKept variables us es matrix → IsLawful (formula_of variables us es matrix)
lawful variables us es matrix kept =
    let declared-is : us ++ map (λ (y : Existential). y.variable) (map (existential us) es) ≡ us ++ keys_of es =
    ap (λ ks. us ++ ks) (map-variable us es) in
    let set : (k : ℕ) (d : ℕ × Deps) → k < length es → IsDependencySet us (get_or es k d).1 =
    λ k d l. subst (IsDependencySet us) (get_or-map (λ (e : ℕ × Deps). e.1) es k d d.1 l)
    (kept.sets k d.1 (omega (arith, l, length-map es (λ (e : ℕ × Deps). e.1)))) in
    record {
      prefix = record {
        in_range = subst (All (IsInRange variables)) (sym declared-is)
            (All-append (IsInRange variables) us (keys_of es) kept.universals_in_range kept.existentials_in_range);
        declared_once = subst (AllPairs (λ v w. v ≢ w)) (sym declared-is)
            (AllPairs-append us (keys_of es) kept.distinct_universals kept.distinct_existentials kept.disjoint);
        sees_universals = All-map (λ (y : Existential). All (Contains us) y.sees) (existential us) es
            (λ k d l. All-dependencies us (get_or es k d).1 (set k d l));
      };
      named = All-map (λ (y : Existential). existential_of (formula_of variables us es matrix) y.variable ≡ Some y)
          (existential us) es (λ k d l. named us es kept.distinct_existentials k d l);
      ordered = All-map (λ (y : Existential). y.sees ≡ listed_universals us y.sees) (existential us) es
          (λ k d l. ordered-dependencies us (get_or es k d).1 kept.distinct_universals (set k d l));
      literals_in_range = kept.literals_in_range;
      few_variables = kept.few_variables;
      few_clauses = kept.few_clauses;
    }

pub few_places : (f : Dqbf) → IsLawful f → length f.universals + length f.existentials ≤ 1000001
few_places f lawful = search (arith, few_declared, length-append, length-map)
