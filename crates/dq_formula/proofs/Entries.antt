-- The existentials of a formula against the entries of the map that holds them.
use Rattle.std.proofs.Common.{◌≡◌, ℕ, Bool, true, false, ◌||◌, List, [], ◌∷◌, map, refl, ap, sym, ◌∙◌, cond, eqb, Some, is_some, arith}
use Rattle.std.proofs.lemmas.Bool.{eqb-true}
use Rattle.std.proofs.lemmas.List.Folds.{list_any-append}
use Rattle.std.specs.List.{find, list_any}
use Rattle.std.specs.Map.{keys_of, lookup}
use Rattle.std.specs.Option.{option_map}
use Rattle.list_laws.proofs.Numbers.{eqb-flip}
use Rattle.dq_lits.specs.Formula.{Existential, Dqbf, is_universal, existential_of}
use Rattle.dq_formula.specs.declared.dependencies.Deps.{Deps}
use Rattle.dq_formula.specs.Layout.{existential}
use Rattle.dq_formula.specs.Prefix.{is_declared}

module _ (universals : List ℕ) where
  pub map-variable : (entries : List (ℕ × Deps)) → map (λ (y : Existential). y.variable)
      (map (existential universals) entries) ≡ keys_of entries
  map-variable [] = refl
  map-variable (entry ∷ entries) = ap (λ vs. entry.0 ∷ vs) (map-variable entries)

  pub find-existential : (y : ℕ) (entries : List (ℕ × Deps)) →
      find (λ (e : Existential). eqb e.variable y) (map (existential universals) entries) ≡ option_map
      (λ d. existential universals (y, d)) (lookup (eqb y) entries)
  find-existential y [] = refl
  find-existential y (entry ∷ entries) = search (arith, (find-existential y entries), eqb-flip, eqb-true)

pub is_some-find : {X : Type 0} (p : X → Bool) (xs : List X) → is_some (find p xs) ≡ list_any p xs
is_some-find p [] = refl
is_some-find p (x ∷ xs) = by (is_some-find p xs) (p x) refl
  where
    by : is_some (find p xs) ≡ list_any p xs → (b : Bool) → p x ≡ b →
        is_some (cond (p x) (Some x) (find p xs)) ≡ (p x || list_any p xs)
    by rest true e = rw e refl
    by rest false e = rw e rest

pub list_any-map : {X Y : Type 0} (p : Y → Bool) (f : X → Y) (xs : List X) →
    list_any p (map f xs) ≡ list_any (λ x. p (f x)) xs
list_any-map p f [] = refl
list_any-map p f (x ∷ xs) = ap (λ b. p (f x) || b) (list_any-map p f xs)

-- a variable is declared where it is a universal or an existential
pub is_declared-parts : (f : Dqbf) (v : ℕ) → is_declared f v ≡ (is_universal f v || is_some (existential_of f v))
is_declared-parts f v =
    list_any-append (λ x. eqb x v) f.universals (map (λ (y : Existential). y.variable) f.existentials)
    ∙ ap (λ b. is_universal f v || b) (list_any-map (λ x. eqb x v) (λ (y : Existential). y.variable) f.existentials
    ∙ sym (is_some-find (λ (y : Existential). eqb y.variable v) f.existentials))
