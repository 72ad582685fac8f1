-- Two assignments of the declared variables agree on what a definition may read where they do so on
-- the declared variables.
use Rattle.std.proofs.Common.{◌≡◌, ℕ, suc, ◌==◌, inl, inr, List, [], ◌∷◌, map, Some, arith}
use Rattle.std.specs.List.{All, Contains, find}
use Rattle.std.proofs.lemmas.Bool.{cases_Bool, eqb-true}
use Rattle.std.proofs.lemmas.List.Elements.{All-contains}
use Rattle.dq_lits.specs.Formula.{Existential, Dqbf}
use Rattle.dq_formula.specs.Prefix.{existential_variables}
use Rattle.cert_text.specs.DefinitionBlocks.{FreePair}
use Rattle.defined_checker.specs.Answers.{IsAlikeAt}
use Rattle.defined_checker.specs.DefinitionReads.{MayDefine}
use Rattle.defined_checker.specs.FreePairs.{AreAlike, valuation_assignment}

-- agreeing on all of them, they agree on some
pub alike_some : (f : Dqbf) (y : Existential) (p : FreePair) (variables : List ℕ) →
    AreAlike f y (valuation_assignment f p.first) (valuation_assignment f p.second) →
    All (IsAlikeAt f y p) variables
alike_some f y p variables alike = λ k d below may. alike _ may

-- an existential's variable
named : (es : List Existential) (v : ℕ) (z : Existential) → find (λ e. e.variable == v) es ≡ Some z →
    Contains (map (λ e. e.variable) es) v
named [] v z h = cc
named (e ∷ es) v z h =
    elim (cases_Bool (e.variable == v)) [
      | inl here ↦ (0, omega arith, eqb-true e.variable v here)
      | inr other ↦
          let rest : find (λ (x : Existential). x.variable == v) es ≡ Some z = rw other at h in
          let r = named es v z rest in
          (suc r.0, omega (arith, r.1), r.2)
    ]

-- what a definition may read is declared
pub alike_all : (f : Dqbf) (y : Existential) (p : FreePair) → All (Contains f.universals) y.sees →
    All (IsAlikeAt f y p) f.universals → All (IsAlikeAt f y p) (existential_variables f) →
    AreAlike f y (valuation_assignment f p.first) (valuation_assignment f p.second)
alike_all f y p sees first second v may = by may
  where
    by : MayDefine f y v → valuation_assignment f p.first v ≡ valuation_assignment f p.second v
    by (inl seen) =
        All-contains (IsAlikeAt f y p) f.universals v first
        (All-contains (Contains f.universals) y.sees v sees seen) may
    by (inr shared) =
        All-contains (IsAlikeAt f y p) (existential_variables f) v second
        (named f.existentials v shared.0 shared.1) may

-- what an existential sees is universal
pub sees_universals : (f : Dqbf) (es : List Existential) (v : ℕ) (y : Existential) →
    All (λ e. All (Contains f.universals) e.sees) es → find (λ e. e.variable == v) es ≡ Some y →
    All (Contains f.universals) y.sees
sees_universals f es v y all found = All-contains (λ e. All (Contains f.universals) e.sees) es y all (there es found)
  where
    there : (es : List Existential) → find (λ e. e.variable == v) es ≡ Some y → Contains es y
    there [] h = cc
    there (e ∷ es) h =
        elim (cases_Bool (e.variable == v)) [
          | inl here ↦ let same : e ≡ y = some_is e y (rw here at h) in (0, omega arith, same)
          | inr other ↦
              let rest : find (λ (x : Existential). x.variable == v) es ≡ Some y = rw other at h in
              let r = there es rest in
              (suc r.0, omega (arith, r.1), r.2)
        ]
      where
        some_is : (a b : Existential) → Some a ≡ Some b → a ≡ b
        some_is a b h = cc
