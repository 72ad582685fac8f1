-- What accepted blocks say.
use Rattle.std.proofs.Common.{◌≡◌, ℕ, suc, ◌==◌, arith, inl, inr, Bool, List, ◌∷◌, [], map, None, Some, sym, ◌∙◌, subst}
use Rattle.std.specs.List.{Contains, find}
use Rattle.std.proofs.lemmas.Bool.{cases_Bool, eqb-true}
use Rattle.std.proofs.lemmas.List.Elements.{Contains-append_right}
use Rattle.list_laws.proofs.Options.{some_same}
use Rattle.dq_lits.specs.Literal.{Assignment}
use Rattle.dq_lits.specs.Formula.{Existential, Dqbf, declared, existential_of}
use Rattle.dq_lits.specs.Henkin.{MatrixHolds}
use Rattle.dq_lits.specs.Derivation.{proof_fault}
use Rattle.cert_text.specs.DefinitionBlocks.{Definition, FreePair, defined, free}
use Rattle.defined_checker.specs.DefinitionBase.{definition_base}
use Rattle.defined_checker.specs.FreePairs.{AreAlike, IsFreePair, valuation_assignment}
use Rattle.defined_checker.specs.Judging.{IsJudged, ReadsItsOwn, defines, separates}

-- an existential is declared
pub declared_existential : (f : Dqbf) (v : ℕ) (y : Existential) → existential_of f v ≡ Some y → Contains (declared f) v
declared_existential f v y is =
    Contains-append_right f.universals (map (λ z. z.variable) f.existentials) v (found f.existentials is)
  where
    found : (es : List Existential) → find (λ z. z.variable == v) es ≡ Some y → Contains (map (λ z. z.variable) es) v
    found [] h = cc
    found (e ∷ es) h =
        elim (cases_Bool (e.variable == v)) [
          | inl here ↦ (0, omega arith, eqb-true e.variable v here)
          | inr other ↦
              let rest : find (λ (z : Existential). z.variable == v) es ≡ Some y = rw other at h in
              let r = found es rest in
              (suc r.0, omega (arith, r.1), r.2)
        ]

pub record IsDefining (f : Dqbf) (d : Definition) : Type 0 where
  pub y : Existential
  pub is : existential_of f d.existential ≡ Some y
  pub own : ReadsItsOwn f y d
  pub derives : proof_fault (definition_base f d) d.steps ≡ None

pub accepted_definition : (f : Dqbf) (d : Definition) → IsJudged f (defined d) None → IsDefining f d
accepted_definition f d (defines is own derives) = record { y = _; is = is; own = own; derives = derives }

pub record IsSeparating (f : Dqbf) (p : FreePair) : Type 0 where
  pub y : Existential
  pub is : existential_of f p.existential ≡ Some y
  pub pair : IsFreePair f y p

pub accepted_pair : (f : Dqbf) (p : FreePair) → IsJudged f (free p) None → IsSeparating f p
accepted_pair f p (separates is pair) = record { y = _; is = is; pair = pair }

pub pair_is_free : (f : Dqbf) (p : FreePair) (y : Existential) → existential_of f p.existential ≡ Some y →
    IsJudged f (free p) None → (value : Assignment → Bool) →
    ((m n : Assignment) → AreAlike f y m n → value m ≡ value n) →
    ((m : Assignment) → MatrixHolds f m → m p.existential ≡ value m) → ⊥
pair_is_free f p y is judged value alike forced =
    let a = accepted_pair f p judged in
    let same : a.y ≡ y = some_same a.y y (sym a.is ∙ is) in
    let first = valuation_assignment f p.first in
    let second = valuation_assignment f p.second in
    a.pair.apart
    (forced first a.pair.first
    ∙ alike first second (subst (λ z. AreAlike f z first second) same a.pair.alike)
    ∙ sym (forced second a.pair.second))
