-- Existentials that may be read, by their variables.
use Rattle.std.proofs.Common.{◌≡◌, ℕ, ◌==◌, Bool, false, None, Some, IsSome, IsTrue, List, position, slice_get, refl, sym, ◌∙◌, ap, subst, arith}
use Rattle.std.specs.Prelude.{◌↔◌}
use Rattle.dq_lits.specs.Formula.{Existential, Dqbf, existential_of}
use Rattle.dq_formula.specs.Prefix.{IsLawful, existential_variables}
use Rattle.dq_formula.proofs.Subsets.{none_contained}
use Rattle.definition_order.specs.Order.{IsShared, IsSharedVariable}
use Rattle.definition_order.proofs.Declared.{is_variable, named_at, placed}

-- by what stands at the variable's place
pub shared_by_place : (f : Dqbf) → IsLawful f → (ranks : List ℕ) (e : Existential) (v place : ℕ) (b : Bool) →
    position (λ w. w == v) (existential_variables f) ≡ Some place
    → ((z : Existential) → slice_get f.existentials place ≡ Some z → (IsTrue b ↔ IsShared f ranks e z)) →
    (IsTrue b ↔ IsSharedVariable f ranks e v)
shared_by_place f lawful ranks e v place b found tells =
    let there = placed f.existentials v place e found in
    let z = there.0 in
    let own : existential_of f v ≡ Some z = ap (existential_of f) (sym there.2) ∙ named_at f lawful place z there.1 in
    let same : (x : Existential) → existential_of f v ≡ Some x → z ≡ x = search arith in (
      (λ is. (z, own, (tells z there.1).0 is)),
      (λ shared. (tells z there.1).1
          (subst (IsShared f ranks e) (sym (same shared.0 shared.1)) shared.2)),
    )

pub none_shared_there : (f : Dqbf) (ranks : List ℕ) (e : Existential) (v : ℕ) →
    position (λ w. w == v) (existential_variables f) ≡ None → (IsTrue false ↔ IsSharedVariable f ranks e v)
none_shared_there f ranks e v none = (
  (λ is. cc),
  (λ shared. absurd (none_contained (existential_variables f) v none
      (is_variable f v (subst IsSome (sym shared.1) refl)))),
)
