-- Lemmas on a formula's variables.
use Rattle.std.proofs.Common.{◌≡◌, ℕ, ◌+◌, ◌≤◌, ◌<◌, true, length, arith, eqb, suc, Bool, false, List, [], ◌∷◌, refl, sym, ◌==◌, cond, Some, ◌∙◌, ap, IfSome, subst}
use Rattle.std.specs.List.{list_any, Contains, find}
use Rattle.std.proofs.lemmas.Bool.Decides.{Decides-eqb}
use Rattle.std.proofs.lemmas.List.Elements.{All-contains}
use Rattle.std.proofs.lemmas.Map.Made.{IsDistinct-from_AllPairs}
use Rattle.std.proofs.lemmas.Map.Steps.{length-le_from_distinct_below}
use Rattle.std.proofs.lemmas.Bool.{eqb-true}
use Rattle.list_laws.proofs.Members.{contains_found}
use Rattle.dq_lits.specs.Formula.{Dqbf, HasLawfulPrefix, declared, Existential, existential_of}

-- a formula declares at most as many variables as it has
pub few_declared : (f : Dqbf) → HasLawfulPrefix f → length (declared f) ≤ f.variables + 1
few_declared f prefix = length-le_from_distinct_below (declared f) (f.variables + 1)
    (IsDistinct-from_AllPairs Decides-eqb (declared f) prefix.declared_once) below where
      below : (q : ℕ) → list_any (eqb q) (declared f) ≡ true → q < f.variables + 1
      below q h =
          let range = All-contains (λ v. (1 ≤ v) × (v ≤ f.variables)) (declared f) q prefix.in_range
          (contains_found q (declared f) h) in
          let most = range.1 in omega (arith, most)

abbrev pub variable : Existential → ℕ
variable y = y.variable

-- what is found is an element that passes
pub find_sound : (v : ℕ) (ys : List Existential) (y : Existential) → find (λ z. z.variable == v) ys ≡ Some y →
    Contains ys y × (y.variable ≡ v)
find_sound v [] y h = cc
find_sound v (x ∷ xs) y h = by_bit (find_sound v xs y) (x.variable == v) refl h where
  by_bit : (find (λ z. z.variable == v) xs ≡ Some y → Contains xs y × (y.variable ≡ v)) → (b : Bool) →
      (x.variable == v) ≡ b
      → cond b (Some x) (find (λ z. z.variable == v) xs) ≡ Some y → Contains (x ∷ xs) y × (y.variable ≡ v)
  by_bit later true e h = let same : x ≡ y = cc in let is = eqb-true x.variable v e in
      ((0, omega arith, same), sym (ap variable same) ∙ is)
  by_bit later false e h = let r = later h in let b = r.0.1 in ((suc r.0.0, omega arith, r.0.2), r.1)

pub seen_as : (f : Dqbf) (v : ℕ) (seen : List ℕ) → IfSome (existential_of f v) (λ e. seen ≡ e.sees) →
    (e : Existential) → existential_of f v ≡ Some e → seen ≡ e.sees
seen_as f v seen told e found = subst (λ o. IfSome o (λ z. seen ≡ z.sees)) found told
