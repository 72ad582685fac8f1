-- Existentials that stand for others with the same dependency set.
use Rattle.std.proofs.Common.{◌≡◌, ℕ, ◌+◌, ◌<◌, true, Bool, List, [], ◌∷◌, ◌++◌, length, get_or, slice_get, Some, IsSome, IsTrue, ◌↔◌, refl, sym, ◌∙◌, ap, subst, arith}
use Rattle.std.specs.List.{All}
use Rattle.std.specs.Option.{option_map}
use Rattle.std.proofs.lemmas.Bool.{cases_lt}
use Rattle.std.proofs.lemmas.List.{get_or-map, get_or_append_left, get_or-append_right}
use Rattle.std.proofs.lemmas.Option.{slice_get-get_or, get_or_from_slice_get}
use Rattle.dq_lits.specs.Formula.{Dqbf, Existential, existential_of}
use Rattle.dq_formula.specs.Prefix.{existential_variables}
use Rattle.dq_formula.specs.Sets.{IsLeader}

nobody : Existential
nobody = record { variable = 0; sees = [] }

module _ (f : Dqbf) (named : All (λ y. existential_of f y.variable ≡ Some y) f.existentials) (ys : List ℕ)
    (same : ys ≡ existential_variables f) where
  -- an existential is found by its variable
  found : (p : ℕ) → p < length f.existentials → existential_of f (get_or ys p 0) ≡ Some (get_or f.existentials p nobody)
  found p below =
      ap (λ xs. existential_of f (get_or xs p 0)) same ∙ ap (existential_of f)
      (get_or-map (λ y. y.variable) f.existentials p nobody 0 below) ∙ named p nobody below

  pub is_existential : (p : ℕ) → p < length f.existentials → IsSome (existential_of f (get_or ys p 0))
  is_existential p below = subst IsSome (sym (found p below)) refl

-- one with the same set stands for another
pub leads : (f : Dqbf) (leader place : ℕ) (b : Bool) → leader < place → place < length f.existentials → b ≡ true
    → ((d e : Existential) → slice_get f.existentials leader ≡ Some d → slice_get f.existentials place ≡ Some e →
    IsTrue b ↔ (d.sees ≡ e.sees)) → IsLeader f leader place
leads f leader place b before below is test =
    let low : leader < length f.existentials = omega (arith, before, below) in
    let z = get_or f.existentials leader nobody in
    let there = slice_get-get_or f.existentials leader nobody low in
    record {
      not_behind = omega (arith, before);
      same_set = λ y y_is. (z, there, (test z y there y_is).0 is);
    }

-- a leader has the set of the one that it stands for
module _ (f : Dqbf) (named : All (λ y. existential_of f y.variable ≡ Some y) f.existentials) (ys : List ℕ)
    (same : ys ≡ existential_variables f) where
  pub one_set : (leader place : ℕ) → place < length f.existentials → IsLeader f leader place
      → option_map (λ (e : Existential). e.sees) (existential_of f (get_or ys leader 0)) ≡ option_map
      (λ (e : Existential). e.sees) (existential_of f (get_or ys place 0))
  one_set leader place below is =
      let low : leader < length f.existentials = omega (arith, is.not_behind, below) in
      let led = is.same_set (get_or f.existentials place nobody) (slice_get-get_or f.existentials place nobody below) in
      ap (option_map (λ (e : Existential). e.sees)) (found f named ys same leader low)
      ∙ ap (λ (e : Existential). Some e.sees) (get_or_from_slice_get f.existentials leader led.0 nobody led.1)
      ∙ ap Some led.2
      ∙ sym (ap (option_map (λ (e : Existential). e.sees)) (found f named ys same place below))

-- a leader more
pub leaders_more : (f : Dqbf) (leaders : List ℕ) (leader : ℕ) →
    ((k : ℕ) → k < length leaders → IsLeader f (get_or leaders k 0) k) → IsLeader f leader (length leaders)
    → (k : ℕ) → k < length leaders + 1 → IsLeader f (get_or (leaders ++ leader ∷ []) k 0) k
leaders_more f leaders leader each last k below = search (arith, get_or_append_left, cases_lt, get_or-append_right)
