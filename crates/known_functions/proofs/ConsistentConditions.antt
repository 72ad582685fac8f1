-- Conditions that don't contradict one another, one added behind the others.
use Rattle.std.proofs.Common.{◌≡◌, ◌≢◌, ◌<◌, ◌≤◌, ◌^◌, ℕ, zero, suc, true, false, true≢false, inl, inr, List, [], ◌∷◌, ◌++◌, length, map, take, get_or, IsSome, refl, sym, ◌∙◌, ap, subst, arith, get_or-take, length-take}
use Rattle.std.specs.List.{Contains}
use Rattle.std.proofs.lemmas.List.{length-append, get_or_append_left}
use Rattle.std.proofs.lemmas.List.Elements.{All-nil, All-push, Contains-get_or}
use Rattle.std.proofs.lemmas.Bool.{cases_Bool}
use Rattle.dq_lits.specs.Derivation.{holds, is_tautology}
use Rattle.dq_lits.specs.Formula.{Dqbf, declared, existential_of}
use Rattle.dq_lits.specs.Literal.{Literal, variable_of, opposite}
use Rattle.dq_lits.proofs.HeldLiterals.{any_one, any_gives, holds_cases}
use Rattle.dq_lits.proofs.SignedLiterals.{opposite_variable, opposite-opposite, opposite-other}
use Rattle.dq_formula.specs.Prefix.{IsLawful, is_declared, existential_variables}
use Rattle.dq_formula.proofs.Places.{contains-has}
use Rattle.known_functions.specs.Guessing.{AreConditions}
use Rattle.definition_order.proofs.Declared.{is_variable}
use Rattle.definability.proofs.KeptPlaces.{universal_differs}
use Rattle.definability.proofs.DividedAnswers.{held_in_either}

is_last : (last j : Literal) → holds (last ∷ []) j ≡ true → j ≡ last
is_last last j held = elim (holds_cases last [] j held) [ inl same ↦ same | inr none ↦ cc ]

pub consistent_with : (xs : List Literal) (l : Literal) → is_tautology xs ≡ false → holds xs (opposite l) ≡ false →
    is_tautology (xs ++ l ∷ []) ≡ false
consistent_with xs l consistent apart = elim (cases_Bool (is_tautology (xs ++ l ∷ []))) [
  | inl some ↦ (
      let w = any_gives (λ k. holds (xs ++ l ∷ []) (opposite k)) (xs ++ l ∷ []) some in
      absurd (no_pair w.0 w.1 w.2))
  | inr none ↦ none
]
  where
    no_pair : (k : Literal) → holds (xs ++ l ∷ []) k ≡ true → holds (xs ++ l ∷ []) (opposite k) ≡ true → ⊥
    no_pair k one other = elim (held_in_either xs (l ∷ []) k one) [
      | inl before ↦ elim (held_in_either xs (l ∷ []) (opposite k) other) [
        | inl also ↦ true≢false (sym (any_one (λ j. holds xs (opposite j)) xs k before also) ∙ consistent)
        | inr end ↦ true≢false (sym before ∙ ap (holds xs) (sym (opposite-opposite k) ∙ ap opposite
            (is_last l (opposite k) end)) ∙ apart)
      ]
      | inr end ↦ elim (held_in_either xs (l ∷ []) (opposite k) other) [
        | inl before ↦ true≢false (sym before ∙ ap (λ j. holds xs (opposite j)) (is_last l k end) ∙ apart)
        | inr also ↦ opposite-other l (sym (is_last l (opposite k) also) ∙ ap opposite (is_last l k end))
      ]
    ]

pub no_conditions : (f : Dqbf) (y : ℕ) → AreConditions f y []
no_conditions f y = search (arith, All-nil)

pub one_more : (f : Dqbf) (y : ℕ) (lits : List Literal) (l : Literal) → AreConditions f y lits →
    is_declared f (variable_of l) ≡ true → variable_of l ≢ y → holds lits (opposite l) ≡ false
    → AreConditions f y (lits ++ l ∷ [])
one_more f y lits l are there other apart = record {
  declared = All-push (λ k. Contains (declared f) (variable_of k)) lits l are.declared
      (contains-has (declared f) (variable_of l) there);
  consistent = consistent_with lits l are.consistent apart;
  others = All-push (λ k. variable_of k ≢ y) lits l are.others other;
}

held_variable : (xs : List Literal) (k : Literal) → holds xs k ≡ true → Contains (map variable_of xs) (variable_of k)
held_variable [] k held = cc
held_variable (x ∷ xs) k held = elim (holds_cases x xs k held) [
  | inl same ↦ (0, omega arith, ap variable_of (sym same))
  | inr later ↦ (let r = held_variable xs k later in (suc r.0, (let lt = r.1 in omega (arith, lt)), r.2))
]

default_free : (xs : List ℕ) (i d e : ℕ) → i < length xs → get_or xs i d ≡ get_or xs i e
default_free [] i d e lt = absurd (omega (arith, lt))
default_free (x ∷ xs) zero d e lt = refl
default_free (x ∷ xs) (suc i) d e lt = default_free xs i d e (omega (arith, lt))

-- literals on the first universals, and one on the next
pub next_universal : (f : Dqbf) → IsLawful f → (y : ℕ) → IsSome (existential_of f y) →
    (lits : List Literal) (l : Literal) (p : ℕ) → p < length f.universals → variable_of l ≡ get_or f.universals p 0
    → map variable_of lits ≡ take p f.universals → AreConditions f y lits → AreConditions f y (lits ++ l ∷ [])
next_universal f lawful y known lits l p below is before are = record {
  declared = All-push (λ k. Contains (declared f) (variable_of k)) lits l are.declared named;
  consistent = consistent_with lits l are.consistent apart;
  others = All-push (λ k. variable_of k ≢ y) lits l are.others
      (universal_differs f lawful.prefix (variable_of l) y inside (is_variable f y known));
} where
  us : List ℕ
  us = f.universals

  inside : Contains f.universals (variable_of l)
  inside = subst (Contains us) (sym is) (Contains-get_or us p 0 below)

  named : Contains (declared f) (variable_of l)
  named =
      let long = length-append us (existential_variables f) in
      let lt = inside.1 in (
        inside.0,
        omega (arith, lt, long),
        get_or_append_left us (existential_variables f) (variable_of l) inside.0 lt
            ∙ inside.2,
      )

  apart : holds lits (opposite l) ≡ false
  apart = elim (cases_Bool (holds lits (opposite l))) [
    | inl held ↦ (
        let w = variable_of l in
        let among : Contains (take p f.universals) (variable_of l) =
        subst (λ vs. Contains vs w) before (subst (Contains (map variable_of lits)) (opposite_variable l)
        (held_variable lits (opposite l) held)) in
        let lt = among.1 in
        let long = length-take p us in
        let early : among.0 < p = omega (arith, lt, long) in
        let there = sym (get_or-take p us among.0 w early) ∙ among.2 in
        let evs = existential_variables f in
        let longer = length-append us evs in
        let first : among.0 < length us = omega (arith, early, below) in
        absurd (lawful.prefix.declared_once among.0 p w early (omega (arith, below, longer))
        (get_or_append_left us evs w among.0 first ∙ there ∙ sym (at w) ∙ sym
        (get_or_append_left us evs w p below))))
    | inr none ↦ none
  ]
    where
      at : (d : ℕ) → get_or f.universals p d ≡ variable_of l
      at d = default_free us p d 0 below ∙ sym is

-- variables may be the variables of literals
pub universal_range : (f : Dqbf) → IsLawful f → (p : ℕ) → p < length f.universals →
    (1 ≤ get_or f.universals p 0) × (get_or f.universals p 0 < 2 ^ 62)
universal_range f lawful p below = search (arith, length-append, get_or_append_left)
