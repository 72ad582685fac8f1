-- What clauses say of literals.
use Rattle.std.proofs.Common.{◌≡◌, ℕ, Bool, true, false, not, ◌||◌, ◌&&◌, cond, inl, inr, List, [], ◌∷◌, map, filter, All, refl, sym, ◌∙◌, ap, true≢false, arith}
use Rattle.std.specs.List.{list_any, list_all}
use Rattle.std.proofs.lemmas.Bool.{or_cases, and_parts, cases_Bool}
use Rattle.std.proofs.lemmas.List.Elements.{All-head, All-tail}
use Rattle.dq_lits.specs.Literal.{Assignment, Literal, opposite, same_literal, literal_true, clause_true}
use Rattle.dq_lits.specs.Formula.{Existential, Dqbf}
use Rattle.dq_lits.specs.Henkin.{MatrixHolds}
use Rattle.dq_lits.proofs.Truth.{same_literal-sound}
use Rattle.dq_lits.proofs.TrueClauses.{opposite-false}
use Rattle.dq_formula.specs.Rules.{cube_true}
use Rattle.gate_definitions.specs.Stating.{IsImplied, Implies, AreReadable, IsConjunction}

-- a literal of a true cube is true
true_in_cube : (m : Assignment) (cube : List Literal) (l : Literal) → cube_true m cube ≡ true →
    list_any (λ c. same_literal c l) cube ≡ true → literal_true m l ≡ true
true_in_cube m [] l all h = cc
true_in_cube m (c ∷ cube) l all h = search (arith, and_parts, or_cases, same_literal-sound, (true_in_cube m cube l))

abbrev test : List Literal → Literal → Literal → Bool
test cube l k = same_literal k l || list_any (λ c. same_literal c (opposite k)) cube

pub within_implies : (f : Dqbf) (clause cube : List Literal) (l : Literal) → IsImplied f clause →
    list_all (test cube l) clause ≡ true → Implies f cube l
within_implies f clause cube l implied within m holds all = by clause within (implied m holds)
  where
    by : (ks : List Literal) → list_all (test cube l) ks ≡ true → clause_true m ks ≡ true → literal_true m l ≡ true
    by [] w h = cc
    by (k ∷ ks) w h =
        let parts = and_parts (test cube l k) (list_all (test cube l) ks) w in
        elim (or_cases (literal_true m k) (clause_true m ks) h) [
          | inl here ↦ elim (or_cases (same_literal k l) (list_any (λ c. same_literal c (opposite k)) cube) parts.0) [
            | inl same ↦ ap (literal_true m) (sym (same_literal-sound k l same)) ∙ here
            | inr denied ↦ absurd (true≢false (sym here ∙ opposite-false m k
                (true_in_cube m cube (opposite k) all denied)))
          ]
          | inr later ↦ by ks parts.1 later
        ]

-- the negations of the clause's other literals
abbrev others : Literal → List Literal → List Literal
others l clause = map opposite (filter (λ k. not (same_literal k l)) clause)

premises_imply : (f : Dqbf) (clause : List Literal) (l : Literal) → IsImplied f clause → Implies f (others l clause) l
premises_imply f clause l implied m holds all = by clause all (implied m holds)
  where
    step : (k : Literal) (ks : List Literal) → (cube_true m (others l ks) ≡ true → clause_true m ks ≡ true →
        literal_true m l ≡ true)
        → (b : Bool) → same_literal k l ≡ b → cube_true m (map opposite
        (cond (not b) (k ∷ filter (λ j. not (same_literal j l)) ks)
        (filter (λ j. not (same_literal j l)) ks))) ≡ true
        → (literal_true m k || clause_true m ks) ≡ true → literal_true m l ≡ true
    step k ks later true e a h = elim (or_cases (literal_true m k) (clause_true m ks) h) [
      | inl here ↦ ap (literal_true m) (sym (same_literal-sound k l e)) ∙ here
      | inr there ↦ later a there
    ]
    step k ks later false e a h =
        let parts = and_parts (literal_true m (opposite k)) (cube_true m (others l ks)) a in
        elim (or_cases (literal_true m k) (clause_true m ks) h) [
          | inl here ↦ absurd (true≢false (sym here ∙ opposite-false m k parts.0))
          | inr there ↦ later parts.1 there
        ]

    by : (ks : List Literal) → cube_true m (others l ks) ≡ true → clause_true m ks ≡ true → literal_true m l ≡ true
    by [] a h = cc
    by (k ∷ ks) a h = step k ks (by ks) (same_literal k l) refl a h

-- where the literal is true, all that follow from it are
all_true : (f : Dqbf) (m : Assignment) (l : Literal) (cube : List Literal) → MatrixHolds f m → literal_true m l ≡ true →
    All (Implies f (l ∷ [])) cube → cube_true m cube ≡ true
all_true f m l [] holds is each = refl
all_true f m l (k ∷ cube) holds is each =
    let first = All-head (Implies f (l ∷ [])) k cube each m holds (ap (λ b. b && true) is) in
    ap (λ b. b && cube_true m cube) first ∙ all_true f m l cube holds is (All-tail (Implies f (l ∷ [])) k cube each)

-- a long clause and the short ones
pub is_conjunction : (f : Dqbf) (ranks : List ℕ) (y : Existential) (l : Literal) (clause cube : List Literal) →
    IsImplied f clause → cube ≡ others l clause → All (Implies f (l ∷ [])) cube
    → AreReadable f ranks y cube → IsConjunction f ranks y l cube
is_conjunction f ranks y l clause cube implied are each reads = record {
  reads = reads;
  same = λ m holds. elim (cases_Bool (literal_true m l)) [
    | inl is ↦ is ∙ sym (all_true f m l cube holds is each)
    | inr denied ↦ elim (cases_Bool (cube_true m cube)) [
      | inl all ↦ absurd (true≢false (sym (premises_imply f clause l implied m holds (ap (cube_true m) (sym are) ∙ all))
          ∙ denied))
      | inr some ↦ denied ∙ sym some
    ]
  ];
}
