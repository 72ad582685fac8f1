-- Hinted unit propagation is sound.
use Rattle.std.proofs.Common.{◌≡◌, ℕ, ◌+◌, ◌==◌, Bool, true, false, not, cond, ◌||◌, ◌&&◌, inl, inr, List, [], ◌∷◌, map, Option, Some, None, refl, sym, ◌∙◌, ap}
use Rattle.std.specs.List.{list_all, filter}
use Rattle.std.proofs.lemmas.Bool.{and_parts, not-true, cases_Bool}
use Rattle.dq_lits.specs.Literal.{Assignment, Literal, opposite, same_literal, literal_true, clause_true}
use Rattle.dq_lits.specs.Derivation.{LiveClauses, MakesTrue, unit, stuck, holds, status_by, status_of, fault_by, hint_fault, is_tautology, line_fault, IsDerived, with_clause, ProofStep, ProofFault, unfinished, is_empty, fault_of_step, steps_fault, Derives}
use Rattle.dq_lits.proofs.Truth.{literal_true-opposite, AllTrue, holds-true, opposites-true, single-true}

-- literals that are false make no clause true
not_false : (m : Assignment) (trues : List Literal) → AllTrue m trues → (clause : List Literal) →
    clause_true m (filter (λ l. not (holds trues (opposite l))) clause) ≡ clause_true m clause
not_false m trues all [] = refl
not_false m trues all (l ∷ ls) =
    let rest = filter (λ k. not (holds trues (opposite k))) ls in
    let shorter = not_false m trues all ls in
    elim (cases_Bool (holds trues (opposite l))) [
      | inl is_false ↦
          let falsity : literal_true m l ≡ false = not-true (literal_true m l)
          (sym (literal_true-opposite m l) ∙ holds-true m trues (opposite l) all is_false) in
          ap (λ b. clause_true m (cond (not b) (l ∷ rest) rest)) is_false ∙ shorter ∙ ap (λ b. b || clause_true m ls)
          (sym falsity)
      | inr open' ↦
          ap (λ b. clause_true m (cond (not b) (l ∷ rest) rest)) open' ∙ ap (λ b. literal_true m l || b) shorter
    ]

-- a step of propagation that doesn't fail goes on with a true literal
unit_or_stuck : (m : Assignment) (b : Bool) (l : Literal) (place : ℕ) (hints : List ℕ) (next : Literal → Option ℕ) →
    (b ≡ true → literal_true m l ≡ true) →
    fault_by (cond b (unit l) stuck) place hints next ≡ None → (literal_true m l ≡ true) × (next l ≡ None)
unit_or_stuck m true l place hints next truth h = (truth refl, h)
unit_or_stuck m false l place hints next truth h = cc

open_step : (m : Assignment) (trues open' : List Literal) (place : ℕ) (hints : List ℕ) (next : Literal → Option ℕ) →
    clause_true m open' ≡ true → fault_by (status_by trues open') place hints next ≡ None →
    (l : Literal) × (literal_true m l ≡ true) × (next l ≡ None)
open_step m trues [] place hints next truth h = cc
open_step m trues (l ∷ rest) place hints next truth h =
    let r = unit_or_stuck m (list_all (same_literal l) rest && not (holds trues l)) l place hints next
    (λ b. single-true m l rest (and_parts (list_all (same_literal l) rest) (not (holds trues l)) b).0 truth) h in
    (l, r.0, r.1)

step_goes_on : (m : Assignment) (trues : List Literal) → AllTrue m trues → (clause : Option (List Literal)) →
    ((c : List Literal) → clause ≡ Some c → clause_true m c ≡ true) →
    (place : ℕ) (hints : List ℕ) (next : Literal → Option ℕ) →
    fault_by (status_of trues clause) place hints next ≡ None →
    (l : Literal) × (literal_true m l ≡ true) × (next l ≡ None)
step_goes_on m trues all None truth place hints next h = cc
step_goes_on m trues all (Some clause) truth place hints next h =
    open_step m trues (filter (λ l. not (holds trues (opposite l))) clause) place hints next
    (not_false m trues all clause ∙ truth clause refl) h

-- hints that don't fail contradict the clauses
pub hints_refute : (m : Assignment) (live : LiveClauses) → MakesTrue m live →
    (hints : List ℕ) (trues : List Literal) (place : ℕ) →
    AllTrue m trues → hint_fault live trues place hints ≡ None → ⊥
hints_refute m live truth [] trues place all h = cc
hints_refute m live truth (hint ∷ hints) trues place all h =
    let r = step_goes_on m trues all (live hint) (truth hint) place hints
    (λ l. hint_fault live (l ∷ trues) (place + 1) hints) h in
    hints_refute m live truth hints (r.0 ∷ trues) (place + 1) (r.1, all) r.2

no_tautology : (b : Bool) (rest : Option ℕ) → cond b (Some 0) rest ≡ None → rest ≡ None
no_tautology true rest h = cc
no_tautology false rest h = h

-- a derived line is true wherever the clauses are
pub derived_line_true : (live : LiveClauses) (literals : List Literal) (hints : List ℕ) →
    IsDerived live literals hints →
    (m : Assignment) → MakesTrue m live → clause_true m literals ≡ true
derived_line_true live literals hints derived m truth =
    elim (cases_Bool (clause_true m literals)) [
      | inl is_true ↦ is_true
      | inr is_false ↦ absurd (hints_refute m live truth hints (map opposite literals) 1
          (opposites-true m literals is_false)
          (no_tautology (is_tautology literals) (hint_fault live (map opposite literals) 1 hints) derived))
    ]

pub one_of_two : (m : Assignment) (b : Bool) (clause c : List Literal) (other : Option (List Literal)) →
    clause_true m clause ≡ true →
    (other ≡ Some c → clause_true m c ≡ true) → cond b (Some clause) other ≡ Some c → clause_true m c ≡ true
one_of_two m true clause c other here there h = let same : clause ≡ c = cc in ap (clause_true m) (sym same) ∙ here
one_of_two m false clause c other here there h = there h

pub with_clause-true : (m : Assignment) (live : LiveClauses) → MakesTrue m live → (id : ℕ) (clause : List Literal) →
    clause_true m clause ≡ true → MakesTrue m (with_clause live id clause)
with_clause-true m live truth id clause here i c h = one_of_two m (i == id) clause c (live i) here (truth i c) h

pub no_step_fault : (o : Option ℕ) (id : ℕ) (rest : Option ProofFault) → fault_of_step o id rest ≡ None →
    (o ≡ None) × (rest ≡ None)
no_step_fault (Some _) id rest h = cc
no_step_fault None id rest h = (refl, h)

pub end_fault : (finished : Bool) → cond finished None (Some unfinished) ≡ None → finished ≡ true
end_fault true h = refl
end_fault false h = cc

pub empty_is_false : (m : Assignment) (clause : List Literal) → clause_true m clause ≡ true → is_empty clause ≡ true → ⊥
empty_is_false m [] truth h = cc
empty_is_false m (l ∷ ls) truth h = cc

steps_refute : (m : Assignment) (steps : List ProofStep) (finished : Bool) (live : LiveClauses) → MakesTrue m live →
    (finished ≡ true → ⊥) → steps_fault finished live steps ≡ None → ⊥
steps_refute m [] finished live truth before h = before (end_fault finished h)
steps_refute m (step ∷ steps) finished live truth before h =
    let r = no_step_fault (line_fault live step.literals step.hints) step.id
    (steps_fault (is_empty step.literals) (with_clause live step.id step.literals) steps) h in
    let here = derived_line_true live step.literals step.hints r.0 m truth in
    steps_refute m steps (is_empty step.literals) (with_clause live step.id step.literals)
    (with_clause-true m live truth step.id step.literals here) (empty_is_false m step.literals here) r.1

-- clauses that derive the empty clause can't all be true
pub derivation_refutes : (live : LiveClauses) (steps : List ProofStep) → Derives live steps → (m : Assignment) →
    MakesTrue m live → ⊥
derivation_refutes live steps derives m truth = steps_refute m steps false live truth (λ h. cc) derives
