-- A clause of which nothing is left makes the empty clause stand in what is left.
use Rattle.std.proofs.Common.{◌≡◌, ℕ, ◌+◌, List, [], get_or, Some, ◌∙◌, ap, arith}
use Rattle.std.specs.List.{Contains}
use Rattle.std.proofs.lemmas.Bool.{cond-false}
use Rattle.dq_lits.specs.Formula.{Dqbf}
use Rattle.dq_prep.specs.declared.traces.Taken.{Taken}
use Rattle.dq_prep.specs.Units.{taken_literals, is_satisfied, left_of}
use Rattle.dq_prep.specs.Simplified.{taken_at, kept_clause, kept_clauses}
use Rattle.dq_prep.specs.Takings.{IsEmptied}
use Rattle.dq_prep.proofs.Units.{get-at}
use Rattle.dq_prep.proofs.Kept.{kept-stands}

pub empty-kept : (f : Dqbf) (units : List Taken) (place : ℕ) → IsEmptied f units place
    → Contains (kept_clauses f units 0 f.matrix) []
empty-kept f units place it =
    let trues = taken_literals units in
    let at = get-at f.matrix place it.clause it.at in
    let kept : kept_clause f units (0 + place) (get_or f.matrix place []) ≡ Some [] =
    ap (λ p. kept_clause f units p (get_or f.matrix place [])) (omega arith)
    ∙ ap (kept_clause f units place) (at.1 [])
    ∙ cond-false (is_satisfied trues it.clause) (taken_at place units)
    (Some (left_of f trues it.clause)) it.unsatisfied
    ∙ ap Some it.left in
    kept-stands f units 0 f.matrix place [] [] at.0 kept
