-- A row with the universal literals false that universal reduction takes.
use Rattle.std.proofs.Common.{◌≡◌, ℕ, ◌==◌, Bool, true, false, not, ◌&&◌, inl, inr, List, [], ◌∷◌, map, get_or, Some, refl, sym, ◌∙◌, ap, arith}
use Rattle.std.specs.List.{All, Contains, list_any}
use Rattle.std.proofs.lemmas.Bool.{true≢false, cases_Bool, cond-true, cond-false, eq-eqb, eqb-true}
use Rattle.std.proofs.lemmas.List.Elements.{All-contains}
use Rattle.std.proofs.lemmas.List.Folds.{list_any_none, list_any_at}
use Rattle.list_laws.proofs.Members.{contains_tested, tested_inside}
use Rattle.dq_lits.specs.Literal.{Assignment, Literal, positive, negative, variable_of, opposite, literal_true}
use Rattle.dq_lits.specs.Formula.{Existential, Dqbf, is_universal, existential_of, IsWellFormed}
use Rattle.dq_lits.specs.Henkin.{same_bits}
use Rattle.dq_lits.specs.Derivation.{holds, is_tautology}
use Rattle.dq_lits.specs.Expansion.{row_assignment, universal_literal_true, agree_on}
use Rattle.dq_lits.specs.Row.{assignment_of}
use Rattle.dq_lits.proofs.HeldLiterals.{any_one, filter-holds}
use Rattle.dq_lits.proofs.Choices.{same_bits-refl}
use Rattle.dq_lits.proofs.Followers.{map-agree}
use Rattle.dq_prep.specs.Reduction.{sees_in, is_seen, stays}
use Rattle.dq_prep.specs.Units.{taken_literals, without_false, left_of}
use Rattle.dq_prep.specs.LoweredRows.{is_lost, lowered, lowered_row, LoweredRowsServe}
use Rattle.dq_prep.proofs.SignedLiterals.{pair-any}
use Rattle.dq_prep.proofs.Reduction.{lost_false, unlost, unlost_value, kept_by, holds-at}
use Rattle.dq_prep.proofs.OpenLiterals.{none-universal}
use Rattle.dq_prep.proofs.LeftLiterals.{tautology-stays}
use Rattle.dq_prep.proofs.LiteralRoles.{find-Some}
use Rattle.dq_lits.proofs.LiftedExpansion.{literal_true-agree}

-- a variable of a row that is made of an assignment
made-bit : (xs : List ℕ) (m : Assignment) (x : ℕ) → list_any (λ z. z == x) xs ≡ true
    → assignment_of xs (map m xs) x ≡ m x
made-bit [] m x h = cc
made-bit (z ∷ zs) m x h = search (arith, cases_Bool, cond-true, eqb-true, cond-false, (made-bit zs m x))

-- a universal's bit in the lowered row
low-bit : (f : Dqbf) (clause : List Literal) (row : List Bool) (x : ℕ) → Contains f.universals x
    → row_assignment f (lowered_row f clause row) x ≡ lowered f clause (row_assignment f row) x
low-bit f clause row x inside = search (arith, made-bit, tested_inside)

-- none that is held passes
pub none-held : (p : Literal → Bool) (xs : List Literal) (l : Literal) → list_any p xs ≡ false → holds xs l ≡ true
    → p l ≡ false
none-held p xs l none here = search (arith, cases_Bool, true≢false, any_one)

-- an existential of the clause sees the same bits
same-view : (f : Dqbf) (rest : List Literal) (row : List Bool) (l : Literal) (y : Existential) → IsWellFormed f
    → holds rest l ≡ true → existential_of f (variable_of l) ≡ Some y
    → agree_on f y row (lowered_row f rest row) ≡ true
same-view f rest row l y well here own =
    let m = row_assignment f row in
    let n = row_assignment f (lowered_row f rest row) in
    let found = find-Some (λ z. z.variable == variable_of l) f.existentials y own in
    let universal = All-contains
    (λ z. All (Contains f.universals) z.sees) f.existentials y well.prefix.sees_universals found.0 in
    let same : All (λ x. m x ≡ n x) y.sees = λ k d below.
    let x = get_or y.sees k d in
    let sees : sees_in x (existential_of f (variable_of l)) ≡ true =
    ap (sees_in x) own ∙ list_any_at (λ z. z == x) y.sees k d below (eq-eqb x x refl) in
    let seen : is_seen f rest x ≡ true =
    any_one (λ q. sees_in x (existential_of f (variable_of q))) rest l here sees in
    sym (low-bit f rest row x (universal k d below) ∙ unlost f rest m x seen) in
    ap (same_bits (map m y.sees)) (sym (map-agree m n y.sees same)) ∙ same_bits-refl (map m y.sees)

-- a universal literal of the clause is false in the lowered row
low-false : (f : Dqbf) (trues clause : List Literal) (row : List Bool) (l : Literal)
    → holds (without_false trues clause) l ≡ true → is_tautology (without_false trues clause) ≡ false
    → list_any (universal_literal_true f row) (left_of f trues clause) ≡ false
    → is_universal f (variable_of l) ≡ true
    → literal_true (row_assignment f (lowered_row f (without_false trues clause) row)) l ≡ false
low-false f trues clause row l here plain none universal =
    let rest = without_false trues clause in
    let m = row_assignment f row in
    let v = variable_of l in
    let bit = low-bit f rest row v (contains_tested f.universals v universal) in
    elim (cases_Bool (is_lost f rest v)) [
      | inl lost ↦
          literal_true-agree (row_assignment f (lowered_row f rest row)) (lowered f rest m) l bit
          ∙ lost_false f rest m l here (alone l here) lost
      | inr kept ↦
          literal_true-agree (row_assignment f (lowered_row f rest row)) m l (bit ∙ unlost_value f rest m v kept)
          ∙ false-left (kept_by f rest l kept)
    ]
  where
    left : List Literal
    left = left_of f trues clause

    alone : (k : Literal) → holds (without_false trues clause) k ≡ true
        → holds (without_false trues clause) (opposite k) ≡ false
    alone k inside = search (arith, cases_Bool, true≢false, pair-any)

    in-left : stays f (without_false trues clause) l ≡ true → holds (left_of f trues clause) l ≡ true
    in-left stay = search (arith, filter-holds)

    false-left : stays f (without_false trues clause) l ≡ true → literal_true (row_assignment f row) l ≡ false
    false-left stay =
        ap (λ b. b && literal_true (row_assignment f row) l) (sym universal)
        ∙ none-held (universal_literal_true f row) (left_of f trues clause) l none (in-left stay)

pub serve : LoweredRowsServe
serve f units clause row well are unsatisfied plain none =
    let trues = taken_literals units in
    let rest = without_false trues clause in
    let low = lowered_row f rest row in (
      list_any_none (universal_literal_true f low) clause (λ k d below.
          let l = get_or clause k d in
          let v = variable_of l in
          elim (cases_Bool (is_universal f v)) [
            | inl universal ↦
                let free : holds trues (opposite l) ≡ false =
                none-universal f units (opposite l) are (turned l universal) in
                let here : holds rest l ≡ true =
                filter-holds (λ q. not (holds trues (opposite q))) clause l (holds-at clause k d below)
                (ap not free) in
                ap (λ b. b && literal_true (row_assignment f low) l) universal
                ∙ low-false f trues clause row l here (tautology-stays trues clause unsatisfied ∙ plain) none universal
            | inr other ↦ ap (λ b. b && literal_true (row_assignment f low) l) other
          ]),
      λ l y here own. same-view f rest row l y well here own,
    )
  where
    turned : (k : Literal) → is_universal f (variable_of k) ≡ true → is_universal f (variable_of (opposite k)) ≡ true
    turned (positive v) h = h
    turned (negative v) h = h
