-- The clause that some clause of the formula is false, with the constants put in.
use Rattle.std.proofs.Common.{◌≡◌, ℕ, zero, suc, ◌+◌, ◌*◌, ◌<◌, ◌≤◌, ◌==◌, false, cond, List, map, length, take, slice_get, None, Some, refl, sym, ap, arith}
use Rattle.std.specs.List.{list_any, range_with_len}
use Rattle.std.proofs.lemmas.List.{length-take}
use Rattle.list_laws.proofs.Truths.{both_false}
use Rattle.dq_lits.specs.Literal.{Literal, positive}
use Rattle.dq_formula.proofs.Places.{ne-false}
use Rattle.cert_text.specs.NegatedMatrix.{without_constants}
use Rattle.proof_checker.specs.ShortClause.{kept_literals}
use Rattle.cert_text.proofs.CircuitLiterals.{as_even}

kept_where_not : (literals : List ℕ) → list_any (λ l. l == 1) literals ≡ false →
    Some (kept_literals literals) ≡ without_constants literals
kept_where_not literals is = sym (ap (λ t. cond t None (Some (kept_literals literals))) is)

pub range_kept : (bad n : ℕ) → 1 ≤ bad → kept_literals (map (λ b. 2 * b) (range_with_len bad n)) ≡ map (λ b. positive b)
    (range_with_len bad n)
range_kept bad zero some = refl
range_kept bad (suc n) some = search (arith, ne-false, as_even, (range_kept (bad + 1) n))

range_not_true : (bad n : ℕ) → list_any (λ l. l == 1) (map (λ b. 2 * b) (range_with_len bad n)) ≡ false
range_not_true bad zero = refl
range_not_true bad (suc n) = search (arith, both_false, ne-false, (range_not_true (bad + 1) n))

pub range_clause : (bad n : ℕ) → 1 ≤ bad → Some (map (λ b. positive b) (range_with_len bad n)) ≡ without_constants
    (map (λ b. 2 * b) (range_with_len bad n))
range_clause bad n some = search (arith, range_kept, kept_where_not, range_not_true)

pub range_literal : (bad n i : ℕ) → i < n → slice_get (map (λ b. positive b) (range_with_len bad n)) i ≡ Some
    (positive (bad + i))
range_literal bad zero i below = absurd (omega (arith, below))
range_literal bad (suc n) zero below = let same : bad ≡ bad + 0 = omega arith in ap (λ v. Some (positive v)) same
range_literal bad (suc n) (suc i) below = search (arith, (range_literal (bad + 1) n i))

pub range_length : (bad n : ℕ) → length (map (λ b. positive b) (range_with_len bad n)) ≡ n
range_length bad zero = refl
range_length bad (suc n) = ap suc (range_length (bad + 1) n)

-- a place among the first literals
pub count_below : (count : ℕ) (literals clause : List Literal) (i : ℕ) → take count literals ≡ clause →
    i < length clause → i < count
count_below count literals clause i is below =
    let long = length-take count literals in
    let same = ap length is in
    omega (arith, long, same, below)
