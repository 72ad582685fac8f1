-- Universal literals by the bits of a row.
use Rattle.std.proofs.Common.{◌≡◌, ℕ, ◌==◌, Bool, true, false, cond, not, List, length, get_or, position, Some, None, refl, arith}
use Rattle.std.proofs.Math.Bool.{beq}
use Rattle.dq_lits.specs.Literal.{Literal, variable_of, is_negative}
use Rattle.dq_lits.specs.Formula.{Dqbf}
use Rattle.dq_lits.specs.Expansion.{universal_literal_true}
use Rattle.dq_formula.proofs.Places.{place-absent, place-found}
use Rattle.dq_formula.proofs.Sorted.{place-below}
use Rattle.dq_formula.proofs.Restrictions.{assignment_of-place}

-- a universal's literal by the bit at its place
pub true_universal : (f : Dqbf) (row : List Bool) (l : Literal) (v at : ℕ) (bit : Bool) → v ≡ variable_of l →
    length row ≡ length f.universals
    → position (λ u. u == v) f.universals ≡ Some at → bit ≡ get_or row at false →
    universal_literal_true f row l ≡ cond (is_negative l) (not bit) bit
true_universal f row l v at bit v_is whole found bit_is =
    search (arith, (place-found f.universals v at found), (assignment_of-place f.universals row v whole))

pub no_universal : (f : Dqbf) (row : List Bool) (l : Literal) (v : ℕ) → v ≡ variable_of l →
    position (λ u. u == v) f.universals ≡ None → universal_literal_true f row l ≡ false
no_universal f row l v v_is none = search (arith, (place-below f.universals v), place-absent)

pub turned : (bit negated : Bool) → not (beq bit negated) ≡ cond negated (not bit) bit
turned true true = refl
turned true false = refl
turned false true = refl
turned false false = refl
