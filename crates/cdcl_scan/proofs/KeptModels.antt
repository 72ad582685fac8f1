-- A list of values from the first variable on.
use Rattle.std.proofs.Common.{◌≡◌, ℕ, zero, suc, ◌-◌, ◌<◌, Bool, true, false, List, slice_index_or, sym, subst, arith}
use Rattle.dq_lits.specs.Literal.{Literal, positive}
use Rattle.dq_lits.specs.Truth.{literal_value}
use Rattle.dq_lits.specs.declared.truth_values.TruthValue.TheVariants.{True}
use Rattle.learning_trail.proofs.FoundModels.{AreKept}

abbrev IsKeptAt : List Bool → List Literal → ℕ → ℕ → Type 0
IsKeptAt model trues v i = (slice_index_or model i false ≡ true → literal_value trues (positive v) ≡ True)
    × (literal_value trues (positive v) ≡ True → slice_index_or model i false ≡ true)

-- the value of a variable stands one place before its number
pub kept_from_one : (variables : ℕ) (model : List Bool) (trues : List Literal) →
    ((i : ℕ) → i < variables → IsKeptAt model trues (suc i) i) →
    AreKept variables (λ v. slice_index_or model (v - 1) false) trues
kept_from_one variables model trues kept zero low high = absurd (omega (arith, low))
kept_from_one variables model trues kept (suc i) low high =
    let at : suc i - 1 ≡ i = omega arith in
    subst (IsKeptAt model trues (suc i)) (sym at) (kept i (omega (arith, high)))
