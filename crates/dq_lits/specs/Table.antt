-- A table of values by variable; variable v has place v - 1.
use Rattle.std.specs.Prelude.{◌≡◌, ℕ, suc, ◌<◌, Bool, true, false, List, length, slice_index_or}
use Rattle.dq_lits.specs.Literal.{Literal, positive, negative}
use Rattle.dq_lits.specs.Derivation.{holds}
use Rattle.dq_lits.specs.declared.truth_values.TruthValue.{TruthValue}
use Rattle.dq_lits.specs.declared.truth_values.TruthValue.TheVariants.{True, False, Unassigned}

-- whether a variable and its negation are true, where the variable has this value
abbrev pub IsTold : TruthValue → Bool → Bool → Type 0
IsTold True plain negated = (plain ≡ true) × (negated ≡ false)
IsTold False plain negated = (plain ≡ false) × (negated ≡ true)
IsTold Unassigned plain negated = (plain ≡ false) × (negated ≡ false)

abbrev pub Tells : List TruthValue → List Literal → Type 0
Tells values trues = (i : ℕ) → i < length values →
    IsTold (slice_index_or values i Unassigned) (holds trues (positive (suc i)))
    (holds trues (negative (suc i)))
