-- The values of variables: a table, in which variable v has place v - 1, and a map for the
-- variables beyond it.
use Rattle.std.specs.Prelude.{◌≡◌, ℕ, suc, ◌<◌, Bool, true, false, List, length, slice_index_or, Option, None, Some}
use Rattle.std.specs.BTreeMap.{BTreeMap, get}
use Rattle.std.specs.Ordering.{nat_cmp}
use Rattle.dq_lits.specs.Literal.{Literal, positive, negative}
use Rattle.dq_lits.specs.Derivation.{holds}
use Rattle.dq_lits.specs.Table.{IsTold}
use Rattle.dq_lits.specs.declared.truth_values.TruthValue.{TruthValue}
use Rattle.dq_lits.specs.declared.truth_values.TruthValue.TheVariants.{True, False, Unassigned}

-- the value of a variable in the map
abbrev pub far_value : Option Bool → TruthValue
far_value None = Unassigned
far_value (Some true) = True
far_value (Some false) = False

abbrev pub TellsFar : ℕ → BTreeMap ℕ Bool → List Literal → Type 0
TellsFar n far trues =
    (v : ℕ) → n < v
    → IsTold (far_value (get nat_cmp far v)) (holds trues (positive v)) (holds trues (negative v))

-- a variable behind the last one is unassigned
abbrev pub AreSameValues : List TruthValue → List TruthValue → Type 0
AreSameValues old new =
    (k : ℕ) → slice_index_or new k Unassigned ≡ slice_index_or old k Unassigned

-- a variable with a value stands in one of the literals
abbrev pub StandsOnlyOn : List TruthValue → List Literal → Type 0
StandsOnlyOn values literals = (i : ℕ) → i < length values →
    holds literals (positive (suc i)) ≡ false → holds literals (negative (suc i)) ≡ false
    → slice_index_or values i Unassigned ≡ Unassigned
