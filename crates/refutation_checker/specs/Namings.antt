-- Words of private contracts: names of pairs, given when the pairs first occur.
use Rattle.std.specs.Prelude.{◌≡◌, ℕ, ◌+◌, ◌-◌, ◌/◌, ◌%◌, ◌==◌, ◌<◌, ◌≤◌, ◌⊎◌, nat_lt, Bool, true, ◌&&◌, List, [], length, Option, None, Some, is_some, slice_index_or, if◌then◌else◌}
use Rattle.std.specs.Option.{option_map}
use Rattle.dq_lits.specs.Formula.{Dqbf}
use Rattle.refutation_checker.specs.Rows.{agree_over, row_of}
use Rattle.refutation_checker.specs.Pairs.{pair_of}
use Rattle.refutation_checker.specs.RowTrees.{sees_of, found, IsTree, number_or}
use Rattle.refutation_checker.specs.declared.row_trees.Node.{Node}
use Rattle.refutation_checker.specs.declared.bindings.Binding.{Binding}
use Rattle.refutation_checker.specs.Bindings.{set_at, binding_at}
use Rattle.refutation_checker.specs.declared.bindings.Binding.TheVariants.{Universal, Existential, Free}
use Rattle.refutation_checker.specs.declared.bindings.DependencySet.{DependencySet}

-- a formula, some rows, and how the formula's variables are bound
pub record Frame : Type 0 where
  pub formula : Dqbf
  pub rows : List (List Bool)
  pub sets : List DependencySet
  pub bindings : List Binding

-- the names that pairs have by now: for each dependency set, by the bits of the rows, those of its
-- first existential's pairs; the others follow, in order of declaration
pub record Names : Type 0 where
  pub trees : List (List Node)
  -- names that are given later lie from here on
  pub next : ℕ

abbrev pub sees_at : Frame → ℕ → List ℕ
sees_at x c = sees_of x.formula (set_at x.sets c).leader

abbrev pub tree_at : Names → ℕ → List Node
tree_at n c = slice_index_or n.trees c []

-- the name of the first existential's pair with a row
abbrev pub base_of : Frame → Names → ℕ → List Bool → Option ℕ
base_of x n c row = found x.formula x.rows (sees_at x c) (tree_at n c) row

abbrev pub name_by : Frame → Names → List Bool → Binding → Option ℕ
name_by x n row (Existential c place) = option_map (λ base. base + place) (base_of x n c row)
name_by x n row (Universal _) = None
name_by x n row Free = None

abbrev pub row_number : Frame → ℕ → ℕ
row_number x v = (v - 1) / x.formula.variables

abbrev pub variable_number : Frame → ℕ → ℕ
variable_number x v = (v - 1) % x.formula.variables + 1

-- the number is that of a pair, by the first row that agrees
abbrev pub is_pair : Frame → ℕ → Bool
is_pair x v =
    nat_lt (row_number x v) (length x.rows)
    && (v == pair_of x.formula x.rows (row_of x.rows (row_number x v)) (variable_number x v))

abbrev pub name_of : Frame → Names → ℕ → Option ℕ
name_of x n v =
    if is_pair x v
    then name_by x n (row_of x.rows (row_number x v)) (binding_at x.bindings (variable_number x v))
    else None

-- the number of a variable that has no name lies behind all names
abbrev pub new_number : Frame → Names → ℕ → ℕ
new_number x n v = number_or (name_of x n v) (n.next + v)

abbrev pub is_named : Frame → Names → ℕ → Bool
is_named x n v = is_some (name_of x n v)

-- the names of two sets' pairs lie apart, unless it is one set and the rows agree on it
abbrev pub AreApart : Frame → ℕ → List Bool → ℕ → ℕ → List Bool → ℕ → Type 0
AreApart x c r b d s e =
    ((c ≡ d) × (b ≡ e) × (agree_over x.formula (sees_at x c) r s ≡ true))
    ⊎ ((b + (set_at x.sets c).size ≤ e) ⊎ (e + (set_at x.sets d).size ≤ b))

abbrev pub IsWhole : Frame → List Bool → Type 0
IsWhole x row = length row ≡ length x.formula.universals

pub record IsNaming (x : Frame) (n : Names) : Type 0 where
  pub many : length n.trees ≡ length x.sets
  pub from_one : 1 ≤ n.next
  pub trees : (c : ℕ) → c < length x.sets → IsTree x.formula x.rows (sees_at x c) (tree_at n c)
  pub below : (c b : ℕ) (r : List Bool) → IsWhole x r → base_of x n c r ≡ Some b
      → (1 ≤ b) × (b + (set_at x.sets c).size ≤ n.next)
  pub apart : (c d b e : ℕ) (r s : List Bool) → IsWhole x r → IsWhole x s
      → base_of x n c r ≡ Some b → base_of x n d s ≡ Some e → AreApart x c r b d s e

-- what had a name has it still
abbrev pub Extends : Frame → Names → Names → Type 0
Extends x old new = (c b : ℕ) (r : List Bool) → IsWhole x r → base_of x old c r ≡ Some b
    → base_of x new c r ≡ Some b
