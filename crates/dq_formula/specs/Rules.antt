-- Rules: bits that existentials are forced to have.
use Rattle.std.specs.Prelude.{◌≡◌, ◌==◌, ℕ, Bool, true, ◌&&◌, List, [], ◌∷◌, Option, None, Some, if◌then◌else◌}
use Rattle.std.specs.List.{All, Contains, list_all}
use Rattle.dq_lits.specs.Literal.{Assignment, Literal, variable_of, literal_true}
use Rattle.dq_lits.specs.Formula.{Existential, Dqbf, existential_of}
use Rattle.dq_lits.specs.Henkin.{MatrixHolds}
use Rattle.dq_formula.specs.declared.rules.Rule.{Rule}

-- a cube is true where all of its literals are
abbrev pub cube_true : Assignment → List Literal → Bool
cube_true m cube = list_all (literal_true m) cube

-- the cube is over universals that the existential sees, and forces the bit wherever the matrix is
-- true
pub record IsRule (f : Dqbf) (rule : Rule) : Type 0 where
  pub over_seen : (y : Existential) → existential_of f rule.y ≡ Some y
      → All (λ l. Contains y.sees (variable_of l)) rule.cube
  pub forced : (m : Assignment) → MatrixHolds f m → cube_true m rule.cube ≡ true
      → m rule.y ≡ rule.bit

-- the bit of the first rule on a variable whose cube is true, if there is one
abbrev pub first_bit : List Rule → ℕ → Assignment → Option Bool
first_bit [] y m = None
first_bit (rule ∷ later) y m =
    if rule.y == y && cube_true m rule.cube then Some rule.bit else first_bit later y m
