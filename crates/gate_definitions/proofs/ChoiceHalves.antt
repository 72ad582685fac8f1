-- Two halves of a choice.
use Rattle.std.proofs.Common.{◌≡◌, ℕ, Bool, true, false, not, List, Some, refl, arith}
use Rattle.std.proofs.lemmas.Bool.{cases_Bool}
use Rattle.dq_lits.specs.Literal.{opposite, same_literal}
use Rattle.dq_lits.specs.Formula.{Existential, Dqbf, existential_of}
use Rattle.dq_lits.proofs.Truth.{same_literal-sound, literal_true-opposite}
use Rattle.dq_lits.proofs.FormulaVariables.{find_sound}
use Rattle.gate_definitions.specs.Stating.{IsHalf, IsChoice, AreReadable, choice_literals}
use Rattle.gate_definitions.specs.declared.choices.Choice.{Choice}
use Rattle.gate_definitions.specs.declared.choices.Half.{Half}

pub is_same : (r b : Bool) → r ≡ not b → r ≡ false → b ≡ true
is_same r true e h = refl
is_same r false e h = cc

abbrev pub choice_of : Half → Half → Choice
choice_of half other = record { condition = half.condition; then_value = half.value; else_value = other.value }

pub is_choice : (f : Dqbf) (ranks : List ℕ) (y : ℕ) (e : Existential) (half other : Half) →
    existential_of f y ≡ Some e → same_literal other.condition (opposite half.condition) ≡ true
    → IsHalf f y half → IsHalf f y other → AreReadable f ranks e (choice_literals (choice_of half other)) →
    IsChoice f ranks e (choice_of half other)
is_choice f ranks y e half other known against first second reads =
    search (arith, find_sound, cases_Bool, same_literal-sound, literal_true-opposite)
