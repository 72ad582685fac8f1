-- Whether an expansion refutation proves that a formula is false: its lines are derived from the
-- instances of the clauses under its rows and from lines before that weren't deleted, and the last
-- line is the empty clause.
use Rattle.std.specs.Prelude.{ℕ, ◌+◌, ◌-◌, ◌/◌, ◌%◌, Bool, false, List, map, Option, None, Some}
use Rattle.std.specs.List.{slice_get}
use Rattle.dq_lits.specs.Derivation.{ProofStep, ProofFault}
use Rattle.dq_lits.specs.Expansion.{pair_number, instance_at}
use Rattle.dq_lits.specs.Formula.{Existential, Dqbf, existential_of}
use Rattle.dq_lits.specs.Literal.{Literal, variable_of, on_variable}
use Rattle.rup_core.specs.Items.{ProofItem, derived, gone, items_fault}
use Rattle.cert_text.specs.declared.refutations.Dqr.{Dqr}

-- the pair of a row and an existential by its own number, whichever row's number it was given by
abbrev pub normal_of : Dqbf → List (List Bool) → ℕ → Option (List Bool) → Option Existential → ℕ
normal_of f rows number (Some row) (Some y) = pair_number f rows row y
normal_of f rows number (Some row) None = number
normal_of f rows number None _ = number

-- a line may name the pair of y under row k by (k - 1) * V + y, also where an earlier row agrees
-- with row k on what y sees
abbrev pub normal_number : Dqbf → List (List Bool) → ℕ → ℕ
normal_number f rows number =
    normal_of f rows number (slice_get rows ((number - 1) / f.variables))
    (existential_of f ((number - 1) % f.variables + 1))

abbrev pub normal_literal : Dqbf → List (List Bool) → Literal → Literal
normal_literal f rows l = on_variable (normal_number f rows (variable_of l)) l

abbrev pub normal_step : Dqbf → List (List Bool) → ProofStep → ProofStep
normal_step f rows step = record step { literals = map (normal_literal f rows) step.literals }

abbrev pub normal_item : Dqbf → List (List Bool) → ProofItem → ProofItem
normal_item f rows (derived step) = derived (normal_step f rows step)
normal_item f rows (gone ids) = gone ids

-- the first line that isn't derived, or that the last one isn't empty
abbrev pub refutation_fault : Dqbf → Dqr → Option ProofFault
refutation_fault f d =
    items_fault false (instance_at f d.rows) (map (normal_item f d.rows) d.items)
