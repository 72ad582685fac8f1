-- What the words of a command line ask for, by clap's own meaning of a command with subcommands.
-- The first word is the program's own name.
use Rattle.std.specs.Prelude.{true, List, ℕ, [], ◌∷◌, ◌++◌, Option, None, Some, codes, option_and_then}
use Rattle.clap.specs.Faults.{fault_of}
use Rattle.clap.specs.Kinds.{Kinds}
use Rattle.clap.specs.Simple.{App, Shape, new_app, new_rule, new_shape, on_top, subcommand_of, with_subcommand}
use Rattle.clap.specs.Walk.{Row, Rule, first_of}
use Rattle.clap.specs.declared.builder.action.ArgAction.TheVariants.{Set, SetTrue}
use Rattle.dqsolve_words.specs.Command.{Command, Given, asked_of}

-- an argument that is known by its place, has to be there, and is given once
abbrev pub required_word : List ℕ → Rule
required_word id = record (new_rule id) { required = true; action = Some Set }

-- `--ID VALUE`, given once at most
abbrev pub value_option : List ℕ → Rule
value_option id = record (new_rule id) { long = Some id; action = Some Set }

-- `--ID`, given once at most
abbrev pub flag : List ℕ → Rule
flag id = record (new_rule id) { long = Some id; action = Some SetTrue }

-- without flags of clap's own, not even `--help` and `--version`
abbrev pub without_flags : Shape → Shape
without_flags s = record s { disable_help_flag = true; disable_version_flag = true }

-- the options of how long is searched, and how a verdict is written
abbrev pub writing_options : List Rule
writing_options = value_option (codes "steps") ∷ flag (codes "bare") ∷ flag (codes "v2") ∷ []

-- the options of solve
abbrev pub solve_options : List Rule
solve_options = writing_options ++ flag (codes "prep") ∷ flag (codes "binary") ∷ []

-- solve [--steps N] [--bare] [--v2] [--prep] [--binary] FILE
abbrev pub solve_shape : Shape
solve_shape = record (without_flags (new_shape (codes "solve"))) {
  rules = solve_options ++ required_word (codes "FILE") ∷ [];
}

-- demo SEED SIZE
abbrev pub demo_shape : Shape
demo_shape = record (without_flags (new_shape (codes "demo"))) {
  rules = required_word (codes "SEED") ∷ required_word (codes "SIZE") ∷ [];
}

-- pec [--steps N] SPEC IMPL
abbrev pub pec_shape : Shape
pec_shape = record (without_flags (new_shape (codes "pec"))) {
  rules =
      value_option (codes "steps") ∷ required_word (codes "SPEC") ∷ required_word (codes "IMPL")
      ∷ [];
}

-- encode SPEC IMPL
abbrev pub encode_shape : Shape
encode_shape = record (without_flags (new_shape (codes "encode"))) {
  rules = required_word (codes "SPEC") ∷ required_word (codes "IMPL") ∷ [];
}

-- defined [--steps N] FILE
abbrev pub defined_shape : Shape
defined_shape = record (without_flags (new_shape (codes "defined"))) {
  rules = value_option (codes "steps") ∷ required_word (codes "FILE") ∷ [];
}

-- session [--steps N] FILE SCRIPT
abbrev pub session_shape : Shape
session_shape = record (without_flags (new_shape (codes "session"))) {
  rules =
      value_option (codes "steps") ∷ required_word (codes "FILE") ∷ required_word (codes "SCRIPT")
      ∷ [];
}

-- dqsolve without subcommands, not even `help`
abbrev pub bare_app : App
bare_app = on_top (λ top. record (without_flags top) { disable_help_subcommand = true })
    (new_app (codes "dqsolve"))

-- with the subcommands on formulas
abbrev pub formula_app : App
formula_app = with_subcommand (with_subcommand bare_app solve_shape) demo_shape

-- and with those on circuits
abbrev pub circuit_app : App
circuit_app = with_subcommand (with_subcommand formula_app pec_shape) encode_shape

-- dqsolve, with its subcommands
abbrev pub solver_app : App
solver_app = with_subcommand (with_subcommand circuit_app defined_shape) session_shape

-- what is given where clap found these rows
abbrev pub given_in : List Row → Given
given_in rows id = first_of id rows

-- what is asked of the subcommand that was named
abbrev pub command_in : Option (List ℕ × List Row) → Option Command
command_in sub = option_and_then (λ p. asked_of p.0 (given_in p.1)) sub

-- a command, where its words have no fault
abbrev pub without_fault : Kinds → Option Command → Option Command
without_fault [] command = command
without_fault (_ ∷ _) command = None

-- what the words ask for, where the command has no fault at them; what callers need of it stands in
-- the laws, so it doesn't unfold in their proofs
unfoldable pub command_of : List (List ℕ) → Option Command
command_of words =
    without_fault (fault_of solver_app words) (command_in (subcommand_of solver_app words))
