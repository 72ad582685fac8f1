-- Short words for command lines that are written out.
use Rattle.std.specs.Prelude.{ℕ, Bool, false, List, ◌∷◌, Option, codes}
use Rattle.dqsolve_words.specs.Command.{Options, Command, solve, demo, pec, encode, defined, session}
use Rattle.dqsolve_words.specs.Spelling.{spelled_command}

abbrev pub solving_with : ℕ → Options → List ℕ → Command
solving_with steps options file =
    solve (record { steps = steps; options = options; file = file })

-- not bare, without deletions and preparation, and in ASCII
abbrev pub default_options : Options
default_options = record { bare = false; deletes = false; prepares = false; binary = false }

abbrev pub solving : ℕ → Bool → List ℕ → Command
solving steps bare file = solving_with steps (record default_options { bare = bare }) file

abbrev pub planting : ℕ → ℕ → Command
planting seed size = demo (record { seed = seed; size = size })

abbrev pub comparing : ℕ → List ℕ → List ℕ → Command
comparing steps spec imp =
    pec (record { steps = steps; circuits = record { specification = spec; implementation = imp } })

abbrev pub encoding : List ℕ → List ℕ → Command
encoding spec imp = encode (record { specification = spec; implementation = imp })

abbrev pub defining : ℕ → List ℕ → Command
defining steps file = defined (record { steps = steps; file = file })

abbrev pub conversing : ℕ → List ℕ → List ℕ → Command
conversing steps file script = session (record { steps = steps; file = file; script = script })

-- what is asked for by `dqsolve` with these words
abbrev pub dqsolve : List (List ℕ) → Option Command
dqsolve words = spelled_command (codes "dqsolve" ∷ words)
