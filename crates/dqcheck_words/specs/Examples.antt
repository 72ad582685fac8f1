-- Short words for command lines that are written out.
use Rattle.std.specs.Prelude.{ℕ, List, ◌∷◌, Option, codes}
use Rattle.dqcheck_words.specs.Command.{Command}
use Rattle.dqcheck_words.specs.Spelling.{spelled_command}

abbrev pub files : List ℕ → List ℕ → Command
files formula certificate = record { formula = formula; certificate = certificate }

-- what is asked for by `dqcheck` with these words
abbrev pub dqcheck : List (List ℕ) → Option Command
dqcheck words = spelled_command (codes "dqcheck" ∷ words)
