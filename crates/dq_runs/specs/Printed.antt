-- What a run writes, and the status that it ends with.
use Rattle.std.specs.Prelude.{ℕ, List, [], ◌∷◌, ◌++◌, codes}
use Rattle.std.specs.Fmt.{decimal}
use Rattle.dq_runs.specs.declared.outputs.Output.{Output}

pub record Printed : Type 0 where
  pub status : ℕ
  pub text : List ℕ

-- what an output stands for
abbrev pub printed : Output → Printed
printed output = record { status = output.status; text = output.text.items }

-- a text as a line, which ends with LF
abbrev pub line : List ℕ → List ℕ
line text = text ++ 10 ∷ []

-- the words aren't the program's, whose commands are these
abbrev pub usage_line : List ℕ → Printed
usage_line commands = record { status = 1; text = line (codes "usage: " ++ commands) }

-- a file can't be read
abbrev pub unreadable_line : Printed
unreadable_line = record { status = 3; text = line (codes "source fault") }

-- a file is too long
abbrev pub long_line : List ℕ → Printed
long_line file = record { status = 6; text = line (codes "too long " ++ file) }

-- a word, the number of a line, and the name of its fault
abbrev pub fault_line : ℕ → List ℕ → ℕ → List ℕ → Printed
fault_line status word number name = record {
  status = status;
  text = line (word ++ (codes " " ++ (decimal number ++ (codes " " ++ name))));
}
