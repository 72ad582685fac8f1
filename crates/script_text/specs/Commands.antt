-- The commands of a script.
use Rattle.std.specs.Prelude.{List, [], ◌∷◌}
use Rattle.dq_lits.specs.Literal.{Literal}
use Rattle.script_text.specs.declared.commands.Command.{Command}
use Rattle.script_text.specs.declared.commands.Command.TheVariants.{Push, Add, Pop, Solve}
use Rattle.script_text.specs.declared.commands.Keyword.{Keyword}
use Rattle.script_text.specs.declared.commands.Keyword.TheVariants.{Push as PushWord, Add as AddWord, Pop as PopWord, Solve as SolveWord}

-- a frame is opened, a clause comes to the newest one, it is closed with its clauses, or the clauses
-- that are in force are decided
pub data ScriptCommand : Type 0 where
  push : ScriptCommand
  add : List Literal → ScriptCommand
  pop : ScriptCommand
  solve : ScriptCommand

abbrev pub command_seen : Command → ScriptCommand
command_seen Push = push
command_seen (Add clause) = add clause.now
command_seen Pop = pop
command_seen Solve = solve

-- the command of a word; a clause that isn't there is no literals
abbrev pub command_by : Keyword → List Literal → ScriptCommand
command_by PushWord clause = push
command_by AddWord clause = add clause
command_by PopWord clause = pop
command_by SolveWord clause = solve

abbrev pub commands_of : List Keyword → List (List Literal) → List ScriptCommand
commands_of (word ∷ words) (clause ∷ clauses) = command_by word clause ∷ commands_of words clauses
commands_of _ _ = []
