-- Small scripts, to hold the definitions against.
use Rattle.std.specs.Prelude.{ℕ, List, [], ◌∷◌, ◌++◌, codes, Result, Err}
use Rattle.std.specs.List.{flat_map}
use Rattle.dq_lits.specs.Formula.{Dqbf}
use Rattle.dq_lits.specs.Literal.{positive, negative}
use Rattle.script_text.specs.Commands.{ScriptCommand, push, add, pop, solve}
use Rattle.script_text.specs.Reading.{Refusal, read_script}
use Rattle.script_text.specs.declared.faults.ScriptFault.{ScriptFault}

-- p cnf 3 0 / a 1 0 / d 2 1 0: no clause yet, and 3 is no variable of it
abbrev pub clauseless : Dqbf
clauseless = record {
  variables = 3;
  universals = 1 ∷ [];
  existentials = record { variable = 2; sees = 1 ∷ [] } ∷ [];
  matrix = [];
}

-- lines with their LF
abbrev pub text_of : List (List ℕ) → List ℕ
text_of lines = flat_map (λ line. line ++ 10 ∷ []) lines

-- two frames whose clauses contradict each other
abbrev pub nested_text : List ℕ
nested_text = text_of (
    codes "solve" ∷ codes "push" ∷ codes "add 2 2 0" ∷ [] ∷ codes "push" ∷ codes " add -2 0"
    ∷ codes "solve" ∷ codes "pop" ∷ codes "solve" ∷ codes "pop" ∷ codes "solve" ∷ [])

abbrev pub nested_commands : List ScriptCommand
nested_commands =
    solve ∷ push ∷ add (positive 2 ∷ []) ∷ push ∷ add (negative 2 ∷ []) ∷ solve ∷ pop ∷ solve ∷ pop ∷ solve ∷ []

-- what is said of lines behind a first frame
abbrev pub said_of : List ℕ → Result (List ScriptCommand) Refusal
said_of line = read_script clauseless (text_of (codes "push" ∷ line ∷ []))

abbrev pub on_second_line : ScriptFault → Result (List ScriptCommand) Refusal
on_second_line name = Err (record { line = 2; name = name })
