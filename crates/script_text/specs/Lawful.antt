-- What a search over a script may rely on.
use Rattle.std.specs.Prelude.{◌≡◌, ◌≢◌, ℕ, ◌≤◌, ◌<◌, List, [], ◌∷◌, length}
use Rattle.std.specs.List.{All, AllPairs, Contains}
use Rattle.dq_lits.specs.Literal.{Literal, variable_of}
use Rattle.dq_lits.specs.Formula.{Dqbf, declared}
use Rattle.script_text.specs.Commands.{ScriptCommand, push, add, pop, solve}
use Rattle.script_text.specs.Reading.{depth_behind, clauses_behind, max_clauses, read_script}
use Rattle.std.specs.Prelude.{Ok}

-- distinct literals on universals and existentials of the formula
pub record IsClauseFor (f : Dqbf) (clause : List Literal) : Type 0 where
  pub distinct : AllPairs (λ l k. l ≢ k) clause
  pub bound : All (λ l. Contains (declared f) (variable_of l)) clause

-- the command may come where so many frames are open and there are so many clauses
abbrev pub IsAllowed : Dqbf → ℕ → ℕ → ScriptCommand → Type 0
IsAllowed f depth clauses push = Unit {0}
IsAllowed f depth clauses (add clause) = (1 ≤ depth) × (clauses < max_clauses) × IsClauseFor f clause
IsAllowed f depth clauses pop = 1 ≤ depth
IsAllowed f depth clauses solve = Unit {0}

abbrev pub AreAllowed : Dqbf → ℕ → ℕ → List ScriptCommand → Type 0
AreAllowed f depth clauses [] = Unit {0}
AreAllowed f depth clauses (command ∷ commands) =
    IsAllowed f depth clauses command
    × AreAllowed f (depth_behind depth command) (clauses_behind clauses command) commands

-- each command of a script may come where it stands
abbrev pub ScriptsAreAllowed : Type 0
ScriptsAreAllowed =
    (f : Dqbf) (text : List ℕ) (commands : List ScriptCommand)
    → read_script f text ≡ Ok commands → AreAllowed f 0 (length f.matrix) commands
