-- The formulas that a script has decided.
use Rattle.std.specs.Prelude.{List, [], ◌∷◌, ◌++◌}
use Rattle.dq_lits.specs.Literal.{Literal}
use Rattle.dq_lits.specs.Formula.{Dqbf}
use Rattle.script_text.specs.Commands.{ScriptCommand, push, add, pop, solve}

-- the clauses of each open frame, the newest frame first, and within it the oldest clause first
abbrev pub Frames : Type 0
Frames = List (List (List Literal))

abbrev pub with_clause : List Literal → Frames → Frames
with_clause clause [] = []
with_clause clause (newest ∷ older) = (newest ++ clause ∷ []) ∷ older

abbrev pub older_frames : Frames → Frames
older_frames [] = []
older_frames (newest ∷ older) = older

abbrev pub frames_behind : Frames → ScriptCommand → Frames
frames_behind frames push = [] ∷ frames
frames_behind frames (add clause) = with_clause clause frames
frames_behind frames pop = older_frames frames
frames_behind frames solve = frames

-- the clauses of all open frames, the oldest first
abbrev pub clauses_of : Frames → List (List Literal)
clauses_of [] = []
clauses_of (newest ∷ older) = clauses_of older ++ newest

-- the formula with the clauses of the frames that are open
abbrev pub formula_in : Dqbf → Frames → Dqbf
formula_in f frames = record f { matrix = f.matrix ++ clauses_of frames }

-- the formulas of the searches that are asked for, in order
abbrev pub formulas_from : Dqbf → Frames → List ScriptCommand → List Dqbf
formulas_from f frames [] = []
formulas_from f frames (solve ∷ commands) =
    formula_in f frames ∷ formulas_from f frames commands
formulas_from f frames (command ∷ commands) =
    formulas_from f (frames_behind frames command) commands

abbrev pub formulas_of : Dqbf → List ScriptCommand → List Dqbf
formulas_of f commands = formulas_from f [] commands
