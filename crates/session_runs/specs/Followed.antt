-- Words of private contracts: how far a script's commands were taken.
use Rattle.std.specs.Prelude.{◌≡◌, ◌≤◌, Bool, true, false, List, ◌++◌, map, length, Some}
use Rattle.dq_lits.specs.Formula.{Dqbf}
use Rattle.hint_log.specs.Live.{live_numbers}
use Rattle.script_text.specs.Commands.{ScriptCommand, push, add, pop, solve}
use Rattle.script_text.specs.Frames.{Frames, formulas_from, formulas_of}
use Rattle.script_text.specs.Lawful.{AreAllowed}
use Rattle.script_text.specs.Reading.{max_clauses}
use Rattle.dq_session.specs.Databases.{DatabaseState}
use Rattle.session_runs.specs.Following.{Follows, AreFramesOf}
use Rattle.session_runs.specs.Numbering.{Numbering, numbering_from, numbering_of, live_from, live_of_searches}
use Rattle.session_runs.specs.Blocks.{Search}

abbrev pub is_search : ScriptCommand → Bool
is_search push = false
is_search (add clause) = false
is_search pop = false
is_search solve = true

-- these commands are left, and the database has the clauses and frames of those before them, whose
-- searches were made
pub record IsFollowed (f : Dqbf) (commands left : List ScriptCommand) (b : DatabaseState)
    (searches : List Search) : Type 0 where
  pub numbering : Numbering
  pub frames : Frames
  pub file : b.file ≡ f
  pub follows : Follows numbering b
  pub frames_are : AreFramesOf numbering.clauses numbering.open_frames frames
  pub allowed : AreAllowed f (length numbering.open_frames) (length numbering.clauses) left
  pub few : length numbering.clauses ≤ max_clauses
  pub rest : numbering_from numbering left ≡ numbering_of f commands
  pub formulas : map (λ s. s.formula) searches ++ formulas_from f frames left
      ≡ formulas_of f commands
  pub begun : map (λ s. live_numbers s.entries) searches
      ++ map Some (live_from (length f.matrix) numbering left)
      ≡ map Some (live_of_searches f commands)
