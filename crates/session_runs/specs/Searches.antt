-- What the log of a session shows of its searches.
use Rattle.std.specs.Prelude.{◌≡◌, ℕ, ◌+◌, List, map, Some}
use Rattle.std.specs.List.{All}
use Rattle.dq_lits.specs.Formula.{Dqbf}
use Rattle.hint_log.specs.Entries.{ProofLog, rounds_of, steps_of}
use Rattle.hint_log.specs.Live.{live_numbers, last_live}
use Rattle.hint_log.specs.ProductiveSession.{IsProductiveSession, IsUndecidedSince}
use Rattle.repair_loop.specs.Stopping.{HasNextStep}
use Rattle.script_text.specs.Commands.{ScriptCommand}
use Rattle.script_text.specs.Frames.{formulas_of}
use Rattle.session_runs.specs.Numbering.{all_clauses, all_frames, live_of_searches}
use Rattle.verdict_texts.specs.Forms.{plain}
use Rattle.verdict_texts.specs.Shown.{IsShownTrue, IsShownFalse}
use Rattle.verdict_texts.specs.Verdicts.{Verdict, is_true, is_false, is_unknown}
use Rattle.session_runs.specs.Blocks.{Search}
use Rattle.session_runs.specs.Ends.{ends_of}

-- all steps were done, each productive, the next one is in hand, and no answer since the search
-- began decides its formula
pub record IsCutOff (all f : Dqbf) (log : ProofLog) (rounds learned : ℕ) : Type 0 where
  pub limit : steps_of log.entries ≡ log.limit
  pub next : HasNextStep f log.entries
  pub undecided : IsUndecidedSince all log.entries
  pub rounds_are : rounds ≡ rounds_of log.entries
  pub steps_are : rounds + learned ≡ steps_of log.entries

-- the verdict on a formula, by the log at the end of its search: a circuit that is made of Skolem
-- functions, or a refutation whose rows' instances have no model, each such that the checker
-- accepts the text; or the log's own counts
abbrev pub IsShown : Dqbf → ProofLog → Dqbf → Verdict → Type 0
IsShown all log f (is_true file proof) = IsShownTrue f f log plain file proof
IsShown all log f (is_false d) = IsShownFalse f f (last_live log.entries) log plain d
IsShown all log f (is_unknown rounds learned) = IsCutOff all f log rounds learned

abbrev pub end_of : ProofLog → Search → ProofLog
end_of log s = record { limit = log.limit; entries = s.entries }

-- The searches of a script on a formula, in order. The log is of productive work over all clauses
-- that were numbered, each with its frame; each search began over the clauses that were in force.
pub record AreSearched (f : Dqbf) (commands : List ScriptCommand) (log : ProofLog)
    (searches : List Search) : Type 0 where
  pub session : IsProductiveSession (all_clauses f commands) (all_frames f commands) log.entries
  pub ends : map (λ s. s.entries) searches ≡ ends_of log.entries
  pub begun : map (λ s. live_numbers s.entries) searches ≡ map Some (live_of_searches f commands)
  pub formulas : map (λ s. s.formula) searches ≡ formulas_of f commands
  pub shown : All (λ s. IsShown (all_clauses f commands) (end_of log s) s.formula s.verdict)
      searches
