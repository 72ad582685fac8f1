-- From the searches of a script that is told to the page on sessions.
use Rattle.std.proofs.Common.{◌≡◌, ℕ, List, Ok, Option}
use Rattle.dq_lits.specs.Formula.{Dqbf, IsWellFormed}
use Rattle.dqdimacs_reader.specs.Grammar.{SpellsFormula}
use Rattle.headline.specs.Sessions.{AnswersSession}
use Rattle.hint_log.specs.Entries.{ProofLog}
use Rattle.script_text.specs.Commands.{ScriptCommand}
use Rattle.script_text.specs.Reading.{read_script}
use Rattle.session_runs.specs.Blocks.{Search, blocks_text}
use Rattle.session_runs.specs.Searches.{AreSearched}
use Rattle.dqsolve_words.specs.Command.{Session}
use Rattle.dqsolve_core.specs.OnePage.{ShowsSession}
use Rattle.dqsolve_core.specs.ToldSessions.{AreAnsweredOf}

-- what the page's law gives
abbrev pub SessionLaw : Type 0
SessionLaw =
    (formula script : List ℕ) (read : Dqbf) (commands : List ScriptCommand) (log : ProofLog) (searches : List Search) →
    SpellsFormula formula read → IsWellFormed read → read_script read script ≡ Ok commands →
    AreSearched read commands log searches → AnswersSession formula script (blocks_text 1 searches)

pub shows_session : SessionLaw → (formula script : List ℕ) (log : ProofLog) (c : Session) (before now : Option (List ℕ))
    (status : ℕ) → AreAnsweredOf formula script log c before now status → ShowsSession formula script before now
shows_session law formula script log c before now status is = record {
  written = blocks_text 1 is.are.searches;
  appended = is.are.written;
  answers = law formula script is.f is.commands log is.are.searches is.spelled is.well_formed is.reading is.are.searched;
}
