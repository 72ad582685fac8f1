-- What a run that asks for the definitions of a formula comes to, and how it is written.
use Rattle.std.specs.Prelude.{◌≡◌, ℕ, List, ◌++◌, codes}
use Rattle.std.specs.Fmt.{decimal}
use Rattle.dq_lits.specs.Formula.{Dqbf}
use Rattle.dq_formula.specs.Prefix.{existential_variables}
use Rattle.cert_text.specs.CanonicalDefinitions.{definitions_text}
use Rattle.cert_text.specs.DefinitionBlocks.{DefinitionBlock}
use Rattle.dq_runs.specs.Printed.{Printed, printed, line}
use Rattle.dq_runs.specs.declared.outputs.Output.{Output}
use Rattle.hint_log.specs.Deciding.{IsUndecided}
use Rattle.hint_log.specs.Entries.{ProofLog, rounds_of, steps_of}
use Rattle.oracle.specs.Limits.{IsAtSomeLimit}
use Rattle.definition_search.specs.Texts.{AreRightBlocks}

pub data Definitions : Type 0 where
  -- a block for each existential
  written : List DefinitionBlock → Definitions
  -- the step limit came first, after so many learned clauses
  cut_off : ℕ → Definitions

-- a text of definitions with status 30; else the verdict UNKNOWN, after no round, with status 0
abbrev pub printed_definitions : Dqbf → Definitions → Printed
printed_definitions f (written blocks) = record { status = 30; text = definitions_text f blocks }
printed_definitions f (cut_off learned) = record {
  status = 0;
  text =
      line (codes "s UNKNOWN") ++ line (codes "c rounds 0 learned " ++ decimal learned);
}

-- every step was a learned clause, none is left while one could be taken, and nothing decides
pub record IsOutOfSteps (f : Dqbf) (log : ProofLog) (learned : ℕ) : Type 0 where
  pub steps : learned ≡ steps_of log.entries
  pub rounds : rounds_of log.entries ≡ 0
  pub limit : IsAtSomeLimit log
  pub undecided : IsUndecided f log.entries

-- no block is at fault, or the limit came first
abbrev pub AreDefinitions : Dqbf → ProofLog → Definitions → Type 0
AreDefinitions f log (written blocks) = AreRightBlocks f (existential_variables f) blocks
AreDefinitions f log (cut_off learned) = IsOutOfSteps f log learned

-- the output of what was found
pub record IsDefinitionsOutput (f : Dqbf) (log : ProofLog) (output : Output) : Type 0 where
  pub found : Definitions
  pub is : AreDefinitions f log found
  pub is_printed : printed output ≡ printed_definitions f found
