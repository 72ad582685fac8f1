use Rattle.std.proofs.Common.{ℕ, List, Result, Ok, Err}
use Rattle.std.specs.Result.{IfOk}
use Rattle.dq_lits.specs.Formula.{Dqbf, HasLawfulPrefix, IsWellFormed}
use Rattle.dqdimacs_reader.specs.Grammar.{SpellsFormula}
use Rattle.dqdimacs_reader.specs.Machine.{reading}
use Rattle.dqdimacs_reader.specs.Reading.{IsReading, HasDistinctClauses}
use Rattle.dqdimacs_reader.specs.declared.faults.ReadStop.{ReadStop}
use Rattle.dqdimacs_reader.proofs.ReadIsSpelled.{read_is_spelled}
use Rattle.dqdimacs_reader.proofs.SpelledClauses.{spelled_is_bound, spelled_is_distinct}
use Rattle.dqdimacs_reader.proofs.reader.Reader.end.Goals as goal

is_well_formed : (text : List ℕ) (r : Result Dqbf ReadStop) → IsReading (reading text) r → IfOk r HasLawfulPrefix →
    IfOk r IsWellFormed
is_well_formed text (Ok f) read lawful = record {
  prefix = lawful;
  bound =
      spelled_is_bound text f (read_is_spelled text f read);
}
is_well_formed text (Err stop) read lawful = tt

is_distinct : (text : List ℕ) (r : Result Dqbf ReadStop) → IsReading (reading text) r → IfOk r HasDistinctClauses
is_distinct text (Ok f) read = spelled_is_distinct text f (read_is_spelled text f read)
is_distinct text (Err stop) read = tt

is_spelled : (text : List ℕ) (r : Result Dqbf ReadStop) → IsReading (reading text) r → IfOk r (SpellsFormula text)
is_spelled text (Ok f) read = read_is_spelled text f read
is_spelled text (Err stop) read = tt

pub returns-clause-spelled : goal.returns-clause-spelled
returns-clause-spelled c text stands = is_spelled text c.finish.result (c.finish.ensures.exact text stands)

pub returns-clause-well_formed : goal.returns-clause-well_formed
returns-clause-well_formed c text stands = is_well_formed text c.finish.result
    (c.finish.ensures.exact text stands) c.finish.ensures.lawful

pub returns-clause-distinct : goal.returns-clause-distinct
returns-clause-distinct c text stands = is_distinct text c.finish.result (c.finish.ensures.exact text stands)
