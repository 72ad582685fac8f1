-- Learned clauses were added to a log, and nothing else.
use Rattle.hint_log.specs.Entries.{ProofLog}
use Rattle.hint_log.specs.Growth.{Grew}
use Rattle.oracle.specs.Calls.{IsLearnedEntry}

abbrev pub HasLearned : ProofLog → ProofLog → Type 0
HasLearned old new = Grew IsLearnedEntry old new
