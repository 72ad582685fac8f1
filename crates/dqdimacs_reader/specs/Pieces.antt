-- Which text a reader stands for.
use Rattle.std.specs.Prelude.{ℕ, ◌++◌, List, Result}
use Rattle.dq_lits.specs.Formula.{Dqbf}
use Rattle.dq_text.specs.Pieces.{tokens_to_come, last_line_to_come}
use Rattle.dqdimacs_reader.specs.Machine.{reading}
use Rattle.dqdimacs_reader.specs.Progress.{may_answer}
use Rattle.dqdimacs_reader.specs.Reading.{IsReading}
use Rattle.dqdimacs_reader.specs.declared.faults.ReadStop.{ReadStop}
use Rattle.dqdimacs_reader.specs.declared.reader.Reader.{Reader}

-- the text is what was fed: whatever bytes come behind it, what the reader then may answer is right
-- for the whole
abbrev pub StandsFor : Reader → List ℕ → Type 0
StandsFor r text = (bytes : List ℕ) (answer : Result Dqbf ReadStop)
    → may_answer r.tokens (tokens_to_come r.pieces bytes) (last_line_to_come r.pieces bytes) answer
    → IsReading (reading (text ++ bytes)) answer
