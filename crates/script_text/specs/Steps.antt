-- Words of private contracts. No public contract cites them.
use Rattle.std.specs.Prelude.{◌≡◌, ℕ, ◌≤◌, length, Result, Ok, Err}
use Rattle.script_text.specs.Reading.{ScriptState, Refusal}
use Rattle.script_text.specs.declared.faults.LineStop.{LineStop}
use Rattle.script_text.specs.declared.faults.LineStop.TheVariants.{Fault, Memory as LineMemory}
use Rattle.script_text.specs.declared.faults.ScriptFault.{ScriptFault}
use Rattle.script_text.specs.declared.faults.ScriptStop.{ScriptStop}
use Rattle.script_text.specs.declared.faults.ScriptStop.TheVariants.{Refused, Memory}
use Rattle.script_text.specs.declared.reader.ScriptReader.{ScriptReader}

-- a line's stop as one of the reading
abbrev pub StopsAt : ℕ → LineStop → ScriptStop → Type 0
StopsAt line (Fault name) stop = stop ≡ Refused line name
StopsAt line LineMemory stop = stop ≡ Memory

-- what is left in `made` is what was to be made, or there is its fault, or want of memory
abbrev pub IsMade : {T : Type 0} → Result T ScriptFault → Result (Unit {0}) LineStop → T → Type 0
IsMade wanted (Ok _) made = wanted ≡ Ok made
IsMade wanted (Err (Fault name)) made = wanted ≡ Err name
IsMade wanted (Err LineMemory) made = Unit {0}

-- nothing stands behind, or its fault
abbrev pub IsEnd : {T : Type 0} → T → Result T ScriptFault → Result (Unit {0}) ScriptFault → Type 0
IsEnd made wanted (Ok _) = wanted ≡ Ok made
IsEnd made wanted (Err name) = wanted ≡ Err name

abbrev pub state_of : ScriptReader → ScriptState
state_of r = record { commands = r.script; depth = r.depth; clauses = r.clauses }

-- there are no more open frames than commands
abbrev pub IsCounted : ScriptReader → Type 0
IsCounted r = r.depth ≤ length r.script

-- what lines give, or want of memory
abbrev pub IsStateReading : Result ScriptState Refusal → Result ScriptReader ScriptStop → Type 0
IsStateReading lines (Ok read) = lines ≡ Ok (state_of read)
IsStateReading lines (Err (Refused line name)) = lines ≡ Err (record { line = line; name = name })
IsStateReading lines (Err Memory) = Unit {0}
