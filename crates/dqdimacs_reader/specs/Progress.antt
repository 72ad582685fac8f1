-- How far a reader of a text in pieces is, and what it may still answer.
use Rattle.std.specs.Prelude.{◌≡◌, ℕ, Bool, true, false, List, [], ◌∷◌, Option, None, Some, Result, Err, IfNone}
use Rattle.dq_lits.specs.Formula.{Dqbf}
use Rattle.dq_text.specs.Pieces.{SummarizedToken}
use Rattle.dqdimacs_reader.specs.Lexeme.{summary_lexeme}
use Rattle.dqdimacs_reader.specs.Machine.{State, TextFault, check, advance, at_end, on_line, unless_fault}
use Rattle.dqdimacs_reader.specs.MachineState.{state_of, IsReaderState}
use Rattle.dqdimacs_reader.specs.Reading.{IsReading}
use Rattle.dqdimacs_reader.specs.declared.faults.ReadStop.{ReadStop}
use Rattle.dqdimacs_reader.specs.declared.faults.ReadStop.TheVariants.{Refused, Memory}
use Rattle.dqdimacs_reader.specs.declared.lexemes.Lexeme.{Lexeme}
use Rattle.dqdimacs_reader.specs.declared.token_reader.TokenReader.TheInside.{Inside}

-- the formula, or the first fault, of tokens of which summaries are known
abbrev pub read_summaries : State → List SummarizedToken → ℕ → Result Dqbf TextFault
read_summaries state [] last_line = on_line last_line (at_end state)
read_summaries state (token ∷ tokens) last_line =
    unless_fault (check state (summary_lexeme token.summary)) token.line
    (read_summaries (advance state (summary_lexeme token.summary)) tokens last_line)

pub data Progress : Type 0 where
  goes_on : State → Progress
  has_stopped : ReadStop → Progress

abbrev pub progress_at : Option ReadStop → State → Progress
progress_at None state = goes_on state
progress_at (Some stop) state = has_stopped stop

abbrev pub progress_of : Inside → Progress
progress_of t = progress_at t.stopped (state_of t.machine)

-- the machine is ready for the next token
abbrev pub CanGoOn : Inside → Type 0
CanGoOn t = IfNone t.stopped (IsReaderState t.machine)

abbrev pub has_ended : Progress → Bool
has_ended (goes_on _) = false
has_ended (has_stopped _) = true

-- a token's line and lexeme lead from a state here, or memory was wanting
abbrev pub goes_to : State → Lexeme → ℕ → Progress → Type 0
goes_to state lexeme line (goes_on next) =
    (check state lexeme ≡ None) × (next ≡ advance state lexeme)
goes_to state lexeme line (has_stopped (Refused number name)) =
    (check state lexeme ≡ Some name) × (number ≡ line)
goes_to state lexeme line (has_stopped Memory) = Unit {0}

-- the answer where these tokens and this last line are to come
abbrev pub may_answer : Progress → List SummarizedToken → ℕ → Result Dqbf ReadStop → Type 0
may_answer (goes_on state) tokens last_line answer =
    IsReading (read_summaries state tokens last_line) answer
may_answer (has_stopped stop) tokens last_line answer = answer ≡ Err stop
