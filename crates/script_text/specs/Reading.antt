-- How a text is a script for a formula: a command a line, lines of blanks apart. Where it isn't,
-- there is a first refusal, by line and name.
use Rattle.std.specs.Prelude.{◌≡◌, ℕ, ◌+◌, ◌-◌, ◌==◌, nat_lt, ℤ, nat_abs, List, [], ◌∷◌, ◌++◌, length, Option, None, Some, Result, Ok, Err, codes, if◌then◌else◌}
use Rattle.std.specs.Str.{bytes_eq}
use Rattle.dq_lits.specs.Literal.{Literal, dimacs_literal}
use Rattle.dq_lits.specs.Formula.{Dqbf}
use Rattle.dq_formula.specs.Prefix.{is_declared}
use Rattle.dq_text.specs.BlankLine.{has_no_token}
use Rattle.dq_text.specs.Line.{TextLine, line_tokens, lines_from}
use Rattle.dq_text.specs.Number.{number_of}
use Rattle.dq_text.specs.declared.numbers.Number.{Number}
use Rattle.dq_text.specs.declared.numbers.Number.TheVariants.{Int, NotANumber, TooBig as TooBigNumber}
use Rattle.dqdimacs_reader.specs.Building.{add_literal}
use Rattle.script_text.specs.Commands.{ScriptCommand, push, add, pop, solve}
use Rattle.script_text.specs.declared.commands.Keyword.{Keyword}
use Rattle.script_text.specs.declared.commands.Keyword.TheVariants.{Push, Add, Pop, Solve}
use Rattle.script_text.specs.declared.faults.ScriptFault.{ScriptFault}
use Rattle.script_text.specs.declared.faults.ScriptFault.TheVariants.{BadCommand, NoFrame, BadNumber, TooBig, VarRange, Undeclared, MissingZero, Limit}
use Rattle.script_text.specs.declared.faults.ScriptStop.{ScriptStop}
use Rattle.script_text.specs.declared.faults.ScriptStop.TheVariants.{Refused, Memory}

-- a refusal by its line and name
pub record Refusal : Type 0 where
  pub line : ℕ
  pub name : ScriptFault

-- the clauses of a formula and of a script that adds to it
abbrev pub max_clauses : ℕ
max_clauses = 10000000

-- a word of a clause: a literal, or the 0 that ends it
abbrev pub checked_literal : Dqbf → ℤ → Result (Option Literal) ScriptFault
checked_literal f n =
    if nat_abs n == 0 then Ok None else
    if nat_lt f.variables (nat_abs n) then Err VarRange else
    if is_declared f (nat_abs n) then Ok (Some (dimacs_literal n)) else Err Undeclared

abbrev pub clause_word : Dqbf → Number → Result (Option Literal) ScriptFault
clause_word f NotANumber = Err BadNumber
clause_word f TooBigNumber = Err TooBig
clause_word f (Int n) = checked_literal f n

abbrev pub and_then : {A B E : Type 0} → Result A E → (A → Result B E) → Result B E
and_then (Ok value) next = next value
and_then (Err name) next = Err name

-- words behind the 0: the first that is at fault, else that they are there
abbrev pub behind_zero : Dqbf → List (List ℕ) → Result (List Literal) ScriptFault
behind_zero f [] = Err MissingZero
behind_zero f (token ∷ tokens) =
    and_then (clause_word f (number_of token)) (λ word. behind_zero f tokens)

abbrev pub at_zero : Dqbf → List Literal → List (List ℕ) → Result (List Literal) ScriptFault
at_zero f literals [] = Ok literals
at_zero f literals (token ∷ tokens) = behind_zero f (token ∷ tokens)

-- what comes of a word: of the 0, or of a literal
abbrev pub by_word : {A : Type 0} → Option Literal → A → (Literal → A) → A
by_word None zero behind = zero
by_word (Some l) zero behind = behind l

-- a clause behind these distinct literals: those that come, in order of first occurrence, up to the
-- 0 at its end
abbrev pub clause_from : Dqbf → List Literal → List (List ℕ) → Result (List Literal) ScriptFault
clause_from f literals [] = Err MissingZero
clause_from f literals (token ∷ tokens) =
    and_then (clause_word f (number_of token)) (λ word. by_word word (at_zero f literals tokens)
    (λ l. clause_from f (add_literal literals l) tokens))

-- the commands so far, how many frames are open, and how many clauses the formula and they have
pub record ScriptState : Type 0 where
  pub commands : List ScriptCommand
  pub depth : ℕ
  pub clauses : ℕ

abbrev pub start : Dqbf → ScriptState
start f = record { commands = []; depth = 0; clauses = length f.matrix }

-- the state behind one more command
abbrev pub depth_behind : ℕ → ScriptCommand → ℕ
depth_behind depth push = depth + 1
depth_behind depth (add clause) = depth
depth_behind depth pop = depth - 1
depth_behind depth solve = depth

abbrev pub clauses_behind : ℕ → ScriptCommand → ℕ
clauses_behind clauses push = clauses
clauses_behind clauses (add clause) = clauses + 1
clauses_behind clauses pop = clauses
clauses_behind clauses solve = clauses

abbrev pub with_command : ScriptState → ScriptCommand → ScriptState
with_command s command =
    record {
      commands = s.commands ++ command ∷ [];
      depth = depth_behind s.depth command;
      clauses = clauses_behind s.clauses command;
    }

abbrev pub keyword : List ℕ → Option Keyword
keyword word =
    if bytes_eq word (codes "push") then Some Push else
    if bytes_eq word (codes "add") then Some Add else
    if bytes_eq word (codes "pop") then Some Pop else
    if bytes_eq word (codes "solve") then Some Solve else None

-- no word may stand behind the command
abbrev pub alone : List (List ℕ) → Result ScriptCommand ScriptFault
    → Result ScriptCommand ScriptFault
alone tokens command = if has_no_token tokens then command else Err BadCommand

-- a frame has to be open
abbrev pub in_frame : ℕ → Result ScriptCommand ScriptFault → Result ScriptCommand ScriptFault
in_frame depth command = if depth == 0 then Err NoFrame else command

-- one clause more has to be allowed
abbrev pub in_limit : ℕ → List Literal → Result ScriptCommand ScriptFault
in_limit clauses clause = if nat_lt clauses max_clauses then Ok (add clause) else Err Limit

-- the command of a line's words
abbrev pub command_of : Dqbf → ScriptState → Option Keyword → List (List ℕ)
    → Result ScriptCommand ScriptFault
command_of f s None tokens = Err BadCommand
command_of f s (Some Push) tokens = alone tokens (Ok push)
command_of f s (Some Add) tokens =
    in_frame s.depth (and_then (clause_from f [] tokens) (in_limit s.clauses))
command_of f s (Some Pop) tokens = alone tokens (in_frame s.depth (Ok pop))
command_of f s (Some Solve) tokens = alone tokens (Ok solve)

abbrev pub behind : ScriptState → Result ScriptCommand ScriptFault → Result ScriptState ScriptFault
behind s command = and_then command (λ it. Ok (with_command s it))

abbrev pub behind_line : Dqbf → ScriptState → List (List ℕ) → Result ScriptState ScriptFault
behind_line f s [] = Ok s
behind_line f s (word ∷ tokens) = behind s (command_of f s (keyword word) tokens)

abbrev pub on_line : {A : Type 0} → ℕ → Result A ScriptFault → Result A Refusal
on_line line (Ok value) = Ok value
on_line line (Err name) = Err (record { line = line; name = name })

abbrev pub read_lines : Dqbf → ScriptState → List TextLine → Result ScriptState Refusal
read_lines f s [] = Ok s
read_lines f s (line ∷ lines) =
    and_then (on_line line.number (behind_line f s (line_tokens line.text)))
    (λ behind. read_lines f behind lines)

-- the commands of a text, or its first refusal
abbrev pub read_script : Dqbf → List ℕ → Result (List ScriptCommand) Refusal
read_script f text = and_then (read_lines f (start f) (lines_from 1 text)) (λ s. Ok s.commands)

-- what the reading answers
abbrev pub IsScriptReading : Result (List ScriptCommand) Refusal
    → Result (List ScriptCommand) ScriptStop → Type 0
IsScriptReading commands (Ok read) = commands ≡ Ok read
IsScriptReading commands (Err (Refused line name)) =
    commands ≡ Err (record { line = line; name = name })
IsScriptReading commands (Err Memory) = Unit {0}
