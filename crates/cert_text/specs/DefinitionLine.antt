-- The lines of a text of definitions, in this project's own format: its header, the first line of a
-- block, the line of a gate, and signs behind a letter. Literals are those of AIGER.
use Rattle.std.specs.Prelude.{ℕ, ◌+◌, ◌*◌, ◌^◌, ◌==◌, nat_lt, nat_le, Bool, not, ◌&&◌, ◌||◌, List, [], ◌∷◌, length, Option, None, Some, Result, Ok, Err, codes, if◌then◌else◌}
use Rattle.std.specs.Str.{bytes_eq}
use Rattle.dq_lits.specs.Formula.{Dqbf}
use Rattle.dq_text.specs.Number.{natural_of}
use Rattle.circuit_plain.specs.declared.circuits.Gate.{Gate}
use Rattle.cert_text.specs.AllowedDefinitions.{is_output, is_readable}
use Rattle.cert_text.specs.Header.{max_count}
use Rattle.cert_text.specs.LineStop.{and_then}
use Rattle.cert_text.specs.Lines.{Format}
use Rattle.cert_text.specs.Numbers.{line_integers}
use Rattle.cert_text.specs.RowLine.{row_of}
use Rattle.cert_text.specs.declared.definition_lines.BlockHead.{BlockHead}
use Rattle.cert_text.specs.declared.definition_lines.BlockHead.TheVariants.{Defined, Free}
use Rattle.cert_text.specs.declared.definition_lines.DefinedHead.{DefinedHead}
use Rattle.cert_text.specs.declared.faults.CertFault.{CertFault}
use Rattle.cert_text.specs.declared.faults.CertFault.TheVariants.{BadHeader, BadLine, TooBig, BlockOrder, BadGate}

abbrev pub counted : Dqbf → Option ℕ → Result (Unit {0}) CertFault
counted f None = Err BadHeader
counted f (Some count) =
    if nat_lt max_count count then Err TooBig else
    if not (count == length f.existentials) then Err BadHeader else Ok tt

-- `p`, `dqd`, and how many existentials the formula has
abbrev pub definitions_header : Dqbf → List (List ℕ) → Result (Unit {0}) CertFault
definitions_header f (letter ∷ word ∷ count ∷ []) =
    if bytes_eq letter (codes "p") && bytes_eq word (codes "dqd") then counted f (natural_of count)
    else Err BadHeader
definitions_header f _ = Err BadHeader

-- numbers of 10^18 or more
abbrev pub is_large : ℕ → Bool
is_large n = nat_le (10 ^ 18) n

abbrev pub checked_head : Dqbf → ℕ → ℕ → DefinedHead → Result BlockHead CertFault
checked_head f next y head =
    if is_large y || (is_large head.output || (is_large head.gates || is_large head.steps))
    then Err TooBig else
    if not (y == next) then Err BlockOrder else
    if nat_lt max_count head.gates || nat_lt max_count head.steps then Err TooBig else
    if not (is_output f head.gates head.output) then Err BadGate else
    Ok (Defined head)

abbrev pub head_of : Dqbf → ℕ → Option ℕ → Option ℕ → Option ℕ → Option ℕ
    → Result BlockHead CertFault
head_of f next None _ _ _ = Err BadLine
head_of f next (Some _) None _ _ = Err BadLine
head_of f next (Some _) (Some _) None _ = Err BadLine
head_of f next (Some _) (Some _) (Some _) None = Err BadLine
head_of f next (Some y) (Some output) (Some gates) (Some steps) =
    checked_head f next y (record { output = output; gates = gates; steps = steps })

-- the existential, the output's literal, and how many gates and steps there are
abbrev pub defined_head : Dqbf → ℕ → List (List ℕ) → Result BlockHead CertFault
defined_head f next (y ∷ output ∷ gates ∷ steps ∷ []) =
    head_of f next (natural_of y) (natural_of output) (natural_of gates) (natural_of steps)
defined_head f next _ = Err BadLine

abbrev pub free_of : ℕ → Option ℕ → Result BlockHead CertFault
free_of next None = Err BadLine
free_of next (Some y) =
    if is_large y then Err TooBig else if not (y == next) then Err BlockOrder else Ok Free

-- the existential
abbrev pub free_head : ℕ → List (List ℕ) → Result BlockHead CertFault
free_head next (y ∷ []) = free_of next (natural_of y)
free_head next _ = Err BadLine

-- the first line of the block of the existential `next`: `t` and the numbers of its definition, or
-- `f` where it has none
abbrev pub head_line : Dqbf → ℕ → List (List ℕ) → Result BlockHead CertFault
head_line f next [] = Err BadLine
head_line f next (letter ∷ tokens) =
    if bytes_eq letter (codes "t") then defined_head f next tokens else
    if bytes_eq letter (codes "f") then free_head next tokens else Err BadLine

abbrev pub checked_gate : Dqbf → ℕ → ℕ → Gate → Result Gate CertFault
checked_gate f lhs_wanted lhs gate =
    if is_large lhs || (is_large gate.left || is_large gate.right) then Err TooBig else
    if not (lhs == lhs_wanted) then Err BadGate else
    if not (nat_lt gate.left lhs && nat_lt gate.right lhs) then Err BadGate else
    if not (is_readable f gate.left && is_readable f gate.right) then Err BadGate else
    Ok gate

abbrev pub gate_of : Dqbf → ℕ → Option ℕ → Option ℕ → Option ℕ → Result Gate CertFault
gate_of f variable None _ _ = Err BadLine
gate_of f variable (Some _) None _ = Err BadLine
gate_of f variable (Some _) (Some _) None = Err BadLine
gate_of f variable (Some lhs) (Some left) (Some right) =
    checked_gate f (2 * variable) lhs
    (record { variable = variable; left = left; right = right })

-- the literal of the gate's variable, which is this one, and two literals before it
abbrev pub definition_gate : Dqbf → ℕ → List (List ℕ) → Result Gate CertFault
definition_gate f variable (lhs ∷ left ∷ right ∷ []) =
    gate_of f variable (natural_of lhs) (natural_of left) (natural_of right)
definition_gate f variable _ = Err BadLine

-- gates with one variable behind the other
abbrev pub definition_gates : Dqbf → Format ℕ Gate
definition_gates f = record { line = definition_gate f; behind = λ variable _. variable + 1 }

-- a letter, each of these variables with its sign, and 0
abbrev pub signs_line : List ℕ → List ℕ → List (List ℕ) → Result (List Bool) CertFault
signs_line word variables [] = Err BadLine
signs_line word variables (letter ∷ tokens) =
    if bytes_eq letter word then and_then (row_of variables) (line_integers tokens) else Err BadLine
