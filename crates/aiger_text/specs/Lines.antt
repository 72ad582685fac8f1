-- What a line of a circuit file holds (AIGER 1.9, ASCII form).
use Rattle.std.specs.Prelude.{ℕ, ◌+◌, ◌*◌, ◌/◌, ◌%◌, ◌^◌, ◌==◌, nat_lt, nat_le, Bool, true, false, not, ◌&&◌, ◌||◌, List, [], ◌∷◌, ◌++◌, length, take, drop, slice_index, Option, None, Some, Result, Ok, Err, codes, if◌then◌else◌}
use Rattle.std.specs.Char.{is_ascii_digit}
use Rattle.std.specs.List.{list_any, position_or_len}
use Rattle.std.specs.Option.{option_map, option_and_then, is_none}
use Rattle.std.specs.Str.{bytes_eq}
use Rattle.circuit_plain.specs.Netlist.{Netlist}
use Rattle.circuit_plain.specs.declared.circuits.Gate.{Gate}
use Rattle.dq_text.specs.BlankLine.{is_blank_line}
use Rattle.dq_text.specs.Number.{natural_of}
use Rattle.aiger_text.specs.Symbol.{SymbolTable, name_at}
use Rattle.aiger_text.specs.declared.headers.Header.{Header}
use Rattle.aiger_text.specs.declared.numbers.GateNumbers.{GateNumbers}
use Rattle.aiger_text.specs.declared.faults.AagFault.{AagFault}
use Rattle.aiger_text.specs.declared.faults.AagFault.TheVariants.{BadHeader, NotCombinational, BadLine, TooBig, Range, DefinedTwice, BadSymbol}

-- the natural numbers that these tokens are, if all are
abbrev pub numbers_of : List (List ℕ) → Option (List ℕ)
numbers_of [] = Some []
numbers_of (token ∷ tokens) =
    option_and_then (λ n. option_map (λ ns. n ∷ ns) (numbers_of tokens)) (natural_of token)

abbrev pub max_count : ℕ
max_count = 1000000000

-- latches and the sections behind the gates are left out; the numbers stand as M I L O A, and
-- others behind them
abbrev pub counts_of : List ℕ → Result Header AagFault
counts_of ns =
    if not (slice_index ns 2 == 0) || list_any (λ n. not (n == 0)) (drop 5 ns)
    then Err NotCombinational else
    if nat_lt (slice_index ns 0) (slice_index ns 1 + slice_index ns 4) then Err BadHeader else
    Ok (record {
      max_var = slice_index ns 0;
      inputs = slice_index ns 1;
      outputs = slice_index ns 3;
      gates = slice_index ns 4;
    })

abbrev pub limited_counts_of : List ℕ → Result Header AagFault
limited_counts_of ns = if list_any (λ n. nat_lt max_count n) ns then Err TooBig else counts_of ns

abbrev pub header_numbers : Option (List ℕ) → Result Header AagFault
header_numbers None = Err BadHeader
header_numbers (Some ns) =
    if nat_lt (length ns) 5 || nat_lt 9 (length ns) then Err BadHeader else limited_counts_of ns

-- this word and five to nine natural numbers
abbrev pub header_behind : List ℕ → List (List ℕ) → Result Header AagFault
header_behind first [] = Err BadHeader
header_behind first (word ∷ tokens) =
    if bytes_eq word first then header_numbers (numbers_of tokens) else Err BadHeader

-- the header of the ASCII form begins with `aag`
abbrev pub header_of : List (List ℕ) → Result Header AagFault
header_of tokens = header_behind (codes "aag") tokens

-- the variable is an input or a gate
abbrev pub is_defined : Netlist → ℕ → Bool
is_defined net v = list_any (λ x. x == v) net.inputs || list_any (λ g. g.variable == v) net.gates

-- the positive literal of a variable in range
abbrev pub is_positive : ℕ → ℕ → Bool
is_positive max_var l = (l % 2 == 0) && (nat_le 2 l && nat_le l (2 * max_var))

abbrev pub is_literal : ℕ → ℕ → Bool
is_literal max_var l = nat_le l (2 * max_var + 1)

abbrev pub is_too_big : ℕ → Bool
is_too_big n = nat_le (10 ^ 18) n

abbrev pub with_input : Netlist → ℕ → Netlist
with_input net v = record net { inputs = net.inputs ++ v ∷ [] }

abbrev pub with_output : Netlist → ℕ → Netlist
with_output net l = record net { outputs = net.outputs ++ l ∷ [] }

abbrev pub with_gate : Netlist → Gate → Netlist
with_gate net gate = record net { gates = net.gates ++ gate ∷ [] }

abbrev pub input_of : Netlist → ℕ → Result Netlist AagFault
input_of net l =
    if is_too_big l then Err TooBig else
    if not (is_positive net.max_var l) then Err Range else
    if is_defined net (l / 2) then Err DefinedTwice else
    Ok (with_input net (l / 2))

abbrev pub output_of : Netlist → ℕ → Result Netlist AagFault
output_of net l =
    if is_too_big l then Err TooBig else
    if not (is_literal net.max_var l) then Err Range else
    Ok (with_output net l)

abbrev pub gate_of : Netlist → ℕ → ℕ → ℕ → Result Netlist AagFault
gate_of net lhs left right =
    if is_too_big lhs || (is_too_big left || is_too_big right) then Err TooBig else
    if not (is_positive net.max_var lhs
    && (is_literal net.max_var left && is_literal net.max_var right)) then Err Range else
    if is_defined net (lhs / 2) then Err DefinedTwice else
    Ok (with_gate net (record { variable = lhs / 2; left = left; right = right }))

-- one natural number on the line
abbrev pub one_of : Option (List ℕ) → Result ℕ AagFault
one_of (Some (l ∷ [])) = Ok l
one_of _ = Err BadLine

-- three of them: the literal of a gate's variable, and the two that the gate reads
abbrev pub three_of : Option (List ℕ) → Result GateNumbers AagFault
three_of (Some (lhs ∷ left ∷ right ∷ [])) = Ok (record { lhs = lhs; left = left; right = right })
three_of _ = Err BadLine

abbrev pub input_from : Netlist → Result ℕ AagFault → Result Netlist AagFault
input_from net (Ok l) = input_of net l
input_from net (Err name) = Err name

abbrev pub output_from : Netlist → Result ℕ AagFault → Result Netlist AagFault
output_from net (Ok l) = output_of net l
output_from net (Err name) = Err name

abbrev pub gate_from : Netlist → Result GateNumbers AagFault → Result Netlist AagFault
gate_from net (Ok g) = gate_of net g.lhs g.left g.right
gate_from net (Err name) = Err name

abbrev pub input_line : Netlist → Option (List ℕ) → Result Netlist AagFault
input_line net ns = input_from net (one_of ns)

abbrev pub output_line : Netlist → Option (List ℕ) → Result Netlist AagFault
output_line net ns = output_from net (one_of ns)

abbrev pub gate_line : Netlist → Option (List ℕ) → Result Netlist AagFault
gate_line net ns = gate_from net (three_of ns)

-- a name without the CRs at its end
abbrev pub keep_byte : ℕ → List ℕ → List ℕ
keep_byte byte [] = if byte == 13 then [] else byte ∷ []
keep_byte byte (next ∷ rest) = byte ∷ next ∷ rest

abbrev pub without_end_crs : List ℕ → List ℕ
without_end_crs [] = []
without_end_crs (byte ∷ bytes) = keep_byte byte (without_end_crs bytes)

-- a symbol line: `i` or `o`, a place in digits, a space or a tab, and a name
pub record SymbolLine : Type 0 where
  pub of_input : Bool
  pub place : ℕ
  pub name : List ℕ

abbrev pub if_named : Bool → ℕ → List ℕ → Option SymbolLine
if_named of_input place [] = None
if_named of_input place (byte ∷ bytes) =
    Some (record { of_input = of_input; place = place; name = byte ∷ bytes })

abbrev pub behind_place : Bool → ℕ → List ℕ → Option SymbolLine
behind_place of_input place [] = None
behind_place of_input place (separator ∷ name) =
    if separator == 32 || (separator == 9) then if_named of_input place (without_end_crs name)
    else None

-- where the digits end
abbrev pub digits_end : List ℕ → ℕ
digits_end bytes = position_or_len (λ byte. not (is_ascii_digit byte)) bytes

abbrev pub behind_kind : Bool → List ℕ → Option SymbolLine
behind_kind of_input bytes =
    option_and_then (λ place. behind_place of_input place (drop (digits_end bytes) bytes))
    (natural_of (take (digits_end bytes) bytes))

abbrev pub symbol_of : List ℕ → Option SymbolLine
symbol_of [] = None
symbol_of (kind ∷ bytes) =
    if kind == 105 then behind_kind true bytes else if kind == 111 then behind_kind false bytes
    else None

-- a place of an input or an output that has no symbol yet
abbrev pub add_symbol : Header → SymbolTable → SymbolLine → Result SymbolTable AagFault
add_symbol header table s =
    if s.of_input
    then (if nat_lt s.place header.inputs && is_none (name_at table.inputs s.place)
    then Ok (record table { inputs = table.inputs ++ (s.place, s.name) ∷ [] }) else Err BadSymbol)
    else (if nat_lt s.place header.outputs && is_none (name_at table.outputs s.place)
    then Ok (record table { outputs = table.outputs ++ (s.place, s.name) ∷ [] }) else Err BadSymbol)

abbrev pub symbol_line : Header → SymbolTable → Option SymbolLine → Result SymbolTable AagFault
symbol_line header table None = Err BadSymbol
symbol_line header table (Some s) = add_symbol header table s

-- `c`, and blanks behind it
abbrev pub begins_comment : List ℕ → Bool
begins_comment [] = false
begins_comment (byte ∷ bytes) = (byte == 99) && is_blank_line bytes
