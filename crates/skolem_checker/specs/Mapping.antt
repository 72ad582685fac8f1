-- Which input of a circuit stands for which universal, and which output for which existential: by
-- symbols that are the variables' numbers (DQDIMACS), or in the order of declaration where there is
-- no symbol (AIGER).
use Rattle.std.specs.Prelude.{ℕ, zero, suc, ◌+◌, ◌<◌, ◌==◌, pos, negsuc, Bool, not, ◌||◌, List, [], ◌∷◌, ◌++◌, length, Option, None, Some, is_some, Result, Ok, Err, if◌then◌else◌}
use Rattle.std.specs.List.{list_any, range_with_len}
use Rattle.dq_lits.specs.Formula.{Dqbf}
use Rattle.dq_formula.specs.Prefix.{existential_variables}
use Rattle.dq_text.specs.Number.{number_of}
use Rattle.dq_text.specs.declared.numbers.Number.{Number}
use Rattle.dq_text.specs.declared.numbers.Number.TheVariants.{Int, NotANumber, TooBig}
use Rattle.circuit_plain.specs.Netlist.{Netlist}
use Rattle.aiger_text.specs.Symbol.{SymbolTable, name_at}
use Rattle.skolem_checker.specs.declared.mapping.MapName.{MapName}
use Rattle.skolem_checker.specs.declared.mapping.MapName.TheVariants.{InputCount, OutputCount, SymbolMissing, SymbolNumber, SymbolTwice}
use Rattle.skolem_checker.specs.declared.mapping.MapPlace.{MapPlace}
use Rattle.skolem_checker.specs.declared.mapping.MapPlace.TheVariants.{Whole, Input, Output}
use Rattle.skolem_checker.specs.declared.mapping.MapError.{MapError}
use Rattle.skolem_checker.specs.declared.mapping.Kind.{Kind}
use Rattle.skolem_checker.specs.declared.mapping.Kind.TheVariants.{Inputs, Outputs}

-- by place: the universal of each input, and the existential of each output
pub record Mapping : Type 0 where
  pub inputs : List ℕ
  pub outputs : List ℕ

abbrev pub natural : Number → Option ℕ
natural (Int (pos n)) = Some n
natural (Int (negsuc n)) = None
natural NotANumber = None
natural TooBig = None

-- what inputs, and what outputs, stand for
abbrev pub variables_of : Dqbf → Kind → List ℕ
variables_of f Inputs = f.universals
variables_of f Outputs = existential_variables f

abbrev pub declares : Dqbf → Kind → ℕ → Bool
declares f kind v = list_any (λ u. u == v) (variables_of f kind)

abbrev pub symbol_at : SymbolTable → Kind → ℕ → Option (List ℕ)
symbol_at symbols Inputs place = name_at symbols.inputs place
symbol_at symbols Outputs place = name_at symbols.outputs place

abbrev pub place_of : Kind → ℕ → MapPlace
place_of Inputs place = Input place
place_of Outputs place = Output place

-- a declared variable that no earlier symbol names
abbrev pub new_variable : Dqbf → Kind → List ℕ → Option ℕ → Result ℕ MapName
new_variable f kind earlier None = Err SymbolNumber
new_variable f kind earlier (Some v) =
    if not (declares f kind v) then Err SymbolNumber else
    if list_any (λ w. w == v) earlier then Err SymbolTwice else
    Ok v

-- the variable that a symbol names
abbrev pub symbol_variable : Dqbf → Kind → List ℕ → Option (List ℕ) → Result ℕ MapName
symbol_variable f kind earlier None = Err SymbolMissing
symbol_variable f kind earlier (Some name) = new_variable f kind earlier (natural (number_of name))

abbrev pub behind_symbol : Kind → ℕ → Result ℕ MapName → (ℕ → Result (List ℕ) MapError)
    → Result (List ℕ) MapError
behind_symbol kind place (Ok v) next = next v
behind_symbol kind place (Err name) next = Err (record { name = name; at = place_of kind place })

-- the variables that the symbols of so many places name from a place on, behind the earlier ones;
-- or the first fault
abbrev pub named_from : Dqbf → Kind → SymbolTable → ℕ → ℕ → List ℕ → Result (List ℕ) MapError
named_from f kind symbols zero place earlier = Ok earlier
named_from f kind symbols (suc count) place earlier =
    behind_symbol kind place (symbol_variable f kind earlier (symbol_at symbols kind place))
    (λ v. named_from f kind symbols count (place + 1) (earlier ++ v ∷ []))

-- one of so many places has a symbol
abbrev pub has_symbol : SymbolTable → Kind → ℕ → Bool
has_symbol symbols kind count =
    list_any (λ place. is_some (symbol_at symbols kind place)) (range_with_len 0 count)

abbrev pub with_outputs : List ℕ → Result (List ℕ) MapError → Result Mapping MapError
with_outputs inputs (Ok outputs) = Ok (record { inputs = inputs; outputs = outputs })
with_outputs inputs (Err fault) = Err fault

abbrev pub behind_inputs : Result (List ℕ) MapError → Result (List ℕ) MapError
    → Result Mapping MapError
behind_inputs (Ok inputs) outputs = with_outputs inputs outputs
behind_inputs (Err fault) outputs = Err fault

abbrev pub mapping_by_symbols : Dqbf → SymbolTable → Result Mapping MapError
mapping_by_symbols f symbols =
    behind_inputs (named_from f Inputs symbols (length f.universals) 0 [])
    (named_from f Outputs symbols (length f.existentials) 0 [])

abbrev pub mapping_in_order : Dqbf → Mapping
mapping_in_order f = record { inputs = f.universals; outputs = existential_variables f }

-- the mapping, or its first fault: the counts, then each input, then each output
abbrev pub mapping_of : Dqbf → Netlist → SymbolTable → Result Mapping MapError
mapping_of f net symbols =
    if not (length net.inputs == length f.universals)
    then Err (record { name = InputCount; at = Whole }) else
    if not (length net.outputs == length f.existentials)
    then Err (record { name = OutputCount; at = Whole }) else
    if has_symbol symbols Inputs (length net.inputs)
    || has_symbol symbols Outputs (length net.outputs)
    then mapping_by_symbols f symbols
    else Ok (mapping_in_order f)

-- the fault is at the header, at an input or at an output
abbrev pub IsAtPlace : Netlist → MapPlace → Type 0
IsAtPlace net Whole = Unit {0}
IsAtPlace net (Input place) = place < length net.inputs
IsAtPlace net (Output place) = place < length net.outputs
