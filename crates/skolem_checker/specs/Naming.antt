-- What the symbols of a circuit say, in the words of their format and whatever the order in which
-- they are read: a symbol is the number of a variable (AIGER's symbol table, with the numbers of
-- DQDIMACS).
use Rattle.std.specs.Prelude.{◌≡◌, ◌≢◌, ℕ, ◌<◌, pos, Bool, true, false, ◌||◌, List, length, slice_index, IsSome, Some, None, AllPairs, Contains}
use Rattle.dq_lits.specs.Formula.{Dqbf}
use Rattle.dq_text.specs.Number.{number_of}
use Rattle.dq_text.specs.declared.numbers.Number.TheVariants.{Int}
use Rattle.circuit_plain.specs.Netlist.{Netlist}
use Rattle.aiger_text.specs.Symbol.{SymbolTable}
use Rattle.skolem_checker.specs.Mapping.{Mapping, variables_of, symbol_at, has_symbol, mapping_in_order}
use Rattle.skolem_checker.specs.declared.mapping.MapName.{MapName}
use Rattle.skolem_checker.specs.declared.mapping.MapName.TheVariants.{InputCount, OutputCount, SymbolMissing, SymbolNumber, SymbolTwice}
use Rattle.skolem_checker.specs.declared.mapping.MapPlace.{MapPlace}
use Rattle.skolem_checker.specs.declared.mapping.MapPlace.TheVariants.{Whole, Input, Output}
use Rattle.skolem_checker.specs.declared.mapping.Kind.{Kind}
use Rattle.skolem_checker.specs.declared.mapping.Kind.TheVariants.{Inputs, Outputs}

-- the symbol at a place is the number of this variable, which is a universal at an input and an
-- existential at an output
pub record Names (f : Dqbf) (symbols : SymbolTable) (kind : Kind) (place v : ℕ) : Type 0 where
  pub name : List ℕ
  pub symbol : symbol_at symbols kind place ≡ Some name
  pub number : number_of name ≡ Int (pos v)
  pub declared : Contains (variables_of f kind) v

-- the first places name these variables, no two the same
pub record AreNamed (f : Dqbf) (symbols : SymbolTable) (kind : Kind)
    (variables : List ℕ) : Type 0 where
  pub named : (p : ℕ) → p < length variables → Names f symbols kind p (slice_index variables p)
  pub distinct : AllPairs (λ v w. v ≢ w) variables

-- some input or output has a symbol
abbrev pub has_symbols : Netlist → SymbolTable → Bool
has_symbols net symbols =
    has_symbol symbols Inputs (length net.inputs) || has_symbol symbols Outputs (length net.outputs)

-- an input for each universal, and an output for each existential
pub record DoCountsFit (f : Dqbf) (net : Netlist) : Type 0 where
  pub inputs : length net.inputs ≡ length f.universals
  pub outputs : length net.outputs ≡ length f.existentials

-- where there is a symbol, each place has one and they name the variables; else these stand in the
-- order of declaration
abbrev pub IsToldBySymbols : Bool → Dqbf → SymbolTable → Mapping → Type 0
IsToldBySymbols true f symbols mapping =
    AreNamed f symbols Inputs mapping.inputs × AreNamed f symbols Outputs mapping.outputs
IsToldBySymbols false f symbols mapping = mapping ≡ mapping_in_order f

pub record IsToldMapping (f : Dqbf) (net : Netlist) (symbols : SymbolTable)
    (mapping : Mapping) : Type 0 where
  pub counts : DoCountsFit f net
  pub inputs_length : length mapping.inputs ≡ length f.universals
  pub outputs_length : length mapping.outputs ≡ length f.existentials
  pub told : IsToldBySymbols (has_symbols net symbols) f symbols mapping

-- what is wrong at a place, where the earlier places name variables
abbrev pub IsSymbolFault : MapName → Dqbf → SymbolTable → Kind → ℕ → Type 0
IsSymbolFault SymbolMissing f symbols kind place = symbol_at symbols kind place ≡ None
IsSymbolFault SymbolNumber f symbols kind place =
    IsSome (symbol_at symbols kind place) × ((v : ℕ) → ¬ Names f symbols kind place v)
IsSymbolFault SymbolTwice f symbols kind place =
    (v : ℕ) × Names f symbols kind place v × ((p : ℕ) × (p < place) × Names f symbols kind p v)
IsSymbolFault _ f symbols kind place = ⊥

-- the first of so many places that is at fault
pub record IsFirstSymbolFault (f : Dqbf) (symbols : SymbolTable) (kind : Kind) (count place : ℕ)
    (name : MapName) : Type 0 where
  pub earlier : List ℕ
  pub before : length earlier ≡ place
  pub named : AreNamed f symbols kind earlier
  pub in_range : place < count
  pub fault : IsSymbolFault name f symbols kind place

-- the counts, then each input, then each output; symbols are read where there is one
abbrev pub IsToldFault : MapPlace → MapName → Dqbf → Netlist → SymbolTable → Type 0
IsToldFault Whole InputCount f net symbols = length net.inputs ≢ length f.universals
IsToldFault Whole OutputCount f net symbols =
    (length net.inputs ≡ length f.universals) × (length net.outputs ≢ length f.existentials)
IsToldFault Whole _ f net symbols = ⊥
IsToldFault (Input place) name f net symbols =
    DoCountsFit f net × (has_symbols net symbols ≡ true)
    × IsFirstSymbolFault f symbols Inputs (length net.inputs) place name
IsToldFault (Output place) name f net symbols =
    DoCountsFit f net × (has_symbols net symbols ≡ true)
    × ((inputs : List ℕ) × (length inputs ≡ length net.inputs) × AreNamed f symbols Inputs inputs)
    × IsFirstSymbolFault f symbols Outputs (length net.outputs) place name
