-- A fault of the mapping stands at the header, at an input or at an output.
use Rattle.std.proofs.Common.{◌≡◌, ℕ, zero, suc, ◌+◌, ◌<◌, Bool, true, false, List, length, Result, Ok, Err, refl, sym, subst, arith}
use Rattle.std.specs.Prelude.{not, if◌then◌else◌}
use Rattle.std.proofs.lemmas.Bool.{eqb-true}
use Rattle.dq_lits.specs.Formula.{Dqbf}
use Rattle.circuit_plain.specs.Netlist.{Netlist}
use Rattle.aiger_text.specs.Symbol.{SymbolTable}
use Rattle.skolem_checker.specs.Mapping.{IsAtPlace, symbol_variable, symbol_at, behind_symbol, behind_inputs, with_outputs, named_from, mapping_of, mapping_by_symbols, mapping_in_order, place_of}
use Rattle.skolem_checker.specs.declared.mapping.Kind.{Kind}
use Rattle.skolem_checker.specs.declared.mapping.Kind.TheVariants.{Inputs, Outputs}
use Rattle.skolem_checker.specs.declared.mapping.MapError.{MapError}
use Rattle.skolem_checker.specs.declared.mapping.MapName.{MapName}
use Rattle.skolem_checker.specs.declared.mapping.MapName.TheVariants.{InputCount, OutputCount}
use Rattle.skolem_checker.specs.declared.mapping.MapPlace.{MapPlace}
use Rattle.skolem_checker.specs.declared.mapping.MapPlace.TheVariants.{Whole}

-- a place of a kind below the end
abbrev IsBelow : Kind → ℕ → MapPlace → Type 0
IsBelow kind end at = (p : ℕ) × (p < end) × (at ≡ place_of kind p)

-- where the fault is, if there is one
abbrev FaultIs : {T : Type 0} → (MapPlace → Type 0) → Result T MapError → Type 0
FaultIs P (Ok _) = Unit {0}
FaultIs P (Err fault) = P fault.at

behind_is : (kind : Kind) (place end : ℕ) (variable : Result ℕ MapName) (next : ℕ → Result (List ℕ) MapError) →
    place < end
    → ((v : ℕ) → FaultIs (IsBelow kind end) (next v)) → FaultIs (IsBelow kind end)
    (behind_symbol kind place variable next)
behind_is kind place end (Ok v) next below rest = rest v
behind_is kind place end (Err name) next below rest = (place, below, refl)

named_is : (f : Dqbf) (kind : Kind) (symbols : SymbolTable) (count place end : ℕ) (earlier : List ℕ) →
    place + count ≡ end
    → FaultIs (IsBelow kind end) (named_from f kind symbols count place earlier)
named_is f kind symbols zero place end earlier sum = tt
named_is f kind symbols (suc count) place end earlier sum =
    behind_is kind place end (symbol_variable f kind earlier (symbol_at symbols kind place)) _ (omega arith)
    (λ v. named_is f kind symbols count (place + 1) end _ (omega arith))

input_at : (net : Netlist) (end : ℕ) (at : MapPlace) → length net.inputs ≡ end → IsBelow Inputs end at →
    IsAtPlace net at
input_at net end at is (p, below, same) = subst (IsAtPlace net) (sym same) (subst (λ n. p < n) (sym is) below)

output_at : (net : Netlist) (end : ℕ) (at : MapPlace) → length net.outputs ≡ end → IsBelow Outputs end at →
    IsAtPlace net at
output_at net end at is (p, below, same) = subst (IsAtPlace net) (sym same) (subst (λ n. p < n) (sym is) below)

outputs_at : (net : Netlist) (end : ℕ) (inputs : List ℕ) (outputs : Result (List ℕ) MapError) → length net.outputs ≡ end
    → FaultIs (IsBelow Outputs end) outputs → FaultIs (IsAtPlace net) (with_outputs inputs outputs)
outputs_at net end inputs (Ok _) is below = tt
outputs_at net end inputs (Err fault) is below = output_at net end fault.at is below

both_at : (net : Netlist) (m n : ℕ) (inputs outputs : Result (List ℕ) MapError) → length net.inputs ≡ m →
    length net.outputs ≡ n
    → FaultIs (IsBelow Inputs m) inputs → FaultIs (IsBelow Outputs n) outputs →
    FaultIs (IsAtPlace net) (behind_inputs inputs outputs)
both_at net m n (Err fault) outputs is_m is_n below_m below_n = input_at net m fault.at is_m below_m
both_at net m n (Ok inputs) outputs is_m is_n below_m below_n = outputs_at net n inputs outputs is_n below_n

by_counts : (f : Dqbf) (net : Netlist) (symbols : SymbolTable) (same_inputs same_outputs some : Bool)
    → (same_inputs ≡ true → length net.inputs ≡ length f.universals) →
    (same_outputs ≡ true → length net.outputs ≡ length f.existentials)
    → FaultIs (IsAtPlace net) (
    if not same_inputs then Err (record { name = InputCount; at = Whole }) else
    if not same_outputs then Err (record { name = OutputCount; at = Whole }) else
    if some then mapping_by_symbols f symbols else Ok (mapping_in_order f))
by_counts f net symbols false same_outputs some inputs_fit outputs_fit = tt
by_counts f net symbols true false some inputs_fit outputs_fit = tt
by_counts f net symbols true true false inputs_fit outputs_fit = tt
by_counts f net symbols true true true inputs_fit outputs_fit = search (arith, both_at, named_is)

mapping_at : (f : Dqbf) (net : Netlist) (symbols : SymbolTable) → FaultIs (IsAtPlace net) (mapping_of f net symbols)
mapping_at f net symbols = search (arith, by_counts, eqb-true)

pub fault_at : (f : Dqbf) (net : Netlist) (symbols : SymbolTable) (fault : MapError) →
    mapping_of f net symbols ≡ Err fault → IsAtPlace net fault.at
fault_at f net symbols fault is = subst (FaultIs (IsAtPlace net)) is (mapping_at f net symbols)
