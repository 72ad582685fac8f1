-- What a `Bench` shows of its fields, and what it keeps of them.
use Rattle.std.specs.Prelude.{◌≡◌, ℕ, ◌+◌, ◌≤◌, List, length}
use Rattle.dq_lits.specs.Formula.{Dqbf, IsWellFormed}
use Rattle.circuit_plain.specs.Netlist.{Netlist, IsNetlist}
use Rattle.circuit_plain.specs.Order.{IsOrder}
use Rattle.skolem_checker.specs.Checks.{Candidate}
use Rattle.skolem_checker.specs.Mapping.{Mapping}
use Rattle.skolem_checker.specs.MappingReading.{mapping_in}
use Rattle.skolem_checker.specs.Reads.{HasWords}
use Rattle.skolem_checker.specs.Renaming.{copy_or, renumbered}
use Rattle.skolem_checker.specs.SkolemCircuit.{IsComplete}
use Rattle.skolem_checker.specs.Tables.{IsMapping, AreTables, universal_places}
use Rattle.skolem_checker.specs.declared.reads.ReadWords.{ReadWords}
use Rattle.skolem_checker.specs.declared.bench.Bench.TheInside.{Inside}

-- the circuit is complete and mapped; order, tables and buffers are those of its renumbered copy
pub record IsEvaluable (f : Dqbf) (net copy : Netlist) (mapping : Mapping)
    (order literals places by_input : List ℕ) (words : ReadWords)
    (values : List (List ℕ)) : Type 0 where
  pub formed : IsWellFormed f
  pub complete : IsComplete net
  pub kept : IsNetlist net
  pub mapped : IsMapping f net mapping
  pub copied : copy ≡ renumbered net
  pub copy_kept : IsNetlist copy
  pub ordered : IsOrder copy order
  pub tables : AreTables f copy mapping literals places
  pub by_input_is : by_input ≡ universal_places f mapping
  pub has_words : HasWords copy f words
  pub a_value_a_variable : length f.universals ≤ 20 → length values ≡ copy.max_var + 1

abbrev pub candidate_in : Inside → Candidate
candidate_in b = record {
  formula = b.formula.now;
  circuit = record { netlist = b.circuit.now; mapping = mapping_in b.mapped };
}

abbrev pub is_ready : Inside → Type 0
is_ready b =
    IsEvaluable b.formula.now b.circuit.now (copy_or b.copy b.circuit.now) (mapping_in b.mapped) b.order b.literals.items
    b.places.items b.universal_places.items
    b.words b.values
