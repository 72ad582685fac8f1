-- What is exported of an answer, as it is kept.
use Rattle.std.specs.Prelude.{◌≡◌, ℕ, ◌≤◌, ◌^◌, List, map, length}
use Rattle.std.specs.List.{All, sum_by}
use Rattle.dq_lits.specs.Formula.{Dqbf, IsWellFormed}
use Rattle.dq_lits.specs.Derivation.{ProofStep}
use Rattle.hint_log.specs.Conditions.{IsId, AreLogged}
use Rattle.hint_log.specs.Entries.{Entry, count}
use Rattle.hint_log.specs.Growth.{Each}
use Rattle.hint_log.specs.ProductiveLog.{IsDerivedByHints}
use Rattle.hint_log.specs.Reached.{AreReached}
use Rattle.rup_core.specs.Items.{ProofItem, derived}
use Rattle.aiger_text.specs.declared.files.AagFile.{AagFile}
use Rattle.cert_text.specs.declared.circuit_proofs.Dqp.{Dqp}
use Rattle.cert_export.specs.CircuitPart.{CircuitPart, AreGatesInOrder, exported_netlist}
use Rattle.cert_export.specs.ExportedCircuit.{IsDecidedTrue, IsExportedPart, IsCircuitRenaming, number_symbols, proof_steps, is_gate_name}
use Rattle.cert_export.specs.FaultLeaves.{output_leaf}
use Rattle.cert_export.specs.Given.{HasUniversalInputs, IsGivenRightly, EachGivenReached}
use Rattle.cert_export.specs.Renaming.{Renaming}
use Rattle.cert_export.specs.declared.parts.ExportedPart.{ExportedPart}

abbrev pub part_of : ExportedPart → CircuitPart
part_of p = record { group = p.group; gates = p.gates; leaf = output_leaf p.leaves }

-- few enough to be numbered
pub record IsSmall (f : Dqbf) (gates : List ℕ) : Type 0 where
  pub few_inputs : length f.universals ≤ 1000001
  pub few_gates : length gates ≤ 10 ^ 16
  pub few_clauses : length f.matrix ≤ 10000000

-- the ids that an answer reaches which decides that the formula is true, and can be exported
pub record AreDecided (f : Dqbf) (entries : List Entry) (id : ℕ) (ids : List ℕ) : Type 0 where
  pub well_formed : IsWellFormed f
  pub few_variables : f.variables ≤ 1000000
  pub few_clauses : length f.matrix ≤ 10000000
  pub logged : AreLogged entries
  pub inputs : HasUniversalInputs f entries
  pub givens : EachGivenReached (IsGivenRightly f entries) entries id
  pub lemmas_are_derived : Each IsDerivedByHints entries
  pub decided : IsDecidedTrue f entries id
  pub reached : AreReached entries id ids
  pub are_ids : All (IsId entries) ids

-- and what is exported of it, with few gates and literals
pub record AreCircuitIds (f : Dqbf) (entries : List Entry) (id : ℕ) (ids : List ℕ)
    (e : CircuitPart) : Type 0 where
  pub decided : AreDecided f entries id ids
  pub part : IsExportedPart f entries id e
  pub small : IsSmall f e.gates
  pub few_literals : sum_by length f.matrix ≤ 10 ^ 16

-- the lines under some renaming of the variables
abbrev pub AreProofSteps : Dqbf → List Entry → CircuitPart → List ℕ → List ProofStep → Type 0
AreProofSteps f entries e ids steps =
    (r : Renaming) × IsCircuitRenaming f entries e ids r × (steps ≡ proof_steps f entries e ids r)

-- the same as items, of which none is a deletion
abbrev pub AreProofItems : Dqbf → List Entry → CircuitPart → List ℕ → List ProofItem → Type 0
AreProofItems f entries e ids items =
    (steps : List ProofStep) × AreProofSteps f entries e ids steps × (items ≡ map derived steps)

-- the circuit, with the variables' numbers as symbols
pub record IsCircuitFile (f : Dqbf) (entries : List Entry) (e : CircuitPart)
    (file : AagFile) : Type 0 where
  pub circuit : file.circuit ≡ exported_netlist f entries e
  pub symbols : file.symbols ≡ number_symbols f

-- the circuit and the proof of what is exported of an answer
pub record IsExportedCircuit (f : Dqbf) (entries : List Entry) (id : ℕ) (ids : List ℕ)
    (file : AagFile) (proof : Dqp) : Type 0 where
  pub part : CircuitPart
  pub from : AreCircuitIds f entries id ids part
  pub few_gates : length part.gates ≤ count is_gate_name entries
  pub order : AreGatesInOrder entries part.gates
  pub written : IsCircuitFile f entries part file
  pub lines : AreProofItems f entries part ids proof.items
