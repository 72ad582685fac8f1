-- Proofs of circuits that are lifted.
use Rattle.std.specs.Prelude.{◌≡◌, ◌≤◌, ◌^◌, false, List, length, map, reverse, None, Ok}
use Rattle.dq_lits.specs.Derivation.{ProofStep}
use Rattle.dq_lits.specs.Formula.{Dqbf}
use Rattle.aiger_text.specs.declared.files.AagFile.{AagFile}
use Rattle.circuit_plain.specs.Netlist.{Netlist}
use Rattle.cert_text.specs.CircuitProof.{first_proof_id, is_proof_variable}
use Rattle.cert_text.specs.Grammar.{AreSteps}
use Rattle.cert_text.specs.Header.{max_count}
use Rattle.cert_text.specs.ProofGrammar.{IsDqpOf}
use Rattle.cert_text.specs.declared.circuit_proofs.Dqp.{Dqp}
use Rattle.dq_prep.specs.declared.traces.Taken.{Taken}
use Rattle.dq_prep.specs.Simplified.{simplified_formula}
use Rattle.dq_prep.specs.Units.{taken_literals}
use Rattle.rup_core.specs.Items.{derived, items_fault}
use Rattle.proof_checker.specs.ProvedCircuit.{IsProvedCircuit}
use Rattle.proof_deletions.specs.Deletions.{AreNumberedLines}
use Rattle.skolem_checker.specs.Checks.{Candidate, candidate_of}
use Rattle.lifted_proofs.specs.Liftables.{lifted_base}
use Rattle.lifted_proofs.specs.SettledCircuits.{settled_netlist}
use Rattle.lifted_proofs.specs.declared.units.UnitTable.{UnitTable}

-- the proof shows that the circuit has Skolem functions, and a text can hold it, lines alone
pub record IsLiftedProof (f : Dqbf) (file : AagFile) (p : Dqp) : Type 0 where
  pub circuit : IsProvedCircuit f file p
  pub allowed : IsDqpOf f file.circuit p
  pub lines : AreNumberedLines p.items

-- Words of private contracts: a circuit with a proof for what is left of the formula
pub record IsLeftProof (t : UnitTable) (file : AagFile) (g : Dqbf) (p : Dqp) : Type 0 where
  pub left : g ≡ simplified_formula t.formula.now (reverse t.units.now)
  pub proved : IsProvedCircuit g file p
  pub allowed : IsDqpOf g file.circuit p

-- lines over the formula and the settled circuit, without a fault
pub record AreLiftedLines (f : Dqbf) (units : List Taken) (c : Candidate)
    (steps : List ProofStep) : Type 0 where
  pub derives : items_fault false (lifted_base f units c) (map derived steps) ≡ None
  pub allowed : AreSteps (is_proof_variable f c.circuit.netlist)
      (first_proof_id f c.circuit.netlist) steps
  pub few : length steps ≤ max_count
  pub small_id : first_proof_id f c.circuit.netlist ≤ 10 ^ 17
  pub few_variables : c.circuit.netlist.max_var ≤ 10 ^ 16

-- the settled circuit and such lines
pub record IsLifted (t : UnitTable) (file : AagFile) (net : Netlist) (p : Dqp) : Type 0 where
  pub candidate : Candidate
  pub is : candidate_of (simplified_formula t.formula.now (reverse t.units.now)) file.circuit
      file.symbols
      ≡ Ok candidate
  pub settled : net ≡ settled_netlist (taken_literals (reverse t.units.now))
      candidate.circuit.mapping.outputs candidate.circuit.netlist
  pub steps : List ProofStep
  pub items : p.items ≡ map derived steps
  pub lines : AreLiftedLines t.formula.now (reverse t.units.now) candidate steps
