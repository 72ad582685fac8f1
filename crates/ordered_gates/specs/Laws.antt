-- What ordered gates keep.
use Rattle.std.specs.Prelude.{◌≡◌, ◌+◌, true, List, length, map}
use Rattle.dq_lits.specs.Formula.{Dqbf}
use Rattle.circuit_plain.specs.Netlist.{Netlist}
use Rattle.circuit_plain.specs.declared.circuits.Gate.{Gate}
use Rattle.aiger_text.specs.Spellable.{IsSpellable}
use Rattle.aiger_text.specs.declared.files.AagFile.{AagFile}
use Rattle.aig_binary.specs.Written.{AreInOrder, IsBinaryFile}
use Rattle.cert_text.specs.ProofGrammar.{IsDqpOf}
use Rattle.cert_text.specs.declared.circuit_proofs.Dqp.{Dqp}
use Rattle.rup_core.specs.Items.{ProofItem}
use Rattle.proof_checker.specs.ProvedCircuit.{IsProvedCircuit}
use Rattle.proof_deletions.specs.Deletions.{AreNumberedLines}
use Rattle.ordered_gates.specs.Circuits.{is_sorted, ordered_file, ordered_item, ordered_netlist, ordered_proof}

-- the circuit with its gates ordered has its proof, as a text can hold it
abbrev pub OrderedProofsStand : Type 0
OrderedProofsStand =
    (f : Dqbf) (file : AagFile) (proof : Dqp) → IsProvedCircuit f file proof
    → IsDqpOf f file.circuit proof
    → IsProvedCircuit f (ordered_file file) (ordered_proof file.circuit proof)
    × IsDqpOf f (ordered_netlist file.circuit) (ordered_proof file.circuit proof)

-- lines alone, numbered one after the other, stay such
abbrev pub OrderedLinesAreNumbered : Type 0
OrderedLinesAreNumbered =
    (gates : List Gate) (items : List ProofItem) → AreNumberedLines items
    → AreNumberedLines (map (ordered_item gates) items)

-- where the gates are sorted, the binary form can hold the ordered circuit
pub record OrderedFilesAreBinary : Type 0 where
  pub in_order : (net : Netlist) → is_sorted net ≡ true
      → AreInOrder (length net.inputs + 1) (ordered_netlist net).gates
  pub binary : (file : AagFile) → IsSpellable file → is_sorted file.circuit ≡ true
      → IsBinaryFile (ordered_file file)
