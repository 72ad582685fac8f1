-- Which circuit files some text spells.
use Rattle.std.specs.Prelude.{◌≡◌, ◌≢◌, ℕ, ◌+◌, ◌≤◌, List, length, All}
use Rattle.circuit_plain.specs.Netlist.{IsNetlist}
use Rattle.aiger_text.specs.Grammar.{HasMeaning, AreNames}
use Rattle.aiger_text.specs.Lines.{max_count, without_end_crs}
use Rattle.aiger_text.specs.Scan.{AllGrounded}
use Rattle.aiger_text.specs.declared.files.AagFile.{AagFile}

-- what a symbol line can name: it holds no LF, and no CR stands at its end
pub record IsName (name : List ℕ) : Type 0 where
  pub some : 1 ≤ length name
  pub one_line : All (λ byte. byte ≢ 10) name
  pub no_end_crs : without_end_crs name ≡ name

-- The counts are within the limits, the netlist is one that the grammar allows, and symbols stand
-- at places of their own and have such names. The comment may be any bytes.
pub record IsSpellable (file : AagFile) : Type 0 where
  pub enough : length file.circuit.inputs + length file.circuit.gates ≤ file.circuit.max_var
  pub few_variables : file.circuit.max_var ≤ max_count
  pub few_outputs : length file.circuit.outputs ≤ max_count
  pub lawful : IsNetlist file.circuit
  pub outputs_mean : All (HasMeaning file.circuit) file.circuit.outputs
  pub gates_mean : All (λ g. HasMeaning file.circuit g.left × HasMeaning file.circuit g.right)
      file.circuit.gates
  pub acyclic : AllGrounded file.circuit
  pub input_names : AreNames (length file.circuit.inputs) file.symbols.inputs
  pub output_names : AreNames (length file.circuit.outputs) file.symbols.outputs
  pub inputs_named : All (λ symbol. IsName symbol.1) file.symbols.inputs
  pub outputs_named : All (λ symbol. IsName symbol.1) file.symbols.outputs
