-- The text of a circuit file in the binary form, with the fewest bytes, and which files it can spell.
use Rattle.std.specs.Prelude.{◌≡◌, ℕ, zero, suc, ◌+◌, ◌-◌, ◌*◌, ◌/◌, ◌%◌, ◌<◌, ◌≤◌, nat_lt, List, [], ◌∷◌, ◌++◌, length, codes, if◌then◌else◌}
use Rattle.std.specs.List.{flat_map}
use Rattle.circuit_plain.specs.declared.circuits.Gate.{Gate}
use Rattle.dq_text.specs.Written.{number_line}
use Rattle.aiger_text.specs.Canonical.{counts_text, ending_text}
use Rattle.aiger_text.specs.Spellable.{IsSpellable}
use Rattle.aiger_text.specs.declared.files.AagFile.{AagFile}
use Rattle.aig_binary.specs.Deltas.{most_groups}
use Rattle.aig_binary.specs.Scan.{first_variables}

-- the groups of a number, in at most so many bytes
abbrev pub delta_text : ℕ → ℕ → List ℕ
delta_text zero n = []
delta_text (suc groups) n =
    if nat_lt n 128 then n ∷ [] else (128 + n % 128) ∷ delta_text groups (n / 128)

-- a gate's two differences
abbrev pub gate_code : Gate → List ℕ
gate_code g =
    delta_text most_groups (2 * g.variable - g.left) ++ delta_text most_groups (g.left - g.right)

-- the header, a line for each output, the gates' differences, and then as in the ASCII form
abbrev pub binary_text : AagFile → List ℕ
binary_text file =
    codes "aig " ++ (counts_text file.circuit ++ (flat_map number_line file.circuit.outputs
    ++ (flat_map gate_code file.circuit.gates ++ ending_text file)))

-- the gate of a variable, whose first right side is less than its literal and the second not more
-- than the first
pub record IsGateInOrder (v : ℕ) (g : Gate) : Type 0 where
  pub variable : g.variable ≡ v
  pub left : g.left < 2 * v
  pub right : g.right ≤ g.left

-- of the variables from v on
abbrev pub AreInOrder : ℕ → List Gate → Type 0
AreInOrder v [] = Unit {0}
AreInOrder v (g ∷ gs) = IsGateInOrder v g × AreInOrder (v + 1) gs

-- the inputs are the first variables, and the gates follow in order
pub record IsBinaryFile (file : AagFile) : Type 0 where
  pub spellable : IsSpellable file
  pub inputs : file.circuit.inputs ≡ first_variables (length file.circuit.inputs)
  pub all_defined : file.circuit.max_var
      ≡ length file.circuit.inputs + length file.circuit.gates
  pub gates : AreInOrder (length file.circuit.inputs + 1) file.circuit.gates
