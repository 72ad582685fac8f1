-- A binary circuit file whose inputs aren't listed, and what its reading answers.
use Rattle.std.specs.Prelude.{◌≡◌, ℕ, ◌+◌, List, [], ◌∷◌, Result, Ok, Err}
use Rattle.circuit_plain.specs.declared.circuits.Gate.{Gate}
use Rattle.aiger_text.specs.Scan.{LineFault}
use Rattle.aiger_text.specs.declared.faults.AagStop.{AagStop}
use Rattle.aiger_text.specs.declared.faults.AagStop.TheVariants.{Refused, Memory}
use Rattle.aiger_text.specs.declared.files.ReadCircuit.{ReadCircuit}
use Rattle.aig_binary.specs.Scan.{first_variables}
use Rattle.aig_binary.specs.declared.bare.BareCircuit.{BareCircuit}

-- the file with its inputs
abbrev pub listed : BareCircuit → ReadCircuit
listed bare =
    record {
      file = record bare.file {
        circuit = record bare.file.circuit { inputs = first_variables bare.inputs };
      };
      comment_line = bare.comment_line;
    }

-- the gates have the variables from v on
abbrev pub AreNumbered : ℕ → List Gate → Type 0
AreNumbered v [] = Unit {0}
AreNumbered v (g ∷ gs) = (g.variable ≡ v) × AreNumbered (v + 1) gs

-- what a reading answers, by what the scan gives
abbrev pub IsReadingBy : {A : Type 0} → (A → ReadCircuit) → Result ReadCircuit LineFault
    → Result A AagStop → Type 0
IsReadingBy whole (Ok read) (Ok answer) = read ≡ whole answer
IsReadingBy whole (Ok read) (Err (Refused line name)) = ⊥
IsReadingBy whole (Err fault) (Ok answer) = ⊥
IsReadingBy whole (Err fault) (Err (Refused line name)) =
    fault ≡ record { line = line; name = name }
IsReadingBy whole (Ok read) (Err Memory) = Unit {0}
IsReadingBy whole (Err fault) (Err Memory) = Unit {0}
