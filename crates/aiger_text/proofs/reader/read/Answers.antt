use Rattle.std.proofs.Common.{◌≡◌, ℕ, List, Result, Ok, Err, refl, arith}
use Rattle.std.specs.Prelude.{IfOk, ◌↔◌}
use Rattle.aiger_text.specs.CommentLine.{file_of}
use Rattle.aiger_text.specs.Grammar.{SpellsCircuit}
use Rattle.aiger_text.specs.Scan.{LineFault, AllGrounded, IsAagReading, scan}
use Rattle.aiger_text.specs.declared.faults.AagStop.{AagStop}
use Rattle.aiger_text.specs.declared.files.AagFile.{AagFile}
use Rattle.aiger_text.specs.declared.files.ReadCircuit.{ReadCircuit}
use Rattle.aiger_text.proofs.reader.read.Goals as goal

by_scan : (first : ℕ) (text : List ℕ) (file : AagFile) → ((f : AagFile) →
    SpellsCircuit text f ↔ ((scan text first ≡ Ok f) × AllGrounded f.circuit))
    → (r : Result AagFile LineFault) → scan text first ≡ r → IsAagReading first r (Ok file) → SpellsCircuit text file
by_scan first text file exact (Ok made) is (same, grounded) = search arith
by_scan first text file exact (Err fault) is impossible = absurd impossible

is_spelled : (first : ℕ) (text : List ℕ) (r : Result AagFile AagStop) →
    ((f : AagFile) → SpellsCircuit text f ↔ ((scan text first ≡ Ok f) × AllGrounded f.circuit))
    → IsAagReading first (scan text first) r → IfOk r (SpellsCircuit text)
is_spelled first text (Ok file) exact read = by_scan first text file exact (scan text first) refl read
is_spelled first text (Err stop) exact read = tt

by_file : (text : List ℕ) (r : Result ReadCircuit AagStop) → IfOk (file_of r) (SpellsCircuit text) →
    IfOk r (λ read. SpellsCircuit text read.file)
by_file text (Ok read) is = is
by_file text (Err stop) is = tt

pub returns-clause-spelled : goal.returns-clause-spelled
returns-clause-spelled c =
    by_file c.args.bytes.now c.read_file.result
    (is_spelled c.args.first c.args.bytes.now (file_of c.read_file.result)
    (c.circuit_or_first_fault.ensures.exact c.args.bytes.now c.args.first) c.read_file.ensures.exact)
