-- What is read of a line of a proof: its literals, hints or ids stand in buffers.
use Rattle.std.specs.Prelude.{◌≡◌, ℕ, List, Result, Ok, Err}
use Rattle.dq_lits.specs.Literal.{Literal}
use Rattle.rup_core.specs.Items.{ProofItem, derived, gone}
use Rattle.cert_text.specs.Numbering.{Numbering, behind_item}
use Rattle.cert_text.specs.PlainStep.{read_step}
use Rattle.cert_text.specs.declared.faults.CertFault.{CertFault}
use Rattle.cert_text.specs.declared.faults.LineStop.{LineStop}
use Rattle.cert_text.specs.declared.faults.LineStop.TheVariants.{Fault, Memory}
use Rattle.cert_text.specs.declared.item_lines.ItemRead.{ItemRead}
use Rattle.cert_text.specs.declared.item_lines.ItemRead.TheVariants.{Line, Gone}

abbrev pub read_item : ItemRead → List Literal → List ℕ → ProofItem
read_item (Line id) literals hints = derived (read_step id literals hints)
read_item Gone literals hints = gone hints

-- the line's item, or its fault, or want of memory
abbrev pub IsItemOf : Result ProofItem CertFault → Result ItemRead LineStop → List Literal
    → List ℕ → Type 0
IsItemOf line (Ok read) literals hints = line ≡ Ok (read_item read literals hints)
IsItemOf line (Err (Fault name)) literals hints = line ≡ Err name
IsItemOf line (Err Memory) literals hints = Unit {0}

-- the numbering goes on behind the item
abbrev pub GoesOn : Numbering → Numbering → Result ItemRead LineStop → List Literal → List ℕ
    → Type 0
GoesOn old new (Ok read) literals hints = new ≡ behind_item old (read_item read literals hints)
GoesOn old new (Err _) literals hints = Unit {0}
