-- What the reader of definitions answers.
use Rattle.std.specs.Prelude.{◌≡◌, ◌≤◌, Vec, Result, Ok, Err}
use Rattle.std.specs.declared.alloc.Global.{Global}
use Rattle.dq_text.specs.Line.{LineCursor}
use Rattle.circuit_plain.specs.declared.circuits.Gate.{Gate}
use Rattle.cert_text.specs.DefinitionBlocks.{Definition, Valuation, FreePair, DefinitionBlock, defined, free}
use Rattle.cert_text.specs.DefinitionText.{PartRead, part_up_to}
use Rattle.cert_text.specs.Header.{max_count}
use Rattle.cert_text.specs.Lines.{LinesRead, read_up_to}
use Rattle.cert_text.specs.declared.definition_blocks.Definition.{Definition as DefinitionHeld}
use Rattle.cert_text.specs.declared.definition_blocks.DefinitionBlock.{DefinitionBlock as BlockHeld}
use Rattle.cert_text.specs.declared.definition_blocks.DefinitionBlock.TheVariants.{Defined as DefinedHeld, Free as FreeHeld}
use Rattle.cert_text.specs.declared.definition_blocks.FreePair.{FreePair as PairHeld}
use Rattle.cert_text.specs.declared.definition_blocks.Valuation.{Valuation as ValuationHeld}
use Rattle.cert_text.specs.declared.definition_lines.BlockHead.{BlockHead}
use Rattle.cert_text.specs.declared.definition_lines.BlockHead.TheVariants.{Defined, Free}
use Rattle.cert_text.specs.declared.faults.CertRefusal.{CertRefusal}
use Rattle.cert_text.specs.declared.faults.CertStop.{CertStop}
use Rattle.cert_text.specs.declared.faults.CertStop.TheVariants.{Refused, Memory}

-- the counts of a definition's block are within their limit
abbrev pub IsSmallHead : BlockHead → Type 0
IsSmallHead (Defined head) = head.gates ≤ max_count
IsSmallHead Free = Unit {0}

abbrev pub definition_seen : DefinitionHeld → Definition
definition_seen d = record {
  existential = d.existential;
  output = d.output;
  gates = d.gates.items;
  steps = d.steps;
}

abbrev pub valuation_seen : ValuationHeld → Valuation
valuation_seen v = record { row = v.row; values = v.values }

abbrev pub pair_seen : PairHeld → FreePair
pair_seen p = record {
  existential = p.existential;
  first = valuation_seen p.first;
  second = valuation_seen p.second;
}

abbrev pub block_seen : BlockHeld → DefinitionBlock
block_seen (DefinedHeld d) = defined (definition_seen d)
block_seen (FreeHeld p) = free (pair_seen p)

abbrev pub itself : {A : Type 0} → A → A
itself a = a

-- the first fault, or want of memory
abbrev pub IsStop : {A : Type 0} → Result A CertRefusal → CertStop → Type 0
IsStop read (Refused fault) = read ≡ Err fault
IsStop read Memory = Unit {0}

-- what the lines have, as it is held, where these bytes are left; or their first fault, or want of
-- memory
abbrev pub IsPartRead : {A V : Type 0} → (V → A) → Result (PartRead A) CertRefusal
    → Result V CertStop → LineCursor → Type 0
IsPartRead seen read (Ok value) left = read ≡ Ok (part_up_to (seen value) left)
IsPartRead seen read (Err stop) left = IsStop read stop

-- the same of lines of gates
abbrev pub AreGatesRead : Result (LinesRead Gate) CertRefusal → Result (Vec Gate Global) CertStop
    → LineCursor → Type 0
AreGatesRead read (Ok gates) left = read ≡ Ok (read_up_to gates.items left)
AreGatesRead read (Err stop) left = IsStop read stop
