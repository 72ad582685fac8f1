-- Words of private contracts: what was found in the blocks so far.
use Rattle.std.specs.Prelude.{◌≡◌, ◌+◌, List, [], ◌∷◌, ◌++◌, Option, None, Some, Result, Ok, Err}
use Rattle.dq_lits.specs.Formula.{Dqbf}
use Rattle.dq_text.specs.Line.{LineCursor, lines_from}
use Rattle.cert_text.specs.DefinitionBlocks.{DefinitionBlock}
use Rattle.cert_text.specs.DefinitionText.{PartRead, part_up_to}
use Rattle.cert_text.specs.Lines.{and_read}
use Rattle.cert_text.specs.Scan.{blank_lines}
use Rattle.cert_text.specs.declared.faults.CertRefusal.{CertRefusal}
use Rattle.defined_checker.specs.Judging.{AreJudged, counts_of, no_counts}
use Rattle.defined_checker.specs.declared.checks.DefinedCounts.{DefinedCounts}
use Rattle.defined_checker.specs.declared.checks.Tally.{Tally}
use Rattle.defined_checker.specs.declared.faults.DefStop.{DefStop}
use Rattle.defined_checker.specs.declared.faults.DefStop.TheVariants.{Refused, Invalid, Memory}
use Rattle.defined_checker.specs.declared.faults.DefinitionFault.{DefinitionFault}

pub record IsTallied (f : Dqbf) (blocks : List DefinitionBlock) (tally : Tally) : Type 0 where
  pub judged : AreJudged f blocks tally.fault
  pub counts : tally.counts ≡ counts_of no_counts blocks

-- with this block behind those before it
abbrev pub IsTalliedWith : Dqbf → DefinitionBlock → Tally → Tally → Type 0
IsTalliedWith f block old new =
    (blocks : List DefinitionBlock) → IsTallied f blocks old → IsTallied f (blocks ++ block ∷ []) new

-- the next block was taken, and these bytes are left
abbrev pub IsTaken : Dqbf → Result (PartRead DefinitionBlock) CertRefusal → Tally
    → Result (Unit {0}) DefStop → Tally → LineCursor → Type 0
IsTaken f read old (Ok _) new left =
    (block : DefinitionBlock) × ((read ≡ Ok (part_up_to block left)) × IsTalliedWith f block old new)
IsTaken f read old (Err (Refused refusal)) new left = read ≡ Err refusal
IsTaken f read old (Err (Invalid _)) new left = ⊥
IsTaken f read old (Err Memory) new left = Unit {0}

-- all blocks were taken, and these bytes are left
abbrev pub AreTaken : Dqbf → Result (List DefinitionBlock) CertRefusal → Result (Unit {0}) DefStop
    → Tally → LineCursor → Type 0
AreTaken f read (Ok _) new left =
    (blocks : List DefinitionBlock) × (IsTallied f blocks new
    × (read ≡ and_read (blank_lines (lines_from left.number left.rest)) (λ _. Ok blocks)))
AreTaken f read (Err (Refused refusal)) new left = read ≡ Err refusal
AreTaken f read (Err (Invalid _)) new left = ⊥
AreTaken f read (Err Memory) new left = Unit {0}

-- the blocks of the text, or its first fault, or want of memory
abbrev pub AreTallied : Dqbf → Result (List DefinitionBlock) CertRefusal → Result Tally DefStop
    → Type 0
AreTallied f read (Ok tally) =
    (blocks : List DefinitionBlock) × ((read ≡ Ok blocks) × IsTallied f blocks tally)
AreTallied f read (Err (Refused refusal)) = read ≡ Err refusal
AreTallied f read (Err (Invalid _)) = ⊥
AreTallied f read (Err Memory) = Unit {0}

abbrev pub conclusion : Option DefinitionFault → DefinedCounts → Result DefinedCounts DefStop
conclusion None counts = Ok counts
conclusion (Some fault) counts = Err (Invalid fault)

abbrev pub concluded : Tally → Result DefinedCounts DefStop
concluded tally = conclusion tally.fault tally.counts

abbrev pub IsOneMore : DefinedCounts → DefinedCounts → Type 0
IsOneMore old new = new.defined + new.free ≡ old.defined + old.free + 1
