-- What a run of the solver shows over two circuits that are told.
use Rattle.std.specs.Prelude.{◌≡◌, ◌≢◌, ◌⊎◌, ℕ, ◌<◌, ◌≤◌, List, length, Option, None, Some, Ok, Err}
use Rattle.std.specs.Io.KnownBytes.{append_known}
use Rattle.aiger_text.specs.CommentLine.{IsCommentLine}
use Rattle.aiger_text.specs.FirstFault.{IsFirstFault}
use Rattle.aiger_text.specs.Grammar.{SpellsCircuit}
use Rattle.aiger_text.specs.declared.files.AagFile.{AagFile}
use Rattle.aiger_text.specs.declared.files.ReadCircuit.{ReadCircuit}
use Rattle.dq_io.specs.Files.{Holding, Holds}
use Rattle.dq_io.specs.State.{FilesState}
use Rattle.dq_lits.specs.Formula.{Existential}
use Rattle.dq_lits.specs.Skolem.{OutputFunction}
use Rattle.dqdimacs_reader.specs.Canonical.{canonical}
use Rattle.dq_runs.specs.Sinks.{SinkState}
use Rattle.verdict_texts.specs.Forms.{plain}
use Rattle.dq_verdicts.specs.Shown.{IsVerdict}
use Rattle.verdict_texts.specs.Verdicts.{Verdict, is_true, is_false, is_unknown, verdict_text, verdict_status}
use Rattle.hint_log.specs.Entries.{ProofLog}
use Rattle.pec_front.specs.Boxes.{PartialDesign, BoxFunctions, BoxesFit, IsLawfulDesign}
use Rattle.pec_front.specs.Encoding.{design_formula}
use Rattle.pec_front.specs.Formulas.{IsOverLimits, IsFormulaReading}
use Rattle.pec_front.specs.Outputs.{output_functions}
use Rattle.pec_front.specs.Reading.{IsDesignReading}
use Rattle.pec_front.specs.declared.faults.PecStop.TheVariants.{Refused}
use Rattle.pec_runs.specs.DesignFiles.{max_circuit, design_line}
use Rattle.pec_runs.specs.declared.designs.ImpFault.TheVariants.{Circuit, Design}
use Rattle.pec_runs.specs.declared.designs.NoDesign.{NoDesign}
use Rattle.pec_runs.specs.declared.designs.NoDesign.TheVariants.{Unreadable, LongSpec, LongImp, RefusedSpec, RefusedImp}
use Rattle.skolem_checker.specs.SkolemCircuit.{IsSkolemCircuit, AreOutputsOf}
use Rattle.dqsolve_words.specs.Command.{Circuits, Comparison, Command, solve, demo, pec, encode, defined, session}

-- the circuits that a command names
abbrev pub NamesCircuits : Option Command → Circuits → Type 0
NamesCircuits asked c = (asked ≡ Some (encode c)) ⊎ ((p : Comparison) × (asked ≡ Some (pec p)) × (p.circuits ≡ c))

-- the files of two circuits have these texts
pub record AreCircuitsTold (held : List ℕ → Holding) (c : Circuits) (spec imp : List ℕ) : Type 0 where
  pub spec_held : held c.specification ≡ Holds spec
  pub imp_held : held c.implementation ≡ Holds imp

-- neither text is too long
abbrev pub AreShort : List ℕ → List ℕ → Type 0
AreShort spec imp = (length spec ≤ max_circuit) × (length imp ≤ max_circuit)

-- the texts spell these circuits
pub record AreSpelled (spec imp : List ℕ) (file : AagFile) (read : ReadCircuit) : Type 0 where
  pub spec_spelled : SpellsCircuit spec file
  pub imp_spelled : SpellsCircuit imp read.file
  pub comment : IsCommentLine imp 1 read.file.comment read.comment_line

-- the texts are those of a design whose formula is within the limits
pub record AreDesignTexts (spec imp : List ℕ) (d : PartialDesign) : Type 0 where
  pub short : AreShort spec imp
  pub file : AagFile
  pub read : ReadCircuit
  pub spelled : AreSpelled spec imp file read
  pub reading : IsDesignReading file.circuit read 1 (Ok d)
  pub lawful : IsLawfulDesign d
  pub within : ¬ IsOverLimits (design_formula d)

-- this is to be said of two texts that make none: the specification's length comes first, then the
-- implementation's, then the first fault of either circuit in this order, then the first refusal of
-- the boxes, and the formula's at last
abbrev pub IsTextRefusal : List ℕ → List ℕ → NoDesign → Type 0
IsTextRefusal spec imp Unreadable = ⊥
IsTextRefusal spec imp LongSpec = max_circuit < length spec
IsTextRefusal spec imp LongImp = (length spec ≤ max_circuit) × (max_circuit < length imp)
IsTextRefusal spec imp (RefusedSpec line name) =
    AreShort spec imp × IsFirstFault spec 1 (record { line = line; name = name })
IsTextRefusal spec imp (RefusedImp line (Circuit name)) =
    AreShort spec imp × ((file : AagFile) × SpellsCircuit spec file)
    × IsFirstFault imp 1 (record { line = line; name = name })
IsTextRefusal spec imp (RefusedImp line (Design name)) =
    AreShort spec imp × (file : AagFile) × (read : ReadCircuit) × AreSpelled spec imp file read
    × IsFormulaReading file.circuit read 1 (Err (Refused line name))

-- it is said
pub record IsSaid (said : NoDesign) (before now : Option (List ℕ)) (status : ℕ) : Type 0 where
  pub ends_with : status ≡ (design_line said).status
  pub written : now ≡ append_known before (design_line said).text

-- the circuit certifies the design's formula, and its outputs for the driven inputs are functions
-- that fit
pub record HasFittingOutputs (d : PartialDesign) (file : AagFile) : Type 0 where
  pub skolem : IsSkolemCircuit (design_formula d) file.circuit file.symbols
  pub output : Existential → OutputFunction
  pub outputs : AreOutputsOf (design_formula d)
      (record { netlist = file.circuit; mapping = skolem.mapping }) output
  pub fit : BoxesFit d (output_functions d output)

-- what a verdict on a design's formula says of its boxes
abbrev pub SaysOfBoxes : PartialDesign → Verdict → Type 0
SaysOfBoxes d (is_true file proof) = HasFittingOutputs d file
SaysOfBoxes d (is_false refutation) = (functions : BoxFunctions) → ¬ BoxesFit d functions
SaysOfBoxes d (is_unknown rounds learned) = Unit {0}

-- a verdict on the design's formula, in as many steps as were asked for at most, written with its
-- status
pub record IsCompared (d : PartialDesign) (log : ProofLog) (c : Comparison)
    (before now : Option (List ℕ)) (status : ℕ) : Type 0 where
  pub verdict : Verdict
  pub limit : log.limit ≡ c.steps
  pub is : IsVerdict (design_formula d) (design_formula d) log plain verdict
  pub boxes : SaysOfBoxes d verdict
  pub ends_with : status ≡ verdict_status verdict
  pub written : now ≡ append_known before (verdict_text plain (design_formula d) verdict)

-- the design's formula, written with status 0
pub record IsEncoded (d : PartialDesign) (before now : Option (List ℕ)) (status : ℕ) : Type 0 where
  pub ends_with : status ≡ 0
  pub written : now ≡ append_known before (canonical (design_formula d))

-- what a command answers for a design
abbrev pub AnswersFor : Option Command → PartialDesign → ProofLog → Option (List ℕ)
    → Option (List ℕ) → ℕ → Type 0
AnswersFor None d log before now status = ⊥
AnswersFor (Some (solve c)) d log before now status = ⊥
AnswersFor (Some (demo p)) d log before now status = ⊥
AnswersFor (Some (pec c)) d log before now status = IsCompared d log c before now status
AnswersFor (Some (encode c)) d log before now status = IsEncoded d before now status
AnswersFor (Some (defined c)) d log before now status = ⊥
AnswersFor (Some (session c)) d log before now status = ⊥

-- Over circuits that are told, where no failure has the status, what is written is the first
-- refusal of the texts, or the command's answer for their design.
pub record ComparesTold (files : FilesState) (asked : Option Command) (log : ProofLog)
    (sink sink_now : SinkState) (status : ℕ) : Type 0 where
  pub answered : (c : Circuits) (spec imp : List ℕ) → NamesCircuits asked c
      → AreCircuitsTold files.held c spec imp → status ≢ 3 → status ≢ 4 → status ≢ 5
      → ((said : NoDesign) × IsTextRefusal spec imp said
      × IsSaid said sink.taken sink_now.taken status)
      ⊎ ((d : PartialDesign) × AreDesignTexts spec imp d
      × AnswersFor asked d log sink.taken sink_now.taken status)
