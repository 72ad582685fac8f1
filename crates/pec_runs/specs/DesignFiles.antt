-- What is read of the files of a specification and an implementation, and what is said where they
-- make no design.
use Rattle.std.specs.Prelude.{ℕ, ◌^◌, ◌⊎◌, List, Result, Ok, Err, codes}
use Rattle.aiger_text.specs.CommentLine.{IsCommentLine}
use Rattle.aiger_text.specs.FirstFault.{IsFirstFault}
use Rattle.aiger_text.specs.Grammar.{SpellsCircuit}
use Rattle.aiger_text.specs.declared.faults.AagFault.{AagFault}
use Rattle.aiger_text.specs.declared.files.AagFile.{AagFile}
use Rattle.aiger_text.specs.declared.files.ReadCircuit.{ReadCircuit}
use Rattle.dq_io.specs.Files.{Holding}
use Rattle.dq_io.specs.State.{FilesState}
use Rattle.dq_lits.specs.Formula.{Dqbf}
use Rattle.dq_runs.specs.FileTexts.{IsShortText, IsUnreadable, IsTooLong, PickedOnce, PickedTwice}
use Rattle.dq_runs.specs.Printed.{Printed, unreadable_line, long_line, fault_line}
use Rattle.pec_front.specs.Formulas.{IsFormulaReading}
use Rattle.pec_front.specs.declared.faults.PecFault.{PecFault}
use Rattle.pec_front.specs.declared.faults.PecStop.TheVariants.{Refused}
use Rattle.aiger_text.specs.FaultNames.{circuit_fault_name}
use Rattle.pec_runs.specs.RefusalNames.{imp_fault_name}
use Rattle.pec_runs.specs.declared.designs.DesignStop.{DesignStop}
use Rattle.pec_runs.specs.declared.designs.DesignStop.TheVariants.{Memory, Said}
use Rattle.pec_runs.specs.declared.designs.ImpFault.TheVariants.{Circuit, Design}
use Rattle.pec_runs.specs.declared.designs.NoDesign.{NoDesign}
use Rattle.pec_runs.specs.declared.designs.NoDesign.TheVariants.{Unreadable, LongSpec, LongImp, RefusedSpec, RefusedImp}

-- the most bytes of a circuit
abbrev pub max_circuit : ℕ
max_circuit = 2 ^ 30

-- a text of at most so many bytes
abbrev pub IsRead : Holding → Type 0
IsRead holding = (text : List ℕ) × IsShortText max_circuit holding text

-- the file's text has this first fault
pub record HasFault (holding : Holding) (line : ℕ) (name : AagFault) : Type 0 where
  pub text : List ℕ
  pub read : IsShortText max_circuit holding text
  pub is_first : IsFirstFault text 1 (record { line = line; name = name })

-- the file's text spells this circuit
pub record IsSpecification (holding : Holding) (file : AagFile) : Type 0 where
  pub text : List ℕ
  pub read : IsShortText max_circuit holding text
  pub spelled : SpellsCircuit text file

-- the same, where the comment begins on this line
pub record IsImplementation (holding : Holding) (imp : ReadCircuit) : Type 0 where
  pub text : List ℕ
  pub read : IsShortText max_circuit holding text
  pub spelled : SpellsCircuit text imp.file
  pub comment : IsCommentLine text 1 imp.file.comment imp.comment_line

-- the implementation's comment, or its formula, is refused so
pub record IsRefusedDesign (spec imp : Holding) (at : ℕ) (fault : PecFault) : Type 0 where
  pub specification : AagFile
  pub implementation : ReadCircuit
  pub spec_is : IsSpecification spec specification
  pub imp_is : IsImplementation imp implementation
  pub refused : IsFormulaReading specification.circuit implementation 1 (Err (Refused at fault))

-- the files' texts are those of a design with this formula
pub record IsDesignFormula (spec imp : Holding) (f : Dqbf) : Type 0 where
  pub specification : AagFile
  pub implementation : ReadCircuit
  pub spec_is : IsSpecification spec specification
  pub imp_is : IsImplementation imp implementation
  pub reading : IsFormulaReading specification.circuit implementation 1 (Ok f)

-- this is to be said of the files of these names, of which the specification's comes first
abbrev pub IsNoDesign : FilesState → FilesState → List ℕ → List ℕ → NoDesign → Type 0
IsNoDesign before now spec imp Unreadable =
    (IsUnreadable before now spec × PickedOnce before now)
    ⊎ (IsRead (before.held spec) × IsUnreadable before now imp × PickedTwice before now)
IsNoDesign before now spec imp LongSpec =
    IsTooLong max_circuit before now spec × PickedOnce before now
IsNoDesign before now spec imp LongImp =
    IsRead (before.held spec) × IsTooLong max_circuit before now imp × PickedTwice before now
IsNoDesign before now spec imp (RefusedSpec line name) =
    HasFault (before.held spec) line name × IsRead (before.held imp) × PickedTwice before now
IsNoDesign before now spec imp (RefusedImp line (Circuit name)) =
    ((file : AagFile) × IsSpecification (before.held spec) file)
    × HasFault (before.held imp) line name × PickedTwice before now
IsNoDesign before now spec imp (RefusedImp line (Design name)) =
    IsRefusedDesign (before.held spec) (before.held imp) line name × PickedTwice before now

-- how it is said
abbrev pub design_line : NoDesign → Printed
design_line Unreadable = unreadable_line
design_line LongSpec = long_line (codes "spec")
design_line LongImp = long_line (codes "impl")
design_line (RefusedSpec line name) = fault_line 7 (codes "spec") line (circuit_fault_name name)
design_line (RefusedImp line name) = fault_line 7 (codes "impl") line (imp_fault_name name)

-- the formula of the files' design, or what is said of them, or want of memory; these files were
-- picked, and no other one
abbrev pub IsDesignRead : FilesState → FilesState → List ℕ → List ℕ → Result Dqbf DesignStop
    → Type 0
IsDesignRead before now spec imp (Ok f) =
    IsDesignFormula (before.held spec) (before.held imp) f × PickedTwice before now
IsDesignRead before now spec imp (Err Memory) = Unit {0}
IsDesignRead before now spec imp (Err (Said said)) = IsNoDesign before now spec imp said

-- a file couldn't be read
abbrev pub IsUnreadableStop : Result Dqbf DesignStop → Type 0
IsUnreadableStop (Ok _) = ⊥
IsUnreadableStop (Err Memory) = ⊥
IsUnreadableStop (Err (Said Unreadable)) = Unit {0}
IsUnreadableStop (Err (Said LongSpec)) = ⊥
IsUnreadableStop (Err (Said LongImp)) = ⊥
IsUnreadableStop (Err (Said (RefusedSpec line name))) = ⊥
IsUnreadableStop (Err (Said (RefusedImp line name))) = ⊥
