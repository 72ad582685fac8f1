-- Words of private contracts: what two texts give.
use Rattle.std.specs.Prelude.{◌≡◌, ℕ, List, Result, Ok, Err}
use Rattle.aiger_text.specs.CommentLine.{IsCommentLine}
use Rattle.aiger_text.specs.FirstFault.{IsFirstFault}
use Rattle.aiger_text.specs.Grammar.{SpellsCircuit}
use Rattle.aiger_text.specs.declared.faults.AagFault.{AagFault}
use Rattle.aiger_text.specs.declared.faults.AagStop.{AagStop}
use Rattle.aiger_text.specs.declared.faults.AagStop.TheVariants.{Refused, Memory as NoRoom}
use Rattle.aiger_text.specs.declared.files.AagFile.{AagFile}
use Rattle.aiger_text.specs.declared.files.ReadCircuit.{ReadCircuit}
use Rattle.circuit_plain.specs.Netlist.{Netlist}
use Rattle.dq_lits.specs.Formula.{Dqbf}
use Rattle.pec_front.specs.Formulas.{IsFormulaReading}
use Rattle.pec_front.specs.declared.faults.PecFault.{PecFault}
use Rattle.pec_front.specs.declared.faults.PecStop.TheVariants.{Refused as RefusedDesign}
use Rattle.pec_runs.specs.declared.designs.DesignStop.{DesignStop}
use Rattle.pec_runs.specs.declared.designs.DesignStop.TheVariants.{Memory, Said}
use Rattle.pec_runs.specs.declared.designs.ImpFault.TheVariants.{Circuit, Design}
use Rattle.pec_runs.specs.declared.designs.NoDesign.TheVariants.{RefusedSpec, RefusedImp}

-- the text has this first fault
abbrev pub HasFirstFault : List ℕ → ℕ → AagFault → Type 0
HasFirstFault text line name = IsFirstFault text 1 (record { line = line; name = name })

-- what two circuits that were read give
pub data IsCircuitReading (spec : Netlist) (imp : ReadCircuit) : Result Dqbf DesignStop → Type 0 where
  circuits_make : (f : Dqbf) → IsFormulaReading spec imp 1 (Ok f) → IsCircuitReading spec imp (Ok f)
  design_refused : (line : ℕ) (name : PecFault) → IsFormulaReading spec imp 1 (Err (RefusedDesign line name))
      → IsCircuitReading spec imp (Err (Said (RefusedImp line (Design name))))
  no_room_for_design : IsCircuitReading spec imp (Err Memory)

-- what an implementation's text gives, for a specification that was read
pub data IsImplementationReading (spec : Netlist) (imp : List ℕ) : Result Dqbf DesignStop
    → Type 0 where
  imp_spelled : (r : Result Dqbf DesignStop) (file : ReadCircuit) → SpellsCircuit imp file.file
      → IsCommentLine imp 1 file.file.comment file.comment_line → IsCircuitReading spec file r
      → IsImplementationReading spec imp r
  imp_faulty : (line : ℕ) (name : AagFault) → HasFirstFault imp line name
      → IsImplementationReading spec imp (Err (Said (RefusedImp line (Circuit name))))
  no_room_for_imp : IsImplementationReading spec imp (Err Memory)

-- what both texts give
pub data IsTextReading (spec imp : List ℕ) : Result Dqbf DesignStop → Type 0 where
  spec_spelled : (r : Result Dqbf DesignStop) (file : AagFile) → SpellsCircuit spec file
      → IsImplementationReading file.circuit imp r → IsTextReading spec imp r
  spec_faulty : (line : ℕ) (name : AagFault) → HasFirstFault spec line name
      → IsTextReading spec imp (Err (Said (RefusedSpec line name)))
  no_room_for_spec : IsTextReading spec imp (Err Memory)

-- a circuit's stop as one of the reading
abbrev pub IsSpecStop : AagStop → DesignStop → Type 0
IsSpecStop (Refused line name) stop = stop ≡ Said (RefusedSpec line name)
IsSpecStop NoRoom stop = stop ≡ Memory

abbrev pub IsImpStop : AagStop → DesignStop → Type 0
IsImpStop (Refused line name) stop = stop ≡ Said (RefusedImp line (Circuit name))
IsImpStop NoRoom stop = stop ≡ Memory
