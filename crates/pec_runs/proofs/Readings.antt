-- The first fault of a circuit that was refused.
use Rattle.std.proofs.Common.{◌≡◌, ℕ, inl, inr, List, Result, Ok, Err, refl, sym, ◌∙◌, ap, subst}
use Rattle.aiger_text.specs.FirstFault.{IsFirstFault}
use Rattle.aiger_text.specs.Scan.{LineFault, IsAagReading, scan}
use Rattle.aiger_text.specs.declared.faults.AagFault.{AagFault}
use Rattle.aiger_text.specs.declared.faults.AagStop.{AagStop}
use Rattle.aiger_text.specs.declared.faults.AagStop.TheVariants.{Refused, Memory as NoRoom}
use Rattle.aiger_text.specs.declared.files.AagFile.{AagFile}
use Rattle.circuit_plain.specs.Netlist.{Netlist}
use Rattle.pec_runs.specs.DesignTexts.{IsSpecStop, IsImpStop, IsTextReading, spec_faulty, no_room_for_spec, IsImplementationReading, imp_faulty, no_room_for_imp}
use Rattle.pec_runs.specs.declared.designs.DesignStop.{DesignStop}

first-fault : (text : List ℕ) (s : Result AagFile LineFault) → scan text 1 ≡ s → (line : ℕ) (name : AagFault)
    → IsAagReading 1 s (Err (Refused line name)) → IsFirstFault text 1 (record { line = line; name = name })
first-fault text (Ok file) e line name is =
    inr (record { file = file; scanned = e; cyclic = is.0; at_line = is.1 })
first-fault text (Err fault) e line name is = inl (e ∙ ap Err is)

pub fault-of : (text : List ℕ) (line : ℕ) (name : AagFault) → IsAagReading 1 (scan text 1) (Err (Refused line name))
    → IsFirstFault text 1 (record { line = line; name = name })
fault-of text line name is = first-fault text (scan text 1) refl line name is

-- the specification is refused
pub spec-refused : (spec imp : List ℕ) (stop : AagStop) (out : DesignStop) → IsAagReading 1 (scan spec 1) (Err stop)
    → IsSpecStop stop out → IsTextReading spec imp (Err out)
spec-refused spec imp (Refused line name) out is same =
    subst (λ o. IsTextReading spec imp (Err o)) (sym same) (spec_faulty line name (fault-of spec line name is))
spec-refused spec imp NoRoom out is same = subst (λ o. IsTextReading spec imp (Err o)) (sym same) no_room_for_spec

-- the implementation is
pub imp-refused : (spec : Netlist) (imp : List ℕ) (stop : AagStop) (out : DesignStop)
    → IsAagReading 1 (scan imp 1) (Err stop) → IsImpStop stop out → IsImplementationReading spec imp (Err out)
imp-refused spec imp (Refused line name) out is same =
    subst (λ o. IsImplementationReading spec imp (Err o)) (sym same)
    (imp_faulty line name (fault-of imp line name is))
imp-refused spec imp NoRoom out is same =
    subst (λ o. IsImplementationReading spec imp (Err o)) (sym same) no_room_for_imp
