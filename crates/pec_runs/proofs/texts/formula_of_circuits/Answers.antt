use Rattle.std.proofs.Common.{Err, subst}
use Rattle.pec_front.specs.Formulas.{IsFormulaReading}
use Rattle.pec_runs.specs.DesignTexts.{circuits_make, design_refused, no_room_for_design}
use Rattle.pec_runs.proofs.texts.formula_of_circuits.Goals as goal

pub returns-in-Ok : goal.returns-in-Ok
returns-in-Ok c = circuits_make c.in-Ok.f c.in-Ok.ensures

pub returns-in-Err-Memory : goal.returns-in-Err-Memory
returns-in-Err-Memory c = no_room_for_design

pub returns-in-Err-Refused : goal.returns-in-Err-Refused
returns-in-Err-Refused c =
    design_refused c.in-Err-Refused.line c.in-Err-Refused.name
    (subst (λ s. IsFormulaReading c.args.spec.now.circuit c.args.imp.now 1 (Err s)) c.in-Err-Refused.field-0-is
    c.in-Err-Refused.ensures)
