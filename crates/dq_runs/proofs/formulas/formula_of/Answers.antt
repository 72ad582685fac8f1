use Rattle.dqdimacs_reader.specs.Machine.{reading}
use Rattle.dq_runs.proofs.ReadFormulas.{refused_of}
use Rattle.dq_runs.proofs.formulas.formula_of.Goals as goal

pub returns-in-Ok : goal.returns-in-Ok
returns-in-Ok c text stands = (c.in-Ok.ensures.spelled text stands, c.in-Ok.ensures.well_formed text stands)

pub returns-in-Err-Refused : goal.returns-in-Err-Refused
returns-in-Err-Refused c text stands =
    refused_of (reading text) c.in-Err-Refused.field-0 c.in-Err-Refused.line c.in-Err-Refused.name
    c.in-Err-Refused.field-0-is (c.in-Err-Refused.ensures.exact text stands)
