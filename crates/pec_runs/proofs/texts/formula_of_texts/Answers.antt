use Rattle.skolem_checker.proofs.LiteralNumbers.{spelled_complete}
use Rattle.pec_runs.specs.DesignTexts.{spec_spelled}
use Rattle.pec_runs.proofs.Readings.{spec-refused}
use Rattle.pec_runs.proofs.texts.formula_of_texts.Goals as goal

pub formula_behind-requires-clause-complete : goal.formula_behind-requires-clause-complete
formula_behind-requires-clause-complete c =
    spelled_complete c.args.spec.now c.in-Ok.read.file c.in-Ok.ensures.spelled

pub returns-in-Ok : goal.returns-in-Ok
returns-in-Ok c =
    spec_spelled c.formula_behind.result c.in-Ok.read.file c.in-Ok.ensures.spelled c.formula_behind.ensures

pub returns-in-Err : goal.returns-in-Err
returns-in-Err c =
    spec-refused c.args.spec.now c.args.imp.now c.in-Err.stop c.spec_stopped.result c.in-Err.ensures.exact
    c.spec_stopped.ensures
