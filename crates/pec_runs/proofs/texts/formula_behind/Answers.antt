use Rattle.skolem_checker.proofs.LiteralNumbers.{spelled_complete}
use Rattle.pec_runs.specs.DesignTexts.{imp_spelled}
use Rattle.pec_runs.proofs.CommentLines.{can-number}
use Rattle.pec_runs.proofs.Readings.{imp-refused}
use Rattle.pec_runs.proofs.texts.formula_behind.Goals as goal

pub formula_of_circuits-requires-clause-implementation : goal.formula_of_circuits-requires-clause-implementation
formula_of_circuits-requires-clause-implementation c =
    spelled_complete c.args.imp.now c.in-Ok.read.file c.in-Ok.ensures.spelled

pub formula_of_circuits-requires-clause-lines : goal.formula_of_circuits-requires-clause-lines
formula_of_circuits-requires-clause-lines c =
    can-number c.args.imp.now c.in-Ok.read c.requires.imp c.in-Ok.ensures.comment

pub returns-in-Ok : goal.returns-in-Ok
returns-in-Ok c =
    imp_spelled c.formula_of_circuits.result c.in-Ok.read c.in-Ok.ensures.spelled c.in-Ok.ensures.comment
    c.formula_of_circuits.ensures

pub returns-in-Err : goal.returns-in-Err
returns-in-Err c =
    imp-refused c.args.spec.now.circuit c.args.imp.now c.in-Err.stop c.imp_stopped.result c.in-Err.ensures.exact
    c.imp_stopped.ensures
