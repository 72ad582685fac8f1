use Rattle.dq_io.specs.State.{state_of}
use Rattle.dq_runs.proofs.SaidFormulas.{said_read, not_unreadable}
use Rattle.dqcheck_core.proofs.Runs.{reported_behind, said_reported}
use Rattle.dqcheck_core.proofs.run.report_files.Goals as goal

pub returns-in-Ok-clause-reported : goal.returns-in-Ok-clause-reported
returns-in-Ok-clause-reported g c =
    let read = c.in-Ok.ensures in
    reported_behind (state_of g.F.Files c.args.files.now) (state_of g.F.Files c.read_formula.new.files)
    (state_of g.F.Files c.report_certificate-reported.new.files)
    (record { formula = c.args.names.formula.now; certificate = c.args.names.certificate.now }) c.in-Ok.formula
    c.report_certificate-reported.result
    (record {
      held = read.held;
      reliable = read.still_reliable;
      picked = read.read.1;
      later = read.later;
      unfaulted = read.unfaulted (λ none. none);
    })
    read.read.0
    c.report_certificate-reported.ensures.reported

pub returns-in-Err-Said-clause-reported : goal.returns-in-Err-Said-clause-reported
returns-in-Err-Said-clause-reported g c =
    let before = state_of g.F.Files c.args.files.now in
    let now = state_of g.F.Files c.read_formula.new.files in
    let stop = c.in-Err-Said.field-0 in
    let said = c.in-Err-Said.said in
    let read = said_read before now c.args.names.formula.now c.read_formula.result stop said c.in-Err-Said.is
    c.in-Err-Said.field-0-is c.read_formula.ensures.read in
    said_reported before now
    (record { formula = c.args.names.formula.now; certificate = c.args.names.certificate.now }) said c.output.result
    read.0 read.1
    (λ other. c.read_formula.ensures.unfaulted (not_unreadable c.read_formula.result stop said c.in-Err-Said.is
    c.in-Err-Said.field-0-is other))
    c.output.ensures
