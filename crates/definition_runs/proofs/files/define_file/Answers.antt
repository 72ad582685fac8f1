use Rattle.dq_io.specs.State.{state_of}
use Rattle.dq_runs.proofs.SaidFormulas.{not_unreadable, said_read}
use Rattle.definition_runs.proofs.ReadFormulas.{found_defined, found_log, said_defined}
use Rattle.definition_runs.proofs.files.define_file.Goals as goal

pub returns-in-Ok-clause-defined : goal.returns-in-Ok-clause-defined
returns-in-Ok-clause-defined g c =
    found_defined (state_of g.F.Files c.args.files.now) (state_of g.F.Files c.read_formula.new.files) c.define.new.log
    c.args.file.now c.in-Ok.f c.define.result c.in-Ok.ensures.read.0 c.in-Ok.ensures.read.1
    (c.in-Ok.ensures.unfaulted (λ none. none)) c.define.ensures.found

pub returns-in-Ok-clause-log : goal.returns-in-Ok-clause-log
returns-in-Ok-clause-log g c =
    found_log (state_of g.F.Files c.args.files.now) c.args.file.now c.in-Ok.f c.define.new.log
    c.in-Ok.ensures.read.0 c.define.ensures.productive

pub returns-in-Err-Said-clause-defined : goal.returns-in-Err-Said-clause-defined
returns-in-Err-Said-clause-defined g c =
    let before = state_of g.F.Files c.args.files.now in
    let now = state_of g.F.Files c.read_formula.new.files in
    let stop = c.in-Err-Said.field-0 in
    let said = c.in-Err-Said.said in
    let read = said_read before now c.args.file.now c.read_formula.result stop said c.in-Err-Said.is
    c.in-Err-Said.field-0-is c.read_formula.ensures.read in
    said_defined before now c.args.log.now c.args.file.now said c.output.result read
    (λ other. c.read_formula.ensures.unfaulted (not_unreadable c.read_formula.result stop said c.in-Err-Said.is
    c.in-Err-Said.field-0-is other))
    c.output.ensures
