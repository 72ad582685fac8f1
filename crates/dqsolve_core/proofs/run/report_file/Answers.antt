use Rattle.std.proofs.Common.{◌∙◌, ap}
use Rattle.hint_log.specs.Entries.{ProofLog}
use Rattle.dq_io.specs.State.{state_of}
use Rattle.dqsolve_words.specs.Words.{options_of}
use Rattle.dq_runs.proofs.SaidFormulas.{said_read, not_unreadable}
use Rattle.dqsolve_core.proofs.Runs.{verdict_reported, search_log, said_reported}
use Rattle.dqsolve_core.proofs.run.report_file.Goals as goal

pub returns-in-Ok-clause-reported : goal.returns-in-Ok-clause-reported
returns-in-Ok-clause-reported g c =
    verdict_reported (state_of g.F.Files c.args.files.now) (state_of g.F.Files c.read_formula.new.files) c.solve_with.new.log
    (record {
      steps = c.args.asked.steps;
      options = options_of c.args.asked.options;
      file =
          c.args.asked.file.now;
    }) c.in-Ok.formula
    c.solve_with.result
    c.in-Ok.ensures.read.0
    c.in-Ok.ensures.read.1
    (c.in-Ok.ensures.unfaulted (λ none. none))
    (c.solve_with.ensures.limit ∙ ap (λ (log : ProofLog). log.limit) c.rewind.ensures)
    c.solve_with.ensures.verdict

pub returns-in-Ok-clause-log : goal.returns-in-Ok-clause-log
returns-in-Ok-clause-log g c =
    search_log (state_of g.F.Files c.args.files.now) c.solve_with.new.log
    (record {
      steps = c.args.asked.steps;
      options = options_of c.args.asked.options;
      file =
          c.args.asked.file.now;
    }) c.in-Ok.formula c.in-Ok.ensures.read.0
    (c.solve_with.ensures.limit ∙ ap (λ (log : ProofLog). log.limit) c.rewind.ensures)
    c.solve_with.ensures.work

pub returns-in-Err-Said-clause-reported : goal.returns-in-Err-Said-clause-reported
returns-in-Err-Said-clause-reported g c =
    let before = state_of g.F.Files c.args.files.now in
    let now = state_of g.F.Files c.read_formula.new.files in
    let stop = c.in-Err-Said.field-0 in
    let said = c.in-Err-Said.said in
    let read = said_read before now c.args.asked.file.now c.read_formula.result stop said c.in-Err-Said.is
    c.in-Err-Said.field-0-is c.read_formula.ensures.read in
    said_reported before now c.rewind.new.self
    (record {
      steps = c.args.asked.steps;
      options = options_of c.args.asked.options;
      file =
          c.args.asked.file.now;
    }) said c.output.result
    read.0 read.1
    (λ other. c.read_formula.ensures.unfaulted (not_unreadable c.read_formula.result stop said c.in-Err-Said.is
    c.in-Err-Said.field-0-is other))
    c.output.ensures
