use Rattle.std.proofs.Common.{◌∙◌, ap}
use Rattle.hint_log.specs.Entries.{ProofLog}
use Rattle.dq_io.specs.State.{state_of}
use Rattle.dqsolve_words.specs.Words.{comparison_of}
use Rattle.dqsolve_core.proofs.CircuitRuns.{comparison_reported, refusal_reported, said_of, was_read}
use Rattle.dqsolve_core.proofs.run.report_circuits.Goals as goal

pub returns-in-Ok-clause-reported : goal.returns-in-Ok-clause-reported
returns-in-Ok-clause-reported g c =
    comparison_reported (state_of g.F.Files c.args.files.now) (state_of g.F.Files c.read_design_formula.new.files)
    c.solve.new.log (comparison_of c.args.comparison) c.in-Ok.formula c.solve.result c.in-Ok.ensures.read.0
    c.in-Ok.ensures.read.1
    (c.in-Ok.ensures.unfaulted (λ none. none))
    (c.solve.ensures.limit ∙ ap (λ (log : ProofLog). log.limit) c.rewind.ensures)
    c.solve.ensures.verdict

pub returns-in-Err-Said-clause-reported : goal.returns-in-Err-Said-clause-reported
returns-in-Err-Said-clause-reported g c =
    let before = state_of g.F.Files c.args.files.now in
    let now = state_of g.F.Files c.read_design_formula.new.files in
    let compared = comparison_of c.args.comparison in
    let stop = c.in-Err-Said.field-0 in
    let said = c.in-Err-Said.said in
    refusal_reported before now c.rewind.new.self compared said c.output.result
    (said_of before now compared.circuits.specification compared.circuits.implementation c.read_design_formula.result
    stop said c.in-Err-Said.is c.in-Err-Said.field-0-is c.read_design_formula.ensures.read)
    (λ other. c.read_design_formula.ensures.unfaulted (was_read c.read_design_formula.result stop said c.in-Err-Said.is
    c.in-Err-Said.field-0-is other))
    c.output.ensures
