use Rattle.std.proofs.Common.{◌∙◌, ap, arith}
use Rattle.dq_io.specs.State.{state_of}
use Rattle.dq_runs.specs.declared.formulas.FormulaStop.TheVariants.{Said}
use Rattle.dq_runs.specs.declared.formulas.NoFormula.TheVariants.{Refused}
use Rattle.dq_runs.proofs.SaidFormulas.{said_read, not_unreadable}
use Rattle.session_runs.proofs.TwoFiles.{first-said, fault-behind, formula-behind}
use Rattle.session_runs.proofs.files.session_files.Goals as goal

pub returns-in-Ok-clause-due : goal.returns-in-Ok-clause-due
returns-in-Ok-clause-due g c = search (arith, formula-behind)

pub returns-in-Err-Said-Unreadable-clause-due : goal.returns-in-Err-Said-Unreadable-clause-due
returns-in-Err-Said-Unreadable-clause-due g c = search (arith, said_read, first-said)

pub returns-in-Err-Said-TooLong-clause-due : goal.returns-in-Err-Said-TooLong-clause-due
returns-in-Err-Said-TooLong-clause-due g c = search (arith, said_read, first-said, not_unreadable)

pub returns-in-Err-Said-Refused-clause-due : goal.returns-in-Err-Said-Refused-clause-due
returns-in-Err-Said-Refused-clause-due g c =
    let before = state_of g.F.Files c.args.files.now in
    let mid = state_of g.F.Files c.read_formula.new.files in
    let now = state_of g.F.Files c.behind_fault.new.files in
    let is = c.in-Err-Said-Refused in
    let said = Refused is.line is.name in
    let stop = is.field-0-is ∙ ap Said is.field-0-0-is in
    let read = said_read before mid c.args.file.now c.read_formula.result is.field-0 said is.is stop
    c.read_formula.ensures.read in
    fault-behind before mid now c.args.log.now c.args.file.now c.args.script.now is.line is.name c.behind_fault.result
    (record {
      held = c.read_formula.ensures.held;
      reliable = c.read_formula.ensures.still_reliable;
      picked = read.1;
      unfaulted = c.read_formula.ensures.unfaulted
          (not_unreadable c.read_formula.result is.field-0 said is.is stop (λ same. cc));
    })
    read.0 c.behind_fault.ensures.due
