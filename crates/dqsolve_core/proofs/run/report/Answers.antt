use Rattle.std.proofs.Common.{sym, subst, map, string_bytes}
use Rattle.std.specs.Prelude.{IfOk}
use Rattle.dq_io.specs.State.{state_of}
use Rattle.dqsolve_words.specs.Command.{solve, demo, pec, session}
use Rattle.dqsolve_words.specs.Spelling.{spelled_command}
use Rattle.dqsolve_words.specs.Words.{search_of, planting_of, comparison_of, session_of}
use Rattle.dqsolve_core.specs.Outputs.{IsReported}
use Rattle.dqsolve_core.proofs.Runs.{solve_asked, demo_asked, pec_asked, session_asked, none_asked, usage_reported, demo_reported}
use Rattle.dqsolve_core.proofs.run.report.Goals as goal

pub returns-in-None-clause-reported : goal.returns-in-None-clause-reported
returns-in-None-clause-reported g c =
    usage_reported (state_of g.F.Files c.args.files.now) c.rewind.new.self
    (spelled_command (map string_bytes c.args.words.now)) c.usage.result
    (none_asked (spelled_command (map string_bytes c.args.words.now)) c.in_ok-command_words.field-0
    c.in_ok-command_words.ensures c.in-None.is)
    c.usage.ensures

pub report_file-requires : goal.report_file-requires
report_file-requires g c =
    let asked = solve_asked (spelled_command (map string_bytes c.args.words.now)) c.in_ok-command_words.field-0
    c.in-Some-Solve.field-0 c.in-Some-Solve.asked
    c.in_ok-command_words.ensures c.in-Some-Solve.is c.in-Some-Solve.field-0-is in
    record {
      steps = (c.numbers_are_in_range.ensures (map string_bytes c.args.words.now)
          (solve (search_of c.in-Some-Solve.asked)) asked).1;
    }

pub report_circuits-requires : goal.report_circuits-requires
report_circuits-requires g c =
    let asked = pec_asked (spelled_command (map string_bytes c.args.words.now)) c.in_ok-command_words.field-0
    c.in-Some-Pec.field-0 c.in-Some-Pec.asked
    c.in_ok-command_words.ensures c.in-Some-Pec.is c.in-Some-Pec.field-0-is in
    record {
      steps = (c.numbers_are_in_range.ensures (map string_bytes c.args.words.now)
          (pec (comparison_of c.in-Some-Pec.asked)) asked).1;
    }

pub report_session-requires : goal.report_session-requires
report_session-requires g c =
    let asked = session_asked (spelled_command (map string_bytes c.args.words.now)) c.in_ok-command_words.field-0
    c.in-Some-Session.field-0 c.in-Some-Session.asked
    c.in_ok-command_words.ensures c.in-Some-Session.is c.in-Some-Session.field-0-is in
    record {
      steps = (c.numbers_are_in_range.ensures (map string_bytes c.args.words.now)
          (session (session_of c.in-Some-Session.asked)) asked).1;
    }

pub report_demo-requires-clause-seed : goal.report_demo-requires-clause-seed
report_demo-requires-clause-seed g c =
    let asked = demo_asked (spelled_command (map string_bytes c.args.words.now)) c.in_ok-command_words.field-0
    c.in-Some-Demo.field-0 c.in-Some-Demo.asked
    c.in_ok-command_words.ensures c.in-Some-Demo.is c.in-Some-Demo.field-0-is in
    (c.numbers_are_in_range.ensures (map string_bytes c.args.words.now)
    (demo (planting_of c.in-Some-Demo.asked)) asked).0

pub report_demo-requires-clause-least : goal.report_demo-requires-clause-least
report_demo-requires-clause-least g c =
    let asked = demo_asked (spelled_command (map string_bytes c.args.words.now)) c.in_ok-command_words.field-0
    c.in-Some-Demo.field-0 c.in-Some-Demo.asked
    c.in_ok-command_words.ensures c.in-Some-Demo.is c.in-Some-Demo.field-0-is in
    (c.numbers_are_in_range.ensures (map string_bytes c.args.words.now)
    (demo (planting_of c.in-Some-Demo.asked)) asked).1

pub report_demo-requires-clause-most : goal.report_demo-requires-clause-most
report_demo-requires-clause-most g c =
    let asked = demo_asked (spelled_command (map string_bytes c.args.words.now)) c.in_ok-command_words.field-0
    c.in-Some-Demo.field-0 c.in-Some-Demo.asked
    c.in_ok-command_words.ensures c.in-Some-Demo.is c.in-Some-Demo.field-0-is in
    (c.numbers_are_in_range.ensures (map string_bytes c.args.words.now)
    (demo (planting_of c.in-Some-Demo.asked)) asked).2

pub returns-in-Some-Demo-clause-reported : goal.returns-in-Some-Demo-clause-reported
returns-in-Some-Demo-clause-reported g c =
    let asked = demo_asked (spelled_command (map string_bytes c.args.words.now)) c.in_ok-command_words.field-0
    c.in-Some-Demo.field-0 c.in-Some-Demo.asked
    c.in_ok-command_words.ensures c.in-Some-Demo.is c.in-Some-Demo.field-0-is in
    subst (λ command. IfOk c.report_demo.result (IsReported (state_of g.F.Files c.args.files.now)
    (state_of g.F.Files c.args.files.now) command c.report_demo.new.log))
    (sym asked)
    (demo_reported (state_of g.F.Files c.args.files.now) c.report_demo.new.log
    (planting_of c.in-Some-Demo.asked) c.report_demo.result c.report_demo.ensures.limit
    c.report_demo.ensures.demonstrated)
