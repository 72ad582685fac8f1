use Rattle.std.proofs.Common.{arith}
use Rattle.cert_text.specs.Steps.{step_seen}
use Rattle.refutation_checker.proofs.JudgedItems.{line_above, line_from_one, line_judging}
use Rattle.list_laws.proofs.Results.{on_ok}
use Rattle.refutation_checker.proofs.proving.RefutationProving.line.Goals as goal

pub judge-requires-clause-frame : goal.judge-requires-clause-frame
judge-requires-clause-frame c = c.requires.may.judging.frame

pub judge-requires-clause-names : goal.judge-requires-clause-names
judge-requires-clause-names c = c.requires.may.judging.names

pub judge-requires-clause-pairs : goal.judge-requires-clause-pairs
judge-requires-clause-pairs c = c.requires.may.lawful.on_variables

pub judge-requires-clause-from_one : goal.judge-requires-clause-from_one
judge-requires-clause-from_one c = search (arith, line_from_one)

pub judge-requires-clause-above : goal.judge-requires-clause-above
judge-requires-clause-above c =
    line_above c.args.f.now c.args.rows.now c.args.self.now (step_seen c.args.step) c.requires.may c.requires.going

pub returns : goal.returns
returns c =
    on_ok c.judge.result (λ judged at run judging lawful.
    line_judging c.args.f.now c.args.rows.now c.args.self.now c.judge.new.self (step_seen c.args.step)
    c.requires.going c.judge.ensures.names judged at run judging lawful) c.judge.ensures.judged
