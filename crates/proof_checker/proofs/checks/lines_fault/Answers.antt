use Rattle.std.proofs.Common.{◌∙◌, arith}
use Rattle.proof_checker.proofs.DerivedLines.{fault_is}
use Rattle.proof_checker.proofs.checks.lines_fault.Goals as goal

pub judge_all-requires-clause-first : goal.judge_all-requires-clause-first
judge_all-requires-clause-first c = search arith

pub judge_all-requires-clause-items : goal.judge_all-requires-clause-items
judge_all-requires-clause-items c = search arith

pub returns : goal.returns
returns c =
    let f = c.formula.result.now in
    let net = c.circuit.result.now in
    c.fault.ensures f net
    ∙ fault_is c.args.bench.now f net c.in_ok-proving.proving c.judge_all.new.proving c.args.items.now
    c.formula.ensures c.circuit.ensures c.in_ok-proving.ensures.run c.in_ok-judge_all.ensures
