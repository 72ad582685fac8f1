use Rattle.std.proofs.Common.{map, arith}
use Rattle.cert_text.specs.Steps.{step_seen}
use Rattle.rup_core.specs.Judging.{derive_line}
use Rattle.rup_core.specs.Proving.{with_lines}
use Rattle.proof_checker.specs.CircuitProof.{negated_candidate}
use Rattle.proof_checker.specs.declared.judging.CircuitProving.{CircuitProving}
use Rattle.proof_checker.proofs.DerivedLines.{line_judging}
use Rattle.list_laws.proofs.Results.{on_ok}
use Rattle.proof_checker.proofs.judging.CircuitProving.line.Goals as goal

pub returns-clause-run : goal.returns-clause-run
returns-clause-run c = search (arith, on_ok)

pub returns-clause-judging : goal.returns-clause-judging
returns-clause-judging c =
    let w = c.widen.new.self in
    let step = step_seen c.args.step in
    let new : CircuitProving = record {
      tables = w.tables;
      proving = c.line.new.self;
      numbers = w.numbers;
      marks = w.marks;
      variables = w.variables;
    } in
    let is_derived = derive_line step.literals (map (with_lines (negated_candidate c.new-matrix.result) w.proving.lines)
    step.hints) in
    on_ok c.line.result (λ value at judging lawful.
    line_judging c.args.f.now c.args.c.now c.args.self.now w new step is_derived c.widen.ensures.tables
    c.widen.ensures.rest value at judging lawful) c.line.ensures.value
