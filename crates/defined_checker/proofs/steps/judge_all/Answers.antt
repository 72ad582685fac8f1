use Rattle.std.proofs.Common.{◌∙◌, ◌<◌, get_or, map, subst, sym}
use Rattle.cert_text.specs.Steps.{step_seen}
use Rattle.rup_core.specs.Judging.{derive_line}
use Rattle.rup_core.specs.Proving.{run_over, with_lines}
use Rattle.defined_checker.specs.DefinitionBase.{definition_base}
use Rattle.defined_checker.proofs.JudgedSteps.{id_at, lines_behind, step_judged}
use Rattle.defined_checker.proofs.steps.judge_all.Goals as goal

pub line-requires-clause-from_one : goal.line-requires-clause-from_one
line-requires-clause-from_one c =
    (id_at c.requires.numbered.0 c.args.steps.now c.loop-k.k (step_seen c.get-step.result) c.requires.numbered.1
    c.get-step.ensures).0

pub line-requires-clause-above : goal.line-requires-clause-above
line-requires-clause-above c k d below =
    let first = c.requires.numbered.0 in
    let id = (id_at first c.args.steps.now c.loop-k.k (step_seen c.get-step.result) c.requires.numbered.1
    c.get-step.ensures).1 in
    subst (λ n. (get_or c.loop-k.proving.lines k d).0 < n) (sym id)
    (c.loop-k.invariant.above first c.requires.numbered.1 k d below)

pub loop-k-preserved : goal.loop-k-preserved
loop-k-preserved c =
    let live = definition_base c.args.base.now.formula c.args.base.now.definition in
    let step = step_seen c.get-step.result in
    let is_derived = derive_line step.literals (map (with_lines live c.loop-k.proving.lines) step.hints) in
    record {
      rest =
          step_judged live c.args.steps.now c.loop-k.k step (run_over live c.loop-k.proving)
          (run_over live c.line.new.self) c.get-step.ensures c.in_ok-line.ensures.run
          ∙ c.loop-k.invariant.rest;
      above = λ first numbered.
          lines_behind is_derived step.id step.literals c.loop-k.proving c.line.new.self first c.loop-k.k
          c.in_ok-line.ensures.value
          (id_at first c.args.steps.now c.loop-k.k step numbered c.get-step.ensures).1
          (c.loop-k.invariant.above first numbered);
    }
