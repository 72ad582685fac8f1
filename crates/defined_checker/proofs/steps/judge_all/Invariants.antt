use Rattle.std.proofs.Common.{◌≡◌, ℕ, ◌+◌, ◌<◌, drop, map}
use Rattle.std.specs.List.{All}
use Rattle.rup_core.specs.Items.{derived}
use Rattle.rup_core.specs.Proving.{run_over}
use Rattle.rup_core.specs.Runs.{run_fault, with_items}
use Rattle.defined_checker.specs.Answers.{AreNumberedSteps}
use Rattle.defined_checker.specs.DefinitionBase.{definition_base}
use Rattle.defined_checker.proofs.steps.judge_all.Given as goal

-- what is left to judge has the fault of the whole, and the lines so far lie below the next id
abbrev pub invariant-loop-k : goal.invariant-loop-k
invariant-loop-k l = record {
  rest : run_fault (with_items (run_over (definition_base l.base.formula l.base.definition) l.proving)
      (map derived (drop l.k l.steps)))
      ≡ run_fault (with_items (run_over (definition_base l.base.formula l.base.definition) l.fn.proving)
      (map derived l.steps));
  above : (first : ℕ) → AreNumberedSteps first l.steps → All (λ line. line.0 < first + l.k) l.proving.lines;
}
