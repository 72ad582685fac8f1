use Rattle.std.proofs.Common.{◌∙◌, ap, length}
use Rattle.aig_graph.specs.Graph.{AigGraph}
use Rattle.engine_cases.proofs.Rounds.{checker_begun}
use Rattle.engine_cases.proofs.circuits.begin.Goals as goal

pub returns-clause-open : goal.returns-clause-open
returns-clause-open g c =
    checker_begun c.args.f.now _ c.in_ok-checker.checker c.args.log c.new.new.log
    (ap (λ (g : AigGraph). g.inputs) c.new-graph.ensures ∙ ap length c.universals.ensures) c.requires.empty
    c.in_ok-checker.ensures.made c.new.ensures.faults
