use Rattle.std.proofs.Common.{sym, ◌∙◌}
use Rattle.gate_definitions.proofs.ImpliedLiterals.{within_implies}
use Rattle.gate_definitions.proofs.clauses.implies.Goals as goal

pub returns-in-Some : goal.returns-in-Some
returns-in-Some c = λ is. within_implies c.args.f.now c.in-Some.clause.now c.args.cube.now c.args.l c.in-Some.ensures
    (sym c.is_within.ensures ∙ is)
