use Rattle.std.proofs.Common.{◌∷◌, Some, ◌∙◌, ap, arith}
use Rattle.dq_lits.proofs.SignedLiterals.{opposite-opposite}
use Rattle.learning_trail.proofs.Lessons.{free_suffix}
use Rattle.learning_trail.proofs.learning.land.Goals as goal

pub push-requires-clause-free : goal.push-requires-clause-free
push-requires-clause-free c = search (arith, free_suffix, opposite-opposite)

pub returns-in-Some-clause-level : goal.returns-in-Some-clause-level
returns-in-Some-clause-level c = record {
  behind = record {
    back = c.jump.new.trail;
    jump = c.jump.ensures.jumped;
    is =
        c.push.ensures.is ∙ ap (λ k. record {
          room = c.jump.new.trail.room;
          steps =
              record { literal = k; reason = Some c.args.id } ∷ c.jump.new.trail.steps;
        }) c.not.ensures;
  };
  under = c.jump.ensures.under;
  level = c.in-Some.ensures.level;
}
