use Rattle.std.proofs.Common.{arith, sym, ◌∙◌}
use Rattle.learning_trail.proofs.LevelStarts.{marked_there}
use Rattle.learning_trail.proofs.levels.marked_at.Goals as goal

pub returns-then-has : goal.returns-then-has
returns-then-has c =
    marked_there c.args.notes.now.marks c.args.trail.now.steps c.args.place c.in_ok-l.l c.in_ok-l.ensures.at
    (omega (arith, c.level_start.ensures, c.if-place-level_start.false)) (sym c.has.ensures ∙ c.if-has.true)
