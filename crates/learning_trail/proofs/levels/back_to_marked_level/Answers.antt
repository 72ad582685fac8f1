use Rattle.std.proofs.Common.{◌≡◌, sym, ap, ◌∙◌, arith, false, is_some, IsSome}
use Rattle.learning_trail.specs.Steps.{decision_of}
use Rattle.learning_trail.specs.Marks.{is_level_marked}
use Rattle.learning_trail.proofs.TakenLevels.{under_shorter, on_jump_level, under_next}
use Rattle.learning_trail.proofs.levels.back_to_marked_level.Goals as goal

pub levels-smaller : goal.levels-smaller
levels-smaller c = search (arith, under_shorter, is_some)

pub levels-preserved : goal.levels-preserved
levels-preserved c =
    let none : is_level_marked c.args.notes.now.marks c.levels.trail.steps ≡ false = c.in_default.ensures in
    let here : decision_of c.levels.trail.steps ≡ c.last_decision.result =
    ap decision_of (sym c.steps.ensures.value) ∙ sym c.last_decision.ensures in
    let some : IsSome (decision_of c.levels.trail.steps) = ap is_some here ∙ c.if-is_none.ensures in
    record {
      jump = on_jump_level c.args.trail.now c.levels.trail c.back_over_level.new.trail c.args.notes.now.marks
          c.levels.invariant.jump none c.back_over_level.ensures.room c.back_over_level.ensures.steps;
      under = λ steps h. under_next steps c.levels.trail.steps c.back_over_level.new.trail.steps
          (c.levels.invariant.under steps h) some c.back_over_level.ensures.steps;
    }
