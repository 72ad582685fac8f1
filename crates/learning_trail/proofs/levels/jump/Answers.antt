use Rattle.std.proofs.Common.{sym, ◌∙◌, subst, arith}
use Rattle.learning_trail.specs.Steps.{Trailed}
use Rattle.learning_trail.proofs.TakenLevels.{implied_from_some, decided_from_none, on_jump_first, on_jump_level, jump_both, IsOnJump, under_decision, under_step}
use Rattle.learning_trail.proofs.levels.jump.Goals as goal
use Rattle.learning_trail.proofs.levels.jump.Goals.{then-is_some, else-is_some}

pub returns-clause-jumped : goal.returns-clause-jumped
returns-clause-jumped c =
    let old = c.args.trail.now in
    let start : IsOnJump old c.if-is_some.trail c.args.notes.now.marks = elim c.if-is_some.branch [
      | then-is_some w ↦
          let implied = implied_from_some c.args.step.now.reason (sym c.is_some.ensures ∙ w.if-is_some.true) in
          subst (λ (t : Trailed). IsOnJump old t c.args.notes.now.marks) (sym w.trail-is)
          (on_jump_level old old w.back_over_level.new.trail c.args.notes.now.marks
          (on_jump_first old c.args.notes.now.marks) (c.requires.first implied) w.back_over_level.ensures.room
          w.back_over_level.ensures.steps)
      | else-is_some w ↦ subst (λ (t : Trailed). IsOnJump old t c.args.notes.now.marks) (sym w.trail-is)
          (on_jump_first old c.args.notes.now.marks)
    ] in
    jump_both old c.if-is_some.trail c.back_to_marked_level.new.trail c.args.notes.now.marks start
    c.back_to_marked_level.ensures.jumped

pub returns-clause-under : goal.returns-clause-under
returns-clause-under c =
    search (arith, then-is_some, implied_from_some, under_step, else-is_some, decided_from_none, under_decision)
