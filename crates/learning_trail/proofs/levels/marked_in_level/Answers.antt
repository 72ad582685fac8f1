use Rattle.std.proofs.Common.{◌≡◌, ◌+◌, ◌-◌, ◌<◌, ◌||◌, cond, false, length, reverse, take, sym, ◌∙◌, ap, arith}
use Rattle.dq_lits.specs.Literal.{variable_of}
use Rattle.learning_trail.specs.Marks.{marked, is_level_marked}
use Rattle.learning_trail.specs.Steps.{is_decision}
use Rattle.learning_trail.proofs.TakenLevels.{implied_from_some}
use Rattle.learning_trail.proofs.SetMarks.{level_step, level_later}
use Rattle.learning_trail.proofs.levels.marked_in_level.Goals as goal

pub loop-at-preserved : goal.loop-at-preserved
loop-at-preserved c =
    let marks = c.args.notes.now.marks in
    let steps = c.args.steps.now in
    let s = c.index-steps-at.result in
    let n = c.loop-at.at in
    let k = n - 1 in
    let within = c.loop-at.invariant.within in
    let some = c.loop-at-test.true in
    let lt : k < length steps = omega (arith, within, some) in
    let e : n ≡ k + 1 = omega (arith, some) in
    let rest = is_level_marked marks (reverse (take k steps)) in
    let unmarked : marked marks (variable_of s.literal) ≡ false = sym c.has.ensures ∙ c.if-has.false in
    let implied : is_decision s ≡ false = implied_from_some s.reason c.if-is_none.ensures in
    record {
      within = omega (arith, within);
      left = sym (ap (λ b. b || cond (is_decision s) false rest) unmarked ∙ ap (λ b. cond b false rest) implied)
          ∙ level_step marks steps s k n (is_level_marked marks (reverse steps)) e lt
          (sym c.index-steps-at.is) c.loop-at.invariant.left;
      level = level_later steps s k n e lt (sym c.index-steps-at.is) implied c.loop-at.invariant.level;
    }
